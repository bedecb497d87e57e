use Rattle.std.proofs.Common.{◌<◌, length}
use Rattle.sg_dynfile.proofs.open_paths.OpenPaths.oldest.Given as goal

abbrev pub invariant-loop-place : goal.invariant-loop-place
invariant-loop-place l = l.oldest < length l.self.names.items

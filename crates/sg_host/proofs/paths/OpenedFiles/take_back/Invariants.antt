use Rattle.std.proofs.Common.{◌≡◌}
use Rattle.sg_host.proofs.paths.OpenedFiles.take_back.Given as goal

abbrev pub invariant-loop-number : goal.invariant-loop-number
invariant-loop-number l = l.self.counts ≡ l.fn.self.counts

use Rattle.std.proofs.Common.{◌≡◌, ◌++◌, drop}
use Rattle.sg_rewrite.specs.Rewritten.{unpicked}
use Rattle.sg_rewrite.proofs.anew.keep_pairs.Given as goal

abbrev pub invariant-loop-place : goal.invariant-loop-place
invariant-loop-place l =
    record l.builder { put = l.builder.put ++ unpicked l.globs (drop l.place l.message.pairs) } ≡ record l.fn.builder { put = unpicked l.globs l.message.pairs }

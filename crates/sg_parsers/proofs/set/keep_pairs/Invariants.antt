use Rattle.std.proofs.Common.{◌≡◌, ◌++◌, drop}
use Rattle.sg_parsers.proofs.set.keep_pairs.Given as goal

abbrev pub invariant-loop-place : goal.invariant-loop-place
invariant-loop-place l = record l.builder { put = l.builder.put ++ drop l.place l.message.pairs } ≡ record l.fn.builder { put = l.message.pairs }

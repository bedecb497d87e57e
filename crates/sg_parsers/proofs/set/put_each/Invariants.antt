use Rattle.std.proofs.Common.{◌≡◌, ◌++◌, drop}
use Rattle.sg_parsers.proofs.set.put_each.Given as goal

abbrev pub invariant-loop-pair : goal.invariant-loop-pair
invariant-loop-pair l = record l.builder { put = l.builder.put ++ drop l.pair-index l.pairs } ≡ record l.fn.builder { put = l.fn.builder.put ++ l.pairs }

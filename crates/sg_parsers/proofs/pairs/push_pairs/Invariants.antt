use Rattle.std.proofs.Common.{◌≡◌, ◌++◌, length}
use Rattle.sg_parsers.specs.Pairs.{pairs_from}
use Rattle.sg_parsers.proofs.pairs.push_pairs.Given as goal

abbrev pub invariant-fronts : goal.invariant-fronts
invariant-fronts l = l.pairs ++ pairs_from l.kv 0 l.text ≡ l.fn.pairs ++ pairs_from l.kv 0 l.fn.text

abbrev pub decreases-fronts : goal.decreases-fronts
decreases-fronts l = length l.text

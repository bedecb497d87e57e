use Rattle.sg_table.proofs.Bounded.{IsSofar}
use Rattle.sg_table.proofs.bound.check_tops.Given as goal

abbrev pub invariant-loop-i : goal.invariant-loop-i
invariant-loop-i l = IsSofar l.fans l.paths l.tops l.i l.offers

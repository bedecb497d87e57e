use Rattle.std.proofs.Common.{List, drop}
use Rattle.sg_hub.specs.Counts.{CountsOffers}
use Rattle.sg_hub.specs.declared.passed.Offered.{Offered}
use Rattle.sg_hub.proofs.passed.count_all.Given as goal

abbrev pub invariant-loop-at : goal.invariant-loop-at
invariant-loop-at l = (new : List Offered) → CountsOffers (drop l.at l.dests) (drop l.at l.verdicts) l.offered.items new → CountsOffers l.dests l.verdicts l.fn.offered.items new

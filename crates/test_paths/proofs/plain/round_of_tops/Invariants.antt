use Rattle.std.proofs.Common.{map, false, drop}
use Rattle.sg_tree.specs.Offers.{offered, top_view}
use Rattle.sg_tree.specs.Walk.{round}
use Rattle.test_paths.proofs.Going.{Sofar}
use Rattle.test_paths.proofs.plain.round_of_tops.Given as goal

abbrev pub invariant-loop-path : goal.invariant-loop-path
invariant-loop-path g l =
    Sofar l.initial.offers.items l.offers.items l.gone (round (offered l.inlet (map (top_view l.named) l.paths)) l.late l.message false)
    (round (offered l.inlet (map (top_view l.named) (drop l.path-index l.paths))) l.late l.message false)

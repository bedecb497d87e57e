use Rattle.std.proofs.Common.{◌≡◌}
use Rattle.test_paths.proofs.offers.said.Given as goal

abbrev pub invariant-loop-record : goal.invariant-loop-record
invariant-loop-record g l =
    (goal.iterator-loop-record g).can_next l.record-iterator × (goal.iterator-loop-record g).is_finite l.record-iterator
    × (g.R.Router.inlets l.router ≡ g.R.Router.inlets l.initial.router)

use Rattle.std.proofs.Common.{◌≡◌, ◌≤◌}
use Rattle.test_core_runs.proofs.calls.call_all.Given as goal

abbrev pub invariant-loop-part : goal.invariant-loop-part
invariant-loop-part g l = record {
  setup : g.C.Counter.setup l.counter ≡ g.C.Counter.setup l.initial.counter;
  left : l.spare ≤ g.C.Counter.left l.counter;
}

use Rattle.sg_counter.specs.Bringing.{AllMayEnter}
use Rattle.test_hub.proofs.calls.records.Given as goal

abbrev pub invariant-loop-part : goal.invariant-loop-part
invariant-loop-part l = record {
  each : AllMayEnter 2 l.records.items;
}

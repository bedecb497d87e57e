use Rattle.std.proofs.Common.{◌≡◌, ◌+◌, ◌≤◌, length, deque_len}
use Rattle.std.specs.List.{fold}
use Rattle.sg_plan.specs.Parts.{parts_of, no_parts, with_driver}
use Rattle.sg_plan.proofs.plan.with_drivers.Given as goal

abbrev pub invariant-loop-owned : goal.invariant-loop-owned
invariant-loop-owned l = record {
  parts : fold with_driver (parts_of l.plan) l.rest.items ≡ fold with_driver no_parts l.fn.drivers.items;
  sources : length l.plan.sources.items + length l.rest.items ≤ length l.fn.drivers.items;
  stores : length l.plan.stores.items + length l.rest.items ≤ length l.fn.drivers.items;
}

abbrev pub decreases-loop-owned : goal.decreases-loop-owned
decreases-loop-owned l = deque_len l.rest

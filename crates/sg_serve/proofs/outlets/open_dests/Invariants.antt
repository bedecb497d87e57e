use Rattle.std.proofs.Common.{◌≡◌, ◌≤◌, ◌+◌, length, drop, vec_capacity, deque_len}
use Rattle.sg_serve.proofs.OpenedLemmas.{OpenedFirst}
use Rattle.sg_serve.proofs.outlets.open_dests.Given as goal

abbrev pub invariant-loop-plan : goal.invariant-loop-plan
invariant-loop-plan g l = record {
  first : OpenedFirst g.W.Drain.Outlet.state g.W.Paths.Opener.state g.W.Store.Disk.state (g.W.Machine.state l.fn.world) (g.W.Machine.state l.world) l.fn.once l.fn.plans.items l.fn.stores l.dests.items l.store;
  rest : l.rest.items ≡ drop (length l.dests.items) l.fn.plans.items;
  count : length l.dests.items + length l.rest.items ≡ length l.fn.plans.items;
  room : length l.fn.plans.items ≤ vec_capacity l.dests;
}

abbrev pub decreases-loop-plan : goal.decreases-loop-plan
decreases-loop-plan g l = deque_len l.rest

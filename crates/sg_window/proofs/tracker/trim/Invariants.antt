use Rattle.std.proofs.Common.{◌≡◌, ◌≤◌, deque_len, deque_capacity}
use Rattle.sg_window.specs.Window.{outstanding, mark_from}
use Rattle.sg_window.proofs.tracker.trim.Given as goal

abbrev pub invariant-loop-first : goal.invariant-loop-first
invariant-loop-first l = record {
  mark : mark_from l.mark l.ring.items ≡ mark_from l.fn.mark l.fn.ring.items;
  ring : outstanding l.ring.items ≡ outstanding l.fn.ring.items;
  len : deque_len l.ring ≤ deque_len l.fn.ring;
  capacity : deque_capacity l.ring ≡ deque_capacity l.fn.ring;
}

abbrev pub decreases-loop-first : goal.decreases-loop-first
decreases-loop-first l = deque_len l.ring

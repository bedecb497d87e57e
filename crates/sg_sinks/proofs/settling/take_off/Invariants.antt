use Rattle.std.proofs.Common.{◌≡◌, ◌+◌, drop, deque_len, deque_capacity}
use Rattle.sg_sinks.specs.Fitting.{space}
use Rattle.sg_sinks.proofs.settling.take_off.Given as goal

abbrev pub invariant-loop-k : goal.invariant-loop-k
invariant-loop-k l = record {
  rest : l.lengths.items ≡ drop l._k l.fn.lengths.items;
  size : l.size + space l.lengths.items ≡ space l.fn.lengths.items;
  len : deque_len l.lengths + l._k ≡ deque_len l.fn.lengths;
  capacity : deque_capacity l.lengths ≡ deque_capacity l.fn.lengths;
}

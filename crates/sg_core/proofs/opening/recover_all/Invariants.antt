use Rattle.std.proofs.Common.{◌≡◌, ◌+◌, drop}
use Rattle.sg_sinks.specs.Fitting.{space}
use Rattle.sg_core.specs.Opening.{recovers, lengths_in}
use Rattle.sg_core.proofs.opening.recover_all.Given as goal

abbrev pub invariant-loop-head : goal.invariant-loop-head
invariant-loop-head l = record {
  room : l.sink.room ≡ 0;
  sum : space l.sink.seen.lengths + space (lengths_in (drop l.head-index l.heads)) ≡ space l.fn.sink.seen.lengths + space (lengths_in l.heads);
  seen : recovers l.sink.seen (drop l.head-index l.heads) ≡ recovers l.fn.sink.seen l.heads;
}

use Rattle.std.proofs.Common.{◌-◌, ◌≤◌}
use Rattle.sg_sinks.specs.Fitting.{space}
use Rattle.sg_sinks.specs.Trials.{refill_of}
use Rattle.sg_core.proofs.RefillParts.{IsFitting}
use Rattle.sg_core.proofs.refills.fitting.Given as goal

abbrev pub invariant-loop-n : goal.invariant-loop-n
invariant-loop-n l = record {
  most : l.n ≤ 1000;
  fitting : IsFitting l.fn.buffer.capacity (space l.sink.seen.lengths) l.n (refill_of l.fn.buffer l.sink.seen) l.trial l.sink.seen.entries;
}

abbrev pub decreases-loop-n : goal.decreases-loop-n
decreases-loop-n l = 1000 - l.n

use Rattle.std.proofs.Common.{◌≡◌, ◌++◌, map, drop}
use Rattle.sg_serve.specs.Counts.{gave_up_outlet, numbers_from}
use Rattle.sg_serve.proofs.counts.failed_sinks.Given as goal

abbrev pub invariant-loop-d : goal.invariant-loop-d
invariant-loop-d g l = l.numbers ++ numbers_from l.d (drop l.d (map (λ a. gave_up_outlet a.outage.given_up) l.dests)) ≡ numbers_from 0 (map (λ a. gave_up_outlet a.outage.given_up) l.dests)

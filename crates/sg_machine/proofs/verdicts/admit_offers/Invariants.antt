use Rattle.std.proofs.Common.{◌≡◌, ◌≤◌, ◌+◌, drop}
use Rattle.sg_machine.specs.Turns.{judged_runs, offered_runs, most_run}
use Rattle.sg_machine.proofs.verdicts.admit_offers.Given as goal

abbrev pub invariant-loop-k : goal.invariant-loop-k
invariant-loop-k l = record {
  judged : judged_runs l.inlet l.number l.failing l.dests l.failed (drop l.k l.offers) (drop l.k l.verdicts) ≡ judged_runs l.inlet l.number l.failing l.fn.dests l.fn.failed l.offers l.verdicts;
  kept : offered_runs l.inlet l.number l.dests (drop l.k l.offers) (drop l.k l.verdicts) ≡ offered_runs l.inlet l.number l.fn.dests l.offers l.verdicts;
  dropped : most_run l.dests ≤ most_run l.fn.dests + l.k;
}

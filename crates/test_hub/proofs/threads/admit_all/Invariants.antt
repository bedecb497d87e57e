use Rattle.std.proofs.Common.{◌≤◌, ◌≡◌, ◌+◌}
use Rattle.sg_booth.specs.Desks.{IsDeskOf}
use Rattle.test_hub.proofs.threads.admit_all.Given as goal

abbrev pub invariant-loop-n : goal.invariant-loop-n
invariant-loop-n g l = record {
  seat : IsDeskOf l.hub l.seat;
  hub : l.hub ≡ l.initial.hub;
  left : l.initial.seat.left ≤ l.seat.left + l.n;
}

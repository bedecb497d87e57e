use Rattle.std.proofs.Common.{◌≤◌, ◌<◌, ◌≡◌}
use Rattle.sg_booth.specs.Desks.{IsDeskOf}
use Rattle.sg_standing.specs.States.{setup_of}
use Rattle.test_hub.specs.Cores.{IsTriedSetup}
use Rattle.test_hub.proofs.seats.at_seats.Given as goal

abbrev pub invariant-loop-part : goal.invariant-loop-part
invariant-loop-part g l = record {
  one : IsDeskOf l.hub l.one;
  two : IsDeskOf l.hub l.two;
  one_left : l.spare < l.one.left;
  two_left : l.spare < l.two.left;
  hub : l.hub ≡ l.initial.hub;
}

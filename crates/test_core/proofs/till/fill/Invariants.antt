use Rattle.std.proofs.Common.{◌≡◌, ◌+◌, length}
use Rattle.sg_booth.specs.Desks.{IsDeskOf}
use Rattle.test_core.proofs.till.fill.Given as goal

abbrev pub invariant-loop : goal.invariant-loop
invariant-loop g l = IsDeskOf l.booth l.desk × (l.booth ≡ l.initial.booth) × (l.desk.left + l.counter ≡ l.initial.desk.left) × (length l.desk.own ≡ length l.initial.desk.own + l.counter)

use Rattle.std.proofs.Common.{◌≡◌, ◌≤◌, ◌+◌, ◌-◌, ◌*◌, true, false}
use Rattle.sg_overflow.specs.Finishing.{IsInnerRefused}
use Rattle.sg_overflow.specs.Line.{ForwardsBy}
use Rattle.sg_overflow.specs.View.{held_count}
use Rattle.sg_overflow.proofs.forwarder.Forwarder.forward_all.Given as goal

abbrev pub invariant-turns : goal.invariant-turns
invariant-turns g l = record {
  forwards : ForwardsBy g.D.Disk.state (g.O.Outlet.state l.initial.self.inner) (g.O.Outlet.state l.self.inner) l.initial.self.held l.self.held;
  some : l.empty ≡ false → 1 ≤ held_count l.self.held;
  none : l.empty ≡ true → held_count l.self.held ≡ 0;
  refused : IsInnerRefused l.refusals (g.O.Outlet.state l.initial.self.inner) (g.O.Outlet.state l.self.inner);
  low : l.refusals ≤ 2;
}

abbrev pub decreases-turns : goal.decreases-turns
decreases-turns g l = 3 * held_count l.self.held + (3 - l.refusals)

use Rattle.std.proofs.Common.{◌≡◌, ◌≤◌, false}
use Rattle.sg_overflow.specs.Line.{ForwardsBy}
use Rattle.sg_overflow.specs.View.{held_count}
use Rattle.sg_overflow.proofs.forwarding.forward_for.Given as goal

abbrev pub invariant-batches : goal.invariant-batches
invariant-batches g l = record {
  forwards : ForwardsBy g.D.Disk.state (g.O.Outlet.state l.initial.inner) (g.O.Outlet.state l.inner) l.initial.held l.held;
  some : l.empty ≡ false → 1 ≤ held_count l.held;
}

abbrev pub decreases-batches : goal.decreases-batches
decreases-batches g l = held_count l.held

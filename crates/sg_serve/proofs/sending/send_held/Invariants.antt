use Rattle.std.proofs.Common.{◌≡◌, ◌≤◌, ◌+◌, ◌*◌, ◌-◌, map}
use Rattle.sg_overflow.specs.Buffered.{buffered_of}
use Rattle.sg_serve.proofs.sending.send_held.Given as goal

abbrev pub invariant-flushes : goal.invariant-flushes
invariant-flushes g l = (map (buffered_of g.O.Outlet.state g.D.Disk.state) l.outlets.items ≡ map (buffered_of g.O.Outlet.state g.D.Disk.state) l.initial.outlets.items) × (l.idle ≤ 64)

abbrev pub decreases-flushes : goal.decreases-flushes
decreases-flushes g l = 65 * l.held + (64 - l.idle)

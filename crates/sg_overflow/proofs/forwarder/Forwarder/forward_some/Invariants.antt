use Rattle.sg_overflow.specs.Line.{ForwardsBy}
use Rattle.sg_overflow.proofs.forwarder.Forwarder.forward_some.Given as goal

abbrev pub invariant-loop-turn : goal.invariant-loop-turn
invariant-loop-turn g l = ForwardsBy g.D.Disk.state (g.O.Outlet.state l.initial.self.inner) (g.O.Outlet.state l.self.inner) l.initial.self.held l.self.held

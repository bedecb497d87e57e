use Rattle.sg_overflow.proofs.Sends.{forwards_then}
use Rattle.sg_overflow.proofs.forwarder.Forwarder.forward_some.Goals as goal

pub loop-turn-init : goal.loop-turn-init
loop-turn-init g c = (0, c.is_empty-empty.ensures.still (g.O.Outlet.state c.args.self.now.inner))

pub returns-then-not-is_open : goal.returns-then-not-is_open
returns-then-not-is_open g c =
    let l = c.loop-turn in
    let s = c.forward_once-stop in
    forwards_then g.D.Disk.state (g.O.Outlet.state c.args.self.now.inner) (g.O.Outlet.state l.self.inner) (g.O.Outlet.state s.new.self.inner) c.args.self.now.held l.self.held s.new.self.held
    l.invariant s.ensures.forwards

pub loop-turn-preserved : goal.loop-turn-preserved
loop-turn-preserved g c =
    let l = c.loop-turn in
    let s = c.forward_once-stop in
    forwards_then g.D.Disk.state (g.O.Outlet.state c.args.self.now.inner) (g.O.Outlet.state l.self.inner) (g.O.Outlet.state s.new.self.inner) c.args.self.now.held l.self.held s.new.self.held
    l.invariant s.ensures.forwards

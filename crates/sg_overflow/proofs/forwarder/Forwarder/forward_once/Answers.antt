use Rattle.std.proofs.Common.{◌≡◌, ◌∙◌, ap, sym, arith}
use Rattle.sg_overflow.specs.View.{Held, held_count}
use Rattle.sg_overflow.proofs.Sends.{forwards_then}
use Rattle.sg_overflow.proofs.Stopping.{cause_wider, shut_open}
use Rattle.sg_overflow.proofs.forwarder.Forwarder.forward_once.Goals as goal

pub returns-then-not-is_open-clause-fewer : goal.returns-then-not-is_open-clause-fewer
returns-then-not-is_open-clause-fewer g c = λ is some. shut_open c.reopen_inner-begun.result (sym c.is_open.ensures ∙ c.if-not-is_open.true) is

pub returns-clause-forwards : goal.returns-clause-forwards
returns-clause-forwards g c =
    let b = c.reopen_inner-begun in
    let s = c.forward_batch-stop in
    forwards_then g.D.Disk.state (g.O.Outlet.state c.args.self.now.inner) (g.O.Outlet.state b.new.self.inner) (g.O.Outlet.state s.new.inner) c.args.self.now.held b.new.self.held s.new.held
    b.ensures.forwards s.ensures.forwards

pub returns-clause-cause : goal.returns-clause-cause
returns-clause-cause g c =
    let b = c.reopen_inner-begun in
    let s = c.forward_batch-stop in
    let m = b.ensures.forwards.1 in
    cause_wider (g.O.Outlet.state c.args.self.now.inner) (g.O.Outlet.state b.new.self.inner) (g.O.Outlet.state s.new.inner) s.new.held.store.closed s.result m.faults m.laters s.ensures.cause

pub returns-clause-fewer : goal.returns-clause-fewer
returns-clause-fewer g c = λ is some.
    let same : held_count c.reopen_inner-begun.new.self.held ≡ held_count c.args.self.now.held = ap (λ (h : Held g.row.D.Denot). held_count h) c.reopen_inner-begun.ensures.held in
    let less = c.forward_batch-stop.ensures.fewer is (omega (arith, some, same)) in
    omega (arith, less, same)

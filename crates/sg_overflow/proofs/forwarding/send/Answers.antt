use Rattle.std.proofs.Common.{◌≡◌, ◌+◌, ◌-◌, subst, sym, arith}
use Rattle.sg_overflow.specs.Sending.{IsSent}
use Rattle.sg_overflow.specs.declared.step.Stop.{Stop}
use Rattle.sg_overflow.proofs.Sends.{sends_more, sent_as}
use Rattle.sg_overflow.proofs.forwarding.send.Goals as goal

pub overflow_sub-count : goal.overflow_sub-count
overflow_sub-count g c =
    let more = sends_more (g.O.Outlet.state c.args.inner.now) (g.O.Outlet.state c.send-answer.new.self) c.args.frames.now c.send-answer.result c.send-answer.ensures in
    omega (arith, more.0, c.taken-before.ensures, c.taken.ensures)

pub returns : goal.returns
returns g c =
    let old = g.O.Outlet.state c.args.inner.now in
    let new = g.O.Outlet.state c.send-answer.new.self in
    let more = sends_more old new c.args.frames.now c.send-answer.result c.send-answer.ensures in
    let sum : (c.taken.result - c.taken-before.result) + c.taken-before.result ≡ new.count = omega (arith, more.0, c.taken-before.ensures, c.taken.ensures) in
    subst (λ (s : Stop). IsSent old new c.args.frames.now (c.taken.result - c.taken-before.result) s) (sym c.of.ensures)
    (sent_as old new c.args.frames.now (c.taken.result - c.taken-before.result) c.taken-before.result c.send-answer.result c.send-answer.ensures sum c.taken-before.ensures)

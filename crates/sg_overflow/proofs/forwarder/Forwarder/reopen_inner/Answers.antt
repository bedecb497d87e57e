use Rattle.std.proofs.Common.{ap, subst, arith, Ok}
use Rattle.sg_device.specs.Outlet.{OutletState, Reopens}
use Rattle.sg_device.specs.declared.outlet.Reopened.{Reopened}
use Rattle.sg_device.specs.declared.outlet.Reopened.TheVariants.{Later}
use Rattle.sg_overflow.proofs.Sends.{moves_reopened}
use Rattle.sg_overflow.proofs.forwarder.Forwarder.reopen_inner.Goals as goal

pub returns-then-not-self-clause-forwards : goal.returns-then-not-self-clause-forwards
returns-then-not-self-clause-forwards g c = (0, c.is_empty-empty.ensures.still (g.O.Outlet.state c.args.self.now.inner))

pub returns-in-Ok-Ready-clause-forwards : goal.returns-in-Ok-Ready-clause-forwards
returns-in-Ok-Ready-clause-forwards g c = (
  0,
  moves_reopened g.D.Disk.state c.args.self.now.held (g.O.Outlet.state c.args.self.now.inner) (g.O.Outlet.state c.reopen.new.self) c.reopen.result c.is_empty-empty.ensures.still c.reopen.ensures,
)

pub returns-in-Ok-Later-clause-forwards : goal.returns-in-Ok-Later-clause-forwards
returns-in-Ok-Later-clause-forwards g c = (
  0,
  moves_reopened g.D.Disk.state c.args.self.now.held (g.O.Outlet.state c.args.self.now.inner) (g.O.Outlet.state c.reopen.new.self) c.reopen.result c.is_empty-empty.ensures.still c.reopen.ensures,
)

pub returns-in-Ok-Later-clause-cause : goal.returns-in-Ok-Later-clause-cause
returns-in-Ok-Later-clause-cause g c =
    let i = g.O.Outlet.state c.args.self.now.inner in
    let j = g.O.Outlet.state c.reopen.new.self in
    let later : Reopens i j (Ok Later) = subst (λ (r : Reopened). Reopens i j (Ok r)) c.in-Ok-Later.field-0-is c.in-Ok-Later.ensures in
    let more = ap (λ (o : OutletState). o.laters) later in
    omega (arith, more)

pub returns-in-Err-clause-forwards : goal.returns-in-Err-clause-forwards
returns-in-Err-clause-forwards g c = (
  0,
  moves_reopened g.D.Disk.state c.args.self.now.held (g.O.Outlet.state c.args.self.now.inner) (g.O.Outlet.state c.reopen.new.self) c.reopen.result c.is_empty-empty.ensures.still c.reopen.ensures,
)

pub returns-in-Err-clause-cause : goal.returns-in-Err-clause-cause
returns-in-Err-clause-cause g c = c.in-Err.ensures.2

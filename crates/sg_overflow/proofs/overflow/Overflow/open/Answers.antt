use Rattle.sg_overflow.proofs.Opens.{opened_sound, opened_as}
use Rattle.sg_overflow.proofs.overflow.Overflow.open.Goals as goal

pub invariant_of-result : goal.invariant_of-result
invariant_of-result g c =
    opened_sound g.O.Outlet.state g.D.Disk.state c.args.disk c.args.limits c.args.inner c.in-Ok.held c.requires.fresh c.in-Ok.ensures.opened c.count-loaded.result c.count-loaded.ensures.told c.count-loaded.ensures.count c.fresh.result c.fresh.ensures

pub returns-in-Ok-clause-opened : goal.returns-in-Ok-clause-opened
returns-in-Ok-clause-opened g c =
    opened_as g.O.Outlet.state g.D.Disk.state c.args.disk c.args.limits c.args.inner c.in-Ok.held c.requires.fresh c.in-Ok.ensures.opened c.count-loaded.result c.count-loaded.ensures.told c.count-loaded.ensures.count c.fresh.result c.fresh.ensures

pub returns-in-Ok-clause-limits : goal.returns-in-Ok-clause-limits
returns-in-Ok-clause-limits g c = c.in-Ok.ensures.opened.limits

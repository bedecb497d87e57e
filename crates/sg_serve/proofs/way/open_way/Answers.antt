use Rattle.std.proofs.Common.{Some, sym, subst}
use Rattle.sg_outside.specs.World.{WorldState}
use Rattle.sg_outside.specs.declared.request.OutletSpec.{OutletSpec}
use Rattle.sg_serve.specs.Exits.{out_of, OpensExit}
use Rattle.sg_serve.specs.Overflows.{OpensWay}
use Rattle.sg_serve.proofs.WayLemmas.{if-ok, direct-opens}
use Rattle.sg_serve.proofs.way.open_way.Goals as goal

pub returns-in-Some-clause-opens : goal.returns-in-Some-clause-opens
returns-in-Some-clause-opens g c =
    let drain = g.W.Drain.Outlet.state in
    let paths = g.W.Paths.Opener.state in
    let disk = g.W.Store.Disk.state in
    let old = g.W.Machine.state c.args.world.now in
    let mid = g.W.Machine.state c.open_exit.new.world in
    let new = g.W.Machine.state c.surround.new.world in
    if-ok c.surround.result (λ way. (first : WorldState) (spec : OutletSpec) → OpensExit drain paths first mid spec c.in-Ok.exit → OpensWay first new spec (Some c.in-Some.plan) (out_of drain paths disk way))
    (λ way. OpensWay old new c.args.spec.now c.args.overflow.now (out_of drain paths disk way))
    (λ way h. subst (λ o. OpensWay old new c.args.spec.now o (out_of drain paths disk way)) (sym c.in-Some.is) (h old c.args.spec.now c.in-Ok.ensures)) c.surround.ensures.opens

pub returns-in-None-clause-opens : goal.returns-in-None-clause-opens
returns-in-None-clause-opens g c =
    direct-opens g.W.Drain.Outlet.state g.W.Paths.Opener.state g.W.Store.Disk.state (g.W.Machine.state c.args.world.now) (g.W.Machine.state c.open_exit.new.world) c.args.spec.now c.args.overflow.now c.in-Ok.exit c.in-None.is c.in-Ok.ensures

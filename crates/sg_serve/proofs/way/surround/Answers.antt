use Rattle.sg_serve.proofs.WayLemmas.{surrounded, surround-unopened, surround-refused}
use Rattle.sg_serve.proofs.way.surround.Goals as goal

pub returns-in-Err-clause-misses : goal.returns-in-Err-clause-misses
returns-in-Err-clause-misses g c = λ old spec d h.
    rw c.unopened_store.ensures
    (surround-unopened g.W.Drain.Outlet.state g.W.Paths.Opener.state g.W.Store.Disk.state old (g.W.Machine.state c.args.world.now) (g.W.Machine.state c.open_store.new.self) spec c.args.plan.now d c.args.number
    c.args.exit c.in-Err.refusal h c.in-Err.ensures)

pub returns-in-Ok-open-clause-opens : goal.returns-in-Ok-open-clause-opens
returns-in-Ok-open-clause-opens g c = λ old spec h.
    surrounded g.W.Drain.Outlet.state g.W.Paths.Opener.state g.W.Store.Disk.state old (g.W.Machine.state c.args.world.now) (g.W.Machine.state c.open_store.new.self) spec c.args.plan.now
    c.args.exit c.in-Ok.store c.in-Ok-open.overflow h c.in-Ok.ensures c.in-Ok-open.ensures.opened c.in-Ok-open.ensures.inner

pub returns-in-Err-open-clause-misses : goal.returns-in-Err-open-clause-misses
returns-in-Err-open-clause-misses g c = λ old spec d h.
    rw c.refused.ensures
    (surround-refused g.W.Drain.Outlet.state g.W.Paths.Opener.state g.W.Store.Disk.state old (g.W.Machine.state c.args.world.now) (g.W.Machine.state c.open_store.new.self) spec c.args.plan.now d c.args.number
    c.args.exit c.in-Err-open.exit c.in-Ok.store c.in-Err-open.store c.in-Err-open.refusal h c.in-Ok.ensures c.in-Err-open.ensures.back c.in-Err-open.ensures.reason)

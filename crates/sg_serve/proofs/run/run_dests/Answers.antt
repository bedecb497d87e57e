use Rattle.std.proofs.Common.{◌∙◌, ap, map, length, is_some, sym, arith, subst}
use Rattle.std.specs.Prelude.{option_map, IfOk, IfSome}
use Rattle.std.proofs.lemmas.List.{length-map}
use Rattle.sg_standing.specs.States.{setup_of}
use Rattle.sg_serve.specs.Counts.{AreCountsOf}
use Rattle.sg_serve.specs.Exits.{exit_of, way_of, parts_out}
use Rattle.sg_serve.specs.Opened.{DestsOpen}
use Rattle.sg_core.proofs.Faults.{calls-go}
use Rattle.sg_serve.proofs.FinishLemmas.{same-many}
use Rattle.sg_serve.proofs.OpenedLemmas.{outs_at}
use Rattle.sg_serve.proofs.RunLemmas.{are-dests, ok-some}
use Rattle.sg_serve.proofs.ServedLemmas.{map-two, made-few, made-all, dests-none, dests-miss, dests-served}
use Rattle.sg_serve.proofs.run.run_dests.Goals as goal

pub returns-in_default : goal.returns-in_default
returns-in_default g c =
    let e = c.hold_inlets-held.ensures in
    rw (e.stores, e.sources, e.feed, e.ways, e.last)
    (dests-none g.W.Drain.Outlet.state g.W.Paths.Opener.state g.W.Store.Disk.state g.W.Feed.Inlet.state g.R.Router.offers g.R.Router.inlets g.R.Router.dests (g.W.Machine.state c.args.world.now) c.args.once c.args.outlets.items c.args.rounds c.args.core
    c.args.sources.items (map g.W.Store.Disk.state c.into_stores.result.items) c.into_stores.ensures)

pub returns-in_default-with_capacity : goal.returns-in_default-with_capacity
returns-in_default-with_capacity g c =
    let e = c.hold_inlets-held-in_default-with_capacity.ensures in
    rw (e.stores, e.sources, e.feed, e.ways, e.last)
    (dests-none g.W.Drain.Outlet.state g.W.Paths.Opener.state g.W.Store.Disk.state g.W.Feed.Inlet.state g.R.Router.offers g.R.Router.inlets g.R.Router.dests (g.W.Machine.state c.args.world.now) c.args.once c.args.outlets.items c.args.rounds c.args.core
    c.args.sources.items (map g.W.Store.Disk.state c.into_stores-in_default-with_capacity.result.items) c.into_stores-in_default-with_capacity.ensures)

pub free_outlets-requires-clause-fits : goal.free_outlets-requires-clause-fits
free_outlets-requires-clause-fits g c =
    let o = c.open_dests-dests.ensures in
    let few = made-few g.W.Drain.Outlet.state g.W.Paths.Opener.state g.W.Store.Disk.state (g.W.Machine.state c.args.world.now) o.between c.args.once c.args.outlets.items o.opened c.open_dests-dests.result.dests.items o.opens o.readied in
    let room = c.in-Ok-with_capacity.ensures.capacity in
    let n = c.len.ensures in
    let m = c.args.outlets.ok in
    omega (arith, few, room, n, m)

pub returns-in-Some : goal.returns-in-Some
returns-in-Some g c =
    let drain = g.W.Drain.Outlet.state in
    let paths = g.W.Paths.Opener.state in
    let disk = g.W.Store.Disk.state in
    let old = g.W.Machine.state c.args.world.now in
    let new = g.W.Machine.state c.open_dests-dests.new.world in
    let once = c.args.once in
    let plans = c.args.outlets.items in
    let made = c.open_dests-dests.result.dests.items in
    let last = c.open_dests-dests.result.last in
    let o = c.open_dests-dests.ensures in
    let open' = subst (λ e. DestsOpen o.between new once plans c.args.stores o.opened (outs_at drain paths disk made) (option_map (parts_out drain paths disk) last) e) c.in-Some.is o.all in
    dests-miss drain paths disk g.W.Feed.Inlet.state g.R.Router.offers g.R.Router.inlets g.R.Router.dests old o.between new once plans c.args.rounds c.args.core c.args.sources.items (map disk c.into_stores-in-Some.result.items)
    c.args.stores o.opened made c.free_outlets.result.items last c.in-Some.early c.requires.counts.0 o.opens o.readied open' c.free_outlets.ensures c.into_stores-in-Some.ensures

pub serve-ended-requires-clause-few : goal.serve-ended-requires-clause-few
serve-ended-requires-clause-few g c = λ κs lives.
    let o = c.open_dests-dests.ensures in
    let few = made-few g.W.Drain.Outlet.state g.W.Paths.Opener.state g.W.Store.Disk.state (g.W.Machine.state c.args.world.now) o.between c.args.once c.args.outlets.items o.opened c.open_dests-dests.result.dests.items o.opens o.readied in
    let n = c.requires.few in
    (n.0, omega (arith, few, n.1))

pub serve-ended-requires-clause-dests : goal.serve-ended-requires-clause-dests
serve-ended-requires-clause-dests g c = λ κs lives.
    let drain = g.W.Drain.Outlet.state in
    let paths = g.W.Paths.Opener.state in
    let disk = g.W.Store.Disk.state in
    let new = g.W.Machine.state c.open_dests-dests.new.world in
    let once = c.args.once in
    let plans = c.args.outlets.items in
    let made = c.open_dests-dests.result.dests.items in
    let last = option_map (parts_out drain paths disk) c.open_dests-dests.result.last in
    let o = c.open_dests-dests.ensures in
    let open' = subst (λ e. DestsOpen o.between new once plans c.args.stores o.opened (outs_at drain paths disk made) last e) c.in_default-early.is o.all in
    are-dests (way_of drain paths disk) once plans (setup_of c.args.core) made o.dests (made-all drain paths disk o.between new once plans c.args.stores o.opened made last open') c.requires.counts.1

pub count_all-requires-clause-stores : goal.count_all-requires-clause-stores
count_all-requires-clause-stores g c =
    let s = c.serve-ended.ensures.serves in
    let go = calls-go c.args.core c.serve-ended.result.core s.0 s.1.1.1.took.makes in
    c.requires.counts.0 ∙ sym go.count

pub count_all-requires-clause-few_sources : goal.count_all-requires-clause-few_sources
count_all-requires-clause-few_sources g c =
    let all = c.serve-ended.ensures.serves.1.1.1.took.all_sources in
    let n = ap length c.deref-2.ensures.value in
    omega (arith, all, n, c.requires.few.0)

pub count_all-requires-clause-few_dests : goal.count_all-requires-clause-few_dests
count_all-requires-clause-few_dests g c =
    let o = c.open_dests-dests.ensures in
    let few = made-few g.W.Drain.Outlet.state g.W.Paths.Opener.state g.W.Store.Disk.state (g.W.Machine.state c.args.world.now) o.between c.args.once c.args.outlets.items o.opened c.open_dests-dests.result.dests.items o.opens o.readied in
    let all = c.serve-ended.ensures.serves.1.1.1.took.all_dests in
    let n = ap length c.deref-3.ensures.value in
    omega (arith, few, all, n, c.requires.few.1)

pub free_outlets-ways-requires-clause-fits : goal.free_outlets-ways-requires-clause-fits
free_outlets-ways-requires-clause-fits g c =
    let o = c.open_dests-dests.ensures in
    let few = made-few g.W.Drain.Outlet.state g.W.Paths.Opener.state g.W.Store.Disk.state (g.W.Machine.state c.args.world.now) o.between c.args.once c.args.outlets.items o.opened c.open_dests-dests.result.dests.items o.opens o.readied in
    let all = c.serve-ended.ensures.serves.1.1.1.took.all_dests in
    let room = c.in-Ok-with_capacity.ensures.capacity in
    let n = c.len.ensures in
    let m = c.args.outlets.ok in
    omega (arith, few, all, room, n, m)

pub count_rests-counts-requires : goal.count_rests-counts-requires
count_rests-counts-requires g c =
    let drain = g.W.Drain.Outlet.state in
    let paths = g.W.Paths.Opener.state in
    let disk = g.W.Store.Disk.state in
    let o = c.open_dests-dests.ensures in
    let few = made-few drain paths disk (g.W.Machine.state c.args.world.now) o.between c.args.once c.args.outlets.items o.opened c.open_dests-dests.result.dests.items o.opens o.readied in
    let all = c.serve-ended.ensures.serves.1.1.1.took.all_dests in
    let freed = ap length c.free_outlets-ways.ensures ∙ length-map c.serve-ended.result.dests.items (λ a. a.outlet) in
    let sent = same-many (exit_of drain paths) disk c.free_outlets-ways.result.items c.send_held.new.outlets.items c.send_held.ensures in
    let n = c.requires.few.1 in
    let m = c.requires.capacities.0 in
    record { few = omega (arith, few, all, freed, sent, n, m) }

pub returns : goal.returns
returns g c =
    let f = g.W.Feed.Inlet.state in
    let drain = g.W.Drain.Outlet.state in
    let paths = g.W.Paths.Opener.state in
    let disk = g.W.Store.Disk.state in
    let way = way_of drain paths disk in
    let old = g.W.Machine.state c.args.world.now in
    let new = g.W.Machine.state c.open_dests-dests.new.world in
    let once = c.args.once in
    let plans = c.args.outlets.items in
    let made = c.open_dests-dests.result.dests.items in
    let last = c.open_dests-dests.result.last in
    let o = c.open_dests-dests.ensures in
    let core = c.serve-ended.result.core in
    let sources = c.serve-ended.result.sources.items in
    let dests = c.serve-ended.result.dests.items in
    let open' = subst (λ e. DestsOpen o.between new once plans c.args.stores o.opened (outs_at drain paths disk made) (option_map (parts_out drain paths disk) last) e) c.in_default-early.is o.all in
    let sent = c.send_held.ensures ∙ ap (map way) c.free_outlets-ways.ensures ∙ map-two (λ a. a.outlet) way dests in
    let told : IfOk c.count_all.result (AreCountsOf core sources dests) =
    subst (λ xs. IfOk c.count_all.result (AreCountsOf core xs dests)) c.deref-2.ensures.value (subst (λ ys. IfOk c.count_all.result (AreCountsOf core c.deref-2.result.now ys)) c.deref-3.ensures.value c.count_all.ensures) in
    let counted = subst (λ o. IfSome o (AreCountsOf core sources dests)) (sym c.ok-tallied.ensures.value) (ok-some c.count_all.result (AreCountsOf core sources dests) told) in
    let asked = c.in-Ok.ensures ∙ ap (map (λ plan. is_some plan.overflow)) c.deref.ensures.value in
    rw c.serve-ended.ensures.world
    (dests-served drain paths disk f g.R.Router.offers g.R.Router.inlets g.R.Router.dests old o.between new once plans c.args.rounds c.args.core core c.args.sources.items sources (map disk c.into_stores-2.result.items)
    c.args.stores o.opened made dests c.send_held.new.outlets.items c.count_rests-counts.new.ways.items last c.in-Ok.asked c.ok-tallied.result c.count_rests-counts.result c.serve-ended.result.ended c.requires.counts.0
    o.opens o.readied o.dests open' c.serve-ended.ensures.serves sent c.count_rests-counts.ensures.stay asked c.count_rests-counts.ensures.counts counted c.into_stores-2.ensures)

use Rattle.std.proofs.Common.{◌++◌, map, sym, subst}
use Rattle.std.specs.Prelude.{option_map, option_to_list}
use Rattle.std.proofs.lemmas.List.{length-map}
use Rattle.sg_serve.specs.Devices.{OpensStores}
use Rattle.sg_serve.specs.Early.{StoresFail}
use Rattle.sg_serve.specs.Exits.{way_of, out_of, parts_out}
use Rattle.sg_serve.proofs.RunLemmas.{runs-over, runs-none}
use Rattle.sg_serve.proofs.run.run_stores.Goals as goal

pub returns-in-Ok : goal.returns-in-Ok
returns-in-Ok g c = λ closed closes.
    runs-over g.W.Feed.Inlet.state (way_of g.W.Drain.Outlet.state g.W.Paths.Opener.state g.W.Store.Disk.state) g.R.Router.offers g.R.Router.inlets g.R.Router.dests (g.W.Machine.state c.args.world.now) (g.W.Machine.state c.open_stores.new.world) (g.W.Machine.state c.run_core.new.world) closed
    c.args.plan c.args.routers.items c.args.rounds (map g.W.Store.Disk.state c.in-Ok.stores.items) (map g.W.Store.Disk.state c.run_core.result.0.stores.items)
    (map (λ a. g.W.Feed.Inlet.state a.inlet) c.run_core.result.0.sources.items ++ option_to_list (option_map g.W.Feed.Inlet.state c.run_core.result.0.feed))
    (map (out_of g.W.Drain.Outlet.state g.W.Paths.Opener.state g.W.Store.Disk.state) c.run_core.result.0.ways.items ++ option_to_list (option_map (parts_out g.W.Drain.Outlet.state g.W.Paths.Opener.state g.W.Store.Disk.state) c.run_core.result.0.last)) c.run_core.result.1
    (subst (λ ss. OpensStores (g.W.Machine.state c.args.world.now) (g.W.Machine.state c.open_stores.new.world) ss (map g.W.Store.Disk.state c.in-Ok.stores.items)) c.deref.ensures.value c.in-Ok.ensures.opened)
    c.run_core.ensures closes

pub returns-in-Err : goal.returns-in-Err
returns-in-Err g c = λ closed closes.
    let e = c.hold_stores.ensures in
    runs-none g.W.Feed.Inlet.state (way_of g.W.Drain.Outlet.state g.W.Paths.Opener.state g.W.Store.Disk.state) g.R.Router.offers g.R.Router.inlets g.R.Router.dests (g.W.Machine.state c.args.world.now) (g.W.Machine.state c.open_stores.new.world) closed
    c.args.plan c.args.routers.items c.args.rounds (map g.W.Store.Disk.state c.in-Err.stores.items) c.in-Err.early (subst (λ ss. OpensStores (g.W.Machine.state c.args.world.now) (g.W.Machine.state c.open_stores.new.world) ss (map g.W.Store.Disk.state c.in-Err.stores.items)) c.deref.ensures.value c.in-Err.ensures.refused)
    (subst (λ n. StoresFail (g.W.Machine.state c.args.world.now) (g.W.Machine.state c.open_stores.new.world) n c.in-Err.early) (sym (length-map c.in-Err.stores.items g.W.Store.Disk.state)) c.in-Err.ensures.cause)
    (rw (e.stores, e.sources, e.feed, e.ways, e.last) at closes)

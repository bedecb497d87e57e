use Rattle.std.proofs.Common.{◌++◌, map, length, sym, subst, ap, refl, ◌∙◌, arith, inl, inr}
use Rattle.std.specs.Prelude.{option_map, option_to_list}
use Rattle.std.proofs.lemmas.List.{length-map}
use Rattle.sg_actor.specs.SourceTurns.{actor}
use Rattle.sg_actor.specs.declared.source.SourceActor.{SourceActor}
use Rattle.sg_standing.specs.States.{setup_of}
use Rattle.sg_serve.specs.Actors.{source_view, AreSourcesFor, OpensAt}
use Rattle.sg_serve.specs.Devices.{inlets_asked}
use Rattle.sg_serve.specs.Early.{SourcesFail}
use Rattle.sg_serve.specs.Exits.{way_of, out_of, parts_out}
use Rattle.sg_serve.specs.Rewinds.{AreApartIn, position_at, places_of}
use Rattle.sg_serve.specs.Run.{early_of}
use Rattle.sg_serve.specs.declared.ending.Early.TheVariants.{NoMemory}
use Rattle.sg_serve.proofs.ActorLemmas.{long-places}
use Rattle.sg_serve.proofs.RewindLemmas.{few-rewinds}
use Rattle.sg_serve.proofs.RunLemmas.{over-none, refused-cause, over-sources, over-dests, are-sources}
use Rattle.sg_serve.proofs.run.run_core.Goals as goal

pub returns-in_default : goal.returns-in_default
returns-in_default g c = λ closed left.
    let e = c.hold_stores.ensures in
    let stores = map g.W.Store.Disk.state c.args.stores.items in
    rw (e.stores, e.sources, e.feed)
    (over-none g.W.Feed.Inlet.state (way_of g.W.Drain.Outlet.state g.W.Paths.Opener.state g.W.Store.Disk.state) g.R.Router.offers g.R.Router.inlets g.R.Router.dests (g.W.Machine.state c.args.world.now) c.args.plan c.args.routers.items c.args.rounds stores stores closed NoMemory (rw (e.ways, e.last) at left) (inl refl) tt)

pub returns-in-Err : goal.returns-in-Err
returns-in-Err g c = λ closed left.
    let e = c.hold_stores-in-Err.ensures in
    let w = g.W.Machine.state c.args.world.now in
    let stores = map g.W.Store.Disk.state c.args.stores.items in
    let back = map g.W.Store.Disk.state c.in-Err.stores.items in
    rw (e.stores, e.sources, e.feed, c.refused.ensures)
    (over-none g.W.Feed.Inlet.state (way_of g.W.Drain.Outlet.state g.W.Paths.Opener.state g.W.Store.Disk.state) g.R.Router.offers g.R.Router.inlets g.R.Router.dests w c.args.plan c.args.routers.items c.args.rounds stores back closed (early_of c.in-Err.refusal) (rw (e.ways, e.last) at left)
    (inr (c.in-Err.refusal, c.in-Err.ensures.refused)) (refused-cause w c.args.plan stores back c.in-Err.refusal c.in-Err.ensures.refused))

pub open_sources-requires-clause-apart : goal.open_sources-requires-clause-apart
open_sources-requires-clause-apart g c = λ κs lives.
    let ds = c.as_slice-setups.ensures ∙ c.in-Ok.ensures in
    subst AreApartIn (sym ds) (λ i j s a b. c.requires.plan.numbers.inlets_apart i j s a b)

pub run_dests-requires-clause-calls : goal.run_dests-requires-clause-calls
run_dests-requires-clause-calls g c =
    let e = c.in-Ok-open_sources.ensures in
    let sources = c.in-Ok-open_sources.sources.items in
    let feeds = map (λ a. g.W.Feed.Inlet.state a.inlet) sources in
    let few = few-rewinds (position_at c.in-Ok-open.core) 0 (places_of feeds) in
    let long = long-places feeds ∙ length-map sources (λ a. g.W.Feed.Inlet.state a.inlet) in
    let view = λ (a : SourceActor g.row.R.Denot g.row.W-Feed.Denot). source_view a.spec (actor (g.W.Feed.Inlet.state a.inlet) a.reader a.buffer.items a.position a.bad_frames) (g.R.Router.dests a.router) in
    let all = sym (length-map sources view) ∙ e.sources.all ∙ ap length c.deref.ensures.value in
    let calls = e.begun.calls in
    let first = c.in-Ok-open.ensures.opened.calls in
    omega (arith, few, long, all, calls, first, c.requires.plan.few_inlets)

pub run_dests-requires-clause-sources : goal.run_dests-requires-clause-sources
run_dests-requires-clause-sources g c = λ κs lives.
    let f = g.W.Feed.Inlet.state in
    let e = c.in-Ok-open_sources.ensures in
    let sources = c.in-Ok-open_sources.sources.items in
    let view = λ (a : SourceActor g.row.R.Denot g.row.W-Feed.Denot). source_view a.spec (actor (f a.inlet) a.reader a.buffer.items a.position a.bad_frames) (g.R.Router.dests a.router) in
    let di = c.deref.ensures.value in
    let ds = c.as_slice-setups.ensures ∙ c.in-Ok.ensures in
    let are = subst (λ ps. AreSourcesFor ps c.args.plan.setup.sources (map view sources)) di (subst (λ ss. AreSourcesFor c.deref.result.now ss (map view sources)) ds e.sources.each) in
    are-sources f g.R.Router.inlets g.R.Router.dests c.args.plan c.args.routers.items (setup_of c.open_sources.new.core) sources (e.begun.setup ∙ c.in-Ok-open.ensures.opened.setups) c.requires.plan c.requires.routers are e.routers (sym (length-map sources view) ∙ e.sources.all ∙ ap length di)

pub returns-in-Ok-open_sources : goal.returns-in-Ok-open_sources
returns-in-Ok-open_sources g c = λ closed left.
    let f = g.W.Feed.Inlet.state in
    let d = way_of g.W.Drain.Outlet.state g.W.Paths.Opener.state g.W.Store.Disk.state in
    let e = c.in-Ok-open_sources.ensures in
    let plan = c.args.plan in
    let sources = c.in-Ok-open_sources.sources.items in
    let feeds = map (λ a. f a.inlet) sources in
    let view = λ (a : SourceActor g.row.R.Denot g.row.W-Feed.Denot). source_view a.spec (actor (f a.inlet) a.reader a.buffer.items a.position a.bad_frames) (g.R.Router.dests a.router) in
    let di = c.deref.ensures.value in
    let ds = c.as_slice-setups.ensures ∙ c.in-Ok.ensures in
    let old = g.W.Machine.state c.args.world.now in
    let mid = g.W.Machine.state c.open_sources.new.world in
    let first = c.in-Ok-open.core in
    let are = subst (λ ps. AreSourcesFor ps plan.setup.sources (map view sources)) di (subst (λ ss. AreSourcesFor c.deref.result.now ss (map view sources)) ds e.sources.each) in
    let opened = subst (λ ps. OpensAt old mid (inlets_asked plan.once ps) (position_at first) feeds) di e.opened in
    over-dests f d g.R.Router.offers g.R.Router.inlets g.R.Router.dests old mid (g.W.Machine.state c.run_dests.new.world) plan c.args.routers.items c.args.rounds (map g.W.Store.Disk.state c.args.stores.items)
    (map g.W.Store.Disk.state c.run_dests.result.0.stores.items) first c.open_sources.new.core sources
    (map (λ a. f a.inlet) c.run_dests.result.0.sources.items ++ option_to_list (option_map f c.run_dests.result.0.feed))
    (map (out_of g.W.Drain.Outlet.state g.W.Paths.Opener.state g.W.Store.Disk.state) c.run_dests.result.0.ways.items ++ option_to_list (option_map (parts_out g.W.Drain.Outlet.state g.W.Paths.Opener.state g.W.Store.Disk.state) c.run_dests.result.0.last))
    closed c.run_dests.result.1 left (length-map c.args.stores.items g.W.Store.Disk.state ∙ c.requires.stores) c.in-Ok-open.ensures.opened opened.opens (sym (length-map sources view) ∙ e.sources.all ∙ ap length di) opened.begin e.begun are e.routers c.run_dests.ensures

pub returns : goal.returns
returns g c = λ closed left.
    let f = g.W.Feed.Inlet.state in
    let d = way_of g.W.Drain.Outlet.state g.W.Paths.Opener.state g.W.Store.Disk.state in
    let e = c.in-Err-open_sources.ensures in
    let plan = c.args.plan in
    let feeds = map (λ a. f a.inlet) c.in-Err-open_sources.sources.items in
    let last = option_map f c.in-Err-open_sources.feed in
    let di = c.deref.ensures.value in
    let ds = c.as_slice-setups.ensures ∙ c.in-Ok.ensures in
    let old = g.W.Machine.state c.args.world.now in
    let new = g.W.Machine.state c.open_sources.new.world in
    let first = c.in-Ok-open.core in
    let now = c.open_sources.new.core in
    let opened = subst (λ ps. OpensAt old new (inlets_asked plan.once ps) (position_at first) (feeds ++ option_to_list last)) di e.refused in
    let fails = subst (λ ss. SourcesFail old new first now ss feeds last c.in-Err-open_sources.early) ds e.cause in
    over-sources f d g.R.Router.offers g.R.Router.inlets g.R.Router.dests old new plan c.args.routers.items c.args.rounds (map g.W.Store.Disk.state c.args.stores.items) (map g.W.Store.Disk.state c.into_stores.result.items) first now feeds last closed
    c.in-Err-open_sources.early (rw c.new.ensures.items at left) c.requires.plan (length-map c.args.stores.items g.W.Store.Disk.state ∙ c.requires.stores) c.in-Ok-open.ensures.opened opened.opens opened.begin fails c.into_stores.ensures

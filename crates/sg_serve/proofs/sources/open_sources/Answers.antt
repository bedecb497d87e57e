use Rattle.std.proofs.Common.{◌≡◌, ◌<◌, ◌∙◌, ◌∷◌, [], ◌+◌, ◌++◌, append_assoc, ap, map, length, slice_get, Some, subst, sym, refl, arith}
use Rattle.std.specs.Prelude.{option_map}
use Rattle.std.proofs.lemmas.List.{length-map}
use Rattle.std.proofs.lemmas.Option.{slice_get_read}
use Rattle.sg_list.proofs.ListLemmas.{slice_get-map}
use Rattle.sg_actor.specs.SourceTurns.{actor}
use Rattle.sg_actor.specs.declared.source.SourceActor.{SourceActor}
use Rattle.sg_machine.specs.declared.setup.Setup.{Setup}
use Rattle.sg_counter.specs.Bringing.{store_in}
use Rattle.sg_standing.specs.States.{setup_of}
use Rattle.sg_serve.specs.Devices.{inlet_asked, inlets_asked}
use Rattle.sg_serve.specs.Actors.{source_view, IsSourceFor, AreSourcesFor, OpensAt}
use Rattle.sg_serve.specs.Rewinds.{AreApartIn, HasBegun, AwaitsFrom, position_at, places_of, rewinds_from}
use Rattle.sg_serve.proofs.DeviceLemmas.{map-push}
use Rattle.sg_serve.proofs.RewindLemmas.{begun-none, awaits-first, few-rewinds}
use Rattle.sg_serve.proofs.ActorLemmas.{fetching-at, store-by-setup, no-sources, sources-more, opened-at-none, opened-at-more, begun-next, sources-fail, long-places}
use Rattle.sg_serve.proofs.sources.open_sources.Goals as goal

pub returns-in-Err-clause-cause : goal.returns-in-Err-clause-cause
returns-in-Err-clause-cause g c = rw c.new.ensures.items (begun-none c.args.core.now, tt)

pub returns-in-Err-clause-refused : goal.returns-in-Err-clause-refused
returns-in-Err-clause-refused g c = rw c.new.ensures.items (opened-at-none (g.W.Machine.state c.args.world.now) (position_at c.args.core.now) (inlets_asked c.args.once c.args.plans.now))

pub loop-i-init : goal.loop-i-init
loop-i-init g c =
    let e = c.in-Ok.ensures.items in
    let whole = c.requires.open in
    rw e (record {
      opened = opened-at-none (g.W.Machine.state c.args.world.now) (position_at c.args.core.now) (inlets_asked c.args.once c.args.plans.now);
      begun = begun-none c.args.core.now;
      awaits = awaits-first (setup_of c.args.core.now) whole.0 c.args.core.now whole.1;
      made = no-sources c.args.plans.now c.args.setups.now;
      taken = c.from-rest.ensures.0;
      count = refl;
      room = (let n = c.in-Ok.ensures.capacity in omega (arith, n));
    })

pub open_source-requires-clause-store : goal.open_source-requires-clause-store
open_source-requires-clause-store g c = λ κs lives.
    let inv = c.loop-i.invariant in
    let setups = c.args.setups.now in
    let low : c.loop-i.i < length setups = (let t = c.loop-i-test.true in let m = c.requires.counts.0 in omega (arith, t, m)) in
    let there = c.setup_at.ensures in
    let is = ap (λ (t : Setup). t.sources) inv.begun.setup ∙ c.requires.setups in
    store-by-setup c.loop-i.core setups c.loop-i.i c.setup_at.result is there

pub open_source-requires-clause-few : goal.open_source-requires-clause-few
open_source-requires-clause-few g c =
    let inv = c.loop-i.invariant in
    let feeds = map (λ a. g.W.Feed.Inlet.state a.inlet) c.loop-i.sources.items in
    let few = few-rewinds (position_at c.args.core.now) 0 (places_of feeds) in
    let long = long-places feeds ∙ length-map c.loop-i.sources.items (λ a. g.W.Feed.Inlet.state a.inlet) in
    let calls = inv.begun.calls in
    let first = c.requires.open.1.calls in
    let n = inv.count in
    let t = c.loop-i-test.true in
    omega (arith, few, long, calls, first, n, t, c.requires.few)

pub open_source-requires-clause-fetches : goal.open_source-requires-clause-fetches
open_source-requires-clause-fetches g c = λ κs lives.
    let plans = c.args.plans.now in
    let there = slice_get_read plans (length plans) c.loop-i.i c.index-plans-i.result refl c.loop-i-test.true c.index-plans-i.is in
    fetching-at plans c.loop-i.i c.index-plans-i.result c.requires.fetches there

pub returns-in-Err-open_source-clause-refused : goal.returns-in-Err-open_source-clause-refused
returns-in-Err-open_source-clause-refused g c =
    let f = g.W.Feed.Inlet.state in
    let inv = c.loop-i.invariant in
    let once = c.args.once in
    let plans = c.args.plans.now in
    let held = c.loop-i.sources.items in
    let there = slice_get_read plans (length plans) c.loop-i.i c.index-plans-i.result refl c.loop-i-test.true c.index-plans-i.is in
    let asked = slice_get-map (λ plan. inlet_asked once plan.spec) plans c.loop-i.i c.index-plans-i.result there in
    let feeds = map (λ a. f a.inlet) held in
    let n : length feeds ≡ c.loop-i.i = length-map held (λ a. f a.inlet) ∙ inv.count in
    let at : slice_get (inlets_asked once plans) (length feeds) ≡ Some (inlet_asked once c.index-plans-i.result.spec) = ap (slice_get (inlets_asked once plans)) n ∙ asked in
    let here = inv.awaits.positions c.loop-i.i (let k = inv.count in omega (arith, k)) ∙ ap (position_at c.args.core.now) (sym n) in
    opened-at-more (g.W.Machine.state c.args.world.now) (g.W.Machine.state c.loop-i.world) (g.W.Machine.state c.open_source.new.world) (inlets_asked once plans) (position_at c.args.core.now) feeds (inlet_asked once c.index-plans-i.result.spec)
    (option_map f c.in-Err-open_source.last) (position_at c.loop-i.core c.loop-i.i) inv.opened at here c.in-Err-open_source.ensures.refused

pub returns-in-Err-open_source-clause-cause : goal.returns-in-Err-open_source-clause-cause
returns-in-Err-open_source-clause-cause g c =
    let f = g.W.Feed.Inlet.state in
    let inv = c.loop-i.invariant in
    let held = c.loop-i.sources.items in
    let feeds = map (λ a. f a.inlet) held in
    let n : c.loop-i.i ≡ length feeds = sym inv.count ∙ sym (length-map held (λ a. f a.inlet)) in
    let setups = c.args.setups.now in
    let low : c.loop-i.i < length setups = (let t = c.loop-i-test.true in let m = c.requires.counts.0 in omega (arith, t, m)) in
    let there = c.setup_at.ensures in
    let is = ap (λ (t : Setup). t.sources) inv.begun.setup ∙ c.requires.setups in
    let whole = c.requires.open.1 in
    let has : store_in setups c.loop-i.i ≡ c.setup_at.result.store = rw there refl in
    sources-fail (g.W.Machine.state c.args.world.now) (g.W.Machine.state c.loop-i.world) (g.W.Machine.state c.open_source.new.world) c.args.core.now c.loop-i.core c.open_source.new.core whole.opening (setup_of c.args.core.now) setups feeds
    c.loop-i.i c.setup_at.result.store (option_map f c.in-Err-open_source.last) c.in-Err-open_source.early n inv.opened.opens.faults (subst AreApartIn (sym is) c.requires.apart) whole.stands has
    (store-by-setup c.loop-i.core setups c.loop-i.i c.setup_at.result is there) inv.begun (subst (AwaitsFrom c.args.core.now c.loop-i.core) inv.count inv.awaits) c.in-Err-open_source.ensures.cause

pub loop-i-preserved : goal.loop-i-preserved
loop-i-preserved g c =
    let f = g.W.Feed.Inlet.state in
    let inv = c.loop-i.invariant in
    let once = c.args.once in
    let plans = c.args.plans.now in
    let setups = c.args.setups.now in
    let held = c.loop-i.sources.items in
    let i = c.loop-i.i in
    let plan = c.index-plans-i.result in
    let source = c.in-Ok-open_source.source in
    let e = c.in-Ok-open_source.ensures in
    let there = slice_get_read plans (length plans) i plan refl c.loop-i-test.true c.index-plans-i.is in
    let low : i < length setups = (let t = c.loop-i-test.true in let m = c.requires.counts.0 in omega (arith, t, m)) in
    let on = c.setup_at.ensures in
    let asked = slice_get-map (λ plan. inlet_asked once plan.spec) plans i plan there in
    let feeds = map (λ a. f a.inlet) held in
    let view = λ (a : SourceActor g.row.R.Denot g.row.W-Feed.Denot). source_view a.spec (actor (f a.inlet) a.reader a.buffer.items a.position a.bad_frames) (g.R.Router.dests a.router) in
    let views = map view held in
    let n : length feeds ≡ i = length-map held (λ a. f a.inlet) ∙ inv.count in
    let m : length views ≡ i = length-map held view ∙ inv.count in
    let spec = inlet_asked once plan.spec in
    let at : slice_get (inlets_asked once plans) (length feeds) ≡ Some spec = ap (slice_get (inlets_asked once plans)) n ∙ asked in
    let old = g.W.Machine.state c.args.world.now in
    let new = g.W.Machine.state c.open_source.new.world in
    let first = c.args.core.now in
    let here = inv.awaits.positions i (let k = inv.count in omega (arith, k)) ∙ ap (position_at first) (sym n) in
    let is = ap (λ (t : Setup). t.sources) inv.begun.setup ∙ c.requires.setups in
    let whole = c.requires.open.1 in
    let next = begun-next first c.loop-i.core c.open_source.new.core whole.opening (setup_of first) feeds (f source.inlet) i (sym n) (subst AreApartIn (sym is) c.requires.apart) whole.stands inv.begun
    (subst (AwaitsFrom first c.loop-i.core) inv.count inv.awaits) e.begins in
    let long = c.push_reserved.ensures.items in
    let more = ap (map (λ a. f a.inlet)) long ∙ map-push (λ a. f a.inlet) held source in
    let count : length c.push_reserved.new.self.items ≡ i + 1 = (let a = ap length long in let b = inv.count in grind (arith, a, b)) in
    record {
      opened = subst (λ (fs : _). OpensAt old new (inlets_asked once plans) (position_at first) fs) (sym more)
          (opened-at-more old (g.W.Machine.state c.loop-i.world) new (inlets_asked once plans) (position_at first) feeds spec (Some (f source.inlet)) (position_at c.loop-i.core i) inv.opened at here e.opened);
      begun = subst (λ (fs : _). HasBegun first c.open_source.new.core (rewinds_from (position_at first) 0 (places_of fs))) (sym more) next.begun;
      awaits = subst (AwaitsFrom first c.open_source.new.core) (sym count) next.awaits;
      made = subst (λ (vs : _). AreSourcesFor plans setups vs) (sym (ap (map view) long ∙ map-push view held source))
          (sources-more plans setups views plan c.setup_at.result (view source) inv.made (ap (slice_get plans) m ∙ there) (ap (slice_get setups) m ∙ on)
          (subst (λ k. IsSourceFor k plan c.setup_at.result.store (view source)) (sym m) e.source));
      taken = ap (λ rs. rs ++ c.pop_front.new.self.items) (ap (map (λ a. a.router)) long ∙ map-push (λ a. a.router) held source ∙ ap (λ r. map (λ a. a.router) held ++ r ∷ []) e.router)
          ∙ append_assoc (map (λ a. a.router) held) (c.in-Some.router ∷ []) c.pop_front.new.self.items ∙ ap (λ rs. map (λ a. a.router) held ++ rs) (sym c.in-Some.ensures.items) ∙ inv.taken;
      count = count;
      room = (let k = c.push_reserved.ensures.capacity in let r = inv.room in omega (arith, k, r));
    }

pub returns-clause-sources : goal.returns-clause-sources
returns-clause-sources g c =
    let inv = c.loop-i.invariant in
    let held = c.loop-i.sources.items in
    let view = λ (a : SourceActor g.row.R.Denot g.row.W-Feed.Denot). source_view a.spec (actor (g.W.Feed.Inlet.state a.inlet) a.reader a.buffer.items a.position a.bad_frames) (g.R.Router.dests a.router) in
    let end : c.loop-i.i ≡ length c.args.plans.now = omega (arith, c.loop-i-test.false, c.loop-i.auto.i-end) in
    record { all = length-map held view ∙ inv.count ∙ end; each = inv.made }

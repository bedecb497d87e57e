-- Lemmas on the run of a plan: from its parts to the whole.
use Rattle.std.proofs.Common.{◌≡◌, ◌≤◌, ◌<◌, ◌⊎◌, ◌+◌, inl, inr, ℕ, Bool, List, [], ◌∷◌, ◌++◌, length, map, Some, None, Option, Ok, Err, refl, sym, ap, ◌∙◌, arith, slice_get, subst}
use Rattle.std.specs.Prelude.{option_to_list, is_some, Result, IfOk, IfSome}
use Rattle.std.specs.Result.{result_ok}
use Rattle.std.proofs.lemmas.List.{append-nil, length-map}
use Rattle.sg_list.proofs.ListLemmas.{slice_get-some, slice_get-below, slice_get-map}
use Rattle.sg_device.specs.Disk.{DiskState}
use Rattle.sg_device.specs.Inlet.{InletState}
use Rattle.sg_device.specs.Outlet.{OutletState}
use Rattle.sg_outside.specs.World.{WorldState, Files}
use Rattle.sg_outside.specs.declared.request.StoreSpec.{StoreSpec}
use Rattle.sg_msg.specs.declared.offer.Offer.{Offer}
use Rattle.sg_frame.specs.Records.{Record}
use Rattle.sg_machine.specs.declared.event.Act.TheVariants.{Look}
use Rattle.sg_machine.specs.declared.event.Event.{Event}
use Rattle.sg_machine.specs.declared.setup.Setup.{Setup}
use Rattle.sg_counter.specs.Bringing.{store_in}
use Rattle.sg_actor.specs.SourceTurns.{actor}
use Rattle.sg_actor.specs.declared.dest.DestActor.{DestActor}
use Rattle.sg_actor.specs.declared.settings.SourceSpec.{SourceSpec}
use Rattle.sg_actor.specs.declared.source.SourceActor.{SourceActor}
use Rattle.sg_stable.specs.declared.fault.StoreRefusal.{StoreRefusal}
use Rattle.sg_stable.specs.declared.fault.StoreRefusal.TheVariants.{Damage as StoreDamage, DiskFault as StoreFault}
use Rattle.sg_stores.specs.Stores.{StoreState}
use Rattle.sg_stores.specs.declared.answers.CoreRefusal.{CoreRefusal}
use Rattle.sg_stores.specs.declared.answers.CoreRefusal.TheVariants.{Damage as CoreDamage, DiskFault as CoreFault, NoMemory as CoreNoMemory}
use Rattle.sg_standing.specs.States.{CoreState}
use Rattle.sg_core.specs.Opening.{IsOpen, IsUnopened}
use Rattle.sg_turns.specs.Actors.{AreSources, AreDests}
use Rattle.sg_run_plan.specs.declared.outlet.OutletPlan.{OutletPlan}
use Rattle.sg_serve.specs.Actors.{source_view, dest_view, AreSourcesFor, AreDestsFor, AllBeginAt}
use Rattle.sg_serve.specs.Devices.{with_all_closed, OpensStores, OpensInlets, ClosesStores, ClosesInlets, ClosesOutlets, inlets_asked, outlets_asked}
use Rattle.sg_serve.specs.Early.{StoresFail, InletsFail, SourcesFail}
use Rattle.sg_serve.specs.Exits.{Out, outlets_in, inners_in, openers_in, stores_in, singles, present, AreLeft}
use Rattle.sg_serve.specs.Overflows.{overflow_specs, AreRests, LastMisses, WaysFail}
use Rattle.sg_serve.specs.Plan.{IsRunnable, AllKnow}
use Rattle.sg_serve.specs.Rewinds.{position_at, places_of, rewinds_from, HasBegun, FailsBehind}
use Rattle.sg_serve.specs.Run.{CoreRun, Reached, reached_by, ClosesAll, ClosesHeld, FailsLast, StaysUnserved, HoldsRun, PlanRunHolds, RestsWithout, RoseAt, HasEarlyCause, HasEnding, early_of, RunsPlan, RunsOver, DestsEnd, RunsDests}
use Rattle.sg_serve.specs.declared.ending.Device.TheVariants.{Store, Inlet, Dest}
use Rattle.sg_serve.specs.declared.ending.Early.{Early}
use Rattle.sg_serve.specs.declared.ending.Early.TheVariants.{OpenFault, Damage, DiskFault, NoMemory}
use Rattle.sg_serve.specs.declared.ending.PlanEnded.{PlanEnded}
use Rattle.sg_serve.specs.declared.ending.PlanEnded.TheVariants.{Before, Ran}
use Rattle.sg_run_plan.specs.declared.plan.RunPlan.{RunPlan}
use Rattle.sg_serve.proofs.ActorLemmas.{fetching-at, one-wider}
use Rattle.sg_serve.proofs.DeviceLemmas.{rose-wider, inlets-none, closed-join}
use Rattle.sg_serve.proofs.OutLemmas.{outs-none, left-none, left-lie, left-outlets, left-whole, left-counts}
use Rattle.sg_stores.proofs.OpenLemmas.{opened-later}

-- Closing.

pub closes-all : (old w1 w2 new : WorldState) (disks : List DiskState) (feeds : List InletState) (outs : List Out) → ClosesStores old w1 disks → ClosesInlets w1 w2 feeds → ClosesOutlets w2 new outs → ClosesHeld old new disks feeds outs
closes-all old w1 w2 new disks feeds outs a b (closed, left, c) =
    let drains = singles (inners_in closed) (openers_in closed) in
    let openers = present (openers_in closed) in (
      closed,
      left,
      c
          ∙ ap (λ (m : WorldState). record m { outlets = with_all_closed m.outlets drains; paths = with_all_closed m.paths openers; stores = with_all_closed m.stores (stores_in closed) }) b
          ∙ ap (λ (m : WorldState). record m { inlets = with_all_closed m.inlets feeds; outlets = with_all_closed m.outlets drains; paths = with_all_closed m.paths openers; stores = with_all_closed m.stores (stores_in closed) }) a
          ∙ ap (λ l. record old { stores = l; inlets = with_all_closed old.inlets feeds; outlets = with_all_closed old.outlets drains; paths = with_all_closed old.paths openers }) (closed-join old.stores disks (stores_in closed)),
    )

-- Actors.

pub are-dests : {O : Type 0} (state : O → OutletState) (once : Bool) (plans : List OutletPlan) (setup : Setup) (actors : List (DestActor O)) → AreDestsFor once plans (map (λ (a : DestActor O). dest_view a.spec a.outage (state a.outlet)) actors)
    → length actors ≡ length plans → length plans ≡ length setup.dests → AreDests state setup actors
are-dests {O} state once plans setup actors are all count = record {
  all = all ∙ count;
  each = λ d a h.
      let low = slice_get-below actors d a h in
      let plan = slice_get-some plans d (omega (arith, low, all)) in
      let view = slice_get-map (λ (b : DestActor O). dest_view b.spec b.outage (state b.outlet)) actors d a h in
      let is = are d plan.0 (dest_view a.spec a.outage (state a.outlet)) plan.1 view in
      record { number = ap (λ s. s.dest) (is.is).spec_is; failures = (is.is).failures };
}

pub are-sources : {R I : Type 0} (state : I → InletState) (inlets dests : R → ℕ) (plan : RunPlan) (routers : List R) (setup : Setup) (actors : List (SourceActor R I)) → setup ≡ plan.setup → IsRunnable plan → AllKnow inlets dests plan routers
    → AreSourcesFor plan.inlets.items plan.setup.sources (map (λ (a : SourceActor R I). source_view a.spec (actor (state a.inlet) a.reader a.buffer.items a.position a.bad_frames) (dests a.router)) actors)
    → map (λ (a : SourceActor R I). a.router) actors ≡ routers → length actors ≡ length plan.inlets.items → AreSources state inlets dests setup actors
are-sources {R} {I} state inlets dests plan routers setup actors is runnable know are same all = subst (λ s. AreSources state inlets dests s actors) (sym is) (record {
  all = all ∙ sym runnable.sources;
  each = λ i a h.
      let low = slice_get-below actors i a h in
      let p = slice_get-some plan.inlets.items i (omega (arith, low, all)) in
      let s = slice_get-some plan.setup.sources i (let n = runnable.sources in omega (arith, low, all, n)) in
      let view = slice_get-map (λ (b : SourceActor R I). source_view b.spec (actor (state b.inlet) b.reader b.buffer.items b.position b.bad_frames) (dests b.router)) actors i a h in
      let for = are i p.0 s.0 (source_view a.spec (actor (state a.inlet) a.reader a.buffer.items a.position a.bad_frames) (dests a.router)) p.1 s.1 view in
      let router : slice_get routers i ≡ Some a.router = ap (λ rs. slice_get rs i) (sym same) ∙ slice_get-map (λ (b : SourceActor R I). b.router) actors i a h in
      let knows = know.each i a.router router in
      let fetch = fetching-at plan.inlets.items i p.0 runnable.fetches p.1 in
      let number : a.spec.inlet ≡ i = ap (λ (t : SourceSpec). t.inlet) for.spec_is in
      let fetches : a.spec.fetch ≡ (p.0).fetch = ap (λ (t : SourceSpec). t.fetch) for.spec_is in
      let stored : a.spec.stored ≡ is_some (s.0).store = ap (λ (t : SourceSpec). t.stored) for.spec_is in
      let has : store_in plan.setup.sources i ≡ (s.0).store = rw s.1 refl in
      record {
        number = number;
        fits = record {
          source = (let n = runnable.sources in omega (arith, low, all, n, number));
          inlet = (let n = knows.0 in omega (arith, low, all, n, number));
          same_dests = knows.1;
          store = stored ∙ ap is_some (sym has ∙ ap (store_in plan.setup.sources) (sym number));
          some = (let n = fetch.some in omega (arith, fetches, n));
          most = (let n = fetch.most in omega (arith, fetches, n));
        };
        ready = (for.is).ready;
      };
})

pub ok-some : {T E : Type 0} (r : Result T E) (P : T → Type 0) → IfOk r P → IfSome (result_ok r) P
ok-some (Ok x) P h = h
ok-some (Err e) P h = tt

-- Without a core.

pub refused-cause : (w : WorldState) (plan : RunPlan) (stores stores' : List DiskState) (refusal : CoreRefusal) → IsUnopened plan.setup stores stores' refusal → HasEarlyCause w w plan (reached_by stores stores' [] [] [] [] None) (early_of refusal)
refused-cause w plan stores stores' (CoreDamage s at) h = inl (refl, record { kinds = h.kinds; kinds_are = h.kinds_are; damaged = (h.refused).reason })
refused-cause w plan stores stores' (CoreFault s) h = let r = (h.refused).reason in inl (r.old, (r.new, (r.was, r.now, r.rose)))
refused-cause w plan stores stores' CoreNoMemory h = tt

pub over-none : {R I O : Type 0} (feed : I → InletState) (drain : O → OutletState) (offers : R → ℕ → Record → List Offer → Type 0) (inlets dests : R → ℕ) (w : WorldState) (plan : RunPlan) (routers : List R) (rounds : ℕ)
    (stores stores' : List DiskState) (closed : List Out) (early : Early) → AreLeft [] closed → RestsWithout plan.setup (reached_by stores stores' [] [] [] [] None) → HasEarlyCause w w plan (reached_by stores stores' [] [] [] [] None) early
    → RunsOver feed drain offers inlets dests w w plan routers rounds stores stores' [] closed (Before early)
over-none feed drain offers inlets dests w plan routers rounds stores stores' closed early left rests cause =
    subst (λ (outs : List Out). RunsOver feed drain offers inlets dests w w plan routers rounds stores stores' [] outs (Before early)) (sym (left-none closed left)) (record {
      inlets_opened = [];
      outs = [];
      core = None;
      between = w;
      opens_inlets = inlets-none w (inlets_asked plan.once plan.inlets.items);
      opens_outlets = outs-none w (outlets_asked plan.once plan.outlets.items) (overflow_specs plan.outlets.items);
      whole = tt;
      holds = record { rests = rests; no_inlets = (refl, refl); no_outlets = (refl, refl) };
      ends = cause;
    })

-- Inlets that couldn't be opened.

-- the store of that number failed behind the opening
rose-behind : (setup : Setup) (stores : List DiskState) (first now : CoreState) (places : List ℕ) (s : ℕ) → IsOpen setup stores first → FailsBehind first now places s → s < length stores
    → RoseAt stores (map (λ (store : StoreState). store.disk) now.stores) s
rose-behind setup stores first now places s open' fails low =
    let a = open'.stores in
    let disk = slice_get-some stores s low in
    let was = slice_get-some first.stores s (let n = a.count in omega (arith, low, n)) in
    let found = slice_get-some open'.founds s (let m = a.looked in omega (arith, low, m)) in
    let kind = slice_get-some open'.kinds s (let m = open'.kinds_are.many in omega (arith, low, m)) in
    let is = slice_get-some now.stores s (let n = a.count in let k = (fails.begun).goes.count in omega (arith, low, n, k)) in
    let later = opened-later kind.0 disk.0 found.0 was.0 (a.each s kind.0 disk.0 found.0 was.0 kind.1 disk.1 found.1 was.1) in
    let rose = fails.rose was.0 is.0 was.1 is.1 in
    (disk.0, ((is.0).disk, (disk.1, slice_get-map (λ (store : StoreState). store.disk) now.stores s is.0 is.1, rose-wider (disk.0).faults ((was.0).disk).faults ((is.0).disk).faults ((is.0).disk).faults later rose (omega arith))))

-- what holds of a core whose rounds don't begin
unserved : (files : Option Files) (plan : RunPlan) (stores : List DiskState) (first now : CoreState) (prelude : List Event) (feeds : List InletState) (outs closed : List Out) → outlets_in closed ≡ outlets_in outs → IsOpen plan.setup stores first → HasBegun first now prelude
    → (prelude ≡ rewinds_from (position_at first) 0 (places_of feeds)) ⊎ FailsLast first feeds prelude → length stores ≡ length plan.stores.items → AllBeginAt files (position_at first) (inlets_asked plan.once plan.inlets.items) feeds
    → (length feeds ≡ length plan.inlets.items) ⊎ (outlets_in outs ≡ []) → (stores' : List DiskState) → stores' ≡ map (λ (store : StoreState). store.disk) now.stores
    → (let run : CoreRun = record { first = first; begun = now; last = now; prelude = prelude; made = [] } in
    let reached = reached_by stores stores' feeds feeds outs closed (Some run) in HoldsRun files plan reached run × StaysUnserved plan reached run)
unserved files plan stores first now prelude feeds outs closed same open' begun how all at order stores' closes = (
  record { core = record { opens = open'; begins = begun; closed = closes }; all_stores = all; begin_at = at },
  record { rewinds = how; core_stays = refl; unserved = refl; inlets_stay = refl; outlets_stay = same; order = order },
)

inlet-cause : (old new : WorldState) (plan : RunPlan) (stores stores' : List DiskState) (feeds : List InletState) (core : Option CoreRun) (early : Early) → InletsFail old new (length feeds) early
    → HasEarlyCause old new plan (reached_by stores stores' feeds feeds [] [] core) early
inlet-cause old new plan stores stores' feeds core (OpenFault (Store n)) h = absurd h
inlet-cause old new plan stores stores' feeds core (OpenFault (Inlet n)) h = h
inlet-cause old new plan stores stores' feeds core (OpenFault (Dest n)) h = absurd h
inlet-cause old new plan stores stores' feeds core (Damage s at) h = absurd h
inlet-cause old new plan stores stores' feeds core (DiskFault s) h = absurd h
inlet-cause old new plan stores stores' feeds core NoMemory h = tt

-- one inlet or none, behind others
abbrev pub with_last : List InletState → Option InletState → List InletState
with_last feeds last = feeds ++ option_to_list last

sources-none : {R I O : Type 0} (feed : I → InletState) (drain : O → OutletState) (offers : R → ℕ → Record → List Offer → Type 0) (inlets dests : R → ℕ) (old new : WorldState) (plan : RunPlan) (routers : List R) (rounds : ℕ)
    (stores stores' : List DiskState) (first now : CoreState) (feeds : List InletState) (last : Option InletState) (early : Early) → IsRunnable plan → length stores ≡ length plan.stores.items → IsOpen plan.setup stores first
    → OpensInlets old new (inlets_asked plan.once plan.inlets.items) (with_last feeds last) → AllBeginAt old.files (position_at first) (inlets_asked plan.once plan.inlets.items) (with_last feeds last)
    → SourcesFail old new first now plan.setup.sources feeds last early → stores' ≡ map (λ (store : StoreState). store.disk) now.stores
    → RunsOver feed drain offers inlets dests old new plan routers rounds stores stores' (with_last feeds last) [] (Before early)
sources-none feed drain offers inlets dests old new plan routers rounds stores stores' first now feeds None early runnable all open' opens at fails closed =
    let none = append-nil feeds in
    let prelude = rewinds_from (position_at first) 0 (places_of (feeds ++ [])) in
    let begun = subst (λ fs. HasBegun first now (rewinds_from (position_at first) 0 (places_of fs))) (sym none) fails.0 in
    let run : CoreRun = record { first = first; begun = now; last = now; prelude = prelude; made = [] } in
    record {
      inlets_opened = feeds ++ [];
      outs = [];
      core = Some run;
      between = new;
      opens_inlets = opens;
      opens_outlets = outs-none new (outlets_asked plan.once plan.outlets.items) (overflow_specs plan.outlets.items);
      whole = tt;
      holds = unserved old.files plan stores first now prelude (feeds ++ []) [] [] refl open' begun (inl refl) all at (inr refl) stores' closed;
      ends = inlet-cause old new plan stores stores' (feeds ++ []) (Some run) early (subst (λ fs. InletsFail old new (length fs) early) (sym none) fails.1);
    }
sources-none feed drain offers inlets dests old new plan routers rounds stores stores' first now feeds (Some last) NoMemory runnable all open' opens at fails closed =
    let prelude = rewinds_from (position_at first) 0 (places_of (feeds ++ last ∷ [])) in
    record {
      inlets_opened = feeds ++ last ∷ [];
      outs = [];
      core = Some (record { first = first; begun = now; last = now; prelude = prelude; made = [] });
      between = new;
      opens_inlets = opens;
      opens_outlets = outs-none new (outlets_asked plan.once plan.outlets.items) (overflow_specs plan.outlets.items);
      whole = tt;
      holds = unserved old.files plan stores first now prelude (feeds ++ last ∷ []) [] [] refl open' fails (inl refl) all at (inr refl) stores' closed;
      ends = tt;
    }
sources-none feed drain offers inlets dests old new plan routers rounds stores stores' first now feeds (Some last) (DiskFault s) runnable all open' opens at fails closed =
    let f = fails.0 in
    let prelude = rewinds_from (position_at first) 0 (places_of feeds) ++ (record { act = Look; failed = f.failed }) ∷ [] in
    let low = (runnable.numbers).positions (length feeds) s fails.1 in
    record {
      inlets_opened = feeds ++ last ∷ [];
      outs = [];
      core = Some (record { first = first; begun = now; last = now; prelude = prelude; made = [] });
      between = new;
      opens_inlets = opens;
      opens_outlets = outs-none new (outlets_asked plan.once plan.outlets.items) (overflow_specs plan.outlets.items);
      whole = tt;
      holds = unserved old.files plan stores first now prelude (feeds ++ last ∷ []) [] [] refl open' f.begun (inr (record { front = feeds; last = last; failed = f.failed; feeds_are = refl; prelude_is = refl })) all at (inr refl) stores' closed;
      ends = inl (subst (λ ds. RoseAt stores ds s) (sym closed) (rose-behind plan.setup stores first now (places_of feeds) s open' f (omega (arith, low, all))));
    }
sources-none feed drain offers inlets dests old new plan routers rounds stores stores' first now feeds (Some last) (OpenFault device) runnable all open' opens at fails closed = absurd fails
sources-none feed drain offers inlets dests old new plan routers rounds stores stores' first now feeds (Some last) (Damage s at') runnable all open' opens at fails closed = absurd fails

pub over-sources : {R I O : Type 0} (feed : I → InletState) (drain : O → OutletState) (offers : R → ℕ → Record → List Offer → Type 0) (inlets dests : R → ℕ) (old new : WorldState) (plan : RunPlan) (routers : List R) (rounds : ℕ)
    (stores stores' : List DiskState) (first now : CoreState) (feeds : List InletState) (last : Option InletState) (ways : List Out) (early : Early) → AreLeft [] ways → IsRunnable plan → length stores ≡ length plan.stores.items → IsOpen plan.setup stores first
    → OpensInlets old new (inlets_asked plan.once plan.inlets.items) (with_last feeds last) → AllBeginAt old.files (position_at first) (inlets_asked plan.once plan.inlets.items) (with_last feeds last)
    → SourcesFail old new first now plan.setup.sources feeds last early → stores' ≡ map (λ (store : StoreState). store.disk) now.stores
    → RunsOver feed drain offers inlets dests old new plan routers rounds stores stores' (with_last feeds last) ways (Before early)
over-sources feed drain offers inlets dests old new plan routers rounds stores stores' first now feeds last ways early left runnable all open' opens at fails closed =
    subst (λ (outs : List Out). RunsOver feed drain offers inlets dests old new plan routers rounds stores stores' (with_last feeds last) outs (Before early)) (sym (left-none ways left))
    (sources-none feed drain offers inlets dests old new plan routers rounds stores stores' first now feeds last early runnable all open' opens at fails closed)

-- The outlets and the rounds.

dest-cause : (old mid new : WorldState) (plan : RunPlan) (stores stores' : List DiskState) (feeds : List InletState) (outs closed : List Out) (core : Option CoreRun) (early : Early) (number : ℕ) → number ≡ length plan.stores.items
    → old.store_faults ≤ mid.store_faults → old.outlet_faults ≤ mid.outlet_faults → old.paths_faults ≤ mid.paths_faults → WaysFail mid new number outs closed early → HasEarlyCause old new plan (reached_by stores stores' feeds feeds outs closed core) early
dest-cause old mid new plan stores stores' feeds outs closed core (OpenFault (Store n)) number is later_stores later later_paths h =
    (inr (h.0 ∙ ap (λ k. k + length (stores_in outs)) is), rose-wider old.store_faults mid.store_faults new.store_faults new.store_faults later_stores h.1 (omega arith))
dest-cause old mid new plan stores stores' feeds outs closed core (OpenFault (Inlet n)) number is later_stores later later_paths h = absurd h
dest-cause old mid new plan stores stores' feeds outs closed core (OpenFault (Dest n)) number is later_stores later later_paths h =
    (h.0 ∙ sym (length-map outs (λ (out : Out). out.outlet)), one-wider old mid new new later later_paths (omega arith) (omega arith) h.1)
dest-cause old mid new plan stores stores' feeds outs closed core (Damage s at) number is later_stores later later_paths h = inr (subst (λ k. LastMisses k outs closed s (StoreDamage at)) is h)
dest-cause old mid new plan stores stores' feeds outs closed core (DiskFault s) number is later_stores later later_paths h = inr (subst (λ k. LastMisses k outs closed s StoreFault) is h)
dest-cause old mid new plan stores stores' feeds outs closed core NoMemory number is later_stores later later_paths h = tt

-- the stores of ways out stay where those are closed
left-options : (outs closed : List Out) → AreLeft outs closed → map (λ (out : Out). out.store) closed ≡ map (λ (out : Out). out.store) outs
left-options [] [] left = refl
left-options [] (c ∷ cs) left = absurd left
left-options (o ∷ os) [] left = absurd left
left-options (o ∷ os) (c ∷ cs) left =
    ap (λ (ds : List (Option DiskState)). c.store ∷ ds) (left-options os cs left.1) ∙ ap (λ (d : Option DiskState). d ∷ map (λ (out : Out). out.store) os) (left.0).store

left-stores : (outs closed : List Out) → AreLeft outs closed → stores_in closed ≡ stores_in outs
left-stores outs closed left = ap (λ (ds : List (Option DiskState)). present ds) (left-options outs closed left)

last-misses : (number : ℕ) (opened outs closed : List Out) (s : ℕ) (refusal : StoreRefusal) → stores_in closed ≡ stores_in outs → LastMisses number opened outs s refusal → LastMisses number opened closed s refusal
last-misses number opened outs closed s refusal same m = record {
  front = m.front;
  before = m.before;
  after = m.after;
  opened_are = m.opened_are;
  number_is = m.number_is;
  closed_is = ap (λ (ds : List DiskState). slice_get ds (length m.front)) same ∙ m.closed_is;
  reason = m.reason;
}

ways-left : (old new : WorldState) (number : ℕ) (opened outs closed : List Out) (early : Early) → stores_in closed ≡ stores_in outs → WaysFail old new number opened outs early → WaysFail old new number opened closed early
ways-left old new number opened outs closed (OpenFault (Store n)) same h = h
ways-left old new number opened outs closed (OpenFault (Inlet n)) same h = h
ways-left old new number opened outs closed (OpenFault (Dest n)) same h = h
ways-left old new number opened outs closed (Damage s at) same h = last-misses number opened outs closed s (StoreDamage at) same h
ways-left old new number opened outs closed (DiskFault s) same h = last-misses number opened outs closed s StoreFault same h
ways-left old new number opened outs closed NoMemory same h = tt

-- the same with the ways out as they are closed
dests-left : {R I O : Type 0} (feed : I → InletState) (drain : O → OutletState) (offers : R → ℕ → Record → List Offer → Type 0) (inlets dests : R → ℕ) (old new : WorldState) (once : Bool) (plans : List OutletPlan) (rounds : ℕ)
    (begun last : CoreState) (sources : List (SourceActor R I)) (feeds' : List InletState) (opened outs closed : List Out) (ending : PlanEnded) → AreLeft outs closed
    → DestsEnd feed drain offers inlets dests old new once plans rounds begun last sources feeds' opened outs ending → DestsEnd feed drain offers inlets dests old new once plans rounds begun last sources feeds' opened closed ending
dests-left feed drain offers inlets dests old new once plans rounds begun last sources feeds' opened outs closed (Before early) left m = record {
  stays = m.stays;
  closes_inlets = m.closes_inlets;
  closes_outlets = left-outlets outs closed left ∙ m.closes_outlets;
  cause = ways-left old new (length begun.stores) opened outs closed early (left-stores outs closed left) m.cause;
}
dests-left feed drain offers inlets dests old new once plans rounds begun last sources feeds' opened outs closed (Ran ended counts) left m =
    record {
      sources_then = m.sources_then;
      dests_first = m.dests_first;
      dests_then = m.dests_then;
      serves = m.serves;
      counted = m.counted;
      are_dests = m.are_dests;
      all = m.all;
      closes_inlets = m.closes_inlets;
      outlets_opened = m.outlets_opened;
      outlets_closed = m.outlets_closed ∙ sym (left-outlets outs closed left);
      held = m.held;
      rests = left-counts once (length begun.stores) plans outs closed counts left m.rests;
    }

pub over-dests : {R I O : Type 0} (feed : I → InletState) (drain : O → OutletState) (offers : R → ℕ → Record → List Offer → Type 0) (inlets dests : R → ℕ) (old mid new : WorldState) (plan : RunPlan) (routers : List R) (rounds : ℕ)
    (stores stores' : List DiskState) (first begun : CoreState) (sources : List (SourceActor R I)) (feeds' : List InletState) (outs closed : List Out) (ending : PlanEnded) → AreLeft outs closed → length stores ≡ length plan.stores.items → IsOpen plan.setup stores first
    → OpensInlets old mid (inlets_asked plan.once plan.inlets.items) (map (λ (a : SourceActor R I). feed a.inlet) sources) → length sources ≡ length plan.inlets.items
    → AllBeginAt old.files (position_at first) (inlets_asked plan.once plan.inlets.items) (map (λ (a : SourceActor R I). feed a.inlet) sources)
    → HasBegun first begun (rewinds_from (position_at first) 0 (places_of (map (λ (a : SourceActor R I). feed a.inlet) sources)))
    → AreSourcesFor plan.inlets.items plan.setup.sources (map (λ (a : SourceActor R I). source_view a.spec (actor (feed a.inlet) a.reader a.buffer.items a.position a.bad_frames) (dests a.router)) sources)
    → map (λ (a : SourceActor R I). a.router) sources ≡ routers
    → RunsDests feed drain offers inlets dests mid new plan.once plan.outlets.items rounds begun sources stores' feeds' outs ending
    → RunsOver feed drain offers inlets dests old new plan routers rounds stores stores' feeds' closed ending
over-dests {R} {I} {O} feed drain offers inlets dests old mid new plan routers rounds stores stores' first begun sources feeds' outs closed (Before early) left all open' opens count at begins are same part =
    let feeds = map (λ (a : SourceActor R I). feed a.inlet) sources in
    let ways = part.outs_opened in
    let m = dests-left feed drain offers inlets dests mid new plan.once plan.outlets.items rounds begun part.last sources feeds' ways outs closed (Before early) left part.ends in
    let prelude = rewinds_from (position_at first) 0 (places_of feeds) in
    let run : CoreRun = record { first = first; begun = begun; last = begun; prelude = prelude; made = [] } in
    let closes : stores' ≡ map (λ (store : StoreState). store.disk) begun.stores = part.closes_stores ∙ ap (λ (c : CoreState). map (λ (store : StoreState). store.disk) c.stores) m.stays in
    let many : length feeds ≡ length plan.inlets.items = length-map sources (λ (a : SourceActor R I). feed a.inlet) ∙ count in
    let h = unserved old.files plan stores first begun prelude feeds ways closed m.closes_outlets open' begins (inl refl) all at (inl many) stores' closes in
    let later_stores : old.store_faults ≤ mid.store_faults = (let e = ap (λ (w : WorldState). w.store_faults) opens.state in omega (arith, e)) in
    let later : old.outlet_faults ≤ mid.outlet_faults = (let e = ap (λ (w : WorldState). w.outlet_faults) opens.state in omega (arith, e)) in
    let later_paths : old.paths_faults ≤ mid.paths_faults = (let e = ap (λ (w : WorldState). w.paths_faults) opens.state in omega (arith, e)) in
    let number : length begun.stores ≡ length plan.stores.items = (let n = (open'.stores).count in let k = (begins.goes).count in omega (arith, n, k, all)) in
    subst (λ fs. RunsOver feed drain offers inlets dests old new plan routers rounds stores stores' fs closed (Before early)) (sym m.closes_inlets) (record {
      inlets_opened = feeds;
      outs = ways;
      core = Some run;
      between = mid;
      opens_inlets = opens;
      opens_outlets = part.opens;
      whole = left-whole outs closed left part.whole;
      holds = h;
      ends = dest-cause old mid new plan stores stores' feeds ways closed (Some run) early (length begun.stores) number later_stores later later_paths m.cause;
    })
over-dests {R} {I} {O} feed drain offers inlets dests old mid new plan routers rounds stores stores' first begun sources feeds' outs closed (Ran ended counts) left all open' opens count at begins are same part =
    let feeds = map (λ (a : SourceActor R I). feed a.inlet) sources in
    let m = dests-left feed drain offers inlets dests mid new plan.once plan.outlets.items rounds begun part.last sources feeds' part.outs_opened outs closed (Ran ended counts) left part.ends in
    let prelude = rewinds_from (position_at first) 0 (places_of feeds) in
    let run : CoreRun = record { first = first; begun = begun; last = part.last; prelude = prelude; made = m.serves.0 } in
    let many : length feeds ≡ length plan.inlets.items = length-map sources (λ (a : SourceActor R I). feed a.inlet) ∙ count in
    let number : length begun.stores ≡ length plan.stores.items = (let n = (open'.stores).count in let k = (begins.goes).count in omega (arith, n, k, all)) in
    record {
      inlets_opened = feeds;
      outs = part.outs_opened;
      core = Some run;
      between = mid;
      opens_inlets = opens;
      opens_outlets = part.opens;
      whole = left-whole outs closed left part.whole;
      holds = (
        record { core = record { opens = open'; begins = begins; closed = part.closes_stores }; all_stores = all; begin_at = at },
        record {
          rewinds = refl;
          runs = record {
            sources = sources;
            sources_then = m.sources_then;
            dests_first = m.dests_first;
            dests_then = m.dests_then;
            account = m.serves.1.0;
            number = m.serves.1.1.0;
            serves = m.serves.1.1.1;
            counted = m.counted;
            same_routers = same;
            are_sources = are;
            are_dests = m.are_dests;
            inlets_opened = refl;
            inlets_closed = m.closes_inlets;
            outlets_opened = m.outlets_opened;
            outlets_closed = m.outlets_closed;
          };
          all_inlets = many;
          all_outlets = length-map part.outs_opened (λ (out : Out). out.outlet) ∙ m.all;
          held = m.held;
          rests = subst (λ n. IfSome counts (AreRests plan.once n plan.outlets.items closed)) number m.rests;
        },
      );
      ends = tt;
    }

-- The whole.

-- more of the world around a part: its counts of faults don't fall
record Widens (old new : WorldState) : Type 0 where
  stores : old.store_faults ≤ new.store_faults
  inlets : old.inlet_faults ≤ new.inlet_faults
  outlets : old.outlet_faults ≤ new.outlet_faults
  paths : old.paths_faults ≤ new.paths_faults

cause-wider : (old w1 w2 new : WorldState) (plan : RunPlan) (reached : Reached) (early : Early) → Widens old w1 → Widens w2 new → HasEarlyCause w1 w2 plan reached early → HasEarlyCause old new plan reached early
cause-wider old w1 w2 new plan reached (OpenFault (Store n)) a b h = (h.0, rose-wider old.store_faults w1.store_faults w2.store_faults new.store_faults a.stores h.1 b.stores)
cause-wider old w1 w2 new plan reached (OpenFault (Inlet n)) a b h = (h.0, rose-wider old.inlet_faults w1.inlet_faults w2.inlet_faults new.inlet_faults a.inlets h.1 b.inlets)
cause-wider old w1 w2 new plan reached (OpenFault (Dest n)) a b h = (h.0, one-wider old w1 w2 new a.outlets a.paths b.outlets b.paths h.1)
cause-wider old w1 w2 new plan reached (Damage s at) a b h = h
cause-wider old w1 w2 new plan reached (DiskFault s) a b h = h
cause-wider old w1 w2 new plan reached NoMemory a b h = tt

ending-wider : (old w1 w2 new : WorldState) (plan : RunPlan) (reached : Reached) (ending : PlanEnded) → Widens old w1 → Widens w2 new → HasEnding w1 w2 plan reached ending → HasEnding old new plan reached ending
ending-wider old w1 w2 new plan reached (Before early) a b h = cause-wider old w1 w2 new plan reached early a b h
ending-wider old w1 w2 new plan reached (Ran ended counts) a b h = tt

-- the closing changes none of them, and the opening of stores only theirs
closes-widens : (old new : WorldState) (disks : List DiskState) (feeds : List InletState) (outs : List Out) → ClosesAll old new disks feeds outs → Widens old new
closes-widens old new disks feeds outs closes =
    let s = ap (λ (w : WorldState). w.store_faults) closes in
    let i = ap (λ (w : WorldState). w.inlet_faults) closes in
    let o = ap (λ (w : WorldState). w.outlet_faults) closes in
    let p = ap (λ (w : WorldState). w.paths_faults) closes in
    record { stores = omega (arith, s); inlets = omega (arith, i); outlets = omega (arith, o); paths = omega (arith, p) }

opens-widens : (old new : WorldState) (specs : List StoreSpec) (disks : List DiskState) → OpensStores old new specs disks → Widens old new
opens-widens old new specs disks opens =
    let i = ap (λ (w : WorldState). w.inlet_faults) opens.state in
    let o = ap (λ (w : WorldState). w.outlet_faults) opens.state in
    let p = ap (λ (w : WorldState). w.paths_faults) opens.state in
    record { stores = opens.faults; inlets = omega (arith, i); outlets = omega (arith, o); paths = omega (arith, p) }

pub runs-over : {R I O : Type 0} (feed : I → InletState) (drain : O → OutletState) (offers : R → ℕ → Record → List Offer → Type 0) (inlets dests : R → ℕ) (old w1 w2 new : WorldState) (plan : RunPlan) (routers : List R) (rounds : ℕ)
    (stores stores' : List DiskState) (feeds' : List InletState) (outs : List Out) (ending : PlanEnded) → OpensStores old w1 plan.stores.items stores
    → ((closed : List Out) → AreLeft outs closed → RunsOver feed drain offers inlets dests w1 w2 plan routers rounds stores stores' feeds' closed ending) → ClosesHeld w2 new stores' feeds' outs
    → RunsPlan feed drain offers inlets dests old new plan routers rounds ending
runs-over feed drain offers inlets dests old w1 w2 new plan routers rounds stores stores' feeds' outs ending opens over (closed, left, closes) =
    let part = over closed left in
    let reached = reached_by stores stores' part.inlets_opened feeds' part.outs closed part.core in
    let files : w1.files ≡ old.files = ap (λ (w : WorldState). w.files) opens.state in (
      reached,
      record {
        devices = record {
          with_stores = w1;
          with_inlets = part.between;
          with_outlets = w2;
          stores = opens;
          inlets = part.opens_inlets;
          outlets = part.opens_outlets;
          outlets_are = refl;
          closed_are = refl;
          closes = closes;
          lie = left-lie outs closed left;
          whole = part.whole;
        };
        holds = subst (λ fs. PlanRunHolds feed drain offers inlets dests fs plan routers rounds reached part.core ending) files part.holds;
        ends = ending-wider old w1 w2 new plan reached ending (opens-widens old w1 plan.stores.items stores opens) (closes-widens w2 new stores' feeds' closed closes) part.ends;
      },
    )

stores-cause : (old new : WorldState) (plan : RunPlan) (stores : List DiskState) (early : Early) → StoresFail old new (length stores) early
    → HasEarlyCause old new plan (reached_by stores stores [] [] [] [] None) early
stores-cause old new plan stores (OpenFault (Store n)) h = (inl (h.0, refl), h.1)
stores-cause old new plan stores (OpenFault (Inlet n)) h = absurd h
stores-cause old new plan stores (OpenFault (Dest n)) h = absurd h
stores-cause old new plan stores (Damage s at) h = absurd h
stores-cause old new plan stores (DiskFault s) h = absurd h
stores-cause old new plan stores NoMemory h = tt

pub runs-none : {R I O : Type 0} (feed : I → InletState) (drain : O → OutletState) (offers : R → ℕ → Record → List Offer → Type 0) (inlets dests : R → ℕ) (old w1 new : WorldState) (plan : RunPlan) (routers : List R) (rounds : ℕ)
    (stores : List DiskState) (early : Early) → OpensStores old w1 plan.stores.items stores → StoresFail old w1 (length stores) early → ClosesHeld w1 new stores [] []
    → RunsPlan feed drain offers inlets dests old new plan routers rounds (Before early)
runs-none feed drain offers inlets dests old w1 new plan routers rounds stores early opens fails (closed, left, held) =
    let closes = subst (λ (outs : List Out). ClosesAll w1 new stores [] outs) (left-none closed left) held in
    let reached = reached_by stores stores [] [] [] [] None in
    let same : Widens old old = record { stores = omega arith; inlets = omega arith; outlets = omega arith; paths = omega arith } in (
      reached,
      record {
        devices = record {
          with_stores = w1;
          with_inlets = w1;
          with_outlets = w1;
          stores = opens;
          inlets = inlets-none w1 (inlets_asked plan.once plan.inlets.items);
          outlets = outs-none w1 (outlets_asked plan.once plan.outlets.items) (overflow_specs plan.outlets.items);
          outlets_are = refl;
          closed_are = refl;
          closes = closes;
          lie = tt;
          whole = tt;
        };
        holds = record { rests = inl refl; no_inlets = (refl, refl); no_outlets = (refl, refl) };
        ends = cause-wider old old w1 new plan reached early same (closes-widens w1 new stores [] [] closes) (stores-cause old w1 plan stores early fails);
      },
    )

-- Where a plan's run ends clean.
use Rattle.std.proofs.Common.{◌≡◌, ℕ, ◌<◌, ◌≤◌, List, [], ◌∷◌, ◌++◌, length, map, drop, Some, None, Option, Bool, true, false, refl, sym, ap, ◌∙◌, subst, arith, inl, inr, ◌⊎◌, slice_get, if◌then◌else◌}
use Rattle.std.specs.Prelude.{◌==◌, nat_lt, nat_le, is_some, Contains, IfSome}
use Rattle.std.specs.Option.{option_map, option_map_or}
use Rattle.std.proofs.lemmas.List.{append-nil, length-map, map-append}
use Rattle.sg_list.proofs.ListLemmas.{some-same, slice_get-some, slice_get-below, slice_get-map}
use Rattle.sg_device.specs.Disk.{DiskState}
use Rattle.sg_device.specs.Inlet.{InletState, Part}
use Rattle.sg_device.specs.Outlet.{OutletState}
use Rattle.sg_outside.specs.World.{WorldState, Files}
use Rattle.sg_msg.specs.declared.offer.Offer.{Offer}
use Rattle.sg_frame.specs.Items.{items_of}
use Rattle.sg_frame.specs.Records.{Record, record_of, records_of, records}
use Rattle.sg_frame.specs.Scans.{plain}
use Rattle.sg_stable.specs.Cell.{cell_value}
use Rattle.sg_buffer.specs.Entries.{IsListOf}
use Rattle.sg_codec.specs.declared.kept.Kept.{Kept as Coded}
use Rattle.sg_machine.specs.declared.event.Act.{Act}
use Rattle.sg_machine.specs.declared.event.Act.TheVariants.{Admit, Settle, Refill, Store, Rewind, Look}
use Rattle.sg_machine.specs.declared.event.Admission.{Admission}
use Rattle.sg_machine.specs.declared.event.Event.{Event}
use Rattle.sg_machine.specs.declared.setup.BufferSetup.{BufferSetup}
use Rattle.sg_machine.specs.declared.setup.DestSetup.{DestSetup}
use Rattle.sg_machine.specs.declared.setup.Setup.{Setup}
use Rattle.sg_machine.specs.declared.setup.SourceSetup.{SourceSetup}
use Rattle.sg_machine.specs.declared.state.Dest.{Dest}
use Rattle.sg_machine.specs.declared.state.InletRecords.{InletRecords}
use Rattle.sg_machine.specs.declared.state.State.{State}
use Rattle.sg_machine.specs.Counts.{ends_by, ends_admitted, opening_from}
use Rattle.sg_machine.specs.Effects.{ends_of}
use Rattle.sg_machine.specs.Runs.{BufferedEntry, opened_inlet, opened, after_all}
use Rattle.sg_machine.specs.Safe.{rises}
use Rattle.sg_machine.proofs.InletLemmas.{counts-inlet}
use Rattle.sg_machine.proofs.RunLemmas.{both-true}
use Rattle.sg_counter.specs.Exchanges.{Exchange, OfSource}
use Rattle.sg_sinks.specs.Standing.{sink_of}
use Rattle.sg_sinks.specs.States.{SinkState}
use Rattle.sg_stores.specs.Positions.{stored_in, position_of}
use Rattle.sg_stores.specs.Stores.{StoreState, coded}
use Rattle.sg_standing.specs.Images.{position_in}
use Rattle.sg_standing.specs.Standing.{IsAt, HoldsPosition, IsStoredPosition, is_broken}
use Rattle.sg_standing.specs.States.{CoreState, setup_of}
use Rattle.sg_core.specs.Opening.{NumberStores}
use Rattle.sg_actor.specs.Bringing.{last_end}
use Rattle.sg_actor.specs.Sources.{end_of, AreOf}
use Rattle.sg_actor.specs.SourceTurns.{actor}
use Rattle.sg_actor.specs.declared.settings.SourceSpec.{SourceSpec}
use Rattle.sg_actor.specs.declared.source.SourceActor.{SourceActor}
use Rattle.sg_turns.specs.Actors.{source_seen, SourceTook}
use Rattle.sg_turns.specs.declared.ended.Ended.TheVariants.{Quiet}
use Rattle.sg_turns.proofs.LawLemmas.{read-on}
use Rattle.sg_run_plan.specs.declared.inlet.InletPlan.{InletPlan}
use Rattle.sg_laws.specs.Texts.{admissions_by, admissions_of}
use Rattle.sg_serve.specs.Actors.{SourceView, source_view}
use Rattle.sg_serve.specs.Counts.{first_fault}
use Rattle.sg_serve.specs.Devices.{inlet_asked}
use Rattle.sg_serve.specs.Plan.{IsRunnable}
use Rattle.sg_serve.specs.Rewinds.{position_at, places_of, rewinds_from}
use Rattle.sg_serve.specs.Run.{CoreRun, Reached, HoldsRun, IsServed, PlanRunHolds, RunsWith}
use Rattle.sg_serve.specs.declared.counts.Counts.{Counts}
use Rattle.sg_serve.specs.declared.ending.PlanEnded.TheVariants.{Ran as RanSo}
use Rattle.sg_run_plan.specs.declared.plan.RunPlan.{RunPlan}
use Rattle.sg_serve.proofs.ActorLemmas.{store-by-setup}
use Rattle.sg_laws.proofs.PreludeLemmas.{get-back, still-rewinds}
use Rattle.sg_laws.proofs.SourceLemmas.{nothing-read}
use Rattle.sg_laws.specs.Ending.{EndsRounds, IsEnded, CleanRunsEnd}
use Rattle.sg_laws.specs.Resting.{brought_by, spec_for}
use Rattle.sg_laws.proofs.RoundLemmas.{inlet-of-setup}
use Rattle.sg_laws.specs.Pieces.{Piece, behind}
use Rattle.sg_laws.specs.Resuming.{IsReadingBegun}
use Rattle.sg_laws.proofs.ItemRestLemmas.{reading-ends}
use Rattle.sg_laws.specs.Covered.{IsFile, listed, list_at}
use Rattle.sg_laws.specs.Adding.{EndsClean}
use Rattle.sg_laws.proofs.HasLemmas.{has-nil, has-cons, has-map}
use Rattle.sg_laws.proofs.BeginLemmas.{opened-inlet-at}
use Rattle.sg_laws.proofs.PieceLemmas.{ends, last_of, behind-has, behind-rises, rising}
use Rattle.sg_laws.specs.Happened.{AreImagesOf, AreListsBy, held_by, positions_by, EachChoice, AllTell, AreOfFiles, TellFiles, files_of}
use Rattle.sg_laws.specs.Clean.{AreFilesByLines, PlanRunsEndClean}
use Rattle.sg_laws.proofs.GaveLemmas.{Gave, gave-file}
use Rattle.sg_laws.proofs.HappenedLemmas.{given-pieces, files-here, fetch-some, happens}
use Rattle.sg_laws.proofs.MergeLemmas.{record_piece}
use Rattle.sg_laws.proofs.OpenLemmas.{contents, contents-images, contents-lists}
use Rattle.sg_laws.proofs.PlaceLemmas.{rewinds-here, stands-place}
use Rattle.sg_laws.proofs.RunLemmas.{Held, held-of, AreEnds, begun-first, files-rise}

abbrev pub ListsAreOne : Type 0
ListsAreOne = (a b : List Coded) (bytes : List ℕ) → IsListOf a bytes → IsListOf b bytes → a ≡ b

-- Ends that rise.

last-place : (from : ℕ) (rs : List Admission) → last_of from (ends_of rs) ≡ last_end from rs
last-place from [] = refl
last-place from (r ∷ rs) = last-place r.end rs

lt-parts : (from x : ℕ) (es : List ℕ) → rises from (x ∷ es) ≡ true → (from < x) × (rises x es ≡ true)
lt-parts from x es h = let p = both-true (nat_lt from x) (rises x es) h in let first = p.0 in (grind (arith, first), p.1)

from-below : (from : ℕ) (es : List ℕ) → rises from es ≡ true → from ≤ last_of from es
from-below from [] r = omega arith
from-below from (x ∷ es) r = let p = lt-parts from x es r in let q = from-below x es p.1 in let low = p.0 in omega (arith, low, q)

each-below : (from : ℕ) (es : List ℕ) (x : ℕ) → rises from es ≡ true → Contains es x → x ≤ last_of from es
each-below from [] x r c = absurd (has-nil x c)
each-below from (y ∷ es) x r c =
    let p = lt-parts from y es r in
    elim (has-cons y es x c) [
      | inl e ↦ (let q = from-below y es p.1 in omega (arith, e, q))
      | inr t ↦ each-below y es x p.1 t
    ]

-- an item of a file that was read from a place to its end ends no later than the last record
below-if : (place : ℕ) (xs : List Piece) (x : Piece) (b : Bool) → nat_le x.end place ≡ b → Contains xs x → rises place (ends (behind place xs)) ≡ true → x.end ≤ last_of place (ends (behind place xs))
below-if place xs x true q c r = let low : x.end ≤ place = grind (arith, q) in let high = from-below place (ends (behind place xs)) r in omega (arith, low, high)
below-if place xs x false q c r =
    let above : place < x.end = grind (arith, q) in
    each-below place (ends (behind place xs)) x.end r (has-map (λ (z : Piece). z.end) (behind place xs) x (behind-has place xs x above c))

are-ends : (offers : ℕ → Record → List Offer → Type 0) (spec : SourceSpec) (rs : List Record) (as' : List Admission) → spec.stored ≡ true → AreOf offers spec rs as' → ends (map record_piece rs) ≡ ends_of as'
are-ends offers spec [] [] s h = refl
are-ends offers spec [] (a ∷ as') s h = absurd h
are-ends offers spec (r ∷ rs) [] s h = absurd h
are-ends offers spec (r ∷ rs) (a ∷ as') s h =
    let end : r.item.end ≡ a.end = sym (h.0.ends ∙ ap (λ (b : Bool). end_of b r) s) in
    ap (λ (n : ℕ). n ∷ ends (map record_piece rs)) end ∙ ap (λ (ns : List ℕ). a.end ∷ ns) (are-ends offers spec rs as' s h.1)

-- Where the rounds begin.

ends-one-if : (b : Bool) (rs : List Admission) → (if b then ends_of rs else []) ≡ ends_of (if b then rs else [])
ends-one-if true rs = refl
ends-one-if false rs = refl

ends-one : (i : ℕ) (act : Act) → ends_by i act ≡ ends_of (admissions_by i act)
ends-one i (Admit j rs vs) = ends-one-if (j == i) rs
ends-one i (Settle d n) = refl
ends-one i (Refill d n) = refl
ends-one i (Store j w) = refl
ends-one i (Rewind j) = refl
ends-one i Look = refl

ends-of-all : (i : ℕ) (es : List Event) → ends_admitted i es ≡ ends_of (admissions_of i es)
ends-of-all i [] = refl
ends-of-all i (e ∷ es) =
    ap (λ (xs : List ℕ). xs ++ ends_admitted i es) (ends-one i e.act)
    ∙ ap (λ (xs : List ℕ). ends_of (admissions_by i e.act) ++ xs) (ends-of-all i es)
    ∙ sym (map-append (λ (r : Admission). r.end) (admissions_by i e.act) (admissions_of i es))

ends-none : (i : ℕ) (es : List Event) → admissions_of i es ≡ [] → ends_admitted i es ≡ []
ends-none i es h = ends-of-all i es ∙ ap ends_of h

-- a feed at its opening
record Fed (files : Option Files) (plan : RunPlan) (reached : Reached) (run : CoreRun) (i : ℕ) (closed : InletState) : Type 0 where
  feed : InletState
  at : slice_get reached.inlets i ≡ Some feed
  from : closed.from ≡ feed.place
  place : (feed.place ≡ position_at run.first i) ⊎ (feed.place ≡ 0)
  gave : (bytes : ℕ → List ℕ) → TellFiles files plan reached.inlets bytes → IsFile plan.setup i → Gave (bytes i) closed

fed-at : {R I O : Type 0} (feed : I → InletState) (drain : O → OutletState) (offers : R → ℕ → Record → List Offer → Type 0) (inlets dests : R → ℕ) (files : Option Files) (plan : RunPlan) (routers : List R) (rounds : ℕ) (reached : Reached)
    (run : CoreRun) (counts : Option Counts) → IsRunnable plan → AreOfFiles plan → HoldsRun files plan reached run → (served : IsServed feed drain offers inlets dests plan routers rounds reached run Quiet counts)
    → (i : ℕ) (closed : InletState) → slice_get reached.inlets_closed i ≡ Some closed → Fed files plan reached run i closed
fed-at {R} {I} {O} feed drain offers inlets dests files plan routers rounds reached run counts runnable of_files holds served i closed at_closed =
    let runs = served.runs in
    let turns = runs.account (OfSource i) in
    let took = (runs.serves).took in
    let b = get-back (λ (x : SourceActor R I). feed x.inlet) runs.sources_then i closed (ap (λ (fs : List InletState). slice_get fs i) runs.inlets_closed ∙ at_closed) in
    let low = slice_get-below runs.sources_then i b.0 b.1.0 in
    let a = slice_get-some runs.sources i (let n = took.all_sources in omega (arith, low, n)) in
    let fed : slice_get reached.inlets i ≡ Some (feed (a.0).inlet) = ap (λ (fs : List InletState). slice_get fs i) (sym runs.inlets_opened) ∙ slice_get-map (λ (x : SourceActor R I). feed x.inlet) runs.sources i a.0 a.1 in
    let few = slice_get-below reached.inlets i (feed (a.0).inlet) fed in
    let inlet = slice_get-some plan.inlets.items i (let n = served.all_inlets in omega (arith, few, n)) in
    let low_plan = slice_get-below plan.inlets.items i inlet.0 inlet.1 in
    let setup = slice_get-some plan.setup.sources i (let n = runnable.sources in omega (arith, low_plan, n)) in
    let view_of : SourceActor R I → SourceView = λ x. source_view x.spec (actor (feed x.inlet) x.reader x.buffer.items x.position x.bad_frames) (dests x.router) in
    let for = runs.are_sources i inlet.0 setup.0 (view_of a.0) inlet.1 setup.1 (slice_get-map view_of runs.sources i a.0 a.1) in
    let asked = slice_get-map (λ (p : InletPlan). inlet_asked plan.once p.spec) plan.inlets.items i inlet.0 inlet.1 in
    let begins = holds.begin_at i (inlet_asked plan.once (inlet.0).spec) (feed (a.0).inlet) asked fed in
    let says = offers (a.0).router in
    let count = dests (a.0).router in
    let old = source_seen feed a.0 in
    let new = source_seen feed b.0 in
    let does : SourceTook feed offers inlets dests a.0 b.0 turns = took.sources_took i a.0 b.0 a.1 b.1.0 in
    let reads = read-on says count (a.0).spec old new turns does.took (for.is).ready [] 0 (nothing-read says count (a.0).spec old for.is (begins.fresh).bytes) in
    let from : (feed (b.0).inlet).from ≡ (feed (a.0).inlet).place = (reads.advances).from ∙ sym (begins.fresh).at_from in
    record {
      feed = feed (a.0).inlet;
      at = fed;
      from = sym (ap (λ (f : InletState). f.from) b.1.1) ∙ from;
      place = stands-place files (inlet_asked plan.once (inlet.0).spec) (position_at run.first i) (feed (a.0).inlet) begins.stands;
      gave = λ bytes tell file.
          (let P : InletState → Type 0 = λ f. Gave (bytes i) f in
          subst P b.1.1
          (gave-file files tell.files plan.once (inlet.0).spec (position_at run.first i) (feed (a.0).inlet) (feed (b.0).inlet) (bytes i) tell.told_are (of_files i inlet.0 file inlet.1) (tell.bytes_are i inlet.0 file inlet.1) begins.stands begins.fresh
          (tell.gives i (feed (a.0).inlet) file fed) reads.advances));
    }

-- the store of an inlet holds its stored position
held-store : (stores : List StoreState) (failed : List ℕ) (s place : ℕ) (o : Option StoreState) (broken : Bool) → slice_get stores s ≡ o → HoldsPosition o place broken → (store : StoreState) × ((slice_get stores s ≡ Some store) × (store.position ≡ place))
held-store stores failed s place None broken q h = absurd h
held-store stores failed s place (Some store) broken q h = (store, (q, h.position_is))

stored-at : (core : CoreState) (t : State) (setup : Setup) (i s : ℕ) (source : SourceSetup) → IsAt core t → setup_of core ≡ setup → slice_get setup.sources i ≡ Some source → source.store ≡ Some s
    → (x : InletRecords) × ((slice_get t.inlets i ≡ Some x) × ((store : StoreState) × ((slice_get core.stores s ≡ Some store) × (store.position ≡ x.stored))))
stored-at core t setup i s source at same here has =
    let x = inlet-of-setup core t setup i source at same here in
    let store : (x.0).setup.store ≡ Some s = ap (λ (y : SourceSetup). y.store) x.1.1 ∙ has in
    let P : Option ℕ → Type 0 = λ o. IsStoredPosition core.stores t.failed o (x.0).stored in
    let held = subst P store (at.stores i x.0 x.1.0) in
    (x.0, (x.1.0, held-store core.stores t.failed s (x.0).stored (slice_get core.stores s) _ refl held))

-- the position at which the rounds begin is where the file's reading began
begun-place : (files : Option Files) (plan : RunPlan) (reached : Reached) (run : CoreRun) (i s : ℕ) (source : SourceSetup) (closed : InletState) → HoldsRun files plan reached run → run.prelude ≡ rewinds_from (position_at run.first) 0 (places_of reached.inlets)
    → Fed files plan reached run i closed → slice_get plan.setup.sources i ≡ Some source → source.store ≡ Some s → position_at run.begun i ≡ closed.from
begun-place files plan reached run i s source closed holds rewinds fed here has =
    let o = (holds.core).opens in
    let start = opened plan.setup o.opening in
    let stands = ((holds.core).begins).stands plan.setup o.opening o.stands in
    let setup_begun : setup_of run.begun ≡ plan.setup = ((holds.core).begins).setup ∙ o.setups in
    let x = stored-at run.begun (after_all start run.prelude) plan.setup i s source stands.at setup_begun here has in
    let f : SourceSetup → ℕ = λ y. stored_in run.first.stores y.store in
    let first_sources : (setup_of run.first).sources ≡ plan.setup.sources = ap (λ (y : Setup). y.sources) o.setups in
    let begun_sources : (setup_of run.begun).sources ≡ plan.setup.sources = ap (λ (y : Setup). y.sources) setup_begun in
    let place_at : slice_get (o.opening).places i ≡ Some (f source) = ap (λ (xs : List ℕ). slice_get xs i) o.places ∙ slice_get-map f plan.setup.sources i source here in
    let first_is : f source ≡ position_at run.first i = ap (λ (y : Option ℕ). stored_in run.first.stores y) (sym (store-by-setup run.first plan.setup.sources i source first_sources here)) in
    let c = counts-inlet start run.prelude i (opened_inlet source (f source)) stands.legal (opened-inlet-at plan.setup.sources (o.opening).places i source (f source) here place_at) in
    let is : c.0 ≡ x.0 = some-same c.0 x.0 (sym c.1 ∙ x.1.0) in
    let still = still-rewinds (position_at run.first) (places_of reached.inlets) run.prelude rewinds in
    let unbegun : (x.0).ends ≡ [] = sym (ap (λ (y : InletRecords). y.ends) is) ∙ c.2.ends ∙ ends-none i run.prelude (still.admits i) in
    let unmoved : (x.0).stored ≡ (x.0).opening = (stands.at.sound).unmoved i x.0 x.1.0 unbegun in
    let places : slice_get (places_of reached.inlets) i ≡ Some (fed.feed).place = slice_get-map (λ (y : InletState). y.place) reached.inlets i fed.feed fed.at in
    let either : ((fed.feed).place ≡ f source) ⊎ ((fed.feed).place ≡ 0) = elim fed.place [ inl e ↦ inl (e ∙ sym first_is) | inr e ↦ inr e ] in
    let opening : (x.0).opening ≡ (fed.feed).place =
    sym (ap (λ (y : InletRecords). y.opening) is) ∙ c.2.opening ∙ ap (opening_from i (f source)) rewinds ∙ rewinds-here i (f source) (position_at run.first) 0 i (places_of reached.inlets) (fed.feed).place (omega arith) places first_is either in
    let store = x.1.1 in
    ap (λ (y : Option ℕ). stored_in run.begun.stores y) (store-by-setup run.begun plan.setup.sources i source begun_sources here ∙ has)
    ∙ ap position_of store.1.0 ∙ store.1.1 ∙ unmoved ∙ opening ∙ sym fed.from

pub some-of : {A : Type 0} (o : Option A) → is_some o ≡ true → (x : A) × (o ≡ Some x)
some-of None h = absurd (let wrong : false ≡ true = h in cc)
some-of (Some x) h = (x, refl)

-- the disk of a store at the return
disk-closed : (reached : Reached) (run : CoreRun) (s : ℕ) (store : StoreState) → reached.stores_closed ≡ map (λ (x : StoreState). x.disk) run.last.stores → slice_get run.last.stores s ≡ Some store → slice_get reached.stores_closed s ≡ Some store.disk
disk-closed reached run s store disks at = ap (λ (ds : List DiskState). slice_get ds s) disks ∙ slice_get-map (λ (x : StoreState). x.disk) run.last.stores s store at

-- Lists.

pub no-coded : (list : List BufferedEntry) → map coded list ≡ [] → list ≡ []
no-coded [] h = refl
no-coded (k ∷ list) h = absurd (omega (arith, ap length h))

listed-none-if : (list : List BufferedEntry) (b : Bool) → (b ≡ true → list ≡ []) → (let none : List BufferedEntry = [] in (if b then list else []) ≡ none)
listed-none-if list true h = h refl
listed-none-if list false h = refl

pub listed-none : (a : Option DestSetup) (l : Option (List BufferedEntry)) → ((s : DestSetup) (list : List BufferedEntry) → a ≡ Some s → l ≡ Some list → is_some s.buffer ≡ true → list ≡ []) → listed a l ≡ []
listed-none None l h = refl
listed-none (Some s) None h = refl
listed-none (Some s) (Some list) h = listed-none-if list (is_some s.buffer) (λ b. h s list refl refl b)

clean-list : {R : Type 0} (offers : R → ℕ → Record → List Offer → Type 0) (plan : RunPlan) (routers : List R) (reached : Reached) (run : CoreRun) (made : List Exchange) → ListsAreOne → EndsRounds offers plan routers reached run made → (t : State) → IsAt run.last t → setup_of run.last ≡ plan.setup
    → reached.stores_closed ≡ map (λ (x : StoreState). x.disk) run.last.stores → (images : List (List ℕ)) (lists : List (List BufferedEntry)) → AreImagesOf reached.stores_closed images → AreListsBy plan.setup.dests images lists
    → (d : ℕ) → list_at plan.setup (held_by plan.setup images lists) d ≡ []
clean-list offers plan routers reached run made one e t at same disks images lists are in_lists d =
    listed-none (slice_get plan.setup.dests d) (slice_get lists d)
    (λ s list here there buffer.
    let b = some-of s.buffer buffer in
    let sinks : slice_get (map (λ (k : SinkState). k.setup) run.last.sinks) d ≡ Some s = ap (λ (x : Setup). slice_get x.dests d) same ∙ here in
    let sink = get-back (λ (k : SinkState). k.setup) run.last.sinks d s sinks in
    let dest = get-back (λ (x : Dest). sink_of (is_broken t.failed x) x) t.dests d sink.0 (ap (λ (ks : List SinkState). slice_get ks d) (sym at.sinks) ∙ sink.1.0) in
    let setup : (dest.0).setup ≡ s = ap (λ (k : SinkState). k.setup) dest.1.1 ∙ sink.1.1 in
    let backed = at.buffers d dest.0 b.0 dest.1.0 (ap (λ (x : DestSetup). x.buffer) setup ∙ b.1) in
    let disk = disk-closed reached run (b.0).store backed.store disks backed.there in
    let image = are (b.0).store (backed.store).disk disk in
    let none = e.lists d s b.0 (backed.store).disk here b.1 disk image.0 image.1.1 in
    no-coded list (one (map coded list) [] image.0 (in_lists.each d s b.0 list image.0 here b.1 there image.1.0) none))

-- Positions.

clean-position : {R I O : Type 0} (feed : I → InletState) (drain : O → OutletState) (offers : R → ℕ → Record → List Offer → Type 0) (inlets dests : R → ℕ) (files : Option Files) (plan : RunPlan) (routers : List R) (rounds : ℕ) (reached : Reached)
    (run : CoreRun) (counts : Option Counts) (bytes : ℕ → List ℕ) (made : List Exchange) → IsRunnable plan → AreOfFiles plan → AreFilesByLines plan → TellFiles files plan reached.inlets bytes → (holds : HoldsRun files plan reached run)
    → IsServed feed drain offers inlets dests plan routers rounds reached run Quiet counts → EndsRounds offers plan routers reached run made → (t : State) → IsAt run.last t → setup_of run.last ≡ plan.setup
    → ((i : ℕ) (inlet : InletPlan) (from : ℕ) → IsFile plan.setup i → slice_get plan.inlets.items i ≡ Some inlet → (from ≡ position_at run.first i) ⊎ (from ≡ 0) → IsReadingBegun inlet.kind inlet.limit (bytes i) from)
    → (images : List (List ℕ)) → AreImagesOf reached.stores_closed images → (i position : ℕ) (x : Piece) → IsFile plan.setup i → slice_get (positions_by plan.setup.sources images) i ≡ Some position → Contains (files_of plan.inlets.items bytes i) x → x.end ≤ position
clean-position {R} {I} {O} feed drain offers inlets dests files plan routers rounds reached run counts bytes made runnable of_files lines tell holds served e t at same begun images are i position x file now c =
    let runs = served.runs in
    let source = file.source in
    let took = (runs.serves).took in
    let low = slice_get-below plan.setup.sources i source file.at in
    let n = runnable.sources in
    let m : length runs.sources ≡ length plan.inlets.items = sym (length-map runs.sources (λ (y : SourceActor R I). feed y.inlet)) ∙ (ap length runs.inlets_opened ∙ served.all_inlets) in
    let mine = slice_get-some plan.inlets.items i (omega (arith, low, n)) in
    let inlet = mine.0 in
    let a = slice_get-some runs.sources i (omega (arith, low, n, m)) in
    let b = slice_get-some runs.sources_then i (let k = took.all_sources in omega (arith, low, n, m, k)) in
    let closed = feed (b.0).inlet in
    let at_closed : slice_get reached.inlets_closed i ≡ Some closed = ap (λ (fs : List InletState). slice_get fs i) (sym runs.inlets_closed) ∙ slice_get-map (λ (y : SourceActor R I). feed y.inlet) runs.sources_then i b.0 b.1 in
    let router : slice_get routers i ≡ Some (a.0).router = ap (λ (rs : List R). slice_get rs i) (sym runs.same_routers) ∙ slice_get-map (λ (y : SourceActor R I). y.router) runs.sources i a.0 a.1 in
    let fed = fed-at feed drain offers inlets dests files plan routers rounds reached run counts runnable of_files holds served i closed at_closed in
    let gave = fed.gave bytes tell file in
    let place = closed.from in
    let s = some-of source.store file.stored in
    let ended : IsEnded (offers (a.0).router) inlet source i closed made = e.inlets i inlet source (a.0).router closed mine.1 file.at router at_closed in
    let D : Option (List ℕ) → Type 0 = λ l. IfSome l (λ rest. rest ≡ []) in
    let no_left : gave.left ≡ [] = subst D gave.left_is (ended.nothing_left (lines i inlet file mine.1)) in
    let whole_file : plain (gave.part).given ≡ drop place (bytes i) = sym (append-nil (plain (gave.part).given)) ∙ ap (λ (l : List ℕ). plain (gave.part).given ++ l) (sym no_left) ∙ gave.are in
    let brought = brought_by i made in
    let W : Option (List Part) → Type 0 = λ told. IfSome (option_map (records inlet.kind inlet.limit place) told) (λ given. AreOf (offers (a.0).router) (spec_for inlet source.store i place) given brought) in
    let all = subst W gave.told ended.whole in
    let items = items_of inlet.kind inlet.limit (gave.part).given in
    let read = reading-ends inlet.kind inlet.limit place (bytes i) (gave.part).given (fetch-some plan.inlets.items i inlet runnable.fetches mine.1) (begun i inlet place file mine.1 (elim fed.place [ inl p ↦ inl (fed.from ∙ p) | inr p ↦ inr (fed.from ∙ p) ])) whole_file in
    let given = records inlet.kind inlet.limit place (gave.part ∷ []) in
    let flat : given ≡ map (record_of place (gave.part).peer) items = append-nil (records_of inlet.kind inlet.limit place gave.part) in
    let held = files_of plan.inlets.items bytes i in
    let behind_them : ends (behind place held) ≡ ends_of brought =
    ap (λ (xs : List Piece). ends (behind place xs)) (files-here plan.inlets.items bytes i inlet mine.1)
    ∙ ap ends read
    ∙ ap ends (sym (given-pieces place (gave.part).peer items))
    ∙ ap (λ (rs : List Record). ends (map record_piece rs)) (sym flat)
    ∙ are-ends (offers (a.0).router) (spec_for inlet source.store i place) given brought file.stored all in
    let risen = behind-rises place 0 held (rising 0 held (files-rise plan.inlets.items bytes i (slice_get plan.inlets.items i) refl runnable.fetches)) in
    let below = below-if place held x (nat_le x.end place) refl c risen in
    let last : last_of place (ends (behind place held)) ≡ last_end place brought = ap (last_of place) behind_them ∙ last-place place brought in
    let start_is = begun-place files plan reached run i s.0 source closed holds served.rewinds fed file.at s.1 in
    let stored = stored-at run.last t plan.setup i s.0 source at same file.at s.1 in
    let store = stored.1.1 in
    let disk = disk-closed reached run s.0 store.0 (holds.core).closed store.1.0 in
    let image = are s.0 (store.0).disk disk in
    let value = (e.positions i source s.0 (store.0).disk file.at s.1 disk image.0 image.1.1).holds in
    let here : slice_get (positions_by plan.setup.sources images) i ≡ Some (position_in images source.store) = slice_get-map (λ (y : SourceSetup). position_in images y.store) plan.setup.sources i source file.at in
    let shown : position_in images source.store ≡ cell_value image.0 = ap (position_in images) s.1 ∙ ap (λ (o : Option (List ℕ)). option_map_or cell_value o 0) image.1.0 in
    let position_is : position ≡ last_end (position_at run.begun i) brought = some-same position (position_in images source.store) (sym now ∙ here) ∙ shown ∙ value in
    let from_is : last_end (position_at run.begun i) brought ≡ last_end place brought = ap (λ (p : ℕ). last_end p brought) start_is in
    omega (arith, below, last, position_is, from_is)

-- No entries.

abbrev pub no_lists : List DestSetup → List (List BufferedEntry)
no_lists dests = map (λ (d : DestSetup). let none : List BufferedEntry = [] in none) dests

no-list : (dests : List DestSetup) (d : ℕ) (list : List BufferedEntry) → slice_get (no_lists dests) d ≡ Some list → list ≡ []
no-list dests d list h = let x = get-back (λ (y : DestSetup). let none : List BufferedEntry = [] in none) dests d list h in sym x.1.1

-- of each disk-buffer there is a disk at the return
closed-disk : (plan : RunPlan) (reached : Reached) (run : CoreRun) (t : State) → IsAt run.last t → setup_of run.last ≡ plan.setup → reached.stores_closed ≡ map (λ (x : StoreState). x.disk) run.last.stores → (d : ℕ) (s : DestSetup) (b : BufferSetup)
    → slice_get plan.setup.dests d ≡ Some s → s.buffer ≡ Some b → (disk : DiskState) × (slice_get reached.stores_closed b.store ≡ Some disk)
closed-disk plan reached run t at same disks d s b here has =
    let sinks : slice_get (map (λ (k : SinkState). k.setup) run.last.sinks) d ≡ Some s = ap (λ (x : Setup). slice_get x.dests d) same ∙ here in
    let sink = get-back (λ (k : SinkState). k.setup) run.last.sinks d s sinks in
    let dest = get-back (λ (x : Dest). sink_of (is_broken t.failed x) x) t.dests d sink.0 (ap (λ (ks : List SinkState). slice_get ks d) (sym at.sinks) ∙ sink.1.0) in
    let setup : (dest.0).setup ≡ s = ap (λ (k : SinkState). k.setup) dest.1.1 ∙ sink.1.1 in
    let backed = at.buffers d dest.0 b dest.1.0 (ap (λ (x : DestSetup). x.buffer) setup ∙ has) in
    ((backed.store).disk, disk-closed reached run b.store backed.store disks backed.there)

-- lists without entries are those of the images at the return
no-entries : {R : Type 0} (offers : R → ℕ → Record → List Offer → Type 0) (plan : RunPlan) (routers : List R) (reached : Reached) (run : CoreRun) (made : List Exchange) → EndsRounds offers plan routers reached run made → (t : State) → IsAt run.last t → setup_of run.last ≡ plan.setup
    → reached.stores_closed ≡ map (λ (x : StoreState). x.disk) run.last.stores → (images : List (List ℕ)) → AreImagesOf reached.stores_closed images → AreListsBy plan.setup.dests images (no_lists plan.setup.dests)
no-entries offers plan routers reached run made e t at same disks images are = record {
  every = length-map plan.setup.dests (λ (d : DestSetup). let none : List BufferedEntry = [] in none);
  each = λ d dest buffer list bytes here has there chosen.
      (let disk = closed-disk plan reached run t at same disks d dest buffer here has in
      let image = are buffer.store disk.0 disk.1 in
      let is : image.0 ≡ bytes = some-same image.0 bytes (sym image.1.0 ∙ chosen) in
      let P : List ℕ → Type 0 = λ bs. IsListOf [] bs in
      let none = subst P is (e.lists d dest buffer disk.0 here has disk.1 image.0 image.1.1) in
      let Q : List BufferedEntry → Type 0 = λ ks. IsListOf (map coded ks) bytes in
      subst Q (sym (no-list plan.setup.dests d list there)) none);
}

-- The whole.

-- what holds at the return of a run that ended clean
pub record Cleaned (plan : RunPlan) (reached : Reached) (bytes : ℕ → List ℕ) : Type 0 where
  pub clean : EachChoice plan.setup reached.stores_closed (EndsClean plan.setup (files_of plan.inlets.items bytes))
  pub lists : (images : List (List ℕ)) → AreImagesOf reached.stores_closed images → AreListsBy plan.setup.dests images (no_lists plan.setup.dests)

clean-held : {R I O : Type 0} (feed : I → InletState) (drain : O → OutletState) (offers : R → ℕ → Record → List Offer → Type 0) (inlets dests : R → ℕ) (files : Option Files) (plan : RunPlan) (routers : List R) (rounds : ℕ) (reached : Reached)
    (core : Option CoreRun) (counts : Option Counts) (run : CoreRun) (bytes : ℕ → List ℕ) (made : List Exchange) → ListsAreOne → IsRunnable plan → AreOfFiles plan → AreFilesByLines plan → TellFiles files plan reached.inlets bytes
    → PlanRunHolds feed drain offers inlets dests files plan routers rounds reached core (RanSo Quiet counts) → core ≡ Some run → Held files plan reached run → EndsRounds offers plan routers reached run made → (t : State) → IsAt run.last t
    → ((i : ℕ) (inlet : InletPlan) (from : ℕ) → IsFile plan.setup i → slice_get plan.inlets.items i ≡ Some inlet → (from ≡ position_at run.first i) ⊎ (from ≡ 0) → IsReadingBegun inlet.kind inlet.limit (bytes i) from) → Cleaned plan reached bytes
clean-held feed drain offers inlets dests files plan routers rounds reached None counts run bytes made one runnable of_files lines tell h q held e t at begun = absurd h
clean-held {R} {I} {O} feed drain offers inlets dests files plan routers rounds reached (Some core) counts run bytes made one runnable of_files lines tell (holds, served) q held e t at begun =
    let S : CoreRun → Type 0 = λ r. IsServed feed drain offers inlets dests plan routers rounds reached r Quiet counts in
    let serves = subst S (some-same core run q) served in
    let disks = ((held.holds).core).closed in
    record {
      clean = λ images lists are in_lists. record {
        lists = λ d. clean-list offers plan routers reached run made one e t at held.setups disks images lists are in_lists d;
        positions = λ i position x file now c.
            clean-position feed drain offers inlets dests files plan routers rounds reached run counts bytes made runnable of_files lines tell held.holds serves e t at held.setups begun images are i position x file now c;
      };
      lists = λ images are. no-entries offers plan routers reached run made e t at held.setups disks images are;
    }

-- whatever the contents of the stores have for positions are ends of items
pub clean-by : {R I O : Type 0} (feed : I → InletState) (drain : O → OutletState) (offers : R → ℕ → Record → List Offer → Type 0) (inlets dests : R → ℕ) → ListsAreOne → CleanRunsEnd feed drain offers inlets dests → (old new : WorldState) (plan : RunPlan) (routers : List R)
    (rounds : ℕ) (counts : Counts) (reached : Reached) (run : CoreRun) (bytes : ℕ → List ℕ) (lists : List (List BufferedEntry)) → IsRunnable plan → AreOfFiles plan → AreFilesByLines plan
    → RunsWith feed drain offers inlets dests old new plan routers rounds (RanSo Quiet (Some counts)) reached → reached.core ≡ Some run → first_fault counts.sinks counts.stores counts.inlets ≡ None → AllTell reached.stores → TellFiles old.files plan reached.inlets bytes
    → AreEnds plan.setup (files_of plan.inlets.items bytes) (held_by plan.setup (contents reached.stores) lists) → Cleaned plan reached bytes
clean-by feed drain offers inlets dests one clean old new plan routers rounds counts reached run bytes lists runnable of_files lines runs core well tells tell are =
    let e = clean old new plan routers rounds counts reached run runnable core well runs in
    let held = held-of feed drain offers inlets dests old.files plan routers rounds reached reached.core (RanSo Quiet (Some counts)) run runs.holds core in
    let h = happens feed drain offers inlets dests old new plan routers rounds (RanSo Quiet (Some counts)) reached run runnable of_files runs core in
    let N : ℕ → Type 0 = λ n. NumberStores plan.setup n in
    let numbers = subst N (sym (held.holds).all_stores) runnable.numbers in
    clean-held feed drain offers inlets dests old.files plan routers rounds reached reached.core (Some counts) run bytes run.made one runnable of_files lines tell runs.holds core held e _ ((h.ran).stands).at
    (begun-first plan reached run ((held.holds).core).opens bytes lists runnable numbers tells are)

pub ends-clean : {R I O : Type 0} (feed : I → InletState) (drain : O → OutletState) (offers : R → ℕ → Record → List Offer → Type 0) (inlets dests : R → ℕ) → ListsAreOne → CleanRunsEnd feed drain offers inlets dests → PlanRunsEndClean feed drain offers inlets dests
ends-clean feed drain offers inlets dests one clean old new plan routers by rounds counts reached run bytes taken passes places runnable of_files lines runs core well tells tell covered =
    let held = held-of feed drain offers inlets dests old.files plan routers rounds reached reached.core (RanSo Quiet (Some counts)) run runs.holds core in
    let o = ((held.holds).core).opens in
    let first = covered (contents reached.stores) (o.opening).entries (contents-images reached.stores tells) (contents-lists plan.setup reached.stores run.first o tells) in
    (clean-by feed drain offers inlets dests one clean old new plan routers rounds counts reached run bytes (o.opening).entries runnable of_files lines runs core well tells tell first.positions).clean

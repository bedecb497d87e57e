-- What happens at the core of a plan's run.
use Rattle.std.proofs.Common.{◌≡◌, ℕ, suc, zero, ◌+◌, ◌<◌, List, [], ◌∷◌, ◌++◌, length, map, Some, None, Option, Bool, true, refl, sym, ap, ◌∙◌, subst, arith, inl, inr, ◌⊎◌, slice_get, append_assoc}
use Rattle.std.specs.Prelude.{is_some, filter, Ok, Err}
use Rattle.std.specs.Option.{option_map_or}
use Rattle.std.proofs.lemmas.List.{append-nil, map-append}
use Rattle.sg_list.proofs.ListLemmas.{some-same, slice_get-some, slice_get-below, slice_get-map}
use Rattle.sg_device.specs.Inlet.{InletState, Part}
use Rattle.sg_device.specs.Outlet.{OutletState}
use Rattle.sg_outside.specs.World.{Files}
use Rattle.sg_msg.specs.declared.offer.Offer.{Offer}
use Rattle.sg_frame.specs.Items.{Item, items_of}
use Rattle.sg_frame.specs.declared.kind.FrameKind.{FrameKind}
use Rattle.sg_frame.specs.Records.{Record, moved, record_of, records_of, records}
use Rattle.sg_machine.specs.declared.event.Act.{Act}
use Rattle.sg_machine.specs.declared.event.Act.TheVariants.{Admit, Settle, Refill, Store, Rewind, Look}
use Rattle.sg_machine.specs.declared.event.Admission.{Admission}
use Rattle.sg_machine.specs.declared.event.Event.{Event}
use Rattle.sg_machine.specs.declared.setup.Setup.{Setup}
use Rattle.sg_machine.specs.declared.setup.SourceSetup.{SourceSetup}
use Rattle.sg_machine.specs.declared.state.InletRecords.{InletRecords}
use Rattle.sg_machine.specs.declared.state.State.{State}
use Rattle.sg_machine.specs.Runs.{opened_inlet, opened, after_all, are_legal}
use Rattle.sg_machine.specs.Counts.{opening_from}
use Rattle.sg_machine.proofs.InletLemmas.{counts-inlet}
use Rattle.sg_counter.specs.Exchanges.{Exchange, Makes, OfSource, calls_by}
use Rattle.sg_counter.specs.declared.calls.CoreCall.{CoreCall}
use Rattle.sg_counter.specs.declared.calls.CoreCall.TheVariants.{Credit, Admit as AdmitCall, Front, Settle as SettleCall, Refill as RefillCall, Store as StoreCall}
use Rattle.sg_counter.specs.declared.calls.CoreReply.{CoreReply}
use Rattle.sg_counter.specs.declared.calls.CoreReply.TheVariants.{Credit as CreditReply, Admitted, Front as FrontReply, Settled as SettledReply, Refilled, Stored as StoredReply}
use Rattle.sg_standing.specs.States.{CoreState, setup_of}
use Rattle.sg_stores.specs.Positions.{stored_in}
use Rattle.sg_core.specs.Calls.{Serves, acts_of}
use Rattle.sg_core.specs.Opening.{IsOpen}
use Rattle.sg_actor.specs.Bringing.{admitted_in}
use Rattle.sg_actor.specs.SourceTurns.{actor}
use Rattle.sg_actor.specs.declared.settings.SourceSpec.{SourceSpec}
use Rattle.sg_actor.specs.declared.source.SourceActor.{SourceActor}
use Rattle.sg_actor.proofs.LawLemmas.{reads-first}
use Rattle.sg_turns.specs.Actors.{source_seen, SourceTook}
use Rattle.sg_turns.specs.Turns.{calls_of}
use Rattle.sg_turns.specs.Serving.{IsActor}
use Rattle.sg_turns.specs.declared.ended.Ended.{Ended}
use Rattle.sg_turns.proofs.LawLemmas.{read-on}
use Rattle.sg_run_plan.specs.declared.inlet.InletPlan.{InletPlan}
use Rattle.sg_laws.specs.Calls.{Ran, AreOwn}
use Rattle.sg_laws.specs.Texts.{admissions_of}
use Rattle.sg_laws.proofs.OwnLemmas.{calls-run}
use Rattle.sg_serve.specs.Actors.{SourceView, source_view}
use Rattle.sg_serve.specs.Devices.{inlet_asked, AreFetching}
use Rattle.sg_serve.specs.Plan.{IsRunnable}
use Rattle.sg_serve.specs.Rewinds.{position_at, places_of}
use Rattle.sg_serve.specs.Run.{CoreRun, Reached, HoldsRun, IsServed, PlanRunHolds}
use Rattle.sg_serve.specs.declared.counts.Counts.{Counts}
use Rattle.sg_serve.specs.declared.ending.PlanEnded.{PlanEnded}
use Rattle.sg_serve.specs.declared.ending.PlanEnded.TheVariants.{Before, Ran as RanSo}
use Rattle.sg_run_plan.specs.declared.plan.RunPlan.{RunPlan}
use Rattle.sg_serve.proofs.ActorLemmas.{store-by-setup}
use Rattle.sg_laws.specs.Headline.{TakesThese}
use Rattle.sg_laws.proofs.PreludeLemmas.{AreStill, still-rewinds, still-either, admitted-later}
use Rattle.sg_laws.proofs.SourceLemmas.{nothing-read}
use Rattle.sg_laws.proofs.HeadlineLemmas.{run-taken, stayed-taken}
use Rattle.sg_laws.specs.Pieces.{Piece, piece_of, pieces, behind}
use Rattle.sg_laws.specs.Resuming.{IsReadingBegun}
use Rattle.sg_laws.proofs.ItemRestLemmas.{reading-resumes}
use Rattle.sg_laws.specs.Covered.{Pass, Offers, IsFile}
use Rattle.sg_laws.specs.Passes.{AreRecordsRead, ReadsByAct, AreAdmitted, pass_piece, pieces_of}
use Rattle.sg_laws.specs.Adding.{offers_in}
use Rattle.sg_laws.proofs.BeginLemmas.{opened-inlet-at}
use Rattle.sg_laws.specs.Happened.{AreOfFiles, TellFiles, files_of, Happened, PlanRunsHappen}
use Rattle.sg_laws.proofs.GaveLemmas.{Gave, gave-file}
use Rattle.sg_laws.proofs.MergeLemmas.{is_of, pass_of, record_piece, read-of, Merged, merge, pieces-are}
use Rattle.sg_laws.proofs.PlaceLemmas.{opening-append, later-still, rewinds-here, stands-place}

-- the items of records
pub given-pieces : (from : ℕ) (peer : List ℕ) (xs : List Item) → map record_piece (map (record_of from peer) xs) ≡ map piece_of (map (moved from) xs)
given-pieces from peer [] = refl
given-pieces from peer (x ∷ xs) = ap (λ (ys : List Piece). piece_of (moved from x) ∷ ys) (given-pieces from peer xs)

-- Setups.

call-setup : (old new : CoreState) (call : CoreCall) (reply : CoreReply) → Serves old call reply new → setup_of new ≡ setup_of old
call-setup old new (Credit i) (CreditReply n) s = ap setup_of s.same
call-setup old new (AdmitCall i records) (Admitted (Ok verdicts)) s = s.does.setup
call-setup old new (AdmitCall i records) (Admitted (Err refused)) s = s.does.setup
call-setup old new (Front d most) (FrontReply result) s = s.does.setup
call-setup old new (SettleCall d place n count) (SettledReply result) s = s.does.setup
call-setup old new (RefillCall d) (Refilled result) s = s.does.setup
call-setup old new (StoreCall i) (StoredReply result) s = s.does.setup
call-setup old new call reply s = absurd s

pub made-setup : (old new : CoreState) (made : List Exchange) → Makes Serves old made new → setup_of new ≡ setup_of old
made-setup old new [] m = ap setup_of m
made-setup old new (x ∷ rest) m = made-setup m.0 new rest m.2 ∙ call-setup old m.0 x.call x.reply m.1

pub fetch-some : (plans : List InletPlan) (i : ℕ) (plan : InletPlan) → AreFetching plans → slice_get plans i ≡ Some plan → 0 < plan.limit
fetch-some [] i plan f h = absurd (let wrong : None ≡ Some plan = h in cc)
fetch-some (p ∷ plans) zero plan f h = let P : InletPlan → Type 0 = λ x. 0 < x.limit in subst P (some-same p plan h) f.0.limit
fetch-some (p ∷ plans) (suc i) plan f h = fetch-some plans i plan f.1 h

pub files-here : (plans : List InletPlan) (bytes : ℕ → List ℕ) (i : ℕ) (plan : InletPlan) → slice_get plans i ≡ Some plan → files_of plans bytes i ≡ pieces plan.kind plan.limit (bytes i)
files-here plans bytes i plan h = ap (λ (o : Option InletPlan). option_map_or (λ (p : InletPlan). pieces p.kind p.limit (bytes i)) o []) h

-- What a source read.

-- Of an inlet with a position store: its passes are of these records, the first that the inlet gave from the place on at which it began.
pub record ReadingSo (files : Option Files) (plan : RunPlan) (reached : Reached) (run : CoreRun) (events : List Event) (i : ℕ) (inlet : InletPlan) (passes : List Pass) : Type 0 where
  pub done : List Record
  pub are : passes ≡ map (pass_of i true) done
  pub closed : InletState
  pub gave : (bytes : ℕ → List ℕ) → TellFiles files plan reached.inlets bytes → Gave (bytes i) closed
  pub first : (parts : List Part) → closed.told ≡ Some parts → (rest : List Record) × (records inlet.kind inlet.limit closed.from parts ≡ done ++ rest)
  pub opening : (x : ℕ) → x ≡ position_at run.first i → opening_from i x events ≡ closed.from

pub record CameOf (offers : Offers) (files : Option Files) (plan : RunPlan) (reached : Reached) (run : CoreRun) (events : List Event) (i : ℕ) : Type 0 where
  pub passes : List Pass
  pub are : AreRecordsRead offers i (admissions_of i events) passes
  pub reading : (inlet : InletPlan) → IsFile plan.setup i → slice_get plan.inlets.items i ≡ Some inlet → (passes ≡ []) ⊎ ReadingSo files plan reached run events i inlet passes

none-came : (offers : Offers) (files : Option Files) (plan : RunPlan) (reached : Reached) (run : CoreRun) (events : List Event) (i : ℕ) → admissions_of i events ≡ [] → CameOf offers files plan reached run events i
none-came offers files plan reached run events i h =
    let P : List Admission → Type 0 = λ xs. AreRecordsRead offers i xs [] in
    record { passes = []; are = subst P (sym h) tt; reading = λ inlet file at. inl refl }

-- a source that took its turns
came-at : {R I O : Type 0} (feed : I → InletState) (drain : O → OutletState) (offers : R → ℕ → Record → List Offer → Type 0) (inlets dests : R → ℕ) (files : Option Files) (plan : RunPlan) (routers : List R) (rounds : ℕ) (reached : Reached)
    (run : CoreRun) (ended : Ended) (counts : Option Counts) → IsRunnable plan → AreOfFiles plan → HoldsRun files plan reached run → (served : IsServed feed drain offers inlets dests plan routers rounds reached run ended counts)
    → (later : List Event) → AreOwn run.made later → map (λ (e : Event). e.act) later ≡ acts_of run.made → AreStill run.prelude
    → (i : ℕ) (a : SourceActor R I) → slice_get (served.runs).sources i ≡ Some a → CameOf (offers_in offers routers) files plan reached run (run.prelude ++ later) i
came-at {R} {I} {O} feed drain offers inlets dests files plan routers rounds reached run ended counts runnable of_files holds served later own acts still i a at_a =
    let runs = served.runs in
    let turns = runs.account (OfSource i) in
    let took = (runs.serves).took in
    let events = run.prelude ++ later in
    let low = slice_get-below runs.sources i a at_a in
    let fed : slice_get reached.inlets i ≡ Some (feed a.inlet) = ap (λ (fs : List InletState). slice_get fs i) (sym runs.inlets_opened) ∙ slice_get-map (λ (x : SourceActor R I). feed x.inlet) runs.sources i a at_a in
    let few = slice_get-below reached.inlets i (feed a.inlet) fed in
    let b = slice_get-some runs.sources_then i (let n = took.all_sources in omega (arith, low, n)) in
    let inlet = slice_get-some plan.inlets.items i (let n = served.all_inlets in omega (arith, few, n)) in
    let low_plan = slice_get-below plan.inlets.items i inlet.0 inlet.1 in
    let setup = slice_get-some plan.setup.sources i (let n = runnable.sources in omega (arith, low_plan, n)) in
    let router : slice_get routers i ≡ Some a.router = ap (λ (rs : List R). slice_get rs i) (sym runs.same_routers) ∙ slice_get-map (λ (x : SourceActor R I). x.router) runs.sources i a at_a in
    let view_of : SourceActor R I → SourceView = λ x. source_view x.spec (actor (feed x.inlet) x.reader x.buffer.items x.position x.bad_frames) (dests x.router) in
    let for = runs.are_sources i inlet.0 setup.0 (view_of a) inlet.1 setup.1 (slice_get-map view_of runs.sources i a at_a) in
    let asked = slice_get-map (λ (p : InletPlan). inlet_asked plan.once p.spec) plan.inlets.items i inlet.0 inlet.1 in
    let begins = holds.begin_at i (inlet_asked plan.once (inlet.0).spec) (feed a.inlet) asked fed in
    let says = offers a.router in
    let count = dests a.router in
    let old = source_seen feed a in
    let new = source_seen feed b.0 in
    let does : SourceTook feed offers inlets dests a b.0 turns = took.sources_took i a b.0 at_a b.1 in
    let reads = read-on says count a.spec old new turns does.took (for.is).ready [] 0 (nothing-read says count a.spec old for.is (begins.fresh).bytes) in
    let calls = took.calls (OfSource i) low in
    let came : admissions_of i events ≡ admitted_in (calls_of turns) = admitted-later i run.prelude later still ∙ own.admits i ∙ ap admitted_in calls in
    let spec_is = for.spec_is in
    let number : a.spec.inlet ≡ i = ap (λ (s : SourceSpec). s.inlet) spec_is in
    let kind : a.spec.kind ≡ (inlet.0).kind = ap (λ (s : SourceSpec). s.kind) spec_is in
    let limit : a.spec.limit ≡ (inlet.0).limit = ap (λ (s : SourceSpec). s.limit) spec_is in
    let stored : a.spec.stored ≡ is_some (setup.0).store = ap (λ (s : SourceSpec). s.stored) spec_is in
    let closed = feed (b.0).inlet in
    let passes = map (pass_of i a.spec.stored) reads.taken in
    let from : closed.from ≡ (feed a.inlet).place = (reads.advances).from ∙ sym (begins.fresh).at_from in
    let stands = stands-place files (inlet_asked plan.once (inlet.0).spec) (position_at run.first i) (feed a.inlet) begins.stands in
    let P : List Admission → Type 0 = λ xs. AreRecordsRead (offers_in offers routers) i xs passes in
    record {
      passes = passes;
      are = subst P (sym came) (read-of offers routers a.router a.spec i number router reads.taken (admitted_in (calls_of turns)) reads.offered);
      reading = λ other file at_other.
          (let same : inlet.0 ≡ other = some-same inlet.0 other (sym inlet.1 ∙ at_other) in
          let Q : InletPlan → Type 0 = λ p. ReadingSo files plan reached run events i p passes in
          let source : setup.0 ≡ file.source = some-same setup.0 file.source (sym setup.1 ∙ file.at) in
          let is : a.spec.stored ≡ true = stored ∙ ap (λ (s : SourceSetup). is_some s.store) source ∙ file.stored in
          let reading : ReadingSo files plan reached run events i inlet.0 passes = record {
            done = reads.taken;
            are = ap (λ (t : Bool). map (pass_of i t) reads.taken) is;
            closed = closed;
            gave = λ bytes tell.
                gave-file files tell.files plan.once (inlet.0).spec (position_at run.first i) (feed a.inlet) closed (bytes i) tell.told_are (of_files i inlet.0 file inlet.1) (tell.bytes_are i inlet.0 file inlet.1)
                begins.stands begins.fresh (tell.gives i (feed a.inlet) file fed) reads.advances;
            first = λ parts told.
                (let r = reads-first says count a.spec new.source reads.taken (0 + reads.ups) parts reads.ready reads.reads told in (
                  r.0,
                  ap (λ (f : ℕ). records (inlet.0).kind (inlet.0).limit f parts) (reads.ready.from)
                      ∙ ap (λ (l : ℕ). records (inlet.0).kind l a.spec.from parts) (sym limit)
                      ∙ ap (λ (k : FrameKind). records k a.spec.limit a.spec.from parts) (sym kind)
                      ∙ r.1,
                ));
            opening = λ x q.
                (let position : (feed a.inlet).place ≡ x ⊎ (feed a.inlet).place ≡ 0 = elim stands [ inl e ↦ inl (e ∙ sym q) | inr e ↦ inr e ] in
                let places : slice_get (places_of reached.inlets) i ≡ Some (feed a.inlet).place = slice_get-map (λ (f : InletState). f.place) reached.inlets i (feed a.inlet) fed in
                opening-append i x run.prelude later
                ∙ later-still i (opening_from i x run.prelude) later run.made acts
                ∙ ap (opening_from i x) served.rewinds
                ∙ rewinds-here i x (position_at run.first) 0 i (places_of reached.inlets) (feed a.inlet).place (omega arith) places q position
                ∙ sym from);
          } in
          inr (subst Q same reading));
    }

came-by : {R I O : Type 0} (feed : I → InletState) (drain : O → OutletState) (offers : R → ℕ → Record → List Offer → Type 0) (inlets dests : R → ℕ) (files : Option Files) (plan : RunPlan) (routers : List R) (rounds : ℕ) (reached : Reached)
    (run : CoreRun) (ended : Ended) (counts : Option Counts) → IsRunnable plan → AreOfFiles plan → HoldsRun files plan reached run → (served : IsServed feed drain offers inlets dests plan routers rounds reached run ended counts)
    → (later : List Event) → AreOwn run.made later → map (λ (e : Event). e.act) later ≡ acts_of run.made → AreStill run.prelude
    → (i : ℕ) (o : Option (SourceActor R I)) → slice_get (served.runs).sources i ≡ o → CameOf (offers_in offers routers) files plan reached run (run.prelude ++ later) i
came-by {R} {I} {O} feed drain offers inlets dests files plan routers rounds reached run ended counts runnable of_files holds served later own acts still i (Some a) q =
    came-at feed drain offers inlets dests files plan routers rounds reached run ended counts runnable of_files holds served later own acts still i a q
came-by {R} {I} {O} feed drain offers inlets dests files plan routers rounds reached run ended counts runnable of_files holds served later own acts still i None q =
    let runs = served.runs in
    let took = (runs.serves).took in
    let absent : IsActor (length runs.sources) (length runs.dests_first) (OfSource i) → ⊥ =
    λ low. let a = slice_get-some runs.sources i low in let wrong : None ≡ Some a.0 = sym q ∙ a.1 in cc in
    let calls = took.others (OfSource i) absent in
    none-came (offers_in offers routers) files plan reached run (run.prelude ++ later) i (admitted-later i run.prelude later still ∙ own.admits i ∙ ap admitted_in calls)

-- what was read of a file are the first of its items behind the place at which the inlet began
reads-file : (files : Option Files) (plan : RunPlan) (reached : Reached) (run : CoreRun) (events : List Event) (i : ℕ) (inlet : InletPlan) (passes now : List Pass) (bytes : List ℕ) → 0 < inlet.limit → (r : ReadingSo files plan reached run events i inlet passes) → Gave bytes r.closed
    → filter (is_of i) now ≡ passes → IsReadingBegun inlet.kind inlet.limit bytes (r.closed).from → (later : List Piece) × (behind (r.closed).from (pieces inlet.kind inlet.limit bytes) ≡ pieces_of i now ++ later)
reads-file files plan reached run events i inlet passes now bytes some r g own begun =
    let place = (r.closed).from in
    let resumes = reading-resumes inlet.kind inlet.limit place bytes g.left (g.part).given some begun g.are in
    let first = r.first (g.part ∷ []) g.told in
    let items = items_of inlet.kind inlet.limit (g.part).given in
    let same : map (record_of place (g.part).peer) items ≡ r.done ++ first.0 = sym (append-nil (records_of inlet.kind inlet.limit place g.part)) ∙ first.1 in
    let mine : pieces_of i now ≡ map record_piece r.done = pieces-are i now true r.done refl (own ∙ r.are) in
    let all : map piece_of (map (moved place) items) ≡ map record_piece r.done ++ map record_piece first.0 =
    sym (given-pieces place (g.part).peer items) ∙ ap (map record_piece) same ∙ map-append record_piece r.done first.0 in (
      map record_piece first.0 ++ resumes.0,
      resumes.1
          ∙ ap (λ (xs : List Piece). xs ++ resumes.0) all
          ∙ append_assoc (map record_piece r.done) (map record_piece first.0) resumes.0
          ∙ ap (λ (xs : List Piece). xs ++ (map record_piece first.0 ++ resumes.0)) (sym mine),
    )

-- What happened.

-- at the return each file's records are its first items behind the place at which its inlet began
reads-return : (offers : Offers) (files : Option Files) (plan : RunPlan) (reached : Reached) (run : CoreRun) (events : List Event) (o : IsOpen plan.setup reached.stores run.first) → IsRunnable plan → are_legal (opened plan.setup o.opening) events ≡ true
    → (came : (i : ℕ) → CameOf offers files plan reached run events i) → (m : Merged offers events (λ i. (came i).passes)) → (bytes : ℕ → List ℕ) (i : ℕ) (source : InletPlan) (inlet : InletRecords) → TellFiles files plan reached.inlets bytes → IsFile plan.setup i
    → slice_get plan.inlets.items i ≡ Some source → slice_get (after_all (opened plan.setup o.opening) events).inlets i ≡ Some inlet → IsReadingBegun source.kind source.limit (bytes i) inlet.opening
    → (later : List Piece) × (behind inlet.opening (files_of plan.inlets.items bytes i) ≡ pieces_of i m.now ++ later)
reads-return offers files plan reached run events o runnable legal came m bytes i source inlet tell file mine at begun =
    elim ((came i).reading source file mine) [
      | inl none ↦ (
          let own : pieces_of i m.now ≡ [] = ap (map pass_piece) (m.each i ∙ none) in
          (behind inlet.opening (files_of plan.inlets.items bytes i), ap (λ (xs : List Piece). xs ++ behind inlet.opening (files_of plan.inlets.items bytes i)) (sym own)))
      | inr r ↦ (
          let start = opened plan.setup o.opening in
          let f : SourceSetup → ℕ = λ s. stored_in run.first.stores s.store in
          let position = f file.source in
          let place_at : slice_get (o.opening).places i ≡ Some position = ap (λ (xs : List ℕ). slice_get xs i) o.places ∙ slice_get-map f plan.setup.sources i file.source file.at in
          let c = counts-inlet start events i (opened_inlet file.source position) legal (opened-inlet-at plan.setup.sources (o.opening).places i file.source position file.at place_at) in
          let is : c.0 ≡ inlet = some-same c.0 inlet (sym c.1 ∙ at) in
          let sources : (setup_of run.first).sources ≡ plan.setup.sources = ap (λ (s : Setup). s.sources) o.setups in
          let stored : position ≡ position_at run.first i = ap (λ (x : Option ℕ). stored_in run.first.stores x) (sym (store-by-setup run.first plan.setup.sources i file.source sources file.at)) in
          let began : inlet.opening ≡ (r.closed).from = sym (ap (λ (x : InletRecords). x.opening) is) ∙ c.2.opening ∙ r.opening position stored in
          let B : ℕ → Type 0 = λ n. IsReadingBegun source.kind source.limit (bytes i) n in
          let read = reads-file files plan reached run events i source (came i).passes m.now (bytes i) (fetch-some plan.inlets.items i source runnable.fetches mine) r (r.gave bytes tell) (m.each i) (subst B began begun) in
          let P : ℕ → Type 0 = λ n. (later : List Piece) × (behind n (files_of plan.inlets.items bytes i) ≡ pieces_of i m.now ++ later) in
          subst P (sym began) (read.0, ap (behind (r.closed).from) (files-here plan.inlets.items bytes i source mine) ∙ read.1))
    ]

-- by what was called and what came in
happened-by : (offers : Offers) (files : Option Files) (plan : RunPlan) (reached : Reached) (run : CoreRun) → IsRunnable plan → HoldsRun files plan reached run → Makes Serves run.begun run.made run.last
    → ((later : List Event) → map (λ (e : Event). e.act) later ≡ acts_of run.made → AreOwn run.made later → (i : ℕ) → CameOf offers files plan reached run (run.prelude ++ later) i)
    → ((start : State) (later : List Event) → Ran run.begun run.last run.made start run.prelude later → TakesThese plan reached run start (run.prelude ++ later)) → Happened offers files plan reached run
happened-by offers files plan reached run runnable holds makes came took =
    let o = (holds.core).opens in
    let start = opened plan.setup o.opening in
    let stood = ((holds.core).begins).stands plan.setup o.opening o.stands in
    let h = calls-run run.begun run.last run.made start run.prelude makes stood in
    let ran = h.1.0 in
    let events = run.prelude ++ h.0 in
    let mine = came h.0 ran.acts h.1.1 in
    let m = merge offers events (λ i. (mine i).passes) (λ i. (mine i).are) in
    record {
      opens = o;
      later = h.0;
      ran = ran;
      begins = λ s store get. h.1.2 0 s (omega arith) ∙ ((holds.core).begins).rows plan.setup o.opening o.stands 0 s (omega arith) ∙ (o.stands).moments.last s store get;
      took = took start h.0 ran;
      came = m.now;
      admits = m.admitted;
      reads = reads-return offers files plan reached run events o runnable ran.stands.legal mine m;
    }

happened-held : {R I O : Type 0} (feed : I → InletState) (drain : O → OutletState) (offers : R → ℕ → Record → List Offer → Type 0) (inlets dests : R → ℕ) (files : Option Files) (plan : RunPlan) (routers : List R) (rounds : ℕ) (reached : Reached)
    (core : Option CoreRun) (ending : PlanEnded) (run : CoreRun) → IsRunnable plan → AreOfFiles plan → PlanRunHolds feed drain offers inlets dests files plan routers rounds reached core ending → core ≡ Some run → Happened (offers_in offers routers) files plan reached run
happened-held feed drain offers inlets dests files plan routers rounds reached None ending run runnable of_files h q = absurd (let wrong : None ≡ Some run = q in cc)
happened-held {R} {I} {O} feed drain offers inlets dests files plan routers rounds reached (Some core) (Before early) run runnable of_files (holds, stays) q =
    let still = still-either core.first reached.inlets core.prelude stays.rewinds in
    let P : CoreRun → Type 0 = λ r. Happened (offers_in offers routers) files plan reached r in
    let makes = subst (λ (es : List Exchange). Makes Serves core.begun es core.last) (sym stays.unserved) stays.core_stays in
    let here : P core =
    happened-by (offers_in offers routers) files plan reached core runnable holds makes
    (λ later acts own i.
    none-came (offers_in offers routers) files plan reached core (core.prelude ++ later) i
    (admitted-later i core.prelude later still ∙ own.admits i ∙ ap (λ (es : List Exchange). admitted_in (calls_by (OfSource i) es)) stays.unserved))
    (λ start later ran. stayed-taken files plan reached core holds still stays.unserved stays.outlets_stay start later ran) in
    subst P (some-same core run q) here
happened-held {R} {I} {O} feed drain offers inlets dests files plan routers rounds reached (Some core) (RanSo ended counts) run runnable of_files (holds, served) q =
    let still = still-rewinds (position_at core.first) (places_of reached.inlets) core.prelude served.rewinds in
    let serves = (served.runs).serves in
    let P : CoreRun → Type 0 = λ r. Happened (offers_in offers routers) files plan reached r in
    let here : P core =
    happened-by (offers_in offers routers) files plan reached core runnable holds (serves.took).makes
    (λ later acts own i. came-by feed drain offers inlets dests files plan routers rounds reached core ended counts runnable of_files holds served later own acts still i (slice_get (served.runs).sources i) refl)
    (λ start later ran. run-taken feed drain offers inlets dests files plan routers rounds reached core ended counts holds served still start later ran) in
    subst P (some-same core run q) here

pub happens : {R I O : Type 0} (feed : I → InletState) (drain : O → OutletState) (offers : R → ℕ → Record → List Offer → Type 0) (inlets dests : R → ℕ) → PlanRunsHappen feed drain offers inlets dests
happens feed drain offers inlets dests old new plan routers rounds ending reached run runnable of_files runs core =
    happened-held feed drain offers inlets dests old.files plan routers rounds reached reached.core ending run runnable of_files runs.holds core

-- By other offers.

read-map : (os other : Offers) → ((p : Pass) (given : List Offer) → os p given → other p given) → (i : ℕ) (rs : List Admission) (ps : List Pass) → AreRecordsRead os i rs ps → AreRecordsRead other i rs ps
read-map os other f i [] [] h = tt
read-map os other f i [] (p ∷ ps) h = absurd h
read-map os other f i (r ∷ rs) [] h = absurd h
read-map os other f i (r ∷ rs) (p ∷ ps) h = (h.0, h.1, f p r.offers h.2, read-map os other f i rs ps h.3)

reads-map : (os other : Offers) → ((p : Pass) (given : List Offer) → os p given → other p given) → (act : Act) (ps : List Pass) → ReadsByAct os act ps → ReadsByAct other act ps
reads-map os other f (Admit i rs vs) ps h = read-map os other f i rs ps h
reads-map os other f (Settle d n) ps h = h
reads-map os other f (Refill d n) ps h = h
reads-map os other f (Store i w) ps h = h
reads-map os other f (Rewind i) ps h = h
reads-map os other f Look ps h = h

admits-map : (os other : Offers) → ((p : Pass) (given : List Offer) → os p given → other p given) → (es : List Event) (ps : List Pass) → AreAdmitted os es ps → AreAdmitted other es ps
admits-map os other f [] ps h = h
admits-map os other f (e ∷ es) ps h = (h.0, (h.1.0, (h.1.1.0, reads-map os other f e.act h.0 h.1.1.1, admits-map os other f es h.1.0 h.1.1.2)))

-- what happened by some offers did by others that say as much
pub happened-too : (os other : Offers) → ((p : Pass) (given : List Offer) → os p given → other p given) → (files : Option Files) (plan : RunPlan) (reached : Reached) (run : CoreRun) → Happened os files plan reached run → Happened other files plan reached run
happened-too os other f files plan reached run h = record {
  opens = h.opens;
  later = h.later;
  ran = h.ran;
  begins = h.begins;
  took = h.took;
  came = h.came;
  admits = admits-map os other f (run.prelude ++ h.later) h.came h.admits;
  reads = h.reads;
}

-- The run of a plan comes to the headline.
use Rattle.std.proofs.Common.{◌≡◌, ℕ, ◌+◌, true, List, [], ◌∷◌, ◌++◌, length, Some, None, Option, sym, ap, ◌∙◌, arith, take, subst}
use Rattle.std.proofs.lemmas.List.{length-map}
use Rattle.std.specs.Prelude.{slice_get, is_some}
use Rattle.sg_list.proofs.ListLemmas.{some-same, slice_get-some, slice_get-below, slice_get-map}
use Rattle.sg_device.specs.Inlet.{InletState}
use Rattle.sg_device.specs.Outlet.{OutletState}
use Rattle.sg_outside.specs.World.{Files}
use Rattle.sg_msg.specs.Message.{Content}
use Rattle.sg_msg.specs.declared.offer.Offer.{Offer}
use Rattle.sg_frame.specs.Records.{Record}
use Rattle.sg_machine.specs.declared.event.Event.{Event}
use Rattle.sg_machine.specs.declared.setup.Setup.{Setup}
use Rattle.sg_machine.specs.declared.state.Dest.{Dest}
use Rattle.sg_machine.specs.declared.state.State.{State}
use Rattle.sg_machine.specs.Runs.{BufferedEntry, Opening, opened, after_all, are_legal}
use Rattle.sg_machine.specs.Safe.{Safe, nothing}
use Rattle.sg_counter.specs.Exchanges.{Exchange, Makes, OfSource, OfDest, calls_by}
use Rattle.sg_counter.specs.declared.calls.CoreCall.TheVariants.{Settle}
use Rattle.sg_counter.specs.declared.calls.CoreReply.TheVariants.{Settled as SettledReply}
use Rattle.sg_core.specs.Calls.{Serves}
use Rattle.sg_actor.specs.Bringing.{admitted_in}
use Rattle.sg_actor.specs.Rendering.{frame_by}
use Rattle.sg_actor.specs.SourceTurns.{actor}
use Rattle.sg_actor.specs.declared.dest.DestActor.{DestActor}
use Rattle.sg_actor.specs.declared.rendering.DestSpec.{DestSpec}
use Rattle.sg_actor.specs.declared.source.SourceActor.{SourceActor}
use Rattle.sg_standing.specs.Images.{positions_in, AreListsIn, AreImages, AreImagesBetween}
use Rattle.sg_standing.specs.Standing.{StandsFor}
use Rattle.sg_standing.specs.States.{CoreState}
use Rattle.sg_turns.specs.Actors.{source_seen, dest_seen, SourceTook, DestTook}
use Rattle.sg_turns.specs.Turns.{calls_of}
use Rattle.sg_turns.specs.declared.ended.Ended.{Ended}
use Rattle.sg_turns.proofs.LawLemmas.{read-on}
use Rattle.sg_run_plan.specs.declared.inlet.InletPlan.{InletPlan}
use Rattle.sg_run_plan.specs.declared.outlet.OutletPlan.{OutletPlan}
use Rattle.sg_laws.specs.Calls.{Ran, AreOwn}
use Rattle.sg_laws.specs.Drops.{DropsAreDue}
use Rattle.sg_laws.specs.Fronts.{IsDestThroughout, TakesSettled}
use Rattle.sg_laws.specs.Texts.{admissions_of, taken_from, TakesFirstTexts}
use Rattle.sg_laws.specs.Turns.{Sending, AreSendings, calls_in}
use Rattle.sg_laws.proofs.OwnEventLemmas.{opened-within}
use Rattle.sg_laws.proofs.OwnLemmas.{calls-run}
use Rattle.sg_laws.proofs.SeenLemmas.{frames-settled}
use Rattle.sg_laws.proofs.TakenLemmas.{settles-taken}
use Rattle.sg_laws.proofs.ToldLemmas.{told-goes}
use Rattle.sg_serve.specs.Actors.{SourceView, DestView, source_view, dest_view}
use Rattle.sg_serve.specs.Devices.{inlet_asked, AllAreNew}
use Rattle.sg_serve.specs.Plan.{IsRunnable}
use Rattle.sg_serve.specs.Rewinds.{position_at, places_of}
use Rattle.sg_serve.specs.Run.{CoreRun, Reached, HoldsRun, IsServed, PlanRunHolds}
use Rattle.sg_serve.specs.declared.counts.Counts.{Counts}
use Rattle.sg_serve.specs.declared.ending.PlanEnded.{PlanEnded}
use Rattle.sg_serve.specs.declared.ending.PlanEnded.TheVariants.{Before, Ran as RanSo}
use Rattle.sg_run_plan.specs.declared.plan.RunPlan.{RunPlan}
use Rattle.sg_laws.specs.Headline.{frame_planned, frame_at, records_of, TakesPrefixes, TakesThese, ShowsAccepted, Headline, Delivers, RunsDeliver}
use Rattle.sg_laws.proofs.ByPathLemmas.{StandUnder, OutletsLie, fresh-new, takes-by-path}
use Rattle.sg_laws.proofs.PreludeLemmas.{get-back, AreStill, still-rewinds, still-either, admitted-later, dest-behind, opened-many}
use Rattle.sg_laws.proofs.SourceLemmas.{nothing-read, planned-of, source-texts, no-texts}
use Rattle.sg_laws.proofs.FaultLemmas.{shows-faults}
use Rattle.sg_laws.proofs.DestLemmas.{sendings-of}

-- What a destination's outlet took, by its sendings.

-- the calls of d are those of these sendings
record HasSentTexts (plan : RunPlan) (made : List Exchange) (d : ℕ) (new closed : OutletState) : Type 0 where
  sendings : List Sending
  calls : calls_by (OfDest d) made ≡ calls_in sendings
  are : AreSendings (frame_at plan.outlets.items d) d sendings new closed

takes-these : (files : Option Files) (plan : RunPlan) (reached : Reached) (run : CoreRun) → HoldsRun files plan reached run → AreStill run.prelude → (start : State) (later : List Event)
    → Ran run.begun run.last run.made start run.prelude later → (d : ℕ) (new closed : OutletState) (first last : Dest) → IsDestThroughout start [] (run.prelude ++ later) d first last → HasSentTexts plan run.made d new closed
    → TakesSettled (frame_at plan.outlets.items d) run.first.stores first last new closed
takes-these files plan reached run holds still start later ran d new closed first last is sent =
    let behind = dest-behind start run.prelude later d first last still is in
    let settled = frames-settled run.begun run.last run.made start run.prelude later d first last ran behind (frame_at plan.outlets.items d) sent.sendings new closed sent.calls sent.are in
    record {
      count = settled.count;
      told = λ t. settled.told (told-goes run.first.stores run.begun.stores (((holds.core).begins).goes) first.setup.buffer t);
    }

-- A run whose rounds were run.

run-texts : {R I O : Type 0} (feed : I → InletState) (drain : O → OutletState) (offers : R → ℕ → Record → List Offer → Type 0) (inlets dests : R → ℕ) (files : Option Files) (plan : RunPlan) (routers : List R) (rounds : ℕ) (reached : Reached)
    (run : CoreRun) (ended : Ended) (counts : Option Counts) → IsRunnable plan → HoldsRun files plan reached run → (served : IsServed feed drain offers inlets dests plan routers rounds reached run ended counts)
    → AreStill run.prelude → (start : State) (later : List Event) → are_legal start (run.prelude ++ later) ≡ true → AreOwn run.made later → TakesPrefixes offers plan routers reached start (run.prelude ++ later)
run-texts {R} {I} {O} feed drain offers inlets dests files plan routers rounds reached run ended counts runnable holds served still start later legal own i d inlet router closed first last at_inlet at_router at_closed is =
    let runs = served.runs in
    let turns = runs.account (OfSource i) in
    let took = (runs.serves).took in
    let events = run.prelude ++ later in
    let a = get-back (λ (x : SourceActor R I). x.router) runs.sources i router (ap (λ rs. slice_get rs i) runs.same_routers ∙ at_router) in
    let b = get-back (λ (x : SourceActor R I). feed x.inlet) runs.sources_then i closed (ap (λ fs. slice_get fs i) runs.inlets_closed ∙ at_closed) in
    let low = slice_get-below plan.inlets.items i inlet at_inlet in
    let setup = slice_get-some plan.setup.sources i (let n = runnable.sources in omega (arith, low, n)) in
    let view_of : SourceActor R I → SourceView = λ x. source_view x.spec (actor (feed x.inlet) x.reader x.buffer.items x.position x.bad_frames) (dests x.router) in
    let for = runs.are_sources i inlet setup.0 (view_of a.0) at_inlet setup.1 (slice_get-map view_of runs.sources i a.0 a.1.0) in
    let asked = slice_get-map (λ (p : InletPlan). inlet_asked plan.once p.spec) plan.inlets.items i inlet at_inlet in
    let fed : slice_get reached.inlets i ≡ Some (feed (a.0).inlet) = ap (λ fs. slice_get fs i) (sym runs.inlets_opened) ∙ slice_get-map (λ (x : SourceActor R I). feed x.inlet) runs.sources i a.0 a.1.0 in
    let none = ((holds.begin_at i (inlet_asked plan.once inlet.spec) (feed (a.0).inlet) asked fed).fresh).bytes in
    let says = offers (a.0).router in
    let count = dests (a.0).router in
    let old = source_seen feed a.0 in
    let new = source_seen feed b.0 in
    let does : SourceTook feed offers inlets dests a.0 b.0 turns = took.sources_took i a.0 b.0 a.1.0 b.1.0 in
    let reads = read-on says count (a.0).spec old new turns does.took (for.is).ready [] 0 (nothing-read says count (a.0).spec old for.is none) in
    let calls = took.calls (OfSource i) (slice_get-below runs.sources i a.0 a.1.0) in
    let came : admissions_of i events ≡ admitted_in (calls_of turns) = admitted-later i run.prelude later still ∙ own.admits i ∙ ap admitted_in calls in
    let planned = planned-of (a.0).spec i (feed (a.0).inlet).from inlet (is_some (setup.0).store) for.spec_is in
    let frame = frame_at plan.outlets.items in
    let texts = source-texts says count (a.0).spec old new turns reads i inlet planned start events legal came frame d first last is in
    let taken = taken_from frame i d first last in
    subst (λ (r : R). TakesFirstTexts (offers r) frame i d (records_of inlet closed) events taken last.left) a.1.1
    (subst (λ (c : InletState). TakesFirstTexts says frame i d (records_of inlet c) events taken last.left) b.1.1 texts)

-- what d sent since its outlet was opened
run-sent : {R I O : Type 0} (feed : I → InletState) (drain : O → OutletState) (offers : R → ℕ → Record → List Offer → Type 0) (inlets dests : R → ℕ) (plan : RunPlan) (routers : List R) (rounds : ℕ) (reached : Reached) (run : CoreRun)
    (ended : Ended) (counts : Option Counts) → IsServed feed drain offers inlets dests plan routers rounds reached run ended counts → (d : ℕ) (new closed : OutletState) → slice_get reached.outlets d ≡ Some new
    → slice_get reached.outlets_closed d ≡ Some closed → HasSentTexts plan run.made d new closed
run-sent {R} {I} {O} feed drain offers inlets dests plan routers rounds reached run ended counts served d new closed at_new at_closed =
    let runs = served.runs in
    let turns = runs.account (OfDest d) in
    let took = (runs.serves).took in
    let a = get-back (λ (x : DestActor O). drain x.outlet) runs.dests_first d new (ap (λ os. slice_get os d) runs.outlets_opened ∙ at_new) in
    let b = get-back (λ (x : DestActor O). drain x.outlet) runs.dests_then d closed (ap (λ os. slice_get os d) runs.outlets_closed ∙ at_closed) in
    let low = slice_get-below reached.outlets d new at_new in
    let outlet = slice_get-some plan.outlets.items d (let n = served.all_outlets in omega (arith, low, n)) in
    let view_of : DestActor O → DestView = λ x. dest_view x.spec x.outage (drain x.outlet) in
    let for = runs.are_dests d outlet.0 (view_of a.0) outlet.1 (slice_get-map view_of runs.dests_first d a.0 a.1.0) in
    let spec_is = (for.is).spec_is in
    let does : DestTook drain a.0 b.0 turns = took.dests_took d a.0 b.0 a.1.0 b.1.0 in
    let sent = sendings-of (a.0).spec (dest_seen drain a.0) (dest_seen drain b.0) turns does.took in
    let own : calls_by (OfDest d) run.made ≡ calls_of turns = took.calls (OfDest d) (slice_get-below runs.dests_first d a.0 a.1.0) in
    let frame = frame_at plan.outlets.items d in
    let frames : frame_by (a.0).spec ≡ frame = ap (λ (s : DestSpec). frame_by s) spec_is ∙ ap (λ (o : Option OutletPlan). frame_planned o) (sym outlet.1) in
    let number : ((a.0).spec).dest ≡ d = ap (λ (s : DestSpec). s.dest) spec_is in
    let are = subst (λ (o : OutletState). AreSendings frame d sent.sendings o closed) a.1.1
    (subst (λ (o : OutletState). AreSendings frame d sent.sendings (drain (a.0).outlet) o) b.1.1
    (subst (λ (f : Content → List ℕ). AreSendings f d sent.sendings (drain (a.0).outlet) (drain (b.0).outlet)) frames
    (subst (λ k. AreSendings (frame_by (a.0).spec) k sent.sendings (drain (a.0).outlet) (drain (b.0).outlet)) number sent.are))) in
    record { sendings = sent.sendings; calls = own ∙ sym sent.calls; are = are }

pub run-taken : {R I O : Type 0} (feed : I → InletState) (drain : O → OutletState) (offers : R → ℕ → Record → List Offer → Type 0) (inlets dests : R → ℕ) (files : Option Files) (plan : RunPlan) (routers : List R) (rounds : ℕ) (reached : Reached)
    (run : CoreRun) (ended : Ended) (counts : Option Counts) → HoldsRun files plan reached run → (served : IsServed feed drain offers inlets dests plan routers rounds reached run ended counts)
    → AreStill run.prelude → (start : State) (later : List Event) → Ran run.begun run.last run.made start run.prelude later → TakesThese plan reached run start (run.prelude ++ later)
run-taken feed drain offers inlets dests files plan routers rounds reached run ended counts holds served still start later ran d new closed first last at_new at_closed is =
    takes-these files plan reached run holds still start later ran d new closed first last is (run-sent feed drain offers inlets dests plan routers rounds reached run ended counts served d new closed at_new at_closed)

-- as many outlets were closed as were opened
all-closed : {R I O : Type 0} (feed : I → InletState) (drain : O → OutletState) (offers : R → ℕ → Record → List Offer → Type 0) (inlets dests : R → ℕ) (plan : RunPlan) (routers : List R) (rounds : ℕ) (reached : Reached) (run : CoreRun)
    (ended : Ended) (counts : Option Counts) → IsServed feed drain offers inlets dests plan routers rounds reached run ended counts → length reached.outlets_closed ≡ length reached.outlets
all-closed {R} {I} {O} feed drain offers inlets dests plan routers rounds reached run ended counts served =
    let runs = served.runs in
    let before : length runs.dests_first ≡ length reached.outlets = sym (length-map runs.dests_first (λ (x : DestActor O). drain x.outlet)) ∙ ap length runs.outlets_opened in
    let behind : length runs.dests_then ≡ length reached.outlets_closed = sym (length-map runs.dests_then (λ (x : DestActor O). drain x.outlet)) ∙ ap length runs.outlets_closed in
    sym behind ∙ ((runs.serves).took).all_dests ∙ before

-- each outlet that was opened is that of a destination, and was closed
run-accepted : {R I O : Type 0} (feed : I → InletState) (drain : O → OutletState) (offers : R → ℕ → Record → List Offer → Type 0) (inlets dests : R → ℕ) (plan : RunPlan) (routers : List R) (rounds : ℕ) (reached : Reached) (run : CoreRun)
    (ended : Ended) (counts : Option Counts) → IsServed feed drain offers inlets dests plan routers rounds reached run ended counts → AreStill run.prelude → (start : State) (later : List Event)
    → length start.dests ≡ length plan.outlets.items → Ran run.begun run.last run.made start run.prelude later → ShowsAccepted reached run
run-accepted {R} {I} {O} feed drain offers inlets dests plan routers rounds reached run ended counts served still start later many ran d new at_new =
    let runs = served.runs in
    let low = slice_get-below reached.outlets d new at_new in
    let all = served.all_outlets in
    let first = slice_get-some start.dests d (omega (arith, low, all, many)) in
    let there : slice_get (after_all start run.prelude).dests d ≡ Some first.0 = ap (λ ds. slice_get ds d) (still.dests start) ∙ first.1 in
    let many_closed = all-closed feed drain offers inlets dests plan routers rounds reached run ended counts served in
    let closed = slice_get-some reached.outlets_closed d (omega (arith, low, many_closed)) in
    let sent = run-sent feed drain offers inlets dests plan routers rounds reached run ended counts served d new closed.0 at_new closed.1 in
    settles-taken run.begun run.last run.made start run.prelude later d first.0 ran there (frame_at plan.outlets.items d) sent.sendings new closed.0 sent.calls sent.are

-- A run whose rounds weren't run.

stayed-texts : {R : Type 0} (offers : R → ℕ → Record → List Offer → Type 0) (plan : RunPlan) (routers : List R) (reached : Reached) (run : CoreRun) → AreStill run.prelude → run.made ≡ [] → (start : State) (later : List Event)
    → are_legal start (run.prelude ++ later) ≡ true → AreOwn run.made later → TakesPrefixes offers plan routers reached start (run.prelude ++ later)
stayed-texts offers plan routers reached run still none start later legal own i d inlet router closed first last at_inlet at_router at_closed is =
    let came : admissions_of i (run.prelude ++ later) ≡ [] = admitted-later i run.prelude later still ∙ own.admits i ∙ ap (λ es. admitted_in (calls_by (OfSource i) es)) none in
    no-texts (offers router) (frame_at plan.outlets.items) start (run.prelude ++ later) i inlet (records_of inlet closed) d first last legal came is

pub stayed-taken : (files : Option Files) (plan : RunPlan) (reached : Reached) (run : CoreRun) → HoldsRun files plan reached run → AreStill run.prelude → run.made ≡ [] → reached.outlets_closed ≡ reached.outlets → (start : State) (later : List Event)
    → Ran run.begun run.last run.made start run.prelude later → TakesThese plan reached run start (run.prelude ++ later)
stayed-taken files plan reached run holds still none stay start later ran d new closed first last at_new at_closed is =
    let same : closed ≡ new = some-same closed new (sym at_closed ∙ ap (λ os. slice_get os d) stay ∙ at_new) in
    takes-these files plan reached run holds still start later ran d new closed first last is (record { sendings = []; calls = ap (calls_by (OfDest d)) none; are = same })

not-among : (before later : List Exchange) (e : Exchange) → [] ≡ before ++ e ∷ later → ⊥
not-among [] later e h = let wrong : [] ≡ e ∷ later = h in cc
not-among (b ∷ before) later e h = let wrong : [] ≡ b ∷ (before ++ e ∷ later) = h in cc

stayed-accepted : (reached : Reached) (run : CoreRun) → run.made ≡ [] → ShowsAccepted reached run
stayed-accepted reached run none d new at_new before later place n count answer at not = absurd (not-among before later (record { call = Settle d place n count; reply = SettledReply answer }) (sym none ∙ at))

-- The whole.

abbrev pub ImagesAreSafe : Type 0
ImagesAreSafe =
    (setup : Setup) (opening : Opening) (events : List Event) (core : CoreState) (images : List (List ℕ)) (lists : List (List BufferedEntry)) → StandsFor core (opened setup opening) events → AreImages core.stores images
    → AreListsIn core.sinks images lists → Safe (opened setup opening) events nothing (record { positions = positions_in core.sources images; lists = lists })

abbrev pub ImagesBetweenAreSafe : Type 0
ImagesBetweenAreSafe =
    (setup : Setup) (opening : Opening) (events : List Event) (core : CoreState) (stands : StandsFor core (opened setup opening) events) (k : ℕ) (event : Event) (images : List (List ℕ)) (lists : List (List BufferedEntry)) → slice_get events k ≡ Some event
    → AreImagesBetween core.stores (stands.moments.rows k) (stands.moments.rows (k + 1)) images → AreListsIn core.sinks images lists
    → Safe (opened setup opening) (take k events) event (record { positions = positions_in core.sources images; lists = lists })

-- the laws of what the sentence says of drops, stops and paths
pub record Laws : Type 0 where
  pub due : DropsAreDue
  pub now : ImagesAreSafe
  pub between : ImagesBetweenAreSafe
  pub under : StandUnder

headline-of : {R : Type 0} (offers : R → ℕ → Record → List Offer → Type 0) (files : Option Files) (plan : RunPlan) (routers : List R) (reached : Reached) (run : CoreRun) → Laws → (holds : HoldsRun files plan reached run)
    → Makes Serves run.begun run.made run.last
    → ((later : List Event) → Ran run.begun run.last run.made (opened plan.setup ((holds.core).opens).opening) run.prelude later → ShowsAccepted reached run)
    → ((start : State) (later : List Event) → are_legal start (run.prelude ++ later) ≡ true → AreOwn run.made later → TakesPrefixes offers plan routers reached start (run.prelude ++ later))
    → ((start : State) (later : List Event) → Ran run.begun run.last run.made start run.prelude later → TakesThese plan reached run start (run.prelude ++ later)) → OutletsLie reached → Headline offers plan routers reached run
headline-of offers files plan routers reached run laws holds makes accepted texts taken outlets =
    let opens = (holds.core).opens in
    let start = opened plan.setup opens.opening in
    let stood = ((holds.core).begins).stands plan.setup opens.opening opens.stands in
    let h = calls-run run.begun run.last run.made start run.prelude makes stood in
    let ran = h.1.0 in
    let events = run.prelude ++ h.0 in
    let stands = ran.stands in
    record {
      opens = opens;
      later = h.0;
      ran = ran;
      accepted = accepted h.0 ran;
      faults = shows-faults plan reached run holds.core makes;
      holds = record {
        texts = texts start h.0 stands.legal h.1.1;
        taken = taken start h.0 ran;
        by_path = takes-by-path laws.under plan reached run start events outlets (taken start h.0 ran);
        legal = stands.legal;
        due = λ before later i admitted verdicts failed is. laws.due start before later i admitted verdicts failed (subst (λ es. are_legal start es ≡ true) is stands.legal);
        windows = opened-within plan.setup opens.opening events stands.legal;
        stands = stands;
        begins = λ s store get.
            h.1.2 0 s (omega arith) ∙ ((holds.core).begins).rows plan.setup opens.opening opens.stands 0 s (omega arith) ∙ (opens.stands).moments.last s store get;
        stop = laws.between plan.setup opens.opening events run.last stands;
        stop_then = λ images lists are in_lists. laws.now plan.setup opens.opening events run.last images lists stands are in_lists;
      };
    }

held : {R I O : Type 0} (feed : I → InletState) (drain : O → OutletState) (offers : R → ℕ → Record → List Offer → Type 0) (inlets dests : R → ℕ) (files : Option Files) (plan : RunPlan) (routers : List R) (rounds : ℕ) (reached : Reached)
    (core : Option CoreRun) (ending : PlanEnded) → Laws → IsRunnable plan → (length reached.outlets_closed ≡ length reached.outlets → OutletsLie reached) → PlanRunHolds feed drain offers inlets dests files plan routers rounds reached core ending → Delivers offers plan routers reached core
held feed drain offers inlets dests files plan routers rounds reached None (Before early) laws runnable outlets h = (h.no_inlets.0, h.no_outlets.0)
held feed drain offers inlets dests files plan routers rounds reached None (RanSo ended counts) laws runnable outlets h = absurd h
held feed drain offers inlets dests files plan routers rounds reached (Some run) (Before early) laws runnable outlets (holds, stays) =
    let still = still-either run.first reached.inlets run.prelude stays.rewinds in
    let makes = subst (λ (es : List Exchange). Makes Serves run.begun es run.last) (sym stays.unserved) stays.core_stays in
    headline-of offers files plan routers reached run laws holds makes
    (λ later ran. stayed-accepted reached run stays.unserved)
    (λ start later legal own. stayed-texts offers plan routers reached run still stays.unserved start later legal own)
    (λ start later ran. stayed-taken files plan reached run holds still stays.unserved stays.outlets_stay start later ran)
    (outlets (ap length stays.outlets_stay))
held feed drain offers inlets dests files plan routers rounds reached (Some run) (RanSo ended counts) laws runnable outlets (holds, served) =
    let still = still-rewinds (position_at run.first) (places_of reached.inlets) run.prelude served.rewinds in
    let opens = (holds.core).opens in
    let start = opened plan.setup opens.opening in
    let many : length start.dests ≡ length plan.outlets.items = opened-many plan.setup.dests opens.opening.entries ∙ runnable.dests in
    headline-of offers files plan routers reached run laws holds ((((served.runs).serves).took).makes)
    (λ later ran. run-accepted feed drain offers inlets dests plan routers rounds reached run ended counts served still start later many ran)
    (λ start later legal own. run-texts feed drain offers inlets dests files plan routers rounds reached run ended counts runnable holds served still start later legal own)
    (λ start later ran. run-taken feed drain offers inlets dests files plan routers rounds reached run ended counts holds served still start later ran)
    (outlets (all-closed feed drain offers inlets dests plan routers rounds reached run ended counts served))

pub deliver : {R I O : Type 0} (feed : I → InletState) (drain : O → OutletState) (offers : R → ℕ → Record → List Offer → Type 0) (inlets dests : R → ℕ) → Laws → RunsDeliver feed drain offers inlets dests
deliver feed drain offers inlets dests laws old new plan routers rounds ending reached runnable runs =
    held feed drain offers inlets dests old.files plan routers rounds reached reached.core ending laws runnable
    (λ many. record {
      lie = (runs.devices).lie;
      whole = (runs.devices).whole;
      closed_are = (runs.devices).closed_are;
      are_new = subst AllAreNew (sym (runs.devices).outlets_are) (fresh-new reached.outs ((runs.devices).outlets).fresh);
      as_many = many;
    }) runs.holds

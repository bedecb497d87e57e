-- The rounds of a plan's run.
use Rattle.std.proofs.Common.{◌≡◌, ℕ, ◌+◌, ◌-◌, ◌^◌, ◌≤◌, ◌<◌, Bool, true, false, not, List, [], ◌∷◌, ◌++◌, length, length-append, Some, None, Option, refl, sym, ap, ◌∙◌, arith, subst, suc, zero, Ok, Err, inl, inr}
use Rattle.std.proofs.lemmas.Bool.{eq-eqb}
use Rattle.std.proofs.lemmas.List.{length-map}
use Rattle.std.specs.Prelude.{◌==◌, slice_get}
use Rattle.std.specs.Option.{option_map_or}
use Rattle.sg_list.proofs.ListLemmas.{slice_get-some, slice_get-below, slice_get-map}
use Rattle.sg_device.specs.Inlet.{InletState}
use Rattle.sg_device.specs.Outlet.{OutletState}
use Rattle.sg_outside.specs.World.{Files}
use Rattle.sg_msg.specs.declared.offer.Offer.{Offer}
use Rattle.sg_frame.specs.Records.{Record}
use Rattle.sg_machine.specs.declared.event.Act.{Act}
use Rattle.sg_machine.specs.declared.event.Admission.{Admission}
use Rattle.sg_machine.specs.declared.event.Event.{Event}
use Rattle.sg_machine.specs.declared.state.Dest.{Dest}
use Rattle.sg_machine.specs.declared.state.InletRecords.{InletRecords}
use Rattle.sg_machine.specs.declared.state.State.{State}
use Rattle.sg_machine.specs.Effects.{next_of}
use Rattle.sg_machine.specs.Marks.{mark_of}
use Rattle.sg_machine.specs.Runs.{opened, after_all}
use Rattle.sg_machine.proofs.RunLemmas.{after_all-append}
use Rattle.sg_counter.specs.Exchanges.{Exchange, Caller, OfSource, OfDest, calls_by}
use Rattle.sg_counter.specs.declared.answers.Refill.TheVariants.{Moved, NoneWaits, NoRoom, Broken as RefillBroken}
use Rattle.sg_counter.specs.declared.answers.Settled.TheVariants.{Done, NotFront, DiskFailed}
use Rattle.sg_counter.specs.declared.answers.Stored.TheVariants.{Wrote, Unchanged, Broken}
use Rattle.sg_counter.specs.declared.calls.CoreCall.{CoreCall}
use Rattle.sg_counter.specs.declared.calls.CoreCall.TheVariants.{Credit, Admit, Front, Settle, Refill, Store}
use Rattle.sg_counter.specs.declared.calls.CoreReply.{CoreReply}
use Rattle.sg_counter.specs.declared.calls.CoreReply.TheVariants.{Admitted, Settled as SettledReply, Refilled, Stored as StoredReply}
use Rattle.sg_standing.specs.Standing.{IsAt}
use Rattle.sg_standing.specs.States.{CoreState}
use Rattle.sg_core.specs.Calls.{acts_in, acts_of}
use Rattle.sg_actor.specs.Bringing.{admitted_by, admitted_in}
use Rattle.sg_actor.specs.Reading.{one_if}
use Rattle.sg_actor.specs.Rendering.{frame_by}
use Rattle.sg_actor.specs.Sources.{AreOf}
use Rattle.sg_actor.specs.SourceTurns.{ActorState, actor}
use Rattle.sg_actor.specs.Steps.{parts_over}
use Rattle.sg_actor.specs.declared.dest.DestActor.{DestActor}
use Rattle.sg_actor.specs.declared.rendering.DestSpec.{DestSpec}
use Rattle.sg_actor.specs.declared.settings.SourceSpec.{SourceSpec}
use Rattle.sg_actor.specs.declared.source.SourceActor.{SourceActor}
use Rattle.sg_turns.specs.Actors.{source_seen, dest_seen, SourceTook, DestTook}
use Rattle.sg_turns.specs.Laws.{ReadsOn}
use Rattle.sg_turns.specs.Serving.{IsActor, sum_below, busy_of, SpendsRounds}
use Rattle.sg_turns.specs.Turns.{Turn, calls_of}
use Rattle.sg_turns.specs.declared.ended.Ended.{Ended}
use Rattle.sg_turns.specs.declared.ended.Ended.TheVariants.{Quiet, RoundsSpent, NoMemory}
use Rattle.sg_turns.proofs.BoundLemmas.{dest-bounded, busy-most, one-most}
use Rattle.sg_turns.proofs.LawLemmas.{read-on}
use Rattle.sg_run_plan.specs.declared.inlet.InletPlan.{InletPlan}
use Rattle.sg_laws.specs.Calls.{Ran as RanSo}
use Rattle.sg_laws.specs.Fronts.{IsDestThroughout}
use Rattle.sg_laws.specs.Turns.{AreSendings}
use Rattle.sg_laws.proofs.OwnLemmas.{calls-run}
use Rattle.sg_laws.proofs.SeenLemmas.{frames-settled}
use Rattle.sg_serve.specs.Actors.{SourceView, DestView, source_view, dest_view}
use Rattle.sg_serve.specs.Devices.{inlet_asked}
use Rattle.sg_serve.specs.Plan.{IsRunnable}
use Rattle.sg_serve.specs.Rewinds.{rewinds_at, rewinds_from, position_at, places_of}
use Rattle.sg_serve.specs.Run.{CoreRun, Reached, HoldsRun, IsServed, PlanRunHolds}
use Rattle.sg_serve.specs.declared.counts.Counts.{Counts}
use Rattle.sg_serve.specs.declared.ending.PlanEnded.{PlanEnded}
use Rattle.sg_serve.specs.declared.ending.PlanEnded.TheVariants.{Before, Ran}
use Rattle.sg_run_plan.specs.declared.plan.RunPlan.{RunPlan}
use Rattle.sg_laws.proofs.DestLemmas.{sendings-of}
use Rattle.sg_laws.proofs.PreludeLemmas.{get-back, still-rewinds, opened-many}
use Rattle.sg_laws.proofs.SourceLemmas.{nothing-read}
use Rattle.sg_laws.specs.Bounds.{brought, recovered_in, offered_in, recovered_at, offered_at, most_rounds, AreRoundsFew, IsFew, RunsAreBounded, UntroubledRunsEnd}
use Rattle.sg_laws.specs.Counts.{rise, changes, writes_in, offers_of}
use Rattle.sg_laws.proofs.ActLemmas.{unstored_at}
use Rattle.sg_laws.proofs.CallLemmas.{calls-end}
use Rattle.sg_laws.proofs.BoundEventLemmas.{acts_offers, kept-all, dests-all, opened-owe, opened-kept, opened-none, rewind-next}
use Rattle.sg_laws.proofs.MarkLemmas.{acked-length, acked_of, unstored_of}
use Rattle.sg_laws.proofs.OwedLemmas.{owed_in, size, kept_in}
use Rattle.sg_laws.proofs.RiseLemmas.{stands-or, rise-below, rise-above}
use Rattle.sg_laws.proofs.SumLemmas.{inlet_pays, outlet_pays, own_offers, own-offers-sum, inlets-sum, outlets-sum}
use Rattle.sg_laws.proofs.BoundTurnLemmas.{source-bounded}

-- Where the rounds begin.

one-next : (s : State) (j i position place : ℕ) → next_of (after_all s (rewinds_at j position place)) i ≡ next_of s i
one-next s j i zero place = refl
one-next s j i (suc position) (suc place) = refl
one-next s j i (suc position) zero = rewind-next s j i []

rewinds-next : (positions : ℕ → ℕ) (j i : ℕ) (places : List ℕ) (s : State) → next_of (after_all s (rewinds_from positions j places)) i ≡ next_of s i
rewinds-next positions j i [] s = refl
rewinds-next positions j i (place ∷ places) s =
    let one = rewinds_at j (positions j) place in
    ap (λ (t : State). next_of t i) (after_all-append s one (rewinds_from positions (j + 1) places))
    ∙ rewinds-next positions (j + 1) i places (after_all s one)
    ∙ one-next s j i (positions j) place

no-ends : (ends : List ℕ) → length ends ≡ 0 → ends ≡ []
no-ends [] h = refl
no-ends (e ∷ ends) h = absurd (let wrong : ⊥ = omega (arith, h) in wrong)

equal-zero : (a b : ℕ) → a ≡ b → one_if (not (a == b)) ≡ 0
equal-zero a b h = ap (λ t. one_if (not t)) (eq-eqb a b h)

stored-by : (o : Option InletRecords) (ds : List Dest) (i : ℕ) → option_map_or (λ (x : InletRecords). length x.ends) o 0 ≡ 0 → ((x : InletRecords) → o ≡ Some x → x.ends ≡ [] → x.stored ≡ x.opening) → option_map_or (unstored_of ds i) o 0 ≡ 0
stored-by None ds i none unmoved = refl
stored-by (Some x) ds i none unmoved =
    let empty = no-ends x.ends none in
    let same = unmoved x refl empty in
    ap (λ (es : List ℕ). one_if (not (x.stored == mark_of ds i (record x { ends = es })))) empty ∙ equal-zero x.stored x.opening same

-- nothing came in yet
record BeginsBound (core : CoreState) (s : State) (recovered : ℕ) : Type 0 where
  at : IsAt core s
  next : (i : ℕ) → next_of s i ≡ 0
  owed : (i : ℕ) → owed_in i s.dests ≡ 0
  stored : (i : ℕ) → unstored_at s i ≡ 0
  kept : kept_in s.dests ≡ recovered

begins : (files : Option Files) (plan : RunPlan) (reached : Reached) (run : CoreRun) (holds : HoldsRun files plan reached run) → run.prelude ≡ rewinds_from (position_at run.first) 0 (places_of reached.inlets)
    → BeginsBound run.begun (after_all (opened plan.setup (holds.core).opens.opening) run.prelude) (recovered_in plan reached run (holds.core).opens)
begins files plan reached run holds rewinds =
    let opens = (holds.core).opens in
    let start = opened plan.setup opens.opening in
    let s = after_all start run.prelude in
    let stood = ((holds.core).begins).stands plan.setup opens.opening opens.stands in
    let still = still-rewinds (position_at run.first) (places_of reached.inlets) run.prelude rewinds in
    let none : (i : ℕ) → next_of s i ≡ 0 = λ i.
    ap (λ es. next_of (after_all start es) i) rewinds ∙ rewinds-next (position_at run.first) 0 i (places_of reached.inlets) start ∙ opened-none plan.setup.sources opens.opening.places i in
    record {
      at = stood.at;
      next = none;
      owed = λ i. ap (owed_in i) (still.dests start) ∙ opened-owe i plan.setup.dests opens.opening.entries;
      stored = λ i. stored-by (slice_get s.inlets i) s.dests i (none i) (λ x there empty. stood.at.sound.unmoved i x there empty);
      kept = ap kept_in (still.dests start) ∙ opened-kept plan.setup.dests opens.opening.entries;
    }

-- The offers of calls are those of their events.

call-offers : (call : CoreCall) (reply : CoreReply) → acts_offers (acts_in call reply) ≡ offers_of (admitted_by call reply)
call-offers (Credit i) reply = refl
call-offers (Admit i records) (Admitted (Ok vs)) = omega arith
call-offers (Admit i records) (Admitted (Err refused)) = refl
call-offers (Admit i records) reply = refl
call-offers (Front d most) reply = refl
call-offers (Settle d place n count) (SettledReply Done) = refl
call-offers (Settle d place n count) (SettledReply NotFront) = refl
call-offers (Settle d place n count) (SettledReply DiskFailed) = refl
call-offers (Settle d place n count) reply = refl
call-offers (Refill d) (Refilled (Moved n)) = refl
call-offers (Refill d) (Refilled NoneWaits) = refl
call-offers (Refill d) (Refilled NoRoom) = refl
call-offers (Refill d) (Refilled RefillBroken) = refl
call-offers (Refill d) reply = refl
call-offers (Store i) (StoredReply (Wrote w)) = refl
call-offers (Store i) (StoredReply Unchanged) = refl
call-offers (Store i) (StoredReply Broken) = refl
call-offers (Store i) reply = refl

acts-both : (xs ys : List Act) → acts_offers (xs ++ ys) ≡ acts_offers xs + acts_offers ys
acts-both [] ys = omega arith
acts-both (x ∷ xs) ys = let h = acts-both xs ys in omega (arith, h)

offers-both : (xs ys : List Admission) → offers_of (xs ++ ys) ≡ offers_of xs + offers_of ys
offers-both [] ys = omega arith
offers-both (x ∷ xs) ys = let h = offers-both xs ys in omega (arith, h)

calls-offers : (made : List Exchange) → acts_offers (acts_of made) ≡ offers_of (admitted_in made)
calls-offers [] = refl
calls-offers (e ∷ rest) =
    let both = acts-both (acts_in e.call e.reply) (acts_of rest) in
    let one = call-offers e.call e.reply in
    let more = calls-offers rest in
    let all = offers-both (admitted_by e.call e.reply) (admitted_in rest) in
    omega (arith, both, one, more, all)

-- A source.

are-many : (offers : ℕ → Record → List Offer → Type 0) (spec : SourceSpec) (rs : List Record) (as' : List Admission) → AreOf offers spec rs as' → length as' ≡ length rs
are-many offers spec [] [] h = refl
are-many offers spec [] (a ∷ as') h = absurd h
are-many offers spec (r ∷ rs) [] h = absurd h
are-many offers spec (r ∷ rs) (a ∷ as') h = ap suc (are-many offers spec rs as' h.1)

-- each record took a byte with it at least
few-records : (offers : ℕ → Record → List Offer → Type 0) (dests : ℕ) (spec : SourceSpec) (old new : ActorState) (turns : List Turn) → ReadsOn offers dests spec old new turns [] 0 → length (admitted_in (calls_of turns)) ≤ new.source.feed.bytes
few-records offers dests spec old new turns reads =
    let behind = reads.reads.0 in
    let fewer = (reads.reads.1.1.1.1).fewer in
    let many = are-many offers spec reads.taken (admitted_in (calls_of turns)) reads.offered in
    let both = length-append reads.taken behind in
    omega (arith, fewer, many, both)

over-most : (given_up : Bool) (parts : ℕ) → parts_over given_up parts ≤ parts
over-most true parts = omega arith
over-most false parts = omega arith

acked-by : (o : Option InletRecords) (ds : List Dest) (i : ℕ) → option_map_or (acked_of ds i) o 0 ≤ option_map_or (λ (x : InletRecords). length x.ends) o 0
acked-by None ds i = omega arith
acked-by (Some x) ds i = acked-length ds i 0 x.ends

-- what is known of it
record IsPaid (old new : ActorState) (own : List Exchange) : Type 0 where
  bytes : old.source.feed.bytes ≡ 0
  idles : old.source.feed.idles ≡ 0
  first : old.position.credit ≡ None
  records : length (admitted_in own) ≤ new.source.feed.bytes
  changed : changes None own ≤ 1 + length (admitted_in own) + offers_of (admitted_in own)
  written : writes_in own ≤ length (admitted_in own)

source-pays : (busy : ℕ) (old new : ActorState) (own : List Exchange) → IsPaid old new own → rise old.source.feed.faults new.source.feed.faults ≡ new.source.feed.faults - old.source.feed.faults
    → busy ≤ brought old.source new.source + 1 + length (admitted_in own) + changes old.position.credit own + writes_in own + one_if (not old.position.broken)
    → busy ≤ inlet_pays old.source.feed new.source.feed + offers_of (admitted_in own)
source-pays busy old new own paid rose h =
    let bytes = paid.bytes in
    let idles = paid.idles in
    let records = paid.records in
    let changed = paid.changed in
    let written = paid.written in
    let same = ap (λ c. changes c own) paid.first in
    let over = over-most new.source.reader.given_up new.source.feed.parts in
    let one = one-most (not old.position.broken) in
    omega (arith, bytes, idles, records, changed, written, same, over, one, rose, h)

source-busy : {R I O : Type 0} (feed : I → InletState) (drain : O → OutletState) (offers : R → ℕ → Record → List Offer → Type 0) (inlets dests : R → ℕ) (files : Option Files) (plan : RunPlan) (routers : List R) (rounds : ℕ) (reached : Reached)
    (run : CoreRun) (counts : Option Counts) → IsRunnable plan → HoldsRun files plan reached run → (served : IsServed feed drain offers inlets dests plan routers rounds reached run RoundsSpent counts)
    → (s : State) (recovered : ℕ) → BeginsBound run.begun s recovered → (i : ℕ) (old new : InletState) → slice_get reached.inlets i ≡ Some old → slice_get reached.inlets_closed i ≡ Some new → new.faults < 2 ^ 64 - 1
    → busy_of ((served.runs).account (OfSource i)) ≤ inlet_pays old new + own_offers run.made i
source-busy {R} {I} {O} feed drain offers inlets dests files plan routers rounds reached run counts runnable holds served s recovered begin i old new at_old at_new counted =
    let runs = served.runs in
    let made = run.made in
    let turns = runs.account (OfSource i) in
    let took = (runs.serves).took in
    let own = calls_by (OfSource i) made in
    let a = get-back (λ (x : SourceActor R I). feed x.inlet) runs.sources i old (ap (λ fs. slice_get fs i) runs.inlets_opened ∙ at_old) in
    let b = get-back (λ (x : SourceActor R I). feed x.inlet) runs.sources_then i new (ap (λ fs. slice_get fs i) runs.inlets_closed ∙ at_new) in
    let low = slice_get-below reached.inlets i old at_old in
    let inlet = slice_get-some plan.inlets.items i (let n = served.all_inlets in omega (arith, low, n)) in
    let setup = slice_get-some plan.setup.sources i (let n = served.all_inlets in let m = runnable.sources in omega (arith, low, n, m)) in
    let view_of : SourceActor R I → SourceView = λ x. source_view x.spec (actor (feed x.inlet) x.reader x.buffer.items x.position x.bad_frames) (dests x.router) in
    let for = runs.are_sources i inlet.0 setup.0 (view_of a.0) inlet.1 setup.1 (slice_get-map view_of runs.sources i a.0 a.1.0) in
    let asked = slice_get-map (λ (p : InletPlan). inlet_asked plan.once p.spec) plan.inlets.items i inlet.0 inlet.1 in
    let fed : slice_get reached.inlets i ≡ Some (feed (a.0).inlet) = ap (λ fs. slice_get fs i) (sym runs.inlets_opened) ∙ slice_get-map (λ (x : SourceActor R I). feed x.inlet) runs.sources i a.0 a.1.0 in
    let fresh = (holds.begin_at i (inlet_asked plan.once (inlet.0).spec) (feed (a.0).inlet) asked fed).fresh in
    let says = offers (a.0).router in
    let count = dests (a.0).router in
    let first = source_seen feed a.0 in
    let last = source_seen feed b.0 in
    let does : SourceTook feed offers inlets dests a.0 b.0 turns = took.sources_took i a.0 b.0 a.1.0 b.1.0 in
    let reads = read-on says count (a.0).spec first last turns does.took (for.is).ready [] 0 (nothing-read says count (a.0).spec first for.is fresh.bytes) in
    let calls : own ≡ calls_of turns = took.calls (OfSource i) (slice_get-below runs.sources i a.0 a.1.0) in
    let below : (feed (b.0).inlet).faults < 2 ^ 64 - 1 = subst (λ (f : InletState). f.faults < 2 ^ 64 - 1) (sym b.1.1) counted in
    let bounded = source-bounded says count (a.0).spec first last turns does.took below in
    let ended = calls-end i run.begun run.last made s took.makes begin.at in
    let total = ended.total None in
    let changed = total.changed in
    let marks = total.marks in
    let came = total.records in
    let acked = acked-by (slice_get (ended.after).inlets i) (ended.after).dests i in
    let none = begin.next i in
    let owes = begin.owed i in
    let stored = begin.stored i in
    let paid : IsPaid first last own = record {
      bytes = fresh.bytes;
      idles = fresh.idles;
      first = (for.is).first;
      records = subst (λ (es : List Exchange). length (admitted_in es) ≤ last.source.feed.bytes) (sym calls) (few-records says count (a.0).spec first last turns reads);
      changed = omega (arith, changed, owes);
      written = omega (arith, marks, came, acked, none, stored);
    } in
    let h = subst (λ (es : List Exchange). busy_of turns ≤ brought first.source last.source + 1 + length (admitted_in es) + changes first.position.credit es + writes_in es + one_if (not first.position.broken)) (sym calls) bounded in
    let pays = source-pays (busy_of turns) first last own paid (rise-below first.source.feed.faults last.source.feed.faults below) h in
    subst (λ (f : InletState). busy_of turns ≤ inlet_pays f new + own_offers made i) a.1.1 (subst (λ (f : InletState). busy_of turns ≤ inlet_pays (feed (a.0).inlet) f + own_offers made i) b.1.1 pays)

-- A destination.

settled-few : (first last : Dest) (old new : OutletState) → new.count + length first.settled ≡ old.count + length last.settled → new.count - old.count ≤ size last
settled-few first last old new h = omega (arith, h)

dest-busy : {R I O : Type 0} (feed : I → InletState) (drain : O → OutletState) (offers : R → ℕ → Record → List Offer → Type 0) (inlets dests : R → ℕ) (plan : RunPlan) (routers : List R) (rounds : ℕ) (reached : Reached)
    (run : CoreRun) (counts : Option Counts) → (served : IsServed feed drain offers inlets dests plan routers rounds reached run RoundsSpent counts)
    → (start : State) (later : List Event) → RanSo run.begun run.last run.made start run.prelude later → length (after_all start run.prelude).dests ≡ length reached.outlets
    → (d : ℕ) (old new : OutletState) (x : Dest) → slice_get reached.outlets d ≡ Some old → slice_get reached.outlets_closed d ≡ Some new → slice_get (after_all start (run.prelude ++ later)).dests d ≡ Some x
    → new.faults < 2 ^ 64 - 1 → busy_of ((served.runs).account (OfDest d)) ≤ size x + outlet_pays old new
dest-busy {R} {I} {O} feed drain offers inlets dests plan routers rounds reached run counts served start later ran many d old new x at_old at_new at_last counted =
    let runs = served.runs in
    let made = run.made in
    let turns = runs.account (OfDest d) in
    let took = (runs.serves).took in
    let a = get-back (λ (y : DestActor O). drain y.outlet) runs.dests_first d old (ap (λ os. slice_get os d) runs.outlets_opened ∙ at_old) in
    let b = get-back (λ (y : DestActor O). drain y.outlet) runs.dests_then d new (ap (λ os. slice_get os d) runs.outlets_closed ∙ at_new) in
    let low = slice_get-below reached.outlets d old at_old in
    let outlet = slice_get-some plan.outlets.items d (let n = served.all_outlets in omega (arith, low, n)) in
    let there = slice_get-some (after_all start run.prelude).dests d (omega (arith, low, many)) in
    let view_of : DestActor O → DestView = λ y. dest_view y.spec y.outage (drain y.outlet) in
    let for = runs.are_dests d outlet.0 (view_of a.0) outlet.1 (slice_get-map view_of runs.dests_first d a.0 a.1.0) in
    let first = dest_seen drain a.0 in
    let last = dest_seen drain b.0 in
    let does : DestTook drain a.0 b.0 turns = took.dests_took d a.0 b.0 a.1.0 b.1.0 in
    let below : (drain (b.0).outlet).faults < 2 ^ 64 - 1 = subst (λ (o : OutletState). o.faults < 2 ^ 64 - 1) (sym b.1.1) counted in
    let bounded = dest-bounded (a.0).spec first last turns does.took below in
    let works = ap one_if (for.is).works in
    let sent = sendings-of (a.0).spec first last turns does.took in
    let calls : calls_by (OfDest d) made ≡ calls_of turns = took.calls (OfDest d) (slice_get-below runs.dests_first d a.0 a.1.0) in
    let number : ((a.0).spec).dest ≡ d = ap (λ (p : DestSpec). p.dest) (for.is).spec_is in
    let are = subst (λ k. AreSendings (frame_by (a.0).spec) k sent.sendings first.drain last.drain) number sent.are in
    let is : IsDestThroughout start run.prelude later d there.0 x = record { at_first = there.1; at_last = at_last } in
    let settled = frames-settled run.begun run.last made start run.prelude later d there.0 x ran is (frame_by (a.0).spec) sent.sendings first.drain last.drain (calls ∙ sym sent.calls) are in
    let few = settled-few there.0 x first.drain last.drain settled.count in
    let rose = rise-below first.drain.faults last.drain.faults below in
    let h : busy_of turns ≤ size x + outlet_pays first.drain last.drain = omega (arith, bounded, works, few, rose) in
    subst (λ (o : OutletState). busy_of turns ≤ size x + outlet_pays o new) a.1.1 (subst (λ (o : OutletState). busy_of turns ≤ size x + outlet_pays (drain (a.0).outlet) o) b.1.1 h)

-- All of them.

-- each takes one turn a round, and so fewer than a count at its end
turns-few : {R I O : Type 0} (feed : I → InletState) (drain : O → OutletState) (offers : R → ℕ → Record → List Offer → Type 0) (inlets dests : R → ℕ) (plan : RunPlan) (routers : List R) (rounds : ℕ) (reached : Reached)
    (run : CoreRun) (counts : Option Counts) → rounds < 2 ^ 64 → (served : IsServed feed drain offers inlets dests plan routers rounds reached run RoundsSpent counts)
    → (who : Caller) → IsActor (length (served.runs).sources) (length (served.runs).dests_first) who → busy_of ((served.runs).account who) ≤ 2 ^ 64 - 1
turns-few feed drain offers inlets dests plan routers rounds reached run counts low served who is =
    let serves = (served.runs).serves in
    let most = busy-most ((served.runs).account who) in
    let all = (serves.took).turns who is in
    let few = serves.few in
    omega (arith, most, all, few, low)

source-few : {R I O : Type 0} (feed : I → InletState) (drain : O → OutletState) (offers : R → ℕ → Record → List Offer → Type 0) (inlets dests : R → ℕ) (files : Option Files) (plan : RunPlan) (routers : List R) (rounds : ℕ) (reached : Reached)
    (run : CoreRun) (counts : Option Counts) → IsRunnable plan → rounds < 2 ^ 64 → HoldsRun files plan reached run → (served : IsServed feed drain offers inlets dests plan routers rounds reached run RoundsSpent counts)
    → (s : State) (recovered : ℕ) → BeginsBound run.begun s recovered → (i : ℕ) (old new : InletState) → slice_get reached.inlets i ≡ Some old → slice_get reached.inlets_closed i ≡ Some new
    → busy_of ((served.runs).account (OfSource i)) ≤ inlet_pays old new + own_offers run.made i
source-few {R} {I} {O} feed drain offers inlets dests files plan routers rounds reached run counts runnable low holds served s recovered begin i old new at_old at_new = elim (stands-or new.faults) [
  | inl below ↦ source-busy feed drain offers inlets dests files plan routers rounds reached run counts runnable holds served s recovered begin i old new at_old at_new below
  | inr above ↦ (
      let runs = served.runs in
      let a = get-back (λ (x : SourceActor R I). feed x.inlet) runs.sources i old (ap (λ fs. slice_get fs i) runs.inlets_opened ∙ at_old) in
      let few = turns-few feed drain offers inlets dests plan routers rounds reached run counts low served (OfSource i) (slice_get-below runs.sources i a.0 a.1.0) in
      let rose = rise-above old.faults new.faults above in
      omega (arith, few, rose, above))
]

dest-few : {R I O : Type 0} (feed : I → InletState) (drain : O → OutletState) (offers : R → ℕ → Record → List Offer → Type 0) (inlets dests : R → ℕ) (plan : RunPlan) (routers : List R) (rounds : ℕ) (reached : Reached)
    (run : CoreRun) (counts : Option Counts) → rounds < 2 ^ 64 → (served : IsServed feed drain offers inlets dests plan routers rounds reached run RoundsSpent counts)
    → (start : State) (later : List Event) → RanSo run.begun run.last run.made start run.prelude later → length (after_all start run.prelude).dests ≡ length reached.outlets
    → (d : ℕ) (old new : OutletState) (x : Dest) → slice_get reached.outlets d ≡ Some old → slice_get reached.outlets_closed d ≡ Some new → slice_get (after_all start (run.prelude ++ later)).dests d ≡ Some x
    → busy_of ((served.runs).account (OfDest d)) ≤ size x + outlet_pays old new
dest-few {R} {I} {O} feed drain offers inlets dests plan routers rounds reached run counts low served start later ran many d old new x at_old at_new at_last = elim (stands-or new.faults) [
  | inl below ↦ dest-busy feed drain offers inlets dests plan routers rounds reached run counts served start later ran many d old new x at_old at_new at_last below
  | inr above ↦ (
      let runs = served.runs in
      let a = get-back (λ (y : DestActor O). drain y.outlet) runs.dests_first d old (ap (λ os. slice_get os d) runs.outlets_opened ∙ at_old) in
      let few = turns-few feed drain offers inlets dests plan routers rounds reached run counts low served (OfDest d) (slice_get-below runs.dests_first d a.0 a.1.0) in
      let rose = rise-above old.faults new.faults above in
      omega (arith, few, rose, above))
]

are-few : (recovered offered rounds : ℕ) (reached : Reached) → rounds ≤ most_rounds recovered offered reached → AreRoundsFew recovered offered rounds reached
are-few recovered offered rounds reached h = record { most = h; below = omega (arith, h) }

rounds-few : {R I O : Type 0} (feed : I → InletState) (drain : O → OutletState) (offers : R → ℕ → Record → List Offer → Type 0) (inlets dests : R → ℕ) (files : Option Files) (plan : RunPlan) (routers : List R) (rounds : ℕ) (reached : Reached)
    (run : CoreRun) (counts : Option Counts) → IsRunnable plan → rounds < 2 ^ 64 → (holds : HoldsRun files plan reached run) → (served : IsServed feed drain offers inlets dests plan routers rounds reached run RoundsSpent counts)
    → AreRoundsFew (recovered_in plan reached run (holds.core).opens) (offered_in run.made) rounds reached
rounds-few {R} {I} {O} feed drain offers inlets dests files plan routers rounds reached run counts runnable low holds served =
    let runs = served.runs in
    let made = run.made in
    let account = runs.account in
    let serves = runs.serves in
    let took = serves.took in
    let spends : SpendsRounds (length runs.sources) (length runs.dests_first) account rounds runs.number = serves.ends in
    let opens = (holds.core).opens in
    let start = opened plan.setup opens.opening in
    let recovered = recovered_in plan reached run opens in
    let s = after_all start run.prelude in
    let begin = begins files plan reached run holds served.rewinds in
    let stood = ((holds.core).begins).stands plan.setup opens.opening opens.stands in
    let ran = (calls-run run.begun run.last made start run.prelude took.makes stood) in
    let later = ran.0 in
    let t = after_all start (run.prelude ++ later) in
    let all_sources : length runs.sources ≡ length reached.inlets = sym (length-map runs.sources (λ (x : SourceActor R I). feed x.inlet)) ∙ ap length runs.inlets_opened in
    let all_then : length runs.sources_then ≡ length reached.inlets_closed = sym (length-map runs.sources_then (λ (x : SourceActor R I). feed x.inlet)) ∙ ap length runs.inlets_closed in
    let all_dests : length runs.dests_first ≡ length reached.outlets = sym (length-map runs.dests_first (λ (x : DestActor O). drain x.outlet)) ∙ ap length runs.outlets_opened in
    let all_dests_then : length runs.dests_then ≡ length reached.outlets_closed = sym (length-map runs.dests_then (λ (x : DestActor O). drain x.outlet)) ∙ ap length runs.outlets_closed in
    let inlets_closed : length reached.inlets_closed ≡ length reached.inlets = sym all_then ∙ took.all_sources ∙ all_sources in
    let outlets_closed : length reached.outlets_closed ≡ length reached.outlets = sym all_dests_then ∙ took.all_dests ∙ all_dests in
    let dests_first : length s.dests ≡ length reached.outlets = dests-all run.prelude start ∙ opened-many plan.setup.dests opens.opening.entries ∙ runnable.dests ∙ sym served.all_outlets in
    let dests_last : length t.dests ≡ length reached.outlets = dests-all (run.prelude ++ later) start ∙ opened-many plan.setup.dests opens.opening.entries ∙ runnable.dests ∙ sym served.all_outlets in
    let sources = inlets-sum reached.inlets reached.inlets_closed (λ i. busy_of (account (OfSource i))) (own_offers made) inlets_closed
    (source-few feed drain offers inlets dests files plan routers rounds reached run counts runnable low holds served s recovered begin) in
    let offered = own-offers-sum (length reached.inlets) made in
    let drains = outlets-sum reached.outlets reached.outlets_closed t.dests (λ d. busy_of (account (OfDest d))) outlets_closed dests_last
    (dest-few feed drain offers inlets dests plan routers rounds reached run counts low served start later ran.1.0 dests_first) in
    let kept = kept-all later s in
    let whole = ap (λ (x : State). kept_in x.dests) (after_all-append start run.prelude later) in
    let entries = begin.kept in
    let acts = ap acts_offers ran.1.0.acts ∙ calls-offers made in
    let busy : rounds ≤ sum_below (length reached.inlets) (λ i. busy_of (account (OfSource i))) + sum_below (length reached.outlets) (λ d. busy_of (account (OfDest d))) =
    subst (λ n. rounds ≤ sum_below n (λ i. busy_of (account (OfSource i))) + sum_below (length reached.outlets) (λ d. busy_of (account (OfDest d)))) all_sources
    (subst (λ n. rounds ≤ sum_below (length runs.sources) (λ i. busy_of (account (OfSource i))) + sum_below n (λ d. busy_of (account (OfDest d)))) all_dests spends.busy) in
    are-few recovered (offered_in made) rounds reached (omega (arith, busy, sources, offered, drains, kept, whole, entries, acts))

served-few : {R I O : Type 0} (feed : I → InletState) (drain : O → OutletState) (offers : R → ℕ → Record → List Offer → Type 0) (inlets dests : R → ℕ) (files : Option Files) (plan : RunPlan) (routers : List R) (rounds : ℕ) (reached : Reached)
    (run : CoreRun) (ended : Ended) (counts : Option Counts) → IsRunnable plan → rounds < 2 ^ 64 → (holds : HoldsRun files plan reached run) → (served : IsServed feed drain offers inlets dests plan routers rounds reached run ended counts)
    → IsFew (recovered_in plan reached run (holds.core).opens) (offered_in run.made) rounds reached (Ran ended counts)
served-few feed drain offers inlets dests files plan routers rounds reached run Quiet counts runnable low holds served = tt
served-few feed drain offers inlets dests files plan routers rounds reached run RoundsSpent counts runnable low holds served =
    rounds-few feed drain offers inlets dests files plan routers rounds reached run counts runnable low holds served
served-few feed drain offers inlets dests files plan routers rounds reached run NoMemory counts runnable low holds served = tt

bounded-at : {R I O : Type 0} (feed : I → InletState) (drain : O → OutletState) (offers : R → ℕ → Record → List Offer → Type 0) (inlets dests : R → ℕ) (files : Option Files) (plan : RunPlan) (routers : List R) (rounds : ℕ) (reached : Reached)
    (core : Option CoreRun) (ending : PlanEnded) → IsRunnable plan → rounds < 2 ^ 64 → (holds : PlanRunHolds feed drain offers inlets dests files plan routers rounds reached core ending)
    → IsFew (recovered_at feed drain offers inlets dests files plan routers rounds reached core ending holds) (offered_at feed drain offers inlets dests files plan routers rounds reached core ending holds) rounds reached ending
bounded-at feed drain offers inlets dests files plan routers rounds reached None (Before early) runnable low h = tt
bounded-at feed drain offers inlets dests files plan routers rounds reached None (Ran ended counts) runnable low h = absurd h
bounded-at feed drain offers inlets dests files plan routers rounds reached (Some run) (Before early) runnable low h = tt
bounded-at feed drain offers inlets dests files plan routers rounds reached (Some run) (Ran ended counts) runnable low (holds, served) =
    served-few feed drain offers inlets dests files plan routers rounds reached run ended counts runnable low holds served

pub runs-bounded : {R I O : Type 0} (feed : I → InletState) (drain : O → OutletState) (offers : R → ℕ → Record → List Offer → Type 0) (inlets dests : R → ℕ) → RunsAreBounded feed drain offers inlets dests
runs-bounded feed drain offers inlets dests old new plan routers rounds ending reached runnable low runs =
    bounded-at feed drain offers inlets dests old.files plan routers rounds reached reached.core ending runnable low runs.holds

pub untroubled-end : {R I O : Type 0} (feed : I → InletState) (drain : O → OutletState) (offers : R → ℕ → Record → List Offer → Type 0) (inlets dests : R → ℕ) → UntroubledRunsEnd feed drain offers inlets dests
untroubled-end feed drain offers inlets dests old new plan routers rounds counts reached runnable low runs untroubled =
    let few = (runs-bounded feed drain offers inlets dests old new plan routers rounds (Ran RoundsSpent counts) reached runnable low runs).below in
    let faults = untroubled.faults in
    let waits = untroubled.waits in
    omega (arith, few, faults, waits)

-- What the answers of a core tell of the state that it is at.
use Rattle.std.proofs.Common.{◌≡◌, ◌<◌, ℕ, true, false, List, [], ◌∷◌, length, Some, None, Option, Ok, Err, ◌⊎◌, inl, inr, refl, sym, ap, ◌∙◌, arith, slice_get, subst}
use Rattle.std.specs.Prelude.{◌==◌}
use Rattle.std.specs.Option.{option_map, option_map_or}
use Rattle.sg_list.proofs.ListLemmas.{some-same}
use Rattle.sg_msg.specs.Message.{Content}
use Rattle.sg_machine.specs.declared.event.Admission.{Admission}
use Rattle.sg_machine.specs.declared.setup.BufferSetup.{BufferSetup}
use Rattle.sg_machine.specs.declared.setup.SourceSetup.{SourceSetup}
use Rattle.sg_machine.specs.declared.state.Dest.{Dest}
use Rattle.sg_machine.specs.declared.state.InletRecords.{InletRecords}
use Rattle.sg_machine.specs.declared.state.State.{State}
use Rattle.sg_machine.specs.Marks.{mark_of}
use Rattle.sg_machine.specs.Verdicts.{is_listed}
use Rattle.sg_counter.specs.Exchanges.{Exchange, OfSource, OfDest, caller_of, same_caller}
use Rattle.sg_counter.specs.declared.answers.CoreFront.{CoreFront}
use Rattle.sg_counter.specs.declared.answers.CoreFront.TheVariants.{Entries, Empty, Broken as FrontBroken}
use Rattle.sg_counter.specs.declared.answers.Refill.TheVariants.{NoneWaits, Broken as RefillBroken}
use Rattle.sg_counter.specs.declared.answers.Refused.TheVariants.{NoCredit, NoMemory}
use Rattle.sg_counter.specs.declared.answers.Settled.TheVariants.{Done, NotFront, DiskFailed}
use Rattle.sg_counter.specs.declared.answers.Refill.TheVariants.{Moved, NoRoom}
use Rattle.sg_counter.specs.declared.answers.Stored.TheVariants.{Unchanged, Broken}
use Rattle.sg_counter.specs.declared.calls.CoreCall.{CoreCall}
use Rattle.sg_counter.specs.declared.calls.CoreCall.TheVariants.{Credit, Admit, Front, Settle, Refill, Store}
use Rattle.sg_counter.specs.declared.calls.CoreReply.{CoreReply}
use Rattle.sg_counter.specs.declared.calls.CoreReply.TheVariants.{Credit as CreditReply, Admitted, Front as FrontReply, Settled as SettledReply, Refilled, Stored as StoredReply}
use Rattle.sg_sinks.specs.States.{SinkState}
use Rattle.sg_stores.specs.Stores.{StoreState}
use Rattle.sg_stores.specs.Positions.{position_of}
use Rattle.sg_standing.specs.States.{CoreState}
use Rattle.sg_standing.specs.Sources.{credit_of, credit_at, mark_at, mark_in, store_at}
use Rattle.sg_standing.specs.Standing.{IsAt, is_broken}
use Rattle.sg_standing.specs.declared.source.Source.{Source}
use Rattle.sg_standing.proofs.ImageLaws.{shows-at}
use Rattle.sg_standing.proofs.More.{placed}
use Rattle.sg_core.specs.Answers.{credit_left, AnswersFrontAt, RefillsAt, RefillsBy, broken_at}
use Rattle.sg_core.specs.Calls.{Serves}
use Rattle.sg_core.proofs.Fits.{credit-of, mark-in-of, store-at-of}
use Rattle.sg_core.proofs.PositionSteps.{mark-at}
use Rattle.sg_actor.specs.Bringing.{IsCreditRefusal, HasRefusal, IsSentBack}
use Rattle.sg_actor.specs.DestTurns.{is_breakage, IsEmptyFront}
use Rattle.sg_laws.proofs.StepLemmas.{Has}
use Rattle.sg_laws.proofs.AgreeLemmas.{seen, sink-at}

pub equal-of : (d e : ℕ) → (d == e) ≡ true → e ≡ d
equal-of d e h = grind arith

-- Credit.

pub refusal-in : (made : List Exchange) → HasRefusal made → (e : Exchange) × (Has made e × IsCreditRefusal e.reply)
refusal-in [] h = absurd h
refusal-in (x ∷ xs) (inl here) = (x, (inl refl, here))
refusal-in (x ∷ xs) (inr later) = let r = refusal-in xs later in (r.0, (inr r.1.0, r.1.1))

-- the credit is none, or records were sent back
pub refused-as : (reply : CoreReply) → IsCreditRefusal reply → (reply ≡ CreditReply 0) ⊎ IsSentBack reply
refused-as (CreditReply credit) h = inl (ap CreditReply h)
refused-as (Admitted (Ok verdicts)) h = absurd h
refused-as (Admitted (Err (NoCredit back))) h = inr tt
refused-as (Admitted (Err (NoMemory back))) h = absurd h
refused-as (FrontReply result) h = absurd h
refused-as (SettledReply result) h = absurd h
refused-as (Refilled result) h = absurd h
refused-as (StoredReply result) h = absurd h

pub sent-as : (reply : CoreReply) → IsSentBack reply → (back : List Admission) × (reply ≡ Admitted (Err (NoCredit back)))
sent-as (Admitted (Err (NoCredit back))) h = (back, refl)
sent-as (Admitted (Ok verdicts)) h = absurd h
sent-as (Admitted (Err (NoMemory back))) h = absurd h
sent-as (CreditReply credit) h = absurd h
sent-as (FrontReply result) h = absurd h
sent-as (SettledReply result) h = absurd h
sent-as (Refilled result) h = absurd h
sent-as (StoredReply result) h = absurd h

no-credit-by : (old new : CoreState) (call : CoreCall) (i : ℕ) (t : State) → Serves old call (CreditReply 0) new → same_caller (OfSource i) (caller_of call) ≡ true → IsAt old t → credit_left t i ≡ 0
no-credit-by old new (Credit j) i t h own at = subst (λ k. credit_left t k ≡ 0) (equal-of i j own) (sym (h.stands t at))
no-credit-by old new (Admit j records) i t h own at = absurd h
no-credit-by old new (Front d most) i t h own at = absurd h
no-credit-by old new (Settle d place n count) i t h own at = absurd h
no-credit-by old new (Refill d) i t h own at = absurd h
no-credit-by old new (Store j) i t h own at = absurd h

pub no-credit : (old new : CoreState) (e : Exchange) (i : ℕ) (t : State) → e.reply ≡ CreditReply 0 → Serves old e.call e.reply new → same_caller (OfSource i) (caller_of e.call) ≡ true → IsAt old t → credit_left t i ≡ 0
no-credit old new e i t is h own at = no-credit-by old new e.call i t (subst (λ (r : CoreReply). Serves old e.call r new) is h) own at

-- so many records were brought
pub record IsBeyondAnswers (call : CoreCall) (i : ℕ) (t : State) : Type 0 where
  pub records : List Admission
  pub is : call ≡ Admit i records
  pub more : credit_left t i < length records

credit-seen : (core : CoreState) (t : State) (i : ℕ) (x : InletRecords) → IsAt core t → slice_get t.inlets i ≡ Some x → credit_at core.sources i ≡ credit_left t i
credit-seen core t i x at h =
    let a = seen core t i x at h in
    let here : credit_at core.sources i ≡ credit_of a.source = ap (λ (o : Option Source). option_map_or credit_of o 0) a.there in
    here ∙ credit-of core t i a.source at a.there

less-credit-by : (old new : CoreState) (call : CoreCall) (back : List Admission) (i : ℕ) (t : State) (x : InletRecords) → Serves old call (Admitted (Err (NoCredit back))) new → same_caller (OfSource i) (caller_of call) ≡ true → IsAt old t → slice_get t.inlets i ≡ Some x
    → IsBeyondAnswers call i t
less-credit-by old new (Credit j) back i t x h own at there = absurd h
less-credit-by old new (Admit j records) back i t x h own at there =
    let same = equal-of i j own in
    let few : credit_at old.sources j < length records = h.no_credit.0 refl in
    let few' : credit_at old.sources i < length records = subst (λ k. credit_at old.sources k < length records) same few in
    record {
      records = records;
      is = ap (λ k. Admit k records) same;
      more = subst (λ c. c < length records) (credit-seen old t i x at there) few';
    }
less-credit-by old new (Front d most) back i t x h own at there = absurd h
less-credit-by old new (Settle d place n count) back i t x h own at there = absurd h
less-credit-by old new (Refill d) back i t x h own at there = absurd h
less-credit-by old new (Store j) back i t x h own at there = absurd h

pub less-credit : (old new : CoreState) (e : Exchange) (back : List Admission) (i : ℕ) (t : State) (x : InletRecords) → e.reply ≡ Admitted (Err (NoCredit back)) → Serves old e.call e.reply new → same_caller (OfSource i) (caller_of e.call) ≡ true
    → IsAt old t → slice_get t.inlets i ≡ Some x → IsBeyondAnswers e.call i t
less-credit old new e back i t x is h own at there = less-credit-by old new e.call back i t x (subst (λ (r : CoreReply). Serves old e.call r new) is h) own at there

-- Positions.

stored-seen : (core : CoreState) (t : State) (i u : ℕ) (x : InletRecords) → IsAt core t → slice_get t.inlets i ≡ Some x → x.setup.store ≡ Some u → (store_at core.sources i ≡ Some u) × (mark_in core.sources i ≡ mark_of t.dests i x)
stored-seen core t i u x at h has =
    let a = seen core t i x at h in (
      store-at-of core.sources i a.source a.there ∙ ap (λ (y : Source). y.setup.store) a.is ∙ has,
      mark-in-of core.sources i a.source a.there ∙ ap mark_at a.is ∙ mark-at t.dests i x,
    )

same-stored-by : (old new : CoreState) (call : CoreCall) (i u : ℕ) (t : State) (x : InletRecords) → Serves old call (StoredReply Unchanged) new → same_caller (OfSource i) (caller_of call) ≡ true → IsAt old t → slice_get t.inlets i ≡ Some x
    → x.setup.store ≡ Some u → x.stored ≡ mark_of t.dests i x
same-stored-by old new (Credit j) i u t x h own at there has = absurd h
same-stored-by old new (Admit j records) i u t x h own at there has = absurd h
same-stored-by old new (Front d most) i u t x h own at there has = absurd h
same-stored-by old new (Settle d place n count) i u t x h own at there has = absurd h
same-stored-by old new (Refill d) i u t x h own at there has = absurd h
same-stored-by old new (Store j) i u t x h own at there has =
    let same = equal-of i j own in
    let s = stored-seen old t i u x at there has in
    let answer : position_of (slice_get old.stores u) ≡ mark_in old.sources j = h.answer u (ap (λ k. store_at old.sources k) same ∙ s.0) in
    let store = (shows-at old t at).positions i u x there has in
    let p = placed old t i u x store.0 at there has store.1 in
    let here : position_of (slice_get old.stores u) ≡ store.0.position = ap position_of store.1 in
    sym p.position_is ∙ sym here ∙ answer ∙ ap (λ k. mark_in old.sources k) same ∙ s.1

pub same-stored : (old new : CoreState) (e : Exchange) (i u : ℕ) (t : State) (x : InletRecords) → e.reply ≡ StoredReply Unchanged → Serves old e.call e.reply new → same_caller (OfSource i) (caller_of e.call) ≡ true → IsAt old t
    → slice_get t.inlets i ≡ Some x → x.setup.store ≡ Some u → x.stored ≡ mark_of t.dests i x
same-stored old new e i u t x is h own at there has = same-stored-by old new e.call i u t x (subst (λ (r : CoreReply). Serves old e.call r new) is h) own at there has

failed-store-by : (old new : CoreState) (call : CoreCall) (i u : ℕ) (t : State) (x : InletRecords) → Serves old call (StoredReply Broken) new → same_caller (OfSource i) (caller_of call) ≡ true → IsAt old t → slice_get t.inlets i ≡ Some x
    → x.setup.store ≡ Some u → option_map (λ (s : StoreState). s.failed) (slice_get new.stores u) ≡ Some true
failed-store-by old new (Credit j) i u t x h own at there has = absurd h
failed-store-by old new (Admit j records) i u t x h own at there has = absurd h
failed-store-by old new (Front d most) i u t x h own at there has = absurd h
failed-store-by old new (Settle d place n count) i u t x h own at there has = absurd h
failed-store-by old new (Refill d) i u t x h own at there has = absurd h
failed-store-by old new (Store j) i u t x h own at there has =
    let same = equal-of i j own in
    let s = stored-seen old t i u x at there has in
    (h.answer u (ap (λ k. store_at old.sources k) same ∙ s.0)).1

-- the store is one of those that have failed
pub failed-store : (old new : CoreState) (e : Exchange) (i u : ℕ) (t t' : State) (x y : InletRecords) → e.reply ≡ StoredReply Broken → Serves old e.call e.reply new → same_caller (OfSource i) (caller_of e.call) ≡ true → IsAt old t → IsAt new t'
    → slice_get t.inlets i ≡ Some x → slice_get t'.inlets i ≡ Some y → y.setup ≡ x.setup → x.setup.store ≡ Some u → is_listed u t'.failed ≡ true
failed-store old new e i u t t' x y is h own at at' there there' setup has =
    let failed = failed-store-by old new e.call i u t x (subst (λ (r : CoreReply). Serves old e.call r new) is h) own at there has in
    let has' : y.setup.store ≡ Some u = ap (λ (z : SourceSetup). z.store) setup ∙ has in
    let store = (shows-at new t' at').positions i u y there' has' in
    let p = placed new t' i u y store.0 at' there' has' store.1 in
    let here : option_map (λ (s : StoreState). s.failed) (slice_get new.stores u) ≡ Some store.0.failed = ap (λ (o : Option StoreState). option_map (λ (s : StoreState). s.failed) o) store.1 in
    sym p.failed_is ∙ some-same store.0.failed true (sym here ∙ failed)

-- Destinations.

-- no entry is shown
abbrev ShowsNone : CoreFront → Type 0
ShowsNone (Entries place messages) = messages ≡ []
ShowsNone Empty = Unit {0}
ShowsNone FrontBroken = ⊥

empty-as : (reply : CoreReply) → IsEmptyFront reply → (front : CoreFront) × ((reply ≡ FrontReply (Ok front)) × ShowsNone front)
empty-as (FrontReply (Ok (Entries place messages))) h = (Entries place messages, (refl, h))
empty-as (FrontReply (Ok Empty)) h = (Empty, (refl, tt))
empty-as (FrontReply (Ok FrontBroken)) h = absurd h
empty-as (FrontReply (Err e)) h = absurd h
empty-as (CreditReply credit) h = absurd h
empty-as (Admitted result) h = absurd h
empty-as (SettledReply result) h = absurd h
empty-as (Refilled result) h = absurd h
empty-as (StoredReply result) h = absurd h

shown-some : (old new : Option SinkState) (most place : ℕ) (messages : List Content) → AnswersFrontAt old new most (Entries place messages) → messages ≡ [] → ⊥
shown-some (Some old) (Some new) most place messages h none =
    let some : 0 < length messages = h.4 in
    let len : length messages ≡ 0 = ap (λ (ms : List Content). length ms) none in
    omega (arith, some, len)
shown-some old new most place messages h none = absurd h

none-left-by : (old new : CoreState) (call : CoreCall) (front : CoreFront) (d : ℕ) (t : State) (x : Dest) → Serves old call (FrontReply (Ok front)) new → ShowsNone front → same_caller (OfDest d) (caller_of call) ≡ true → IsAt old t → slice_get t.dests d ≡ Some x → x.left ≡ []
none-left-by old new (Credit j) front d t x h none own at there = absurd h
none-left-by old new (Admit j records) front d t x h none own at there = absurd h
none-left-by old new (Front e most) (Entries place messages) d t x h none own at there = absurd (shown-some (slice_get old.sinks e) (slice_get new.sinks e) most place messages h.front none)
none-left-by old new (Front e most) Empty d t x h none own at there = h.shows t x at (ap (λ k. slice_get t.dests k) (equal-of d e own) ∙ there)
none-left-by old new (Front e most) FrontBroken d t x h none own at there = absurd none
none-left-by old new (Settle e place n count) front d t x h none own at there = absurd h
none-left-by old new (Refill e) front d t x h none own at there = absurd h
none-left-by old new (Store j) front d t x h none own at there = absurd h

pub none-left : (old new : CoreState) (e : Exchange) (d : ℕ) (t : State) (x : Dest) → IsEmptyFront e.reply → Serves old e.call e.reply new → same_caller (OfDest d) (caller_of e.call) ≡ true → IsAt old t → slice_get t.dests d ≡ Some x → x.left ≡ []
none-left old new e d t x empty h own at there =
    let r = empty-as e.reply empty in
    none-left-by old new e.call r.0 d t x (subst (λ (y : CoreReply). Serves old e.call y new) r.1.0 h) r.1.1 own at there

-- The store of a disk-buffer.

broken-sink : (sinks : List SinkState) (d : ℕ) (sink : SinkState) → slice_get sinks d ≡ Some sink → broken_at sinks d ≡ sink.broken
broken-sink sinks d sink h = ap (λ (o : Option SinkState). option_map_or (λ (k : SinkState). k.broken) o false) h

front-broke : (o p : Option SinkState) (most : ℕ) → AnswersFrontAt o p most FrontBroken → option_map_or (λ (k : SinkState). k.broken) p false ≡ true
front-broke (Some old) (Some new) most h = ap (λ (k : SinkState). k.broken) h
front-broke o p most h = absurd h

refill-by : (buffer : Option BufferSetup) (old new : SinkState) → RefillsBy buffer old new RefillBroken → new.broken ≡ true
refill-by None old new h = absurd (let wrong : RefillBroken ≡ NoneWaits = h in cc)
refill-by (Some buffer) old new h = h

refill-broke : (o p : Option SinkState) → RefillsAt o p RefillBroken → option_map_or (λ (k : SinkState). k.broken) p false ≡ true
refill-broke (Some old) (Some new) h = refill-by old.setup.buffer old new h
refill-broke o p h = absurd h

breakage-by : (old new : CoreState) (call : CoreCall) (reply : CoreReply) (d : ℕ) → Serves old call reply new → is_breakage reply ≡ true → same_caller (OfDest d) (caller_of call) ≡ true → broken_at new.sinks d ≡ true
breakage-by old new (Credit i) (CreditReply credit) d h is own = absurd (let wrong : false ≡ true = is in cc)
breakage-by old new (Admit i records) (Admitted result) d h is own = absurd (let wrong : false ≡ true = is in cc)
breakage-by old new (Front e most) (FrontReply (Ok (Entries place messages))) d h is own = absurd (let wrong : false ≡ true = is in cc)
breakage-by old new (Front e most) (FrontReply (Ok Empty)) d h is own = absurd (let wrong : false ≡ true = is in cc)
breakage-by old new (Front e most) (FrontReply (Ok FrontBroken)) d h is own = subst (λ k. broken_at new.sinks k ≡ true) (equal-of d e own) (front-broke (slice_get old.sinks e) (slice_get new.sinks e) most h.front)
breakage-by old new (Front e most) (FrontReply (Err x)) d h is own = absurd (let wrong : false ≡ true = is in cc)
breakage-by old new (Settle e place n count) (SettledReply Done) d h is own = absurd (let wrong : false ≡ true = is in cc)
breakage-by old new (Settle e place n count) (SettledReply NotFront) d h is own = absurd (let wrong : false ≡ true = is in cc)
breakage-by old new (Settle e place n count) (SettledReply DiskFailed) d h is own = subst (λ k. broken_at new.sinks k ≡ true) (equal-of d e own) h.answer.1
breakage-by old new (Refill e) (Refilled (Moved n)) d h is own = absurd (let wrong : false ≡ true = is in cc)
breakage-by old new (Refill e) (Refilled NoneWaits) d h is own = absurd (let wrong : false ≡ true = is in cc)
breakage-by old new (Refill e) (Refilled NoRoom) d h is own = absurd (let wrong : false ≡ true = is in cc)
breakage-by old new (Refill e) (Refilled RefillBroken) d h is own = subst (λ k. broken_at new.sinks k ≡ true) (equal-of d e own) (refill-broke (slice_get old.sinks e) (slice_get new.sinks e) h.answer)
breakage-by old new (Store i) (StoredReply result) d h is own = absurd (let wrong : false ≡ true = is in cc)
breakage-by old new call reply d h is own = absurd h

pub breakage : (old new : CoreState) (e : Exchange) (d : ℕ) (t : State) (x : Dest) → is_breakage e.reply ≡ true → Serves old e.call e.reply new → same_caller (OfDest d) (caller_of e.call) ≡ true → IsAt new t → slice_get t.dests d ≡ Some x → is_broken t.failed x ≡ true
breakage old new e d t x is h own at there =
    let broken = breakage-by old new e.call e.reply d h is own in
    sym (broken-sink new.sinks d _ (sink-at new t d x at there)) ∙ broken

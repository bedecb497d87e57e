-- A source that brings no more records than it was told has none sent back.
use Rattle.std.proofs.Common.{◌≡◌, ◌≢◌, ◌≤◌, ℕ, ◌+◌, ◌-◌, Bool, true, false, ◌&&◌, List, [], ◌∷◌, length, Some, None, Option, Ok, Err, ◌⊎◌, inl, inr, refl, sym, ap, ◌∙◌, arith, slice_get, subst, if◌then◌else◌}
use Rattle.std.specs.Prelude.{◌==◌}
use Rattle.std.specs.Option.{option_map_or}
use Rattle.sg_list.proofs.ListLemmas.{get-change-other}
use Rattle.sg_machine.specs.declared.event.Act.{Act}
use Rattle.sg_machine.specs.declared.event.Act.TheVariants.{Admit as AdmitAct, Settle as SettleAct, Refill as RefillAct, Store as StoreAct, Look}
use Rattle.sg_machine.specs.declared.state.Dest.{Dest}
use Rattle.sg_machine.specs.declared.state.InletRecords.{InletRecords}
use Rattle.sg_machine.specs.declared.state.State.{State}
use Rattle.sg_machine.specs.Effects.{next_of, admitted, stored_at, act_done, after_act}
use Rattle.sg_machine.specs.Marks.{is_acked, outstanding_of}
use Rattle.sg_machine.specs.Verdicts.{claims_of}
use Rattle.sg_machine.proofs.WindowLaws.{acked-settle, acked-refill, acked-claims, outstanding-fewer}
use Rattle.sg_counter.specs.Exchanges.{Exchange, Makes, OfSource, caller_of, same_caller, calls_by}
use Rattle.sg_counter.specs.declared.answers.Refill.TheVariants.{Moved, NoneWaits, NoRoom, Broken as RefillBroken}
use Rattle.sg_counter.specs.declared.answers.Settled.TheVariants.{Done, NotFront, DiskFailed}
use Rattle.sg_counter.specs.declared.answers.Stored.TheVariants.{Wrote, Unchanged, Broken}
use Rattle.sg_counter.specs.declared.calls.CoreCall.{CoreCall}
use Rattle.sg_counter.specs.declared.calls.CoreCall.TheVariants.{Credit, Admit, Front, Settle, Refill, Store}
use Rattle.sg_counter.specs.declared.calls.CoreReply.{CoreReply}
use Rattle.sg_counter.specs.declared.calls.CoreReply.TheVariants.{Credit as CreditReply, Admitted, Front as FrontReply, Settled as SettledReply, Refilled, Stored as StoredReply}
use Rattle.sg_standing.specs.States.{CoreState}
use Rattle.sg_standing.specs.Standing.{IsAt, DoesAct}
use Rattle.sg_core.specs.Answers.{credit_left}
use Rattle.sg_core.specs.Calls.{Serves}
use Rattle.sg_actor.specs.Bringing.{carried_by, IsSentBack}
use Rattle.sg_turns.specs.Laws.{told_by, KeepWithin}
use Rattle.sg_laws.proofs.StepLemmas.{Has, went-call}
use Rattle.sg_laws.proofs.AnswerLemmas.{equal-of, sent-as, less-credit}

-- What a call leaves of a credit.

-- the core is at a state in which that inlet has so much credit at least
pub record HasAtLeast (core : CoreState) (i least : ℕ) : Type 0 where
  pub state : State
  pub at : IsAt core state
  pub inlet : InletRecords
  pub there : slice_get state.inlets i ≡ Some inlet
  pub credit : least ≤ credit_left state i

credit-by : (o : Option InletRecords) (ds fs : List Dest) (i : ℕ) → ((n : ℕ) → is_acked ds i n ≡ true → is_acked fs i n ≡ true)
    → option_map_or (λ (x : InletRecords). x.setup.window - outstanding_of ds i x) o 0 ≤ option_map_or (λ (x : InletRecords). x.setup.window - outstanding_of fs i x) o 0
credit-by None ds fs i h = omega arith
credit-by (Some x) ds fs i h = let fewer = outstanding-fewer ds fs i 0 x.ends h in omega (arith, fewer)

credit-stays : (s t : State) (i : ℕ) → slice_get t.inlets i ≡ slice_get s.inlets i → ((n : ℕ) → is_acked s.dests i n ≡ true → is_acked t.dests i n ≡ true) → credit_left s i ≤ credit_left t i
credit-stays s t i same acked = rw same (credit-by (slice_get s.inlets i) s.dests t.dests i acked)

-- an act that leaves the inlet as it is, and takes no acknowledgement back
act-keeps : (old new : CoreState) (act : Act) (i least : ℕ) (h : HasAtLeast old i least) → DoesAct old new act → slice_get (act_done h.state act).inlets i ≡ slice_get (h.state).inlets i
    → ((n : ℕ) → is_acked (h.state).dests i n ≡ true → is_acked (act_done h.state act).dests i n ≡ true) → HasAtLeast new i least
act-keeps old new act i least h does same acked =
    let t = after_act h.state act does.failed in
    let more : credit_left h.state i ≤ credit_left t i = credit-stays h.state t i same acked in
    let was = h.credit in
    record {
      state = t;
      at = (does.step h.state h.at).1;
      inlet = h.inlet;
      there = same ∙ h.there;
      credit = omega (arith, more, was);
    }

look-keeps : (old new : CoreState) (i least : ℕ) → HasAtLeast old i least → DoesAct old new Look → HasAtLeast new i least
look-keeps old new i least h does = act-keeps old new Look i least h does refl (λ n a. a)

settle-keeps : (old new : CoreState) (d k i least : ℕ) → HasAtLeast old i least → DoesAct old new (SettleAct d k) → HasAtLeast new i least
settle-keeps old new d k i least h does = act-keeps old new (SettleAct d k) i least h does refl (λ n a. acked-settle (h.state).dests d k i n a)

unequal : (i j : ℕ) → (i == j) ≡ false → i ≢ j
unequal i j h = grind arith

apart : (i j n m : ℕ) → (i == j) ≡ false → (j == i && n == m) ≡ false
apart i j n m h = let flip : (j == i) ≡ false = grind arith in rw flip refl

-- others take none of it
others-keep : (old new : CoreState) (call : CoreCall) (reply : CoreReply) (i least : ℕ) → Serves old call reply new → same_caller (OfSource i) (caller_of call) ≡ false → HasAtLeast old i least → HasAtLeast new i least
others-keep old new (Credit j) (CreditReply n) i least s other h = subst (λ (c : CoreState). HasAtLeast c i least) (sym s.same) h
others-keep old new (Admit j records) (Admitted (Ok vs)) i least s other h =
    act-keeps old new (AdmitAct j records vs) i least h s.does (get-change-other (h.state).inlets j i (admitted records) (unequal i j other))
    (λ n a. acked-claims j (next_of h.state j) (h.state).dests (claims_of records) vs i n (λ place. apart i j (next_of h.state j + place) n other) a)
others-keep old new (Admit j records) (Admitted (Err refused)) i least s other h = look-keeps old new i least h s.does
others-keep old new (Front d most) (FrontReply result) i least s other h = look-keeps old new i least h s.does
others-keep old new (Settle d place k count) (SettledReply Done) i least s other h = settle-keeps old new d k i least h s.does
others-keep old new (Settle d place k count) (SettledReply NotFront) i least s other h = look-keeps old new i least h s.does
others-keep old new (Settle d place k count) (SettledReply DiskFailed) i least s other h = settle-keeps old new d k i least h s.does
others-keep old new (Refill d) (Refilled (Moved k)) i least s other h = act-keeps old new (RefillAct d k) i least h s.does refl (λ n a. acked-refill (h.state).dests d k i n a)
others-keep old new (Refill d) (Refilled NoneWaits) i least s other h = look-keeps old new i least h s.does
others-keep old new (Refill d) (Refilled NoRoom) i least s other h = look-keeps old new i least h s.does
others-keep old new (Refill d) (Refilled RefillBroken) i least s other h = look-keeps old new i least h s.does
others-keep old new (Store j) (StoredReply (Wrote w)) i least s other h = act-keeps old new (StoreAct j w) i least h s.does (get-change-other (h.state).inlets j i (stored_at w) (unequal i j other)) (λ n a. a)
others-keep old new (Store j) (StoredReply Unchanged) i least s other h = look-keeps old new i least h s.does
others-keep old new (Store j) (StoredReply Broken) i least s other h = look-keeps old new i least h s.does
others-keep old new call reply i least s other h = absurd s

-- any call leaves none at least
none-at-least : (old new : CoreState) (call : CoreCall) (reply : CoreReply) (i least : ℕ) → Serves old call reply new → HasAtLeast old i least → HasAtLeast new i 0
none-at-least old new call reply i least s h =
    let went = went-call old new call reply h.state s h.at in
    let y = (went.1).inlets i h.inlet h.there in
    record { state = went.0; at = (went.1).at; inlet = y.0; there = y.1; credit = omega arith }

-- behind its own call a source has as much as that told
own-tells : (old new : CoreState) (call : CoreCall) (reply : CoreReply) (i least : ℕ) → Serves old call reply new → same_caller (OfSource i) (caller_of call) ≡ true → HasAtLeast old i least → HasAtLeast new i (told_by reply)
own-tells old new (Credit j) (CreditReply n) i least s own h =
    let told : n ≡ credit_left h.state i = s.stands h.state h.at ∙ ap (λ (k : ℕ). credit_left h.state k) (equal-of i j own) in
    record {
      state = h.state;
      at = subst (λ (c : CoreState). IsAt c h.state) (sym s.same) h.at;
      inlet = h.inlet;
      there = h.there;
      credit = omega (arith, told);
    }
own-tells old new (Admit j records) (Admitted result) i least s own h = none-at-least old new (Admit j records) (Admitted result) i least s h
own-tells old new (Front d most) (FrontReply result) i least s own h = none-at-least old new (Front d most) (FrontReply result) i least s h
own-tells old new (Settle d place k count) (SettledReply result) i least s own h = none-at-least old new (Settle d place k count) (SettledReply result) i least s h
own-tells old new (Refill d) (Refilled result) i least s own h = none-at-least old new (Refill d) (Refilled result) i least s h
own-tells old new (Store j) (StoredReply result) i least s own h = none-at-least old new (Store j) (StoredReply result) i least s h
own-tells old new call reply i least s own h = absurd s

-- No records are sent back.

not-sent : (old new : CoreState) (e : Exchange) (i least : ℕ) → Serves old e.call e.reply new → same_caller (OfSource i) (caller_of e.call) ≡ true → HasAtLeast old i least → length (carried_by e.call) ≤ least → IsSentBack e.reply → ⊥
not-sent old new e i least s own h few sent =
    let back = sent-as e.reply sent in
    let beyond = less-credit old new e back.0 i h.state h.inlet back.1 s own h.at h.there in
    let carried : length (carried_by e.call) ≡ length beyond.records = ap (λ (c : CoreCall). length (carried_by c)) beyond.is in
    let more = beyond.more in
    let credit = h.credit in
    omega (arith, few, carried, more, credit)

-- of the calls of this source
abbrev pub NoneSentBack : ℕ → List Exchange → Type 0
NoneSentBack i made = (e : Exchange) → Has made e → same_caller (OfSource i) (caller_of e.call) ≡ true → IsSentBack e.reply → ⊥

keep-if : (told : ℕ) (b : Bool) (x : Exchange) (xs : List Exchange) → KeepWithin told (if b then x ∷ xs else xs) → ((b ≡ true) × KeepWithin told (x ∷ xs)) ⊎ ((b ≡ false) × KeepWithin told xs)
keep-if told true x xs h = inl (refl, h)
keep-if told false x xs h = inr (refl, h)

pub none-sent : (old new : CoreState) (made : List Exchange) (i told : ℕ) → Makes Serves old made new → HasAtLeast old i told → KeepWithin told (calls_by (OfSource i) made) → NoneSentBack i made
none-sent old new [] i told m h within e has own sent = absurd has
none-sent old new (x ∷ rest) i told m h within e has own sent =
    elim (keep-if told (same_caller (OfSource i) (caller_of x.call)) x (calls_by (OfSource i) rest) within) [
      | inl mine ↦ elim has [
        | inl same ↦ not-sent old m.0 x i told m.1 mine.0 h mine.1.0 (subst (λ (y : Exchange). IsSentBack y.reply) (sym same) sent)
        | inr later ↦ elim mine.1.1 [
          | inl back ↦ not-sent old m.0 x i told m.1 mine.0 h mine.1.0 back
          | inr more ↦ none-sent m.0 new rest i (told_by x.reply) m.2 (own-tells old m.0 x.call x.reply i told m.1 mine.0 h) more e later own sent
        ]
      ]
      | inr other ↦ elim has [
        | inl same ↦ (
            let mine : same_caller (OfSource i) (caller_of x.call) ≡ true = subst (λ (y : Exchange). same_caller (OfSource i) (caller_of y.call) ≡ true) (sym same) own in
            let wrong : false ≡ true = sym other.0 ∙ mine in
            cc)
        | inr later ↦ none-sent m.0 new rest i told m.2 (others-keep old m.0 x.call x.reply i told m.1 other.0 h) other.1 e later own sent
      ]
    ]

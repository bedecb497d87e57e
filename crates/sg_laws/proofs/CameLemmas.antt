-- The records of a source that came in, and where they leave its inlet.
use Rattle.std.proofs.Common.{◌≡◌, ◌≢◌, ℕ, ◌+◌, suc, Bool, true, false, not, List, [], ◌∷◌, ◌++◌, Some, Ok, Err, inl, inr, refl, sym, ap, ◌∙◌, arith, append_assoc, slice_get, subst, if◌then◌else◌}
use Rattle.std.specs.Prelude.{◌==◌}
use Rattle.std.specs.List.{list_any}
use Rattle.std.proofs.lemmas.Bool.{cases_eq}
use Rattle.std.proofs.lemmas.List.{append-nil, map-append}
use Rattle.sg_list.specs.Lists.{change}
use Rattle.sg_list.proofs.ListLemmas.{get-change-same, get-change-other}
use Rattle.sg_machine.specs.declared.event.Act.{Act}
use Rattle.sg_machine.specs.declared.event.Act.TheVariants.{Admit as AdmitAct, Settle as SettleAct, Refill as RefillAct, Store as StoreAct, Look}
use Rattle.sg_machine.specs.declared.event.Admission.{Admission}
use Rattle.sg_machine.specs.declared.state.Dest.{Dest}
use Rattle.sg_machine.specs.declared.state.InletRecords.{InletRecords}
use Rattle.sg_machine.specs.declared.state.State.{State}
use Rattle.sg_machine.specs.Effects.{ends_of, admitted, stored_at, after_act}
use Rattle.sg_machine.specs.Marks.{is_owed_to, is_acked, outstanding, mark}
use Rattle.sg_counter.specs.Exchanges.{Exchange, Makes, OfSource, caller_of, same_caller, calls_by}
use Rattle.sg_counter.specs.declared.answers.Refill.TheVariants.{Moved, NoneWaits, NoRoom, Broken as RefillBroken}
use Rattle.sg_counter.specs.declared.answers.Settled.TheVariants.{Done, NotFront, DiskFailed}
use Rattle.sg_counter.specs.declared.answers.Stored.TheVariants.{Wrote, Unchanged, Broken}
use Rattle.sg_counter.specs.declared.calls.CoreCall.{CoreCall}
use Rattle.sg_counter.specs.declared.calls.CoreCall.TheVariants.{Credit, Admit, Front, Settle, Refill, Store}
use Rattle.sg_counter.specs.declared.calls.CoreReply.{CoreReply}
use Rattle.sg_counter.specs.declared.calls.CoreReply.TheVariants.{Credit as CreditReply, Admitted, Front as FrontReply, Settled as SettledReply, Refilled, Stored as StoredReply}
use Rattle.sg_standing.specs.States.{CoreState}
use Rattle.sg_standing.specs.Standing.{IsAt, DoesAct}
use Rattle.sg_core.specs.Calls.{Serves}
use Rattle.sg_actor.specs.Bringing.{admitted_by, admitted_in, last_end}

-- Where nothing is left.

-- no destination has an entry that is left
abbrev pub NoneLeft : List Dest → Type 0
NoneLeft dests = (d : ℕ) (x : Dest) → slice_get dests d ≡ Some x → x.left ≡ []

pub all-acked : (dests : List Dest) (i n : ℕ) → NoneLeft dests → is_acked dests i n ≡ true
all-acked [] i n h = refl
all-acked (x ∷ dests) i n h =
    let here : x.left ≡ [] = h 0 x refl in
    let clear : not (list_any (is_owed_to i n) x.left) ≡ true = ap (λ es. not (list_any (is_owed_to i n) es)) here in
    let rest = all-acked dests i n (λ d y get. h (suc d) y get) in
    rw (clear, rest) refl

pub none-outstanding : (dests : List Dest) (i n : ℕ) (ends : List ℕ) → NoneLeft dests → outstanding dests i n ends ≡ 0
none-outstanding dests i n [] h = refl
none-outstanding dests i n (e ∷ ends) h = let acked = all-acked dests i n h in rw acked (none-outstanding dests i (n + 1) ends h)

-- the last of these places, the first where there is none
abbrev pub last_place : ℕ → List ℕ → ℕ
last_place from [] = from
last_place from (e ∷ ends) = last_place e ends

pub mark-last : (dests : List Dest) (i n from : ℕ) (ends : List ℕ) → NoneLeft dests → mark dests i n from ends ≡ last_place from ends
mark-last dests i n from [] h = refl
mark-last dests i n from (e ∷ ends) h = let acked = all-acked dests i n h in rw acked (mark-last dests i (n + 1) e ends h)

pub last-ends : (from : ℕ) (records : List Admission) → last_place from (ends_of records) ≡ last_end from records
last-ends from [] = refl
last-ends from (r ∷ records) = last-ends r.end records

-- Records that come in.

-- the inlet of that number has these records more
abbrev GrowsIn : List InletRecords → List InletRecords → ℕ → List Admission → Type 0
GrowsIn olds news i came = (x : InletRecords) → slice_get olds i ≡ Some x → (y : InletRecords) × ((slice_get news i ≡ Some y) × ((y.ends ≡ x.ends ++ ends_of came) × (y.opening ≡ x.opening)))

grows-none : (inlets : List InletRecords) (i : ℕ) (came : List Admission) → came ≡ [] → GrowsIn inlets inlets i came
grows-none inlets i came none x h = (x, (h, (sym (append-nil x.ends) ∙ ap (λ rs. x.ends ++ ends_of rs) (sym none), refl)))

grows-then : (a b c : List InletRecords) (i : ℕ) (first later : List Admission) → GrowsIn a b i first → GrowsIn b c i later → GrowsIn a c i (first ++ later)
grows-then a b c i first later p q x h =
    let y = p x h in
    let z = q y.0 y.1.0 in
    let both : ends_of (first ++ later) ≡ ends_of first ++ ends_of later = map-append (λ (r : Admission). r.end) first later in
    (z.0, (z.1.0, (z.1.1.0 ∙ ap (λ es. es ++ ends_of later) y.1.1.0 ∙ append_assoc x.ends (ends_of first) (ends_of later) ∙ ap (λ es. x.ends ++ es) (sym both), z.1.1.1 ∙ y.1.1.1)))

abbrev own : ℕ → ℕ → List Admission → List Admission
own i j records = if i == j then records else []

own-none : (b : Bool) → (let none : List Admission = [] in (if b then none else none) ≡ none)
own-none true = refl
own-none false = refl

own-same : (i j : ℕ) (records : List Admission) → j ≡ i → own i j records ≡ records
own-same i j records same = let e : (i == j) ≡ true = grind (arith, same) in rw e refl

own-other : (i j : ℕ) (records : List Admission) → j ≢ i → own i j records ≡ []
own-other i j records ne = let e : (i == j) ≡ false = grind arith in rw e refl

grows-admitted : (inlets : List InletRecords) (i j : ℕ) (records : List Admission) → GrowsIn inlets (change inlets j (admitted records)) i (own i j records)
grows-admitted inlets i j records x h =
    elim (cases_eq j i) [
      | inl same ↦ (admitted records x, (ap (λ k. slice_get (change inlets k (admitted records)) i) same ∙ get-change-same inlets i (admitted records) x h, (ap (λ rs. x.ends ++ ends_of rs) (sym (own-same i j records same)), refl)))
      | inr ne ↦ (
        x,
        (
          get-change-other inlets j i (admitted records) (λ p. ne (sym p)) ∙ h,
          (sym (append-nil x.ends) ∙ ap (λ rs. x.ends ++ ends_of rs) (sym (own-other i j records ne)), refl),
        ),
      )
    ]

grows-stored : (inlets : List InletRecords) (i j w : ℕ) → GrowsIn inlets (change inlets j (stored_at w)) i []
grows-stored inlets i j w x h =
    elim (cases_eq j i) [
      | inl same ↦ (stored_at w x, (ap (λ k. slice_get (change inlets k (stored_at w)) i) same ∙ get-change-same inlets i (stored_at w) x h, (sym (append-nil x.ends), refl)))
      | inr ne ↦ (x, (get-change-other inlets j i (stored_at w) (λ p. ne (sym p)) ∙ h, (sym (append-nil x.ends), refl)))
    ]

-- the core is at a state whose inlet has these records more
pub record CameIn (new : CoreState) (s : State) (i : ℕ) (came : List Admission) : Type 0 where
  pub state : State
  pub at : IsAt new state
  pub grows : (x : InletRecords) → slice_get s.inlets i ≡ Some x → (y : InletRecords) × ((slice_get state.inlets i ≡ Some y) × ((y.ends ≡ x.ends ++ ends_of came) × (y.opening ≡ x.opening)))

came-does : (old new : CoreState) (act : Act) (s : State) (i : ℕ) (came : List Admission) (does : DoesAct old new act) → IsAt old s → GrowsIn s.inlets (after_act s act does.failed).inlets i came → CameIn new s i came
came-does old new act s i came does at grows = record { state = after_act s act does.failed; at = (does.step s at).1; grows = grows }

abbrev own_call : ℕ → CoreCall → CoreReply → List Admission
own_call i call reply = if same_caller (OfSource i) (caller_of call) then admitted_by call reply else []

came-call : (old new : CoreState) (call : CoreCall) (reply : CoreReply) (s : State) (i : ℕ) → Serves old call reply new → IsAt old s → CameIn new s i (own_call i call reply)
came-call old new (Credit j) (CreditReply n) s i h at = record { state = s; at = subst (λ (c : CoreState). IsAt c s) (sym h.same) at; grows = grows-none s.inlets i (own_call i (Credit j) (CreditReply n)) (own-none (i == j)) }
came-call old new (Admit j records) (Admitted (Ok vs)) s i h at =
    let does : DoesAct old new (AdmitAct j records vs) = h.does in
    came-does old new (AdmitAct j records vs) s i (own_call i (Admit j records) (Admitted (Ok vs))) does at (grows-admitted s.inlets i j records)
came-call old new (Admit j records) (Admitted (Err refused)) s i h at =
    let does : DoesAct old new Look = h.does in
    came-does old new Look s i (own_call i (Admit j records) (Admitted (Err refused))) does at (grows-none s.inlets i (own_call i (Admit j records) (Admitted (Err refused))) (own-none (i == j)))
came-call old new (Front d most) (FrontReply result) s i h at = came-does old new Look s i [] h.does at (grows-none s.inlets i [] refl)
came-call old new (Settle d place n count) (SettledReply Done) s i h at = came-does old new (SettleAct d n) s i [] h.does at (grows-none s.inlets i [] refl)
came-call old new (Settle d place n count) (SettledReply NotFront) s i h at = came-does old new Look s i [] h.does at (grows-none s.inlets i [] refl)
came-call old new (Settle d place n count) (SettledReply DiskFailed) s i h at = came-does old new (SettleAct d n) s i [] h.does at (grows-none s.inlets i [] refl)
came-call old new (Refill d) (Refilled (Moved n)) s i h at = came-does old new (RefillAct d n) s i [] h.does at (grows-none s.inlets i [] refl)
came-call old new (Refill d) (Refilled NoneWaits) s i h at = came-does old new Look s i [] h.does at (grows-none s.inlets i [] refl)
came-call old new (Refill d) (Refilled NoRoom) s i h at = came-does old new Look s i [] h.does at (grows-none s.inlets i [] refl)
came-call old new (Refill d) (Refilled RefillBroken) s i h at = came-does old new Look s i [] h.does at (grows-none s.inlets i [] refl)
came-call old new (Store j) (StoredReply (Wrote w)) s i h at =
    subst (λ rs. CameIn new s i rs) (sym (own-none (i == j))) (came-does old new (StoreAct j w) s i [] h.does at (grows-stored s.inlets i j w))
came-call old new (Store j) (StoredReply Unchanged) s i h at =
    subst (λ rs. CameIn new s i rs) (sym (own-none (i == j))) (came-does old new Look s i [] h.does at (grows-none s.inlets i [] refl))
came-call old new (Store j) (StoredReply Broken) s i h at =
    subst (λ rs. CameIn new s i rs) (sym (own-none (i == j))) (came-does old new Look s i [] h.does at (grows-none s.inlets i [] refl))
came-call old new call reply s i h at = absurd h

admitted-if : (b : Bool) (x : Exchange) (xs : List Exchange) → (if b then admitted_by x.call x.reply else []) ++ admitted_in xs ≡ admitted_in (if b then x ∷ xs else xs)
admitted-if true x xs = refl
admitted-if false x xs = refl

pub came-all : (old new : CoreState) (made : List Exchange) (s : State) (i : ℕ) → Makes Serves old made new → IsAt old s → CameIn new s i (admitted_in (calls_by (OfSource i) made))
came-all old new [] s i same at = record { state = s; at = subst (λ (c : CoreState). IsAt c s) (sym same) at; grows = grows-none s.inlets i [] refl }
came-all old new (x ∷ rest) s i m at =
    let one = came-call old m.0 x.call x.reply s i m.1 at in
    let more = came-all m.0 new rest one.state i m.2 one.at in
    let later = admitted_in (calls_by (OfSource i) rest) in
    subst (λ rs. CameIn new s i rs) (admitted-if (same_caller (OfSource i) (caller_of x.call)) x (calls_by (OfSource i) rest)) (record {
      state = more.state;
      at = more.at;
      grows = grows-then s.inlets one.state.inlets more.state.inlets i (own_call i x.call x.reply) later one.grows more.grows;
    })

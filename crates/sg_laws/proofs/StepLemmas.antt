-- The calls of a core, one after another, and the states that it comes to.
use Rattle.std.proofs.Common.{◌≡◌, ◌≤◌, ℕ, Bool, true, false, ◌||◌, List, [], ◌∷◌, ◌++◌, length, Some, Ok, Err, ◌⊎◌, inl, inr, refl, sym, ap, ◌∙◌, arith, slice_get, subst, if◌then◌else◌}
use Rattle.sg_list.proofs.ListLemmas.{some-same, slice_get-some, slice_get-below}
use Rattle.sg_device.specs.Faults.{Rose}
use Rattle.sg_machine.specs.declared.event.Act.{Act}
use Rattle.sg_machine.specs.declared.state.Dest.{Dest}
use Rattle.sg_machine.specs.declared.state.InletRecords.{InletRecords}
use Rattle.sg_machine.specs.declared.state.State.{State}
use Rattle.sg_machine.specs.Effects.{after_act}
use Rattle.sg_machine.specs.Verdicts.{is_listed}
use Rattle.sg_machine.proofs.RunLemmas.{length-inlets-after_act}
use Rattle.sg_counter.specs.Exchanges.{Exchange, Makes, Caller, caller_of, same_caller, calls_by}
use Rattle.sg_counter.specs.declared.calls.CoreCall.{CoreCall}
use Rattle.sg_counter.specs.declared.calls.CoreCall.TheVariants.{Credit, Admit, Front, Settle, Refill, Store}
use Rattle.sg_counter.specs.declared.calls.CoreReply.{CoreReply}
use Rattle.sg_counter.specs.declared.calls.CoreReply.TheVariants.{Credit as CreditReply, Admitted, Front as FrontReply, Settled, Refilled, Stored}
use Rattle.sg_stores.specs.Stores.{StoreState, AllGo}
use Rattle.sg_stores.proofs.StoreLemmas.{all_go_trans}
use Rattle.sg_standing.specs.States.{CoreState, setup_of}
use Rattle.sg_standing.specs.Standing.{IsAt, DoesAct}
use Rattle.sg_standing.proofs.Calls.{all-go-same}
use Rattle.sg_standing.proofs.Frozen.{listed-front, listed-either, kept-setup, length-dests}
use Rattle.sg_standing.proofs.ImageLaws.{kept-inlet}
use Rattle.sg_core.specs.Calls.{Serves, acts_in}
use Rattle.sg_turns.proofs.TurnLemmas.{same-self}

-- A call is an event, or none.

abbrev StepsEvents : CoreState → CoreState → List Act → Type 0
StepsEvents old new [] = new ≡ old
StepsEvents old new (act ∷ []) = DoesAct old new act
StepsEvents old new (act ∷ next ∷ rest) = ⊥

steps : (old new : CoreState) (call : CoreCall) (reply : CoreReply) → Serves old call reply new → StepsEvents old new (acts_in call reply)
steps old new (Credit i) (CreditReply n) s = s.same
steps old new (Admit i records) (Admitted (Ok verdicts)) s = s.does
steps old new (Admit i records) (Admitted (Err refused)) s = s.does
steps old new (Front d most) (FrontReply result) s = s.does
steps old new (Settle d place n count) (Settled result) s = s.does
steps old new (Refill d) (Refilled result) s = s.does
steps old new (Store i) (Stored result) s = s.does
steps old new call reply s = absurd s

-- What calls leave.

-- the count of faults of the store of that number rose
abbrev pub RoseOf : List StoreState → List StoreState → ℕ → Type 0
RoseOf olds news u = (old new : StoreState) → slice_get olds u ≡ Some old → slice_get news u ≡ Some new → Rose old.disk.faults new.disk.faults

pub rose-wide : (a b c d : ℕ) → a ≤ b → Rose b c → c ≤ d → Rose a d
rose-wide a b c d h r k = grind (arith, h, r, k)

rose-first : (olds mids news : List StoreState) (u : ℕ) → AllGo olds mids → AllGo mids news → RoseOf olds mids u → RoseOf olds news u
rose-first olds mids news u p q rose old new h k =
    let low = slice_get-below olds u old h in
    let mid = slice_get-some mids u (let n = p.count in omega (arith, low, n)) in
    rose-wide old.disk.faults old.disk.faults mid.0.disk.faults new.disk.faults (omega arith) (rose old mid.0 h mid.1) (q.each u mid.0 new mid.1 k).later

rose-last : (olds mids news : List StoreState) (u : ℕ) → AllGo olds mids → AllGo mids news → RoseOf mids news u → RoseOf olds news u
rose-last olds mids news u p q rose old new h k =
    let low = slice_get-below olds u old h in
    let mid = slice_get-some mids u (let n = p.count in omega (arith, low, n)) in
    rose-wide old.disk.faults mid.0.disk.faults new.disk.faults new.disk.faults (p.each u old mid.0 h mid.1).later (rose mid.0 new mid.1 k) (omega arith)

-- a core that was at the first state is at the second
pub record Went (old new : CoreState) (s t : State) : Type 0 where
  pub at : IsAt new t
  pub goes : AllGo old.stores new.stores
  pub setup : setup_of new ≡ setup_of old
  pub kept : (u : ℕ) → is_listed u s.failed ≡ true → is_listed u t.failed ≡ true
  pub rose : (u : ℕ) → is_listed u t.failed ≡ true → (is_listed u s.failed ≡ true) ⊎ RoseOf old.stores new.stores u
  pub all_inlets : length t.inlets ≡ length s.inlets
  pub all_dests : length t.dests ≡ length s.dests
  pub inlets : (i : ℕ) (x : InletRecords) → slice_get s.inlets i ≡ Some x → (y : InletRecords) × (slice_get t.inlets i ≡ Some y) × (y.setup ≡ x.setup)
  pub dests : (d : ℕ) (x : Dest) → slice_get s.dests d ≡ Some x → (y : Dest) × (slice_get t.dests d ≡ Some y) × (y.setup ≡ x.setup)

pub went-none : (core : CoreState) (s : State) → IsAt core s → Went core core s s
went-none core s at = record {
  at = at;
  goes = all-go-same core.stores core.stores refl;
  setup = refl;
  kept = λ u h. h;
  rose = λ u h. inl h;
  all_inlets = refl;
  all_dests = refl;
  inlets = λ i x h. (x, h, refl);
  dests = λ d x h. (x, h, refl);
}

pub either-true : (a b : Bool) → (a || b) ≡ true → (a ≡ true) ⊎ (b ≡ true)
either-true true b h = inl refl
either-true false b h = inr h

went-does : (old new : CoreState) (act : Act) (s : State) (does : DoesAct old new act) → IsAt old s → Went old new s (after_act s act does.failed)
went-does old new act s does at = record {
  at = (does.step s at).1;
  goes = does.goes;
  setup = does.setup;
  kept = λ u h. listed-front u s.failed does.failed h;
  rose = λ u h.
      elim (either-true (is_listed u s.failed) (is_listed u does.failed) (sym (listed-either u s.failed does.failed (is_listed u s.failed) refl) ∙ h)) [
        | inl p ↦ inl p
        | inr q ↦ inr (λ was now a b. does.risen u was now q a b)
      ];
  all_inlets = length-inlets-after_act s act does.failed;
  all_dests = length-dests s act does.failed;
  inlets = λ i x h. kept-inlet s act does.failed i x h;
  dests = λ d x h. kept-setup s act does.failed d x h;
}

pub went-then : (a b c : CoreState) (s t u : State) → Went a b s t → Went b c t u → Went a c s u
went-then a b c s t u p q = record {
  at = q.at;
  goes = all_go_trans a.stores b.stores c.stores p.goes q.goes;
  setup = q.setup ∙ p.setup;
  kept = λ v h. q.kept v (p.kept v h);
  rose = λ v h.
      elim (q.rose v h) [
        | inl listed ↦ elim (p.rose v listed) [
          | inl before ↦ inl before
          | inr rose ↦ inr (rose-first a.stores b.stores c.stores v p.goes q.goes rose)
        ]
        | inr rose ↦ inr (rose-last a.stores b.stores c.stores v p.goes q.goes rose)
      ];
  all_inlets = q.all_inlets ∙ p.all_inlets;
  all_dests = q.all_dests ∙ p.all_dests;
  inlets = λ i x h.
      let y = p.inlets i x h in
      let z = q.inlets i y.0 y.1 in
      (z.0, z.1, z.2 ∙ y.2);
  dests = λ d x h.
      let y = p.dests d x h in
      let z = q.dests d y.0 y.1 in
      (z.0, z.1, z.2 ∙ y.2);
}

went-steps : (old new : CoreState) (acts : List Act) (s : State) → StepsEvents old new acts → IsAt old s → (t : State) × Went old new s t
went-steps old new [] s same at = (s, subst (λ (c : CoreState). Went old c s s) (sym same) (went-none old s at))
went-steps old new (act ∷ []) s does at = (after_act s act does.failed, went-does old new act s does at)
went-steps old new (act ∷ next ∷ rest) s h at = absurd h

pub went-call : (old new : CoreState) (call : CoreCall) (reply : CoreReply) (s : State) → Serves old call reply new → IsAt old s → (t : State) × Went old new s t
went-call old new call reply s serves at = went-steps old new (acts_in call reply) s (steps old new call reply serves) at

pub went-all : (old new : CoreState) (made : List Exchange) (s : State) → Makes Serves old made new → IsAt old s → (t : State) × Went old new s t
went-all old new [] s same at = (s, subst (λ (c : CoreState). Went old c s s) (sym same) (went-none old s at))
went-all old new (x ∷ rest) s m at =
    let one = went-call old m.0 x.call x.reply s m.1 at in
    let more = went-all m.0 new rest one.0 m.2 one.1.at in
    (more.0, went-then old m.0 new s one.0 more.0 one.1 more.1)

-- what is there was there before
pub inlet-before : (old new : CoreState) (s t : State) (i : ℕ) (y : InletRecords) → Went old new s t → slice_get t.inlets i ≡ Some y → (x : InletRecords) × ((slice_get s.inlets i ≡ Some x) × (y.setup ≡ x.setup))
inlet-before old new s t i y went h =
    let low = slice_get-below t.inlets i y h in
    let x = slice_get-some s.inlets i (let n = went.all_inlets in omega (arith, low, n)) in
    let r = went.inlets i x.0 x.1 in
    (x.0, (x.1, ap (λ (z : InletRecords). z.setup) (some-same y r.0 (sym h ∙ r.1)) ∙ r.2))

pub dest-before : (old new : CoreState) (s t : State) (d : ℕ) (y : Dest) → Went old new s t → slice_get t.dests d ≡ Some y → (x : Dest) × ((slice_get s.dests d ≡ Some x) × (y.setup ≡ x.setup))
dest-before old new s t d y went h =
    let low = slice_get-below t.dests d y h in
    let x = slice_get-some s.dests d (let n = went.all_dests in omega (arith, low, n)) in
    let r = went.dests d x.0 x.1 in
    (x.0, (x.1, ap (λ (z : Dest). z.setup) (some-same y r.0 (sym h ∙ r.1)) ∙ r.2))

-- One of many calls.

abbrev pub Has : List Exchange → Exchange → Type 0
Has [] e = ⊥
Has (x ∷ xs) e = (x ≡ e) ⊎ Has xs e

-- the states around it
pub record Moment (old new : CoreState) (s : State) (e : Exchange) : Type 0 where
  pub first : CoreState
  pub next : CoreState
  pub at_first : State
  pub at_next : State
  pub at_last : State
  pub before : Went old first s at_first
  pub serves : Serves first e.call e.reply next
  pub meanwhile : Went first next at_first at_next
  pub behind : Went next new at_next at_last

pub moment : (old new : CoreState) (made : List Exchange) (s : State) (e : Exchange) → Makes Serves old made new → IsAt old s → Has made e → Moment old new s e
moment old new [] s e m at h = absurd h
moment old new (x ∷ rest) s e m at (inl same) =
    let one = went-call old m.0 x.call x.reply s m.1 at in
    let more = went-all m.0 new rest one.0 m.2 one.1.at in
    record {
      first = old;
      next = m.0;
      at_first = s;
      at_next = one.0;
      at_last = more.0;
      before = went-none old s at;
      serves = subst (λ (y : Exchange). Serves old y.call y.reply m.0) same m.1;
      meanwhile = one.1;
      behind = more.1;
    }
moment old new (x ∷ rest) s e m at (inr h) =
    let one = went-call old m.0 x.call x.reply s m.1 at in
    let k = moment m.0 new rest one.0 e m.2 one.1.at h in
    record {
      first = k.first;
      next = k.next;
      at_first = k.at_first;
      at_next = k.at_next;
      at_last = k.at_last;
      before = went-then old m.0 k.first s one.0 k.at_first one.1 k.before;
      serves = k.serves;
      meanwhile = k.meanwhile;
      behind = k.behind;
    }

pub has-front : (xs ys : List Exchange) (e : Exchange) → Has xs e → Has (xs ++ ys) e
has-front [] ys e h = absurd h
has-front (x ∷ xs) ys e (inl same) = inl same
has-front (x ∷ xs) ys e (inr h) = inr (has-front xs ys e h)

pub has-behind : (xs ys : List Exchange) (e : Exchange) → Has ys e → Has (xs ++ ys) e
has-behind [] ys e h = h
has-behind (x ∷ xs) ys e h = inr (has-behind xs ys e h)

-- The calls of one caller.

has-if : (b : Bool) (x : Exchange) (xs : List Exchange) (e : Exchange) → Has (if b then x ∷ xs else xs) e → ((b ≡ true) × (x ≡ e)) ⊎ Has xs e
has-if true x xs e (inl same) = inl (refl, same)
has-if true x xs e (inr h) = inr h
has-if false x xs e h = inr h

pub has-own : (who : Caller) (made : List Exchange) (e : Exchange) → Has (calls_by who made) e → Has made e × (same_caller who (caller_of e.call) ≡ true)
has-own who [] e h = absurd h
has-own who (x ∷ xs) e h =
    elim (has-if (same_caller who (caller_of x.call)) x (calls_by who xs) e h) [
      | inl p ↦ (inl p.1, subst (λ (y : Exchange). same_caller who (caller_of y.call) ≡ true) p.1 p.0)
      | inr q ↦ (let r = has-own who xs e q in (inr r.0, r.1))
    ]

if-first : (b : Bool) (x : Exchange) (xs : List Exchange) (e : Exchange) → b ≡ true → x ≡ e → Has (if b then x ∷ xs else xs) e
if-first true x xs e is same = inl same
if-first false x xs e is same = absurd (let wrong : false ≡ true = is in cc)

if-rest : (b : Bool) (x : Exchange) (xs : List Exchange) (e : Exchange) → Has xs e → Has (if b then x ∷ xs else xs) e
if-rest true x xs e h = inr h
if-rest false x xs e h = h

pub own-has : (made : List Exchange) (e : Exchange) → Has made e → Has (calls_by (caller_of e.call) made) e
own-has [] e h = absurd h
own-has (x ∷ xs) e (inl same) =
    let own : same_caller (caller_of e.call) (caller_of x.call) ≡ true = subst (λ (y : Exchange). same_caller (caller_of e.call) (caller_of y.call) ≡ true) (sym same) (same-self (caller_of e.call)) in
    if-first (same_caller (caller_of e.call) (caller_of x.call)) x (calls_by (caller_of e.call) xs) e own same
own-has (x ∷ xs) e (inr h) = if-rest (same_caller (caller_of e.call) (caller_of x.call)) x (calls_by (caller_of e.call) xs) e (own-has xs e h)

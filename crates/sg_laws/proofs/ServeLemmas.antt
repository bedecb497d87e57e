-- What the calls of a core do at a destination.
use Rattle.std.proofs.Common.{◌≡◌, ◌≢◌, ℕ, ◌+◌, ◌-◌, ◌≤◌, List, [], ◌∷◌, ◌++◌, length, Some, None, Option, Ok, Err, Result, Bool, true, false, not, ◌&&◌, refl, sym, ap, ◌∙◌, arith, map, take, subst, append_assoc, if◌then◌else◌, zero, suc, min, inl, inr}
use Rattle.std.specs.Prelude.{◌==◌, nat_le, nat_lt, slice_get}
use Rattle.std.specs.Option.{option_map_or}
use Rattle.std.proofs.lemmas.Bool.{cases_eq}
use Rattle.std.proofs.lemmas.List.{map-append, take-map, length-map}
use Rattle.sg_list.specs.Lists.{change}
use Rattle.sg_list.proofs.ListLemmas.{some-same, get-change-same, get-change-other}
use Rattle.sg_msg.specs.Message.{Content}
use Rattle.sg_msg.specs.declared.offer.Offer.{Offer}
use Rattle.sg_machine.specs.declared.event.Act.{Act}
use Rattle.sg_machine.specs.declared.event.Act.TheVariants.{Admit as AdmitAct, Settle as SettleAct, Refill as RefillAct, Store as StoreAct, Look}
use Rattle.sg_machine.specs.declared.event.Event.{Event}
use Rattle.sg_machine.specs.declared.event.Verdict.{Verdict}
use Rattle.sg_machine.specs.declared.event.Verdict.TheVariants.{Queued, Spooled, Waits, DroppedFull, DroppedDisk}
use Rattle.sg_machine.specs.declared.setup.BufferSetup.{BufferSetup}
use Rattle.sg_machine.specs.declared.state.Dest.{Dest}
use Rattle.sg_machine.specs.declared.state.DestEntry.{DestEntry}
use Rattle.sg_machine.specs.declared.state.Origin.{Origin}
use Rattle.sg_machine.specs.declared.state.State.{State}
use Rattle.sg_machine.specs.Verdicts.{Claim, claims_of, origin_of, entry_from, take_offer, take_claims}
use Rattle.sg_machine.specs.Legal.{may_settle, at_most_this, store_of, is_legal_act}
use Rattle.sg_machine.specs.Effects.{next_of, settled_some, spool_first, spool_some, refilled_some, after_act}
use Rattle.sg_machine.specs.Runs.{after_all}
use Rattle.sg_machine.proofs.RunLemmas.{both-true}
use Rattle.sg_counter.specs.Exchanges.{OfDest, caller_of, same_caller}
use Rattle.sg_counter.specs.declared.answers.CoreFront.{CoreFront}
use Rattle.sg_counter.specs.declared.answers.CoreFront.TheVariants.{Entries, Empty, Broken as FrontBroken}
use Rattle.sg_counter.specs.declared.answers.Refill.{Refill as Refilling}
use Rattle.sg_counter.specs.declared.answers.Settled.{Settled}
use Rattle.sg_counter.specs.declared.answers.Refill.TheVariants.{Moved, NoneWaits, NoRoom, Broken as RefillBroken}
use Rattle.sg_counter.specs.declared.answers.Settled.TheVariants.{Done, NotFront, DiskFailed}
use Rattle.sg_counter.specs.declared.answers.Stored.TheVariants.{Wrote, Unchanged, Broken}
use Rattle.sg_counter.specs.declared.calls.CoreCall.{CoreCall}
use Rattle.sg_counter.specs.declared.calls.CoreCall.TheVariants.{Credit, Admit, Front, Settle, Refill, Store}
use Rattle.sg_counter.specs.declared.calls.CoreReply.{CoreReply}
use Rattle.sg_counter.specs.declared.calls.CoreReply.TheVariants.{Credit as CreditReply, Admitted, Front as FrontReply, Settled as SettledReply, Refilled, Stored}
use Rattle.sg_sinks.specs.Runs.{run_from, run_of}
use Rattle.sg_sinks.specs.Standing.{lengths_of, sink_of}
use Rattle.sg_sinks.specs.States.{SinkState}
use Rattle.sg_standing.specs.States.{CoreState}
use Rattle.sg_standing.specs.Standing.{IsAt, DoesAct, is_broken}
use Rattle.sg_core.specs.Answers.{AnswersFront, AnswersFrontAt, IsBufferTold, shown_of, can_settle, can_settle_at}
use Rattle.sg_core.specs.Calls.{Serves, HasShown, HasSettled, HasRefilled, acts_in}
use Rattle.sg_core.proofs.Fits.{left-length}
use Rattle.sg_core.proofs.SettleParts.{can-at}
use Rattle.sg_laws.proofs.ToldLemmas.{told-goes}
use Rattle.sg_laws.proofs.ViewLemmas.{CoreView, GrowsInView, ShowsByCall, SettlesSomeSeen, StepOfView}

abbrev pub message_of : DestEntry → Content
message_of e = e.message

abbrev pub view : Dest → CoreView
view x = record { settled = map message_of x.settled; left = map message_of x.left }

-- What others do: more comes in behind.

pub record KeepsServed (x y : Dest) : Type 0 where
  pub setup : y.setup ≡ x.setup
  pub grows : GrowsInView (view x) (view y)

append-none : (xs : List Content) → xs ≡ xs ++ []
append-none [] = refl
append-none (x ∷ xs) = ap (λ ys. x ∷ ys) (append-none xs)

keeps-none : (x : Dest) → KeepsServed x x
keeps-none x = record { setup = refl; grows = record { settled = refl; more = []; left = append-none (map message_of x.left) } }

keeps-then : (x y z : Dest) → KeepsServed x y → KeepsServed y z → KeepsServed x z
keeps-then x y z a b = record {
  setup = b.setup ∙ a.setup;
  grows = record {
    settled = b.grows.settled ∙ a.grows.settled;
    more = a.grows.more ++ b.grows.more;
    left = b.grows.left ∙ ap (λ xs. xs ++ b.grows.more) a.grows.left ∙ append_assoc (map message_of x.left) a.grows.more b.grows.more;
  };
}

keeps-push : (x : Dest) (e : DestEntry) → KeepsServed x (record x { left = x.left ++ e ∷ [] })
keeps-push x e = record { setup = refl; grows = record { settled = refl; more = e.message ∷ []; left = map-append message_of x.left (e ∷ []) } }

keeps-offer : (origin : Origin) (o : Offer) (v : Verdict) (x : Dest) → KeepsServed x (take_offer origin o v x)
keeps-offer origin o Queued x = keeps-push x (entry_from origin o false)
keeps-offer origin o Spooled x = keeps-push x (entry_from origin o true)
keeps-offer origin o Waits x = keeps-push x (entry_from origin o false)
keeps-offer origin o DroppedFull x = record { setup = refl; grows = record { settled = refl; more = []; left = append-none (map message_of x.left) } }
keeps-offer origin o DroppedDisk x = record { setup = refl; grows = record { settled = refl; more = []; left = append-none (map message_of x.left) } }

-- d is there, and this holds of it
abbrev pub AtState : List Dest → ℕ → (Dest → Type 0) → Type 0
AtState ds d P = (y : Dest) × ((slice_get ds d ≡ Some y) × P y)

keeps-claims : (i next : ℕ) (ds : List Dest) (cs : List Claim) (vs : List Verdict) (d : ℕ) (x : Dest) → slice_get ds d ≡ Some x → AtState (take_claims i next ds cs vs) d (KeepsServed x)
keeps-claims i next ds [] vs d x h = (x, (h, keeps-none x))
keeps-claims i next ds (c ∷ cs) [] d x h = (x, (h, keeps-none x))
keeps-claims i next ds (c ∷ cs) (v ∷ vs) d x h =
    let f = take_offer (origin_of i next c) c.offer v in
    let new = change ds c.offer.dest f in
    elim (cases_eq c.offer.dest d) [
      | inl e ↦ (
          let here : slice_get new d ≡ Some (f x) = rw e (get-change-same ds d f x h) in
          let rest = keeps-claims i next new cs vs d (f x) here in
          (rest.0, (rest.1.0, keeps-then x (f x) rest.0 (keeps-offer (origin_of i next c) c.offer v x) rest.1.1)))
      | inr ne ↦ (
          let there : slice_get new d ≡ Some x = get-change-other ds c.offer.dest d f (λ q. ne (sym q)) ∙ h in
          keeps-claims i next new cs vs d x there)
    ]

-- A call that was served.

pub record ServedSo (old new : CoreState) (s : State) (acts : List Act) (d : ℕ) (P : Dest → Type 0) : Type 0 where
  pub events : List Event
  pub acts_are : map (λ (e : Event). e.act) events ≡ acts
  pub at : IsAt new (after_all s events)
  pub dest : Dest
  pub there : slice_get (after_all s events).dests d ≡ Some dest
  pub does : P dest
  pub tells : (buffer : Option BufferSetup) → IsBufferTold old.stores buffer → IsBufferTold new.stores buffer

served-none : (old new : CoreState) (s : State) (d : ℕ) (P : Dest → Type 0) (x : Dest) → new ≡ old → IsAt old s → slice_get s.dests d ≡ Some x → P x → ServedSo old new s [] d P
served-none old new s d P x same at h p = record {
  events = [];
  acts_are = refl;
  at = subst (λ (c : CoreState). IsAt c s) (sym same) at;
  dest = x;
  there = h;
  does = p;
  tells = λ buffer t. subst (λ (c : CoreState). IsBufferTold c.stores buffer) (sym same) t;
}

served-one : (old new : CoreState) (s : State) (act : Act) (d : ℕ) (P : Dest → Type 0) (does : DoesAct old new act) → IsAt old s → AtState (after_act s act does.failed).dests d P → ServedSo old new s (act ∷ []) d P
served-one old new s act d P does at h = record {
  events = record { act = act; failed = does.failed } ∷ [];
  acts_are = refl;
  at = (does.step s at).1;
  dest = h.0;
  there = h.1.0;
  does = h.1.1;
  tells = told-goes old.stores new.stores does.goes;
}

-- Calls of others.

abbrev OtherEvents : CoreState → CoreState → State → CoreCall → CoreReply → ℕ → Dest → Type 0
OtherEvents old new s call reply d x = ServedSo old new s (acts_in call reply) d (KeepsServed x)

still : (ds : List Dest) (d : ℕ) (x : Dest) → slice_get ds d ≡ Some x → AtState ds d (KeepsServed x)
still ds d x h = (x, (h, keeps-none x))

unequal : (d e : ℕ) → (d == e) ≡ false → d ≢ e
unequal d e h = grind arith

passed-by : (ds : List Dest) (d e : ℕ) (f : Dest → Dest) (x : Dest) → slice_get ds d ≡ Some x → (d == e) ≡ false → AtState (change ds e f) d (KeepsServed x)
passed-by ds d e f x h miss = (x, (get-change-other ds e d f (unequal d e miss) ∙ h, keeps-none x))

pub others-call : (old new : CoreState) (call : CoreCall) (reply : CoreReply) (s : State) (d : ℕ) (x : Dest) → Serves old call reply new → IsAt old s → slice_get s.dests d ≡ Some x → same_caller (OfDest d) (caller_of call) ≡ false
    → ServedSo old new s (acts_in call reply) d (KeepsServed x)
others-call old new (Credit i) (CreditReply n) s d x serves at h not = served-none old new s d (KeepsServed x) x serves.same at h (keeps-none x)
others-call old new (Admit i records) (Admitted (Ok vs)) s d x serves at h not =
    served-one old new s (AdmitAct i records vs) d (KeepsServed x) serves.does at (keeps-claims i (next_of s i) s.dests (claims_of records) vs d x h)
others-call old new (Admit i records) (Admitted (Err refused)) s d x serves at h not = served-one old new s Look d (KeepsServed x) serves.does at (still s.dests d x h)
others-call old new (Front e most) (FrontReply result) s d x serves at h not = served-one old new s Look d (KeepsServed x) serves.does at (still s.dests d x h)
others-call old new (Settle e place n count) (SettledReply Done) s d x serves at h not = served-one old new s (SettleAct e n) d (KeepsServed x) serves.does at (passed-by s.dests d e (settled_some n) x h not)
others-call old new (Settle e place n count) (SettledReply NotFront) s d x serves at h not = served-one old new s Look d (KeepsServed x) serves.does at (still s.dests d x h)
others-call old new (Settle e place n count) (SettledReply DiskFailed) s d x serves at h not = served-one old new s (SettleAct e n) d (KeepsServed x) serves.does at (passed-by s.dests d e (settled_some n) x h not)
others-call old new (Refill e) (Refilled (Moved n)) s d x serves at h not = served-one old new s (RefillAct e n) d (KeepsServed x) serves.does at (passed-by s.dests d e (refilled_some n) x h not)
others-call old new (Refill e) (Refilled NoneWaits) s d x serves at h not = served-one old new s Look d (KeepsServed x) serves.does at (still s.dests d x h)
others-call old new (Refill e) (Refilled NoRoom) s d x serves at h not = served-one old new s Look d (KeepsServed x) serves.does at (still s.dests d x h)
others-call old new (Refill e) (Refilled RefillBroken) s d x serves at h not = served-one old new s Look d (KeepsServed x) serves.does at (still s.dests d x h)
others-call old new (Store j) (Stored (Wrote w)) s d x serves at h not = served-one old new s (StoreAct j w) d (KeepsServed x) serves.does at (still s.dests d x h)
others-call old new (Store j) (Stored Unchanged) s d x serves at h not = served-one old new s Look d (KeepsServed x) serves.does at (still s.dests d x h)
others-call old new (Store j) (Stored Broken) s d x serves at h not = served-one old new s Look d (KeepsServed x) serves.does at (still s.dests d x h)
others-call old new call reply s d x serves at h not = absurd serves

-- Own calls.

pub record Stepped (T : Type 0) (x : Dest) (call : CoreCall) (reply : CoreReply) (y : Dest) : Type 0 where
  pub setup : y.setup ≡ x.setup
  pub step : StepOfView T (view x) (view y) call reply

-- the sink of the destination
sink-there : {A B : Type 0} (f : A → B) (xs : List A) (k : ℕ) (x : A) → slice_get xs k ≡ Some x → slice_get (map f xs) k ≡ Some (f x)
sink-there f [] k x h = absurd (let wrong : None ≡ Some x = h in cc)
sink-there f (y ∷ xs) zero x h = ap Some (ap f (some-same y x h))
sink-there f (y ∷ xs) (suc k) x h = sink-there f xs k x h

abbrev sink_at : State → Dest → SinkState
sink_at s x = sink_of (is_broken s.failed x) x

sink-of : (core : CoreState) (s : State) (d : ℕ) (x : Dest) → IsAt core s → slice_get s.dests d ≡ Some x → slice_get core.sinks d ≡ Some (sink_at s x)
sink-of core s d x at h = ap (λ ks. slice_get ks d) at.sinks ∙ sink-there (λ (y : Dest). sink_of (is_broken s.failed y) y) s.dests d x h

-- how many are shown is no more than are left
run-from-if : (b : Bool) (k n : ℕ) → k ≤ n → (if b then 1 + k else 0) ≤ suc n
run-from-if true k n h = omega (arith, h)
run-from-if false k n h = omega arith

run-from-few : (most room : ℕ) (ns : List ℕ) → run_from most room ns ≤ length ns
run-from-few zero room ns = omega arith
run-from-few (suc most) room [] = omega arith
run-from-few (suc most) room (n ∷ ns) = run-from-if (nat_le n room) (run_from most (room - n) ns) (length ns) (run-from-few most (room - n) ns)

run-of-few : (most : ℕ) (ns : List ℕ) → run_of most ns ≤ length ns
run-of-few most [] = omega arith
run-of-few most (n ∷ ns) = let r = run-from-few (most - 1) 1048576 ns in omega (arith, r)

shown-if : (b : Bool) (x y lengths entries : ℕ) → x ≤ entries → y ≤ lengths → (if b then x else y) ≤ lengths + entries
shown-if true x y lengths entries h k = omega (arith, h)
shown-if false x y lengths entries h k = omega (arith, k)

shown-few : (most : ℕ) (sink : SinkState) → shown_of most sink ≤ length sink.lengths + length sink.entries
shown-few most sink = shown-if (length sink.lengths == 0) (min most (length sink.entries)) (run_of most sink.lengths) (length sink.lengths) (length sink.entries) (omega arith) (run-of-few most sink.lengths)

left-count : (s : State) (x : Dest) → length (sink_at s x).lengths + length (sink_at s x).entries ≡ length (map message_of x.left)
left-count s x = left-length (length x.settled + length (lengths_of x.left)) x.left ∙ sym (length-map x.left message_of)

answers-of : (a b : Option SinkState) (sink : SinkState) (most : ℕ) (front : CoreFront) → a ≡ Some sink → AnswersFrontAt a b most front → (next : SinkState) × AnswersFront sink next most front
answers-of None b sink most front e h = absurd h
answers-of (Some k) None sink most front e h = absurd h
answers-of (Some k) (Some next) sink most front e h = (next, subst (λ (u : SinkState). AnswersFront u next most front) (some-same k sink e) h)

front-shows : {E : Type 0} (T : Type 0) (old new : CoreState) (s : State) (d most : ℕ) (result : Result CoreFront E) (x : Dest) → HasShown old d most result new → IsAt old s → slice_get s.dests d ≡ Some x
    → (T → IsBufferTold old.stores x.setup.buffer) → ShowsByCall T (view x) (view x) result
front-shows T old new s d most (Ok (Entries place messages)) x shown at h told =
    let sink = sink_at s x in
    let a = (answers-of (slice_get old.sinks d) (slice_get new.sinks d) sink most (Entries place messages) (sink-of old s d x at h) shown.front).1 in
    let few = shown-few most sink in
    let count = left-count s x in
    let shows = a.3 in (
      refl,
      a.2 ∙ sym (length-map x.settled message_of),
      omega (arith, few, count, shows),
      λ t. shown.shows s x at h (told t) ∙ sym (take-map message_of (length messages) x.left),
    )
front-shows T old new s d most (Ok Empty) x shown at h told = refl
front-shows T old new s d most (Ok FrontBroken) x shown at h told = refl
front-shows T old new s d most (Err e) x shown at h told = refl

-- settles
may-settle : (s : State) (d n : ℕ) (failed : List ℕ) (x : Dest) → slice_get s.dests d ≡ Some x → is_legal_act s (SettleAct d n) failed ≡ true → n ≤ length x.left
may-settle s d n failed x h l =
    let P : Option Dest → Type 0 = λ o. option_map_or (λ (y : Dest). may_settle n y && at_most_this s.failed (store_of y) failed) o false ≡ true in
    let here = subst P h l in
    let may = (both-true (may_settle n x) (at_most_this s.failed (store_of x) failed) here).0 in
    let both = (both-true (nat_lt 0 n) (nat_le n (length x.left)) may).1 in
    grind arith

settle-some : (n : ℕ) (x : Dest) → n ≤ length x.left → SettlesSomeSeen (view x) (view (settled_some n x)) n
settle-some n x h = record {
  enough = (let c = length-map x.left message_of in omega (arith, h, c));
  settled = map-append message_of x.settled (take n x.left) ∙ ap (λ ms. map message_of x.settled ++ ms) (sym (take-map message_of n x.left));
}

settled-at : (old new : CoreState) (s : State) (d n : ℕ) (x : Dest) (does : DoesAct old new (SettleAct d n)) → IsAt old s → slice_get s.dests d ≡ Some x
    → AtState (after_act s (SettleAct d n) does.failed).dests d (λ y. (y.setup ≡ x.setup) × SettlesSomeSeen (view x) (view y) n)
settled-at old new s d n x does at h =
    let enough = may-settle s d n does.failed x h (does.step s at).0 in
    (settled_some n x, (get-change-same s.dests d (settled_some n) x h, (refl, settle-some n x enough)))

can-true : (place taken n total : ℕ) → place ≡ taken → n ≤ total → (place == taken && nat_le n total) ≡ true
can-true place taken n total p l = grind arith

true-false : (b : Bool) → b ≡ true → b ≡ false → ⊥
true-false b t f = let wrong : true ≡ false = sym t ∙ f in cc

not-front : (old : CoreState) (s : State) (d place n : ℕ) (x : Dest) → IsAt old s → slice_get s.dests d ≡ Some x → can_settle_at old.sinks d place n ≡ false
    → place ≡ length (map message_of x.settled) → n ≤ length (map message_of x.left) → ⊥
not-front old s d place n x at h cannot p l =
    let sink = sink_at s x in
    let count = left-count s x in
    let yes = can-true place sink.taken n (length sink.lengths + length sink.entries) (p ∙ length-map x.settled message_of) (omega (arith, l, count)) in
    true-false (can_settle sink place n) yes (sym (can-at old.sinks d place n sink (sink-of old s d x at h)) ∙ cannot)

-- refills
spool-one : (b : Bool) (e : DestEntry) (es rest : List DestEntry) → map message_of rest ≡ map message_of es → map message_of (if b then e ∷ rest else record e { spooled = true } ∷ es) ≡ e.message ∷ map message_of es
spool-one true e es rest h = ap (λ ms. e.message ∷ ms) h
spool-one false e es rest h = refl

spool-first : (es : List DestEntry) → map message_of (spool_first es) ≡ map message_of es
spool-first [] = refl
spool-first (e ∷ es) = spool-one e.spooled e es (spool_first es) (spool-first es)

spool-some : (n : ℕ) (es : List DestEntry) → map message_of (spool_some n es) ≡ map message_of es
spool-some zero es = refl
spool-some (suc n) es = spool-some n (spool_first es) ∙ spool-first es

refilled-view : (n : ℕ) (x : Dest) → view (refilled_some n x) ≡ view x
refilled-view n x = ap (λ (ms : List Content). let v : CoreView = record { settled = map message_of x.settled; left = ms } in v) (spool-some n x.left)

equal-of : (d e : ℕ) → (d == e) ≡ true → e ≡ d
equal-of d e h = grind arith

-- a call of the destination itself
abbrev OwnEvents : Type 0 → CoreState → CoreState → CoreCall → CoreReply → State → ℕ → Dest → Type 0
OwnEvents T old new call reply s d x = ServedSo old new s (acts_in call reply) d (Stepped T x call reply)

looked : (T : Type 0) (old new : CoreState) (call : CoreCall) (reply : CoreReply) (s : State) (d : ℕ) (x : Dest) → DoesAct old new Look → IsAt old s → slice_get s.dests d ≡ Some x → StepOfView T (view x) (view x) call reply
    → ServedSo old new s (Look ∷ []) d (Stepped T x call reply)
looked T old new call reply s d x does at h step = served-one old new s Look d (Stepped T x call reply) does at (x, (h, record { setup = refl; step = step }))

own-front : {E : Type 0} (T : Type 0) (old new : CoreState) (most : ℕ) (result : Result CoreFront E) (s : State) (d : ℕ) (x : Dest) → HasShown old d most result new → IsAt old s → slice_get s.dests d ≡ Some x
    → (T → IsBufferTold old.stores x.setup.buffer) → DoesAct old new Look × ShowsByCall T (view x) (view x) result
own-front T old new most result s d x serves at h told = (serves.does, front-shows T old new s d most result x serves at h told)

own-settle : (T : Type 0) (old new : CoreState) (place n count : ℕ) (answer : Settled) (s : State) (d : ℕ) (x : Dest) → HasSettled old d place n answer new → IsAt old s → slice_get s.dests d ≡ Some x
    → OwnEvents T old new (Settle d place n count) (SettledReply answer) s d x
own-settle T old new place n count Done s d x serves at h =
    let y = settled-at old new s d n x serves.does at h in
    served-one old new s (SettleAct d n) d (Stepped T x (Settle d place n count) (SettledReply Done)) serves.does at (y.0, (y.1.0, record { setup = y.1.1.0; step = y.1.1.1 }))
own-settle T old new place n count NotFront s d x serves at h =
    looked T old new (Settle d place n count) (SettledReply NotFront) s d x serves.does at h (refl, not-front old s d place n x at h serves.answer)
own-settle T old new place n count DiskFailed s d x serves at h =
    let y = settled-at old new s d n x serves.does at h in
    served-one old new s (SettleAct d n) d (Stepped T x (Settle d place n count) (SettledReply DiskFailed)) serves.does at (y.0, (y.1.0, record { setup = y.1.1.0; step = y.1.1.1 }))

own-refill : (T : Type 0) (old new : CoreState) (answer : Refilling) (s : State) (d : ℕ) (x : Dest) → HasRefilled old d answer new → IsAt old s → slice_get s.dests d ≡ Some x → OwnEvents T old new (Refill d) (Refilled answer) s d x
own-refill T old new (Moved n) s d x serves at h =
    served-one old new s (RefillAct d n) d (Stepped T x (Refill d) (Refilled (Moved n))) serves.does at (refilled_some n x, (get-change-same s.dests d (refilled_some n) x h, record { setup = refl; step = refilled-view n x }))
own-refill T old new NoneWaits s d x serves at h = looked T old new (Refill d) (Refilled NoneWaits) s d x serves.does at h refl
own-refill T old new NoRoom s d x serves at h = looked T old new (Refill d) (Refilled NoRoom) s d x serves.does at h refl
own-refill T old new RefillBroken s d x serves at h = looked T old new (Refill d) (Refilled RefillBroken) s d x serves.does at h refl

wrong-caller : false ≡ true → ⊥
wrong-caller h = cc

pub own-call : (T : Type 0) (old new : CoreState) (call : CoreCall) (reply : CoreReply) (s : State) (d : ℕ) (x : Dest) → Serves old call reply new → IsAt old s → slice_get s.dests d ≡ Some x → same_caller (OfDest d) (caller_of call) ≡ true
    → (T → IsBufferTold old.stores x.setup.buffer) → ServedSo old new s (acts_in call reply) d (Stepped T x call reply)
own-call T old new (Front e most) (FrontReply result) s d x serves at h own told =
    let q = equal-of d e own in
    let here = subst (λ (k : ℕ). slice_get s.dests k ≡ Some x) (sym q) h in
    let both = own-front T old new most result s e x serves at here told in
    looked T old new (Front e most) (FrontReply result) s d x both.0 at h both.1
own-call T old new (Settle e place n count) (SettledReply answer) s d x serves at h own told =
    let q = equal-of d e own in
    let here = subst (λ (k : ℕ). slice_get s.dests k ≡ Some x) (sym q) h in
    let P : ℕ → Type 0 = λ k. ServedSo old new s (acts_in (Settle e place n count) (SettledReply answer)) k (Stepped T x (Settle e place n count) (SettledReply answer)) in
    subst P q (own-settle T old new place n count answer s e x serves at here)
own-call T old new (Refill e) (Refilled answer) s d x serves at h own told =
    let q = equal-of d e own in
    let here = subst (λ (k : ℕ). slice_get s.dests k ≡ Some x) (sym q) h in
    let P : ℕ → Type 0 = λ k. ServedSo old new s (acts_in (Refill e) (Refilled answer)) k (Stepped T x (Refill e) (Refilled answer)) in
    subst P q (own-refill T old new answer s e x serves at here)
own-call T old new (Credit i) reply s d x serves at h own told = absurd (wrong-caller own)
own-call T old new (Admit i records) reply s d x serves at h own told = absurd (wrong-caller own)
own-call T old new (Store i) reply s d x serves at h own told = absurd (wrong-caller own)
own-call T old new call reply s d x serves at h own told = absurd serves

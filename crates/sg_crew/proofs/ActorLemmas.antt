-- The turns of the actors of one kind in a phase.
use Rattle.std.proofs.Common.{arith, ◌≡◌, ◌<◌, ◌+◌, ℕ, zero, suc, List, [], ◌∷◌, length, map, refl, ap, sym, ◌∙◌, subst, slice_get, Some, Option}
use Rattle.std.specs.Prelude.{not, is_some}
use Rattle.sg_device.specs.Inlet.{InletState}
use Rattle.sg_device.specs.Outlet.{OutletState}
use Rattle.sg_msg.specs.declared.offer.Offer.{Offer}
use Rattle.sg_machine.specs.declared.setup.Setup.{Setup}
use Rattle.sg_frame.specs.Records.{Record}
use Rattle.sg_list.proofs.ListLemmas.{slice_get-some, slice_get-below, some-same}
use Rattle.sg_booth.specs.Lists.{total}
use Rattle.sg_booth.specs.Desks.{fresh_desk}
use Rattle.sg_counter.specs.Exchanges.{Caller}
use Rattle.sg_actor.specs.declared.dest.DestActor.{DestActor}
use Rattle.sg_actor.specs.declared.source.SourceActor.{SourceActor}
use Rattle.sg_actor.specs.declared.turned.Turned.{Turned}
use Rattle.sg_turns.specs.Turns.{Turn, calls_of}
use Rattle.sg_turns.specs.Actors.{AreSources, AreDests, SourceTakes, DestTakes}
use Rattle.sg_turns.specs.Serving.{busy_of, sum_below}
use Rattle.sg_hub.specs.Seats.{HubState, SeatState}
use Rattle.sg_crew.specs.Crews.{any, Every, TookEach, EndsWith, TellsPhase, WorkedWith}
use Rattle.sg_crew.specs.Workers.{actor_of, seat_of, turn_of, busy_of_worker, busy_sum, AreCounted}
use Rattle.sg_crew.specs.declared.worker.Worker.{Worker}
use Rattle.sg_crew.proofs.ListLemmas.{any-some, any-none, unmapped, length-map, choose}
use Rattle.sg_crew.proofs.SeatLemmas.{IsSeatSpent, is-spent}
use Rattle.sg_crew.proofs.TurnLemmas.{is-none, is-there}
use Rattle.sg_crew.proofs.KindLemmas.{source-stays, dest-stays}

-- An actor took these turns at its seat, and they were counted.
pub record HasWorked {A D : Type 0} (takes : A → A → Turn → Type 0) (who : Caller) (hub : HubState) (x y : Worker A D) (turns : List Turn) : Type 0 where
  pub worked : WorkedWith (TookEach takes x.actor y.actor) who hub x.seat y.seat y.turn turns
  pub counted : AreCounted y turns

-- Each took turns at its seat, and these are the turns.
pub record KindTook {A D : Type 0} (takes : A → A → Turn → Type 0) (who : ℕ → Caller) (hub : HubState) (old new : List (Worker A D)) (turns : ℕ → List Turn) : Type 0 where
  pub all : length new ≡ length old
  pub each : (j : ℕ) (x y : Worker A D) → slice_get old j ≡ Some x → slice_get new j ≡ Some y → HasWorked takes (who j) hub x y (turns j)

module _ {A D : Type 0} (takes : A → A → Turn → Type 0) (who : ℕ → Caller) (number : A → ℕ) (hub : HubState)
    (old new : List (Worker A D)) (all : length new ≡ length old)
    (numbers : (j : ℕ) (x : Worker A D) → slice_get old j ≡ Some x → number x.actor ≡ j)
    (worked : (j : ℕ) (x y : Worker A D) → slice_get old j ≡ Some x → slice_get new j ≡ Some y
    → (turns : List Turn) × HasWorked takes (who (number x.actor)) hub x y turns) where
  worked-at : (j : ℕ) (x y : Worker A D) → slice_get old j ≡ Some x → slice_get new j ≡ Some y → (turns : List Turn) × HasWorked takes (who j) hub x y turns
  worked-at j x y before after =
      let h = worked j x y before after in
      (h.0, subst (λ n. HasWorked takes (who n) hub x y h.0) (numbers j x before) h.1)

  abbrev AreTurns : ℕ → List Turn → Type 0
  AreTurns j ts = (x y : Worker A D) → slice_get old j ≡ Some x → slice_get new j ≡ Some y → HasWorked takes (who j) hub x y ts

  turns-at : (j : ℕ) → j < length old → (ts : List Turn) × AreTurns j ts
  turns-at j below =
      let x = slice_get-some old j below in
      let y = slice_get-some new j (omega (arith, below, all)) in
      let w = worked-at j x.0 y.0 x.1 y.1 in (
        w.0,
        (λ u v before after.
            subst (λ b. HasWorked takes (who j) hub u b w.0) (some-same y.0 v (sym y.1 ∙ after))
            (subst (λ a. HasWorked takes (who j) hub a y.0 w.0) (some-same x.0 u (sym x.1 ∙ before)) w.1)),
      )

  pub kind-took : (turns : ℕ → List Turn) × KindTook takes who hub old new turns
  kind-took =
      let chosen = choose [] (length old) AreTurns turns-at in
      (chosen.0, record { all = all; each = λ j x y before after. chosen.1 j (slice_get-below old j x before) x y before after })

-- Sums over a list.

sum-shift : (n : ℕ) (f : ℕ → ℕ) → sum_below (suc n) f ≡ f 0 + sum_below n (λ j. f (suc j))
sum-shift zero f = omega arith
sum-shift (suc n) f = let rest = sum-shift n f in omega (arith, rest)

pub sum-total : {W : Type 0} (g : W → ℕ) (ws : List W) (f : ℕ → ℕ) → ((j : ℕ) (w : W) → slice_get ws j ≡ Some w → f j ≡ g w) → total g ws ≡ sum_below (length ws) f
sum-total g [] f h = refl
sum-total g (w ∷ ws) f h =
    let one = h 0 w refl in
    let rest = sum-total g ws (λ j. f (suc j)) (λ j v e. h (suc j) v e) in
    let shift = sum-shift (length ws) f in
    omega (arith, one, rest, shift)

module _ {A D : Type 0} (takes : A → A → Turn → Type 0) (who : ℕ → Caller) (hub : HubState) (old new : List (Worker A D)) (turns : ℕ → List Turn)
    (k : KindTook takes who hub old new turns) where
  earlier : (j : ℕ) (y : Worker A D) → slice_get new j ≡ Some y → (x : Worker A D) × (slice_get old j ≡ Some x)
  earlier j y after = let all = k.all in let below = slice_get-below new j y after in slice_get-some old j (omega (arith, all, below))

  pub worked-by : (j : ℕ) (y : Worker A D) → slice_get new j ≡ Some y → (x : Worker A D) × ((slice_get old j ≡ Some x) × HasWorked takes (who j) hub x y (turns j))
  worked-by j y after = let x = earlier j y after in (x.0, (x.1, k.each j x.0 y x.1 after))

  pub spent-is : (first : SeatState) → ((j : ℕ) (x : Worker A D) → slice_get old j ≡ Some x → x.seat ≡ fresh_desk first 1024) → (j : ℕ) (y : Worker A D) → slice_get new j ≡ Some y
      → IsSeatSpent hub first (who j) (calls_of (turns j)) y.seat
  spent-is first dealt j y after =
      let x = worked-by j y after in
      let w = x.1.1.worked in
      let few = w.few in
      let all = x.1.1.counted.all in
      let most = x.1.1.counted.few in
      is-spent hub first x.0.seat y.seat (who j) (calls_of (turns j)) (dealt j x.0 x.1.0) w.makes w.own (omega (arith, few, all, most))

  pub spent-at : (first : SeatState) → ((j : ℕ) (x : Worker A D) → slice_get old j ≡ Some x → x.seat ≡ fresh_desk first 1024) → (j : ℕ) (s : SeatState) → slice_get (map seat_of new) j ≡ Some s
      → IsSeatSpent hub first (who j) (calls_of (turns j)) s
  spent-at first dealt j s e = let y = unmapped seat_of new j s e in subst (IsSeatSpent hub first (who j) (calls_of (turns j))) y.1.1 (spent-is first dealt j y.0 y.1.0)

  pub took-at : (j : ℕ) (a b : A) → slice_get (map actor_of old) j ≡ Some a → slice_get (map actor_of new) j ≡ Some b → TookEach takes a b (turns j)
  took-at j a b before after =
      let x = unmapped actor_of old j a before in
      let y = unmapped actor_of new j b after in
      subst (λ v. TookEach takes a v (turns j)) y.1.1 (subst (λ u. TookEach takes u y.0.actor (turns j)) x.1.1 (k.each j x.0 y.0 x.1.0 y.1.0).worked.took)

  there : (j : ℕ) → j < length old → (y : Worker A D) × (slice_get new j ≡ Some y)
  there j below = let all = k.all in slice_get-some new j (omega (arith, all, below))

  pub number-at : (n : ℕ) → Every (λ (w : Worker A D). w.turns ≡ n) new → (j : ℕ) → j < length old → length (turns j) ≡ n
  number-at n even j below = let y = there j below in (worked-by j y.0 y.1).1.1.counted.all ∙ even j y.0 y.1

  pub busy-kind : busy_sum new ≡ sum_below (length old) (λ j. busy_of (turns j))
  busy-kind =
      sum-total busy_of_worker new (λ j. busy_of (turns j)) (λ j y e. (worked-by j y e).1.1.counted.busy)
      ∙ ap (λ n. sum_below n (λ j. busy_of (turns j))) k.all

  answer-at : (j : ℕ) (a : Option Turned) → slice_get (map turn_of new) j ≡ Some a → (j < length old) × EndsWith (turns j) a
  answer-at j a e =
      let y = unmapped turn_of new j a e in
      let x = worked-by j y.0 y.1.0 in
      (slice_get-below old j x.0 x.1.0, subst (EndsWith (turns j)) y.1.1 x.1.1.worked.ends)

  answer-there : (j : ℕ) → j < length old → (a : Option Turned) × (slice_get (map turn_of new) j ≡ Some a)
  answer-there j below = let all = k.all in let long = length-map turn_of new in slice_get-some (map turn_of new) j (omega (arith, all, long, below))

  pub tells-kind : TellsPhase (λ j. j < length old) turns (any (λ a. not (is_some a)) (map turn_of new))
  tells-kind = record {
    ends = (λ j below. let a = answer-there j below in (a.0, (answer-at j a.0 a.1).1));
    starves = (λ b.
        let s = any-some (λ a. not (is_some a)) (map turn_of new) b in
        let e = answer-at s.0 s.1.0 s.1.1.0 in
        (s.0, (e.0, subst (EndsWith (turns s.0)) (is-none s.1.0 s.1.1.1) e.1)));
    fed = (λ b j below.
        let a = answer-there j below in
        let t = is-there a.0 (any-none (λ o. not (is_some o)) (map turn_of new) b j a.0 a.1) in
        (t.0, subst (EndsWith (turns j)) t.1 (answer-at j a.0 a.1).1));
  }

-- The actors are ready again.

pub sources-again : {R I : Type 0} (state : I → InletState) (offers : R → ℕ → Record → List Offer → Type 0) (inlets dests : R → ℕ) (setup : Setup) (old new : List (SourceActor R I)) (turns : ℕ → List Turn)
    → AreSources state inlets dests setup old → length new ≡ length old
    → ((j : ℕ) (a b : SourceActor R I) → slice_get old j ≡ Some a → slice_get new j ≡ Some b → TookEach (SourceTakes state offers inlets dests) a b (turns j))
    → AreSources state inlets dests setup new
sources-again state offers inlets dests setup old new turns h all took = record {
  all = all ∙ h.all;
  each = (λ i b after.
      let below = slice_get-below new i b after in
      let a = slice_get-some old i (omega (arith, below, all)) in
      source-stays state offers inlets dests setup i a.0 b (turns i) (h.each i a.0 a.1) (took i a.0 b a.1 after));
}

pub dests-again : {O : Type 0} (state : O → OutletState) (setup : Setup) (old new : List (DestActor O)) (turns : ℕ → List Turn)
    → AreDests state setup old → length new ≡ length old
    → ((j : ℕ) (a b : DestActor O) → slice_get old j ≡ Some a → slice_get new j ≡ Some b → TookEach (DestTakes state) a b (turns j))
    → AreDests state setup new
dests-again state setup old new turns h all took = record {
  all = all ∙ h.all;
  each = (λ d b after.
      let below = slice_get-below new d b after in
      let a = slice_get-some old d (omega (arith, below, all)) in
      dest-stays state d a.0 b (turns d) (h.each d a.0 a.1) (took d a.0 b a.1 after));
}

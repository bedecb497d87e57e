-- A phase of all actors.
use Rattle.std.proofs.Common.{arith, ◌≡◌, ◌<◌, ◌+◌, ℕ, Bool, true, false, List, ◌++◌, length, map, ap, sym, ◌∙◌, subst, slice_get, Some, None, Option, inl, inr}
use Rattle.std.proofs.lemmas.Bool.{or_cases, or_parts}
use Rattle.std.specs.Prelude.{not, is_some, ◌||◌, ◌*◌}
use Rattle.sg_booth.specs.Desks.{ArePlacesOrdered, fresh_desk, places}
use Rattle.sg_counter.specs.Exchanges.{Exchange, Makes, Caller, OfSource, OfDest}
use Rattle.sg_counter.specs.declared.calls.CoreCall.{CoreCall}
use Rattle.sg_counter.specs.declared.calls.CoreReply.{CoreReply}
use Rattle.sg_actor.specs.declared.turned.Turned.{Turned}
use Rattle.sg_turns.specs.Turns.{Turn, calls_of}
use Rattle.sg_turns.specs.Serving.{IsActor, busy_of, sum_below, Took, ServesWith}
use Rattle.sg_turns.specs.declared.ended.Ended.{Ended}
use Rattle.sg_turns.proofs.RoundLemmas.{actor-as}
use Rattle.sg_hub.specs.Histories.{ToldCall}
use Rattle.sg_hub.specs.Seats.{HubState, SeatState}
use Rattle.sg_crew.specs.Crews.{any, Every, EndsWith, TellsPhase, HasGathered, HasPhaseWith}
use Rattle.sg_crew.specs.Workers.{actor_of, seat_of, turn_of, busy_sum}
use Rattle.sg_crew.specs.declared.worker.Worker.{Worker}
use Rattle.sg_crew.proofs.ListLemmas.{length-map}
use Rattle.sg_crew.proofs.SeatLemmas.{seen-before, calls-are, no-others, turns-stay}
use Rattle.sg_crew.proofs.ActorLemmas.{KindTook, spent-at, took-at, tells-kind, number-at, busy-kind}

-- The turns of both kinds.

abbrev pub turns-of : (ℕ → List Turn) → (ℕ → List Turn) → Caller → List Turn
turns-of f g (OfSource i) = f i
turns-of f g (OfDest d) = g d

module _ (n m : ℕ) (f g : ℕ → List Turn) (a b : Bool) (h : TellsPhase (λ j. j < n) f a) (k : TellsPhase (λ j. j < m) g b) where
  ends-both : (who : Caller) → IsActor n m who → (answer : Option Turned) × EndsWith (turns-of f g who) answer
  ends-both (OfSource i) below = h.ends i below
  ends-both (OfDest d) below = k.ends d below

  fed-both : (a || b) ≡ false → (who : Caller) → IsActor n m who → (turned : Turned) × EndsWith (turns-of f g who) (Some turned)
  fed-both e (OfSource i) below = h.fed (or_parts a b e).0 i below
  fed-both e (OfDest d) below = k.fed (or_parts a b e).1 d below

  starved-both : (a || b) ≡ true → (who : Caller) × (IsActor n m who × EndsWith (turns-of f g who) None)
  starved-both e = elim (or_cases a b e) [
    | inl is ↦ (let s = h.starves is in (OfSource s.0, (s.1.0, s.1.1)))
    | inr is ↦ (let s = k.starves is in (OfDest s.0, (s.1.0, s.1.1)))
  ]

  pub tells-both : TellsPhase (IsActor n m) (turns-of f g) (a || b)
  tells-both = record { ends = ends-both; starves = starved-both; fed = fed-both }

tells-as : (n m n' m' : ℕ) (turns : Caller → List Turn) (starved starved' : Bool) → n' ≡ n → m' ≡ m → starved' ≡ starved
    → TellsPhase (IsActor n m) turns starved → TellsPhase (IsActor n' m') turns starved'
tells-as n m n' m' turns starved starved' a b d h =
    subst (λ x. TellsPhase (IsActor n' m') turns x) (sym d)
    (subst (λ x. TellsPhase (IsActor n' x) turns starved) (sym b)
    (subst (λ x. TellsPhase (IsActor x m) turns starved) (sym a) h))

number-both : (n m number : ℕ) (f g : ℕ → List Turn) → ((j : ℕ) → j < n → length (f j) ≡ number) → ((j : ℕ) → j < m → length (g j) ≡ number)
    → (who : Caller) → IsActor n m who → length (turns-of f g who) ≡ number
number-both n m number f g h k (OfSource i) below = h i below
number-both n m number f g h k (OfDest d) below = k d below

module _ {A B D : Type 0} (takes : A → A → Turn → Type 0) (sends : B → B → Turn → Type 0)
    (hub : HubState) (f0 f1 f2 f3 : SeatState) (s1 s2 : List (Worker A D)) (d1 d2 : List (Worker B D)) (f g : ℕ → List Turn)
    (seen1 : f1.seen ≡ f0.seen) (own1 : f1.own ≡ f0.own) (joined1 : f1.joined ≡ f0.joined)
    (dealt : (j : ℕ) (x : Worker A D) → slice_get s1 j ≡ Some x → x.seat ≡ fresh_desk f0 1024) (dealt' : (j : ℕ) (x : Worker B D) → slice_get d1 j ≡ Some x → x.seat ≡ fresh_desk f0 1024)
    (took : KindTook takes OfSource hub s1 s2 f) (sent : KindTook sends OfDest hub d1 d2 g)
    (gs : HasGathered f1 (map seat_of s2) f2) (gd : HasGathered f2 (map seat_of d2) f3) where
  abbrev made-by : Caller → List Exchange
  made-by who = calls_of (turns-of f g who)

  long : length (map seat_of s2) ≡ length (map actor_of s1)
  long = length-map seat_of s2 ∙ (took.all ∙ sym (length-map actor_of s1))

  long' : length (map seat_of d2) ≡ length (map actor_of d1)
  long' = length-map seat_of d2 ∙ (sent.all ∙ sym (length-map actor_of d1))

  pub phase-is : (number busy : ℕ) (starved : Bool) (more : List ToldCall) → f3.seen ≡ f0.seen ++ more → ArePlacesOrdered f0
      → Every (λ (w : Worker A D). w.turns ≡ number) s2 → Every (λ (w : Worker B D). w.turns ≡ number) d2
      → busy ≡ busy_sum s2 + busy_sum d2
      → starved ≡ (any (λ a. not (is_some a)) (map turn_of s2) || any (λ a. not (is_some a)) (map turn_of d2))
      → HasPhaseWith takes sends f0 f3 (map actor_of s1) (map actor_of s2) (map actor_of d1) (map actor_of d2) number busy starved more (turns-of f g)
  phase-is number busy starved more seen ordered even even' busy-is starved-is =
      let ss = spent-at takes OfSource hub s1 s2 f took f0 dealt in
      let ds = spent-at sends OfDest hub d1 d2 g sent f0 dealt' in
      let n = length-map actor_of s1 in
      let m = length-map actor_of d1 in
      record {
        seen = seen;
        before = seen-before hub f0 f1 f2 f3 (map seat_of s2) (map seat_of d2) made-by more seen1 own1 joined1 ss ds gs gd seen;
        took = (λ all. record {
          sources_took = took-at takes OfSource hub s1 s2 f took;
          dests_took = took-at sends OfDest hub d1 d2 g sent;
          calls = (λ who is. calls-are hub f0 f1 f2 f3 (map seat_of s2) (map seat_of d2) made-by more seen1 own1 joined1 ss ds gs gd seen ordered all who
              (actor-as (length (map actor_of s1)) (length (map actor_of d1)) (length (map seat_of s2)) (length (map seat_of d2)) who (sym long) (sym long') is));
          others = (λ who is. no-others hub f0 f1 f2 f3 (map seat_of s2) (map seat_of d2) made-by more seen1 own1 joined1 ss ds gs gd seen ordered all who
              (λ there. is (actor-as (length (map seat_of s2)) (length (map seat_of d2)) (length (map actor_of s1)) (length (map actor_of d1)) who long long' there)));
          all = (λ who is. number-both (length s1) (length d1) number f g (number-at takes OfSource hub s1 s2 f took number even) (number-at sends OfDest hub d1 d2 g sent number even') who
              (actor-as (length (map actor_of s1)) (length (map actor_of d1)) (length s1) (length d1) who n m is));
          tells = tells-as (length s1) (length d1) (length (map actor_of s1)) (length (map actor_of d1)) (turns-of f g)
              (any (λ a. not (is_some a)) (map turn_of s2) || any (λ a. not (is_some a)) (map turn_of d2)) starved n m starved-is
              (tells-both (length s1) (length d1) f g (any (λ a. not (is_some a)) (map turn_of s2)) (any (λ a. not (is_some a)) (map turn_of d2))
              (tells-kind takes OfSource hub s1 s2 f took) (tells-kind sends OfDest hub d1 d2 g sent));
          counted = (
              let one : busy_sum s2 ≡ sum_below (length (map actor_of s1)) (λ j. busy_of (f j)) = busy-kind takes OfSource hub s1 s2 f took ∙ ap (λ k. sum_below k (λ j. busy_of (f j))) (sym n) in
              let two : busy_sum d2 ≡ sum_below (length (map actor_of d1)) (λ j. busy_of (g j)) = busy-kind sends OfDest hub d1 d2 g sent ∙ ap (λ k. sum_below k (λ j. busy_of (g j))) (sym m) in
              omega (arith, busy-is, one, two));
        });
        all_sources = length-map actor_of s2 ∙ (took.all ∙ sym (length-map actor_of s1));
        all_dests = length-map actor_of d2 ∙ (sent.all ∙ sym (length-map actor_of d1));
      }

  pub phase-turns : (more : List ToldCall) → f3.seen ≡ f0.seen ++ more → f1.left + (1024 * length s1 + 1024 * length d1) ≡ f0.left → length (places f3) + f3.left ≡ length (places f0) + f0.left
  phase-turns more seen left1 =
      let ss = spent-at takes OfSource hub s1 s2 f took f0 dealt in
      let ds = spent-at sends OfDest hub d1 d2 g sent f0 dealt' in
      let n : length (map seat_of s2) ≡ length s1 = length-map seat_of s2 ∙ took.all in
      let m : length (map seat_of d2) ≡ length d1 = length-map seat_of d2 ∙ sent.all in
      turns-stay hub f0 f1 f2 f3 (map seat_of s2) (map seat_of d2) made-by more seen1 own1 joined1 ss ds gs gd seen (omega (arith, left1, n, m))

-- A run's calls in the core's own words.

pub took-with : {A B S T : Type 0} (source : A → A → List Turn → Type 0) (dest : B → B → List Turn → Type 0) (step : S → CoreCall → CoreReply → S → Type 0) (c c' : S)
    (step' : T → CoreCall → CoreReply → T → Type 0) (b b' : T) (sources sources' : List A) (dests dests' : List B) (made : List Exchange) (account : Caller → List Turn) (number : ℕ)
    → Makes step' b made b' → Took source dest step c c' sources sources' dests dests' made account number → Took source dest step' b b' sources sources' dests dests' made account number
took-with source dest step c c' step' b b' sources sources' dests dests' made account number makes h = record {
  makes = makes;
  all_sources = h.all_sources;
  all_dests = h.all_dests;
  sources_took = h.sources_took;
  dests_took = h.dests_took;
  calls = h.calls;
  others = h.others;
  turns = h.turns;
}

pub serves-with : {A B S T : Type 0} (source : A → A → List Turn → Type 0) (dest : B → B → List Turn → Type 0) (step : S → CoreCall → CoreReply → S → Type 0) (c c' : S)
    (step' : T → CoreCall → CoreReply → T → Type 0) (b b' : T) (sources sources' : List A) (dests dests' : List B) (rounds : ℕ) (ended : Ended) (made : List Exchange) (account : Caller → List Turn) (number : ℕ)
    → Makes step' b made b' → ServesWith source dest step c c' sources sources' dests dests' rounds ended made account number
    → ServesWith source dest step' b b' sources sources' dests dests' rounds ended made account number
serves-with source dest step c c' step' b b' sources sources' dests dests' rounds ended made account number makes h = record {
  took = took-with source dest step c c' step' b b' sources sources' dests dests' made account number makes h.took;
  few = h.few;
  lively = h.lively;
  ends = h.ends;
}

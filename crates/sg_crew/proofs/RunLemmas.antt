-- Phases of a run, one behind the other.
use Rattle.std.proofs.Common.{arith, ◌≡◌, ◌≤◌, ◌<◌, ◌+◌, ℕ, zero, suc, Bool, true, false, List, [], ◌∷◌, ◌++◌, length, refl, ap, sym, ◌∙◌, subst, append_assoc, length-append, inl, inr}
use Rattle.std.proofs.lemmas.Bool.{cases_eq}
use Rattle.std.proofs.lemmas.List.{append-nil, map-append}
use Rattle.sg_list.proofs.ListLemmas.{slice_get-some, slice_get-below, some-same}
use Rattle.sg_booth.specs.Lists.{times, joined_up}
use Rattle.sg_booth.specs.Rule.{MakesOfficeCalls as MakesAll}
use Rattle.sg_booth.specs.Desks.{ArePlacesOrdered, places, HasClosed}
use Rattle.sg_booth.proofs.Sums.{times-append}
use Rattle.sg_counter.specs.Exchanges.{Exchange, Caller, OfSource, OfDest, calls_by}
use Rattle.sg_counter.specs.declared.calls.CoreCall.{CoreCall}
use Rattle.sg_counter.specs.declared.calls.CoreReply.{CoreReply}
use Rattle.sg_standing.specs.States.{CoreState, setup_of}
use Rattle.sg_core.specs.Calls.{Serves as CoreServes}
use Rattle.sg_actor.specs.Reading.{one_if}
use Rattle.sg_turns.specs.Turns.{Turn, calls_of, any_step}
use Rattle.sg_turns.specs.Serving.{IsActor, is_busy, busy_of, sum_below, busy_turns, AreFed, IsLast, Took, ServesRounds, ServesWith}
use Rattle.sg_turns.specs.declared.ended.Ended.{Ended}
use Rattle.sg_turns.specs.declared.ended.Ended.TheVariants.{Quiet, RoundsSpent, NoMemory}
use Rattle.sg_turns.proofs.TurnLemmas.{calls-append, any-makes}
use Rattle.sg_turns.proofs.RoundLemmas.{actor-as, nothing-done}
use Rattle.sg_hub.specs.Histories.{ToldCall, exchange_of, exchanges_of}
use Rattle.sg_hub.specs.Seats.{HubState, SeatState}
use Rattle.sg_hub.proofs.Tellings.{made-of, setups-stay}
use Rattle.sg_crew.specs.Crews.{AllSeen, TookEach, TookPhase, HasPhase, IsPhase, HasServed}
use Rattle.sg_crew.proofs.PlaceLemmas.{times-high, all-high}
use Rattle.sg_crew.proofs.TurnLemmas.{calls-join, busy-join, fed-join, ends-fed}
use Rattle.sg_crew.proofs.PhaseLemmas.{serves-with}

-- the turns of a phase behind those of earlier ones
abbrev pub and-turns : (Caller → List Turn) → (Caller → List Turn) → Caller → List Turn
and-turns account turns who = account who ++ turns who

-- So many rounds were run, at least so many turns were busy, and none found no memory. Where no rounds are left a turn of the last one was busy.
pub record RunsFor {A B : Type 0} (source : A → A → List Turn → Type 0) (dest : B → B → List Turn → Type 0) (sources sources' : List A) (dests dests' : List B)
    (made : List Exchange) (account : Caller → List Turn) (number left : ℕ) : Type 0 where
  pub took : Took source dest any_step (tt {0}) (tt {0}) sources sources' dests dests' made account number
  pub fed : (who : Caller) → IsActor (length sources) (length dests) who → AreFed (account who)
  pub busy : number ≤ busy_turns (length sources) (length dests) account
  pub last : left ≡ 0 → 0 < number → (who : Caller) × (IsActor (length sources) (length dests) who
      × ((turn : Turn) × (IsLast (account who) turn × (is_busy turn ≡ true))))

abbrev pub HasRun : {A B : Type 0} → (A → A → List Turn → Type 0) → (B → B → List Turn → Type 0) → SeatState → List A → List A → List B → List B → ℕ → ℕ → Type 0
HasRun source dest first sources sources' dests dests' number left =
    (account : Caller → List Turn) × (AllSeen first → RunsFor source dest sources sources' dests dests' (exchanges_of first.seen) account number left)

-- Sums.

sum-join : (n : ℕ) (f g h : ℕ → ℕ) → ((i : ℕ) → h i ≡ f i + g i) → sum_below n h ≡ sum_below n f + sum_below n g
sum-join zero f g h e = omega arith
sum-join (suc n) f g h e = let rest = sum-join n f g h e in let one = e n in omega (arith, rest, one)

busy-turns-join : (n m : ℕ) (account turns : Caller → List Turn) → busy_turns n m (and-turns account turns) ≡ busy_turns n m account + busy_turns n m turns
busy-turns-join n m account turns =
    let one = sum-join n (λ i. busy_of (account (OfSource i))) (λ i. busy_of (turns (OfSource i))) (λ i. busy_of (and-turns account turns (OfSource i))) (λ i. busy-join (account (OfSource i)) (turns (OfSource i))) in
    let two = sum-join m (λ d. busy_of (account (OfDest d))) (λ d. busy_of (turns (OfDest d))) (λ d. busy_of (and-turns account turns (OfDest d))) (λ d. busy-join (account (OfDest d)) (turns (OfDest d))) in
    omega (arith, one, two)

sum-none : (n : ℕ) (f : ℕ → ℕ) → sum_below n f ≡ 0 → (i : ℕ) → i < n → f i ≡ 0
sum-none zero f e i below = absurd (omega (arith, below))
sum-none (suc n) f e i below = elim (cases_eq i n) [
  | inl is ↦ (let last : f n ≡ 0 = omega (arith, e) in ap f is ∙ last)
  | inr d ↦ sum-none n f (omega (arith, e)) i (omega (arith, below, d))
]

sum-some : (n : ℕ) (f : ℕ → ℕ) → 0 < sum_below n f → (i : ℕ) × ((i < n) × (0 < f i))
sum-some zero f h = absurd (omega (arith, h))
sum-some (suc n) f h = elim (cases_eq (f n) 0) [
  | inl none ↦ (let rest = sum-some n f (omega (arith, h, none)) in (rest.0, (omega (arith, rest.1.0), rest.1.1)))
  | inr some ↦ (n, (omega arith, omega (arith, some)))
]

busy-none : (n m : ℕ) (turns : Caller → List Turn) → busy_turns n m turns ≡ 0 → (who : Caller) → IsActor n m who → busy_of (turns who) ≡ 0
busy-none n m turns e (OfSource i) below = sum-none n (λ j. busy_of (turns (OfSource j))) (omega (arith, e)) i below
busy-none n m turns e (OfDest d) below = sum-none m (λ j. busy_of (turns (OfDest j))) (omega (arith, e)) d below

busy-some : (n m : ℕ) (turns : Caller → List Turn) → 0 < busy_turns n m turns → (who : Caller) × (IsActor n m who × (0 < busy_of (turns who)))
busy-some n m turns h = elim (cases_eq (sum_below n (λ j. busy_of (turns (OfSource j)))) 0) [
  | inl none ↦ (let k = sum-some m (λ j. busy_of (turns (OfDest j))) (omega (arith, h, none)) in (OfDest k.0, (k.1.0, k.1.1)))
  | inr some ↦ (let k = sum-some n (λ j. busy_of (turns (OfSource j))) (omega (arith, some)) in (OfSource k.0, (k.1.0, k.1.1)))
]

-- One turn.

calm-is : (b : Bool) → one_if b ≡ 0 → b ≡ false
calm-is true h = absurd (omega (arith, h))
calm-is false h = refl

busy-is : (b : Bool) → 0 < one_if b → b ≡ true
busy-is true h = refl
busy-is false h = absurd (omega (arith, h))

none-of : (turns : List Turn) → length turns ≡ 0 → turns ≡ []
none-of [] e = refl
none-of (t ∷ turns) e = absurd (omega (arith, e))

alone : (turns earlier : List Turn) (turn : Turn) → turns ≡ earlier ++ turn ∷ [] → length turns ≡ 1 → turns ≡ turn ∷ []
alone turns earlier turn are one =
    let long = ap length are in
    let sum = length-append earlier (turn ∷ []) in
    are ∙ ap (λ l. l ++ turn ∷ []) (none-of earlier (omega (arith, long, sum, one)))

made-is : (old new more : List ToldCall) → new ≡ old ++ more → exchanges_of old ++ exchanges_of more ≡ exchanges_of new
made-is old new more e = sym (ap exchanges_of e ∙ map-append exchange_of old more)

module _ {A B : Type 0} (source : A → A → List Turn → Type 0) (dest : B → B → List Turn → Type 0) (takes : A → A → Turn → Type 0) (sends : B → B → Turn → Type 0)
    (none : (a : A) → source a a []) (rest : (b : B) → dest b b [])
    (join : (x y z : A) (ts : List Turn) (t : Turn) → source x y ts → takes y z t → source x z (ts ++ t ∷ []))
    (meet : (x y z : B) (ts : List Turn) (t : Turn) → dest x y ts → sends y z t → dest x z (ts ++ t ∷ [])) where
  pub run-none : (first : SeatState) (sources : List A) (dests : List B) (left : ℕ) → first.seen ≡ [] → HasRun source dest first sources sources dests dests 0 left
  run-none first sources dests left unseen = (
    (λ who. []),
    (λ all. subst (λ (s : List ToldCall). RunsFor source dest sources sources dests dests (exchanges_of s) (λ who. []) 0 left) (sym unseen) (record {
      took = record {
        makes = refl;
        all_sources = refl;
        all_dests = refl;
        sources_took = λ i a b before after. subst (λ x. source a x []) (some-same a b (sym before ∙ after)) (none a);
        dests_took = λ d a b before after. subst (λ x. dest a x []) (some-same a b (sym before ∙ after)) (rest a);
        calls = λ who actor. refl;
        others = λ who other. refl;
        turns = λ who actor. refl;
      };
      fed = λ who actor. tt;
      busy = omega arith;
      last = λ over above. absurd (omega (arith, above));
    })),
  )

  join-each : (x y z : A) (ts us : List Turn) → source x y ts → TookEach takes y z us → source x z (ts ++ us)
  join-each x y z ts [] h k = subst (λ v. source x v (ts ++ [])) (sym k) (subst (source x y) (sym (append-nil ts)) h)
  join-each x y z ts (u ∷ us) h k = subst (source x z) (append_assoc ts (u ∷ []) us) (join-each x k.0 z (ts ++ u ∷ []) us (join x y k.0 ts u h k.1.0) k.1.1)

  meet-each : (x y z : B) (ts us : List Turn) → dest x y ts → TookEach sends y z us → dest x z (ts ++ us)
  meet-each x y z ts [] h k = subst (λ v. dest x v (ts ++ [])) (sym k) (subst (dest x y) (sym (append-nil ts)) h)
  meet-each x y z ts (u ∷ us) h k = subst (dest x z) (append_assoc ts (u ∷ []) us) (meet-each x k.0 z (ts ++ u ∷ []) us (meet x y k.0 ts u h k.1.0) k.1.1)

  module _ (s0 s s' : List A) (d0 d d' : List B) (n busy : ℕ) (starved : Bool) (xs ys : List Exchange) (account turns : Caller → List Turn) (number left left' rounds most : ℕ)
      (all_sources : length s' ≡ length s) (all_dests : length d' ≡ length d)
      (h : RunsFor source dest s0 s d0 d xs account number left) (k : TookPhase takes sends s s' d d' n busy starved ys turns)
      (phase : IsPhase most n busy starved) where
    actor-then : (who : Caller) → IsActor (length s0) (length d0) who → IsActor (length s) (length d) who
    actor-then who is = actor-as (length s0) (length d0) (length s) (length d) who (sym h.took.all_sources) (sym h.took.all_dests) is

    actor-now : (who : Caller) → IsActor (length s) (length d) who → IsActor (length s0) (length d0) who
    actor-now who is = actor-as (length s) (length d) (length s0) (length d0) who h.took.all_sources h.took.all_dests is

    took-more : Took source dest any_step (tt {0}) (tt {0}) s0 s' d0 d' (xs ++ ys) (and-turns account turns) (number + n)
    took-more = record {
      makes = any-makes (xs ++ ys);
      all_sources = all_sources ∙ h.took.all_sources;
      all_dests = all_dests ∙ h.took.all_dests;
      sources_took = (λ i x z before after.
          let below = slice_get-below s0 i x before in
          let y = slice_get-some s i (omega (arith, below, h.took.all_sources)) in
          join-each x y.0 z (account (OfSource i)) (turns (OfSource i)) (h.took.sources_took i x y.0 before y.1) (k.sources_took i y.0 z y.1 after));
      dests_took = (λ e x z before after.
          let below = slice_get-below d0 e x before in
          let y = slice_get-some d e (omega (arith, below, h.took.all_dests)) in
          meet-each x y.0 z (account (OfDest e)) (turns (OfDest e)) (h.took.dests_took e x y.0 before y.1) (k.dests_took e y.0 z y.1 after));
      calls = (λ who actor.
          calls-append who xs ys ∙ (ap (λ l. l ++ calls_by who ys) (h.took.calls who actor)
          ∙ (ap (λ l. calls_of (account who) ++ l) (k.calls who (actor-then who actor)) ∙ sym (calls-join (account who) (turns who)))));
      others = (λ who other.
          calls-append who xs ys ∙ (ap (λ l. l ++ calls_by who ys) (h.took.others who other) ∙ k.others who (λ actor. other (actor-now who actor))));
      turns = (λ who actor.
          let sum = length-append (account who) (turns who) in
          let one = h.took.turns who actor in
          let two = k.all who (actor-then who actor) in
          omega (arith, sum, one, two));
    }

    busy-more : busy_turns (length s0) (length d0) (and-turns account turns) ≡ busy_turns (length s0) (length d0) account + busy
    busy-more =
        let sum = busy-turns-join (length s0) (length d0) account turns in
        let same : busy ≡ busy_turns (length s0) (length d0) turns =
        k.counted ∙ (ap (λ i. busy_turns i (length d) turns) h.took.all_sources ∙ ap (λ i. busy_turns (length s0) i turns) h.took.all_dests) in
        omega (arith, sum, same)

    one-more : starved ≡ false → (busy ≡ 0 → ⊥) → n ≤ busy
    one-more fed some = elim (cases_eq n 1) [
      | inl is ↦ omega (arith, is, some)
      | inr d ↦ (let least = phase.some in phase.lively fed (omega (arith, least, d)))
    ]

    pub turns-more : starved ≡ false → (busy ≡ 0 → ⊥) → left' + n ≡ left → (1 < most → most < left) → RunsFor source dest s0 s' d0 d' (xs ++ ys) (and-turns account turns) (number + n) left'
    turns-more fed some taken last = record {
      took = took-more;
      fed = (λ who actor. let e = k.tells.fed fed who (actor-then who actor) in fed-join (account who) (turns who) (h.fed who actor) (ends-fed (turns who) e.0 e.1));
      busy = (let one = one-more fed some in let sum = busy-more in let before = h.busy in omega (arith, one, sum, before));
      last = (λ over above.
          let few = phase.few in
          let least = phase.some in
          let one : n ≡ 1 = single over taken last few least in
          let f = busy-some (length s) (length d) turns (let same = k.counted in omega (arith, same, some)) in
          let e = k.tells.fed fed f.0 f.1.0 in
          let is = alone (turns f.0) e.1.earlier e.1.turn e.1.are (k.all f.0 f.1.0 ∙ one) in
          let busy-one : busy_of (turns f.0) ≡ busy_of (e.1.turn ∷ []) = ap busy_of is in
          let more = f.1.1 in
          (f.0, (actor-now f.0 f.1.0, (e.1.turn, ((account f.0, ap (λ l. account f.0 ++ l) is), busy-is (is_busy e.1.turn) (omega (arith, busy-one, more)))))));
    }
      where
        single : left' ≡ 0 → left' + n ≡ left → (1 < most → most < left) → n ≤ most → 0 < n → n ≡ 1
        single over taken last few least = elim (cases_eq n 1) [
          | inl is ↦ is
          | inr d ↦ (let above = last (omega (arith, few, least, d)) in absurd (omega (arith, over, taken, few, above)))
        ]

    pub turns-quiet : starved ≡ false → busy ≡ 0 → number + left ≡ rounds → most ≤ left → ServesWith source dest any_step (tt {0}) (tt {0}) s0 s' d0 d' rounds Quiet (xs ++ ys) (and-turns account turns) (number + n)
    turns-quiet fed calm sum few =
        let one : n ≡ 1 = single fed calm in
        let within = phase.few in
        record {
          took = took-more;
          few = omega (arith, one, within, sum, few);
          lively = (let more = busy-more in let before = h.busy in omega (arith, one, more, before));
          ends = record {
            before = xs;
            last = ys;
            are = refl;
            each = (λ who actor.
                let there = actor-then who actor in
                let e = k.tells.fed fed who there in
                let is = alone (turns who) e.1.earlier e.1.turn e.1.are (k.all who there ∙ one) in
                let none-busy = busy-none (length s) (length d) turns (sym k.counted ∙ calm) who there in
                let busy-one : busy_of (turns who) ≡ busy_of (e.1.turn ∷ []) = ap busy_of is in
                record {
                  earlier = account who;
                  turn = e.1.turn;
                  are = ap (λ l. account who ++ l) is;
                  fed = h.fed who actor;
                  nothing = nothing-done e.1.turn e.0 e.1.answered (calm-is (is_busy e.1.turn) (omega (arith, none-busy, busy-one)));
                  before_are = h.took.calls who actor;
                  last_are = k.calls who there ∙ (ap calls_of is ∙ append-nil e.1.turn.made);
                });
          };
        }
      where
        single : starved ≡ false → busy ≡ 0 → n ≡ 1
        single fed calm = elim (cases_eq n 1) [
          | inl is ↦ is
          | inr d ↦ (let least = phase.some in let more = phase.lively fed (omega (arith, least, d)) in absurd (omega (arith, least, more, calm)))
        ]

    pub turns-out : starved ≡ true → number + left ≡ rounds → most ≤ left → ServesWith source dest any_step (tt {0}) (tt {0}) s0 s' d0 d' rounds NoMemory (xs ++ ys) (and-turns account turns) (number + n)
    turns-out is sum few =
        let found = k.tells.starves is in
        let within = phase.few in
        record {
          took = took-more;
          few = omega (arith, within, sum, few);
          lively = (let more = busy-more in let before = h.busy in let least = phase.ended is in omega (arith, more, before, least));
          ends = record {
            fed = (λ who actor.
                let e = k.tells.ends who (actor-then who actor) in
                (account who ++ e.1.earlier, (e.1.turn, (ap (λ l. account who ++ l) e.1.are ∙ sym (append_assoc (account who) e.1.earlier (e.1.turn ∷ [])), fed-join (account who) e.1.earlier (h.fed who actor) e.1.fed))));
            last = (
              found.0,
              (
                actor-now found.0 found.1.0,
                (
                  found.1.1.turn,
                  ((account found.0 ++ found.1.1.earlier, ap (λ l. account found.0 ++ l) found.1.1.are ∙ sym (append_assoc (account found.0) found.1.1.earlier (found.1.1.turn ∷ []))), found.1.1.answered),
                ),
              ),
            );
          };
        }

  module _ (first first' : SeatState) (s0 s s' : List A) (d0 d d' : List B) (n busy : ℕ) (starved : Bool) (number left left' rounds most : ℕ)
      (h : HasRun source dest first s0 s d0 d number left) (k : HasPhase takes sends first first' s s' d d' n busy starved) (phase : IsPhase most n busy starved) where
    pub run-more : starved ≡ false → (busy ≡ 0 → ⊥) → left' + n ≡ left → (1 < most → most < left) → HasRun source dest first' s0 s' d0 d' (number + n) left'
    run-more fed some taken last = (
      and-turns h.0 k.1.0,
      (λ all. subst (λ made. RunsFor source dest s0 s' d0 d' made (and-turns h.0 k.1.0) (number + n) left') (made-is first.seen first'.seen k.0 k.1.1.seen)
          (turns-more s0 s s' d0 d d' n busy starved (exchanges_of first.seen) (exchanges_of k.0) h.0 k.1.0 number left left' rounds most k.1.1.all_sources k.1.1.all_dests
          (h.1 (k.1.1.before all)) (k.1.1.took all) phase fed some taken last)),
    )

    pub run-quiet : starved ≡ false → busy ≡ 0 → number + left ≡ rounds → most ≤ left → HasServed source dest first' s0 s' d0 d' rounds Quiet
    run-quiet fed calm sum few = (
      and-turns h.0 k.1.0,
      (
        number + n,
        (λ all. subst (λ made. ServesWith source dest any_step (tt {0}) (tt {0}) s0 s' d0 d' rounds Quiet made (and-turns h.0 k.1.0) (number + n)) (made-is first.seen first'.seen k.0 k.1.1.seen)
            (turns-quiet s0 s s' d0 d d' n busy starved (exchanges_of first.seen) (exchanges_of k.0) h.0 k.1.0 number left left' rounds most k.1.1.all_sources k.1.1.all_dests
            (h.1 (k.1.1.before all)) (k.1.1.took all) phase fed calm sum few)),
      ),
    )

    pub run-out : starved ≡ true → number + left ≡ rounds → most ≤ left → HasServed source dest first' s0 s' d0 d' rounds NoMemory
    run-out is sum few = (
      and-turns h.0 k.1.0,
      (
        number + n,
        (λ all. subst (λ made. ServesWith source dest any_step (tt {0}) (tt {0}) s0 s' d0 d' rounds NoMemory made (and-turns h.0 k.1.0) (number + n)) (made-is first.seen first'.seen k.0 k.1.1.seen)
            (turns-out s0 s s' d0 d d' n busy starved (exchanges_of first.seen) (exchanges_of k.0) h.0 k.1.0 number left left' rounds most k.1.1.all_sources k.1.1.all_dests
            (h.1 (k.1.1.before all)) (k.1.1.took all) phase is sum few)),
      ),
    )

pub run-spent : {A B : Type 0} (source : A → A → List Turn → Type 0) (dest : B → B → List Turn → Type 0) (first : SeatState) (s0 s : List A) (d0 d : List B) (number left rounds : ℕ)
    → HasRun source dest first s0 s d0 d number left → number ≡ rounds → left ≡ 0 → 0 < rounds → HasServed source dest first s0 s d0 d rounds RoundsSpent
run-spent source dest first s0 s d0 d number left rounds h is over some = (
  h.0,
  (
    number,
    (λ all.
        let k = h.1 all in
        let busy = k.busy in
        record { took = k.took; few = omega (arith, is); lively = omega (arith, busy); ends = record { all = is; fed = k.fed; busy = omega (arith, is, busy); last = k.last over (omega (arith, is, some)) } }),
  ),
)

-- The close: the history is what the first seat has seen, and has the calls of its places and no others.

module _ (hub : HubState) (first : SeatState) (core : CoreState) (ordered : ArePlacesOrdered first) (sum : length (places first) + first.left ≡ hub.turns) (closed : HasClosed CoreServes hub first core) where
  -- no place of the first seat lies behind what it has seen
  unplaced : (x : ℕ) → length first.seen ≤ x → times x (places first) ≡ 0
  unplaced x above =
      let a = times-append x first.own (joined_up first.joined) in
      let b = times-high 0 first.own (length first.seen) x ordered.0 above in
      let c = all-high first.joined (length first.seen) x ordered.1 above in
      omega (arith, a, b, c)

  ends : (rest : List ToldCall) → closed.history ≡ first.seen ++ rest → closed.history ≡ first.seen
  ends [] e = e ∙ append-nil first.seen
  ends (x ∷ rest) e =
      let long : length closed.history ≡ length first.seen + length (x ∷ rest) = ap length e ∙ length-append first.seen (x ∷ rest) in
      let one = (closed.all sum (length first.seen)).1 (omega arith) (omega (arith, long)) in
      let none = unplaced (length first.seen) (omega arith) in
      absurd (omega (arith, one, none))

  pub history-is : closed.history ≡ first.seen
  history-is = ends closed.seen.0 closed.seen.1

  pub all-seen : AllSeen first
  all-seen x below =
      let long : length closed.history ≡ length first.seen = ap length history-is in
      let one = (closed.all sum x).1 (omega arith) (omega (arith, below, long)) in
      omega (arith, one)

  pub gives-seen : MakesAll CoreServes hub.made first.seen core
  gives-seen = subst (λ (s : List ToldCall). MakesAll CoreServes hub.made s core) history-is closed.gives

  pub setup-stays : setup_of core ≡ setup_of hub.made
  setup-stays = setups-stay hub.made core first.seen gives-seen

  pub served-is : {A B : Type 0} (source : A → A → List Turn → Type 0) (dest : B → B → List Turn → Type 0) (s0 s : List A) (d0 d : List B) (rounds : ℕ) (ended : Ended)
      → HasServed source dest first s0 s d0 d rounds ended → ServesRounds source dest CoreServes hub.made core s0 s d0 d rounds ended
  served-is source dest s0 s d0 d rounds ended h = (
    exchanges_of first.seen,
    (
      h.0,
      (
        h.1.0,
        serves-with source dest any_step (tt {0}) (tt {0}) CoreServes hub.made core s0 s d0 d rounds ended (exchanges_of first.seen) h.0 h.1.0
            (made-of hub.made core first.seen gives-seen) (h.1.1 all-seen),
      ),
    ),
  )

-- the same actors in other lists
pub serves-as : {A B S : Type 0} (source : A → A → List Turn → Type 0) (dest : B → B → List Turn → Type 0) (step : S → CoreCall → CoreReply → S → Type 0) (c c' : S)
    (s0 s0' s s' : List A) (d0 d0' d d' : List B) (rounds : ℕ) (ended : Ended) → s0 ≡ s0' → s' ≡ s → d0 ≡ d0' → d' ≡ d
    → ServesRounds source dest step c c' s0 s d0 d rounds ended → ServesRounds source dest step c c' s0' s' d0' d' rounds ended
serves-as source dest step c c' s0 s0' s s' d0 d0' d d' rounds ended a b e f h =
    subst (λ x. ServesRounds source dest step c c' s0' s' d0' x rounds ended) (sym f)
    (subst (λ x. ServesRounds source dest step c c' s0' s' x d rounds ended) e
    (subst (λ x. ServesRounds source dest step c c' s0' x d0 d rounds ended) (sym b)
    (subst (λ x. ServesRounds source dest step c c' x s d0 d rounds ended) a h)))

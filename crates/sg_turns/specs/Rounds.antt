-- The turns of one round.
use Rattle.std.specs.Prelude.{◌≡◌, ◌≤◌, ◌<◌, ◌||◌, ℕ, true, false, Option, Some, None, List, [], length, slice_get}
use Rattle.sg_counter.specs.Exchanges.{Exchange, Makes, Caller, OfSource, OfDest, calls_by}
use Rattle.sg_counter.specs.declared.calls.CoreCall.{CoreCall}
use Rattle.sg_counter.specs.declared.calls.CoreReply.{CoreReply}
use Rattle.sg_actor.specs.declared.turned.Turned.{Turned}
use Rattle.sg_turns.specs.Turns.{Turn}
use Rattle.sg_turns.specs.Serving.{IsActor, is_busy, busy_turns, AreFed, IsLast, Took}
use Rattle.sg_turns.specs.declared.round.Round.{Round}

-- what is known with one turn more
abbrev pub noted : Round → Option Turned → Round
noted round (Some turned) = record {
  busy = round.busy || (turned.did || turned.idle);
  starved = round.starved;
}
noted round None = record { busy = round.busy; starved = true }

-- two parts of a round
abbrev pub both : Round → Round → Round
both one other = record { busy = one.busy || other.busy; starved = one.starved || other.starved }

-- of these turns one did something or was idle, or none; one found no memory, or none
pub record TellsRound {K : Type 0} (within : K → Type 0) (turn : K → Turn)
    (round : Round) : Type 0 where
  pub busy : round.busy ≡ true → (k : K) × (within k × (is_busy (turn k) ≡ true))
  pub calm : round.busy ≡ false → (k : K) → within k → is_busy (turn k) ≡ false
  pub starved : round.starved ≡ true → (k : K) × (within k × ((turn k).answer ≡ None))
  pub fed : round.starved ≡ false → (k : K) → within k
      → (turned : Turned) × ((turn k).answer ≡ Some turned)

-- the first n of these actors took a turn each, and made these calls
pub record TookFirst {A S : Type 0} (takes : A → A → Turn → Type 0) (who : ℕ → Caller)
    (step : S → CoreCall → CoreReply → S → Type 0) (counter counter' : S)
    (old new : List A) (n : ℕ) (round : Round) (made : List Exchange)
    (turn : ℕ → Turn) : Type 0 where
  pub makes : Makes step counter made counter'
  pub all : length new ≡ length old
  pub each : (j : ℕ) (a b : A) → j < n → slice_get old j ≡ Some a → slice_get new j ≡ Some b
      → takes a b (turn j)
  pub rest : (j : ℕ) → n ≤ j → slice_get new j ≡ slice_get old j
  pub calls : (j : ℕ) → j < n → calls_by (who j) made ≡ (turn j).made
  pub others : (c : Caller) → ((j : ℕ) → j < n → c ≡ who j → ⊥) → calls_by c made ≡ []
  pub tells : TellsRound (λ j. j < n) turn round

abbrev pub TookSome : {A S : Type 0} → (A → A → Turn → Type 0) → (ℕ → Caller)
    → (S → CoreCall → CoreReply → S → Type 0) → S → S → List A → List A → ℕ → Round → Type 0
TookSome takes who step counter counter' old new n round =
    (made : List Exchange)
    × ((turn : ℕ → Turn) × TookFirst takes who step counter counter' old new n round made turn)

abbrev pub TookAll : {A S : Type 0} → (A → A → Turn → Type 0) → (ℕ → Caller)
    → (S → CoreCall → CoreReply → S → Type 0) → S → S → List A → List A → Round → Type 0
TookAll takes who step counter counter' old new round = TookSome takes who step counter counter' old
    new (length old) round

-- each actor took a turn
pub record TookRoundWith {A B S : Type 0} (source : A → A → Turn → Type 0)
    (dest : B → B → Turn → Type 0) (step : S → CoreCall → CoreReply → S → Type 0)
    (counter counter' : S)
    (sources sources' : List A) (dests dests' : List B) (round : Round) (made : List Exchange)
    (turn : Caller → Turn) : Type 0 where
  pub makes : Makes step counter made counter'
  pub all_sources : length sources' ≡ length sources
  pub all_dests : length dests' ≡ length dests
  pub sources_took : (i : ℕ) (a b : A) → slice_get sources i ≡ Some a
      → slice_get sources' i ≡ Some b → source a b (turn (OfSource i))
  pub dests_took : (d : ℕ) (a b : B) → slice_get dests d ≡ Some a → slice_get dests' d ≡ Some b
      → dest a b (turn (OfDest d))
  pub calls : (who : Caller) → IsActor (length sources) (length dests) who
      → calls_by who made ≡ (turn who).made
  pub others : (who : Caller) → (IsActor (length sources) (length dests) who → ⊥)
      → calls_by who made ≡ []
  pub tells : TellsRound (IsActor (length sources) (length dests)) turn round

abbrev pub TookRound : {A B S : Type 0} → (A → A → Turn → Type 0) → (B → B → Turn → Type 0)
    → (S → CoreCall → CoreReply → S → Type 0) → S → S → List A → List A → List B → List B → Round
    → Type 0
TookRound source dest step counter counter' sources sources' dests dests' round =
    (made : List Exchange) × ((turn : Caller → Turn)
    × TookRoundWith source dest step counter counter' sources sources' dests dests' round made turn)

-- So many rounds were run, none of them was quiet, and in none of them a turn found no memory.
pub record RunsOn {A B S : Type 0} (source : A → A → List Turn → Type 0)
    (dest : B → B → List Turn → Type 0) (step : S → CoreCall → CoreReply → S → Type 0)
    (counter counter' : S)
    (sources sources' : List A) (dests dests' : List B) (made : List Exchange)
    (account : Caller → List Turn) (number : ℕ) : Type 0 where
  pub took : Took source dest step counter counter' sources sources' dests dests' made account
      number
  pub fed : (who : Caller) → IsActor (length sources) (length dests) who → AreFed (account who)
  pub busy : number ≤ busy_turns (length sources) (length dests) account
  pub last : 0 < number → (who : Caller) × (IsActor (length sources) (length dests) who
      × ((turn : Turn) × (IsLast (account who) turn × (is_busy turn ≡ true))))

abbrev pub TakesRounds : {A B S : Type 0} → (A → A → List Turn → Type 0)
    → (B → B → List Turn → Type 0)
    → (S → CoreCall → CoreReply → S → Type 0) → S → S → List A → List A → List B → List B → ℕ
    → Type 0
TakesRounds source dest step counter counter' sources sources' dests dests' number =
    (made : List Exchange) × ((account : Caller → List Turn)
    × RunsOn source dest step counter counter' sources sources' dests dests' made account number)

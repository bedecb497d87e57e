-- What a run does.
use Rattle.std.specs.Prelude.{◌≡◌, ◌≤◌, ◌<◌, ◌+◌, ◌||◌, is_some, ℕ, zero, suc, Bool, true, false, Option, Some, None, List, [], ◌∷◌, ◌++◌, length, slice_get}
use Rattle.sg_counter.specs.Exchanges.{Exchange, Makes, Caller, OfSource, OfDest, calls_by}
use Rattle.sg_counter.specs.declared.calls.CoreCall.{CoreCall}
use Rattle.sg_counter.specs.declared.calls.CoreReply.{CoreReply}
use Rattle.sg_actor.specs.Reading.{one_if}
use Rattle.sg_actor.specs.declared.turned.Turned.{Turned}
use Rattle.sg_turns.specs.Turns.{Turn, calls_of}
use Rattle.sg_turns.specs.declared.ended.Ended.{Ended}
use Rattle.sg_turns.specs.declared.ended.Ended.TheVariants.{Quiet, RoundsSpent, NoMemory}

-- the actors of so many sources and destinations
abbrev pub IsActor : ℕ → ℕ → Caller → Type 0
IsActor sources dests (OfSource i) = i < sources
IsActor sources dests (OfDest d) = d < dests

-- a turn did something, or was idle
abbrev pub is_busy_answer : Option Turned → Bool
is_busy_answer (Some turned) = turned.did || turned.idle
is_busy_answer None = false

abbrev pub is_busy : Turn → Bool
is_busy turn = is_busy_answer turn.answer

-- how many of these turns did something or were idle
abbrev pub busy_of : List Turn → ℕ
busy_of [] = 0
busy_of (turn ∷ turns) = one_if (is_busy turn) + busy_of turns

abbrev pub sum_below : ℕ → (ℕ → ℕ) → ℕ
sum_below zero f = 0
sum_below (suc n) f = sum_below n f + f n

-- of all actors' turns
abbrev pub busy_turns : ℕ → ℕ → (Caller → List Turn) → ℕ
busy_turns sources dests account = sum_below sources (λ i. busy_of (account (OfSource i)))
    + sum_below dests (λ d. busy_of (account (OfDest d)))

-- none of these turns found no memory
abbrev pub AreFed : List Turn → Type 0
AreFed [] = Unit {0}
AreFed (turn ∷ turns) = (is_some turn.answer ≡ true) × AreFed turns

-- the last of these turns
abbrev pub IsLast : List Turn → Turn → Type 0
IsLast turns turn = (earlier : List Turn) × (turns ≡ earlier ++ turn ∷ [])

-- the last turn of an actor did nothing and wasn't idle; these are the calls before it, and in it
pub record RestsLast (turns : List Turn) (before last : List Exchange) : Type 0 where
  pub earlier : List Turn
  pub turn : Turn
  pub are : turns ≡ earlier ++ turn ∷ []
  pub fed : AreFed earlier
  pub nothing : turn.answer ≡ Some (record { did = false; idle = false })
  pub before_are : before ≡ calls_of earlier
  pub last_are : last ≡ turn.made

-- behind some call each actor took one turn more, in which it did nothing
pub record EndsQuietly (sources dests : ℕ) (made : List Exchange)
    (account : Caller → List Turn) : Type 0 where
  pub before : List Exchange
  pub last : List Exchange
  pub are : made ≡ before ++ last
  pub each : (who : Caller) → IsActor sources dests who
      → RestsLast (account who) (calls_by who before) (calls_by who last)

-- All rounds were run, and an actor did something in the last one, or was idle, as one was in each round.
pub record SpendsRounds (sources dests : ℕ) (account : Caller → List Turn)
    (rounds number : ℕ) : Type 0 where
  pub all : number ≡ rounds
  pub fed : (who : Caller) → IsActor sources dests who → AreFed (account who)
  pub busy : rounds ≤ busy_turns sources dests account
  pub last : (who : Caller) × (IsActor sources dests who
      × ((turn : Turn) × (IsLast (account who) turn × (is_busy turn ≡ true))))

-- An actor found no memory in its last turn, and none did before.
pub record RunsOut (sources dests : ℕ) (account : Caller → List Turn) : Type 0 where
  pub fed : (who : Caller) → IsActor sources dests who → (earlier : List Turn)
      × ((turn : Turn) × ((account who ≡ earlier ++ turn ∷ []) × AreFed earlier))
  pub last : (who : Caller) × (IsActor sources dests who
      × ((turn : Turn) × (IsLast (account who) turn × (turn.answer ≡ None))))

abbrev pub ConcludesRounds : ℕ → ℕ → List Exchange → (Caller → List Turn) → (rounds number : ℕ)
    → Ended
    → Type 0
ConcludesRounds sources dests made account rounds number Quiet =
    EndsQuietly sources dests made account
ConcludesRounds sources dests made account rounds number RoundsSpent =
    SpendsRounds sources dests account
    rounds number
ConcludesRounds sources dests made account rounds number NoMemory = RunsOut sources dests account

-- These calls were made, in this order. Each actor took so many turns, and of the calls it made those of its turns, in their order.
pub record Took {A B S : Type 0} (source : A → A → List Turn → Type 0)
    (dest : B → B → List Turn → Type 0) (step : S → CoreCall → CoreReply → S → Type 0)
    (counter counter' : S)
    (sources sources' : List A) (dests dests' : List B) (made : List Exchange)
    (account : Caller → List Turn) (number : ℕ) : Type 0 where
  pub makes : Makes step counter made counter'
  pub all_sources : length sources' ≡ length sources
  pub all_dests : length dests' ≡ length dests
  pub sources_took : (i : ℕ) (a b : A) → slice_get sources i ≡ Some a
      → slice_get sources' i ≡ Some b → source a b (account (OfSource i))
  pub dests_took : (d : ℕ) (a b : B) → slice_get dests d ≡ Some a → slice_get dests' d ≡ Some b
      → dest a b (account (OfDest d))
  pub calls : (who : Caller) → IsActor (length sources) (length dests) who
      → calls_by who made ≡ calls_of (account who)
  pub others : (who : Caller) → (IsActor (length sources) (length dests) who → ⊥)
      → calls_by who made ≡ []
  pub turns : (who : Caller) → IsActor (length sources) (length dests) who
      → length (account who) ≡ number

-- A run of so many rounds at most. Nothing is said of the order of turns but that the calls of a quiet round come last.
pub record ServesWith {A B S : Type 0} (source : A → A → List Turn → Type 0)
    (dest : B → B → List Turn → Type 0) (step : S → CoreCall → CoreReply → S → Type 0)
    (counter counter' : S)
    (sources sources' : List A) (dests dests' : List B) (rounds : ℕ) (ended : Ended)
    (made : List Exchange) (account : Caller → List Turn) (number : ℕ) : Type 0 where
  pub took : Took source dest step counter counter' sources sources' dests dests' made account
      number
  pub few : number ≤ rounds
  -- in each round but the last an actor did something, or was idle
  pub lively : number ≤ busy_turns (length sources) (length dests) account + 1
  pub ends : ConcludesRounds (length sources) (length dests) made account rounds number ended

abbrev pub ServesRounds : {A B S : Type 0} → (A → A → List Turn → Type 0)
    → (B → B → List Turn → Type 0)
    → (S → CoreCall → CoreReply → S → Type 0) → S → S → List A → List A → List B → List B → ℕ
    → Ended → Type 0
ServesRounds source dest step counter counter' sources sources' dests dests' rounds ended =
    (made : List Exchange) × ((account : Caller → List Turn) × ((number : ℕ)
    × ServesWith source dest step counter counter' sources sources' dests dests' rounds ended made
    account number))

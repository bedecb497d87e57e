-- Actors at seats of a hub, all of which are split off the first seat for a phase and joined into it behind it.
use Rattle.std.specs.Prelude.{◌≡◌, ◌≤◌, ◌<◌, ◌+◌, ◌*◌, ◌||◌, ℕ, Bool, true, false, Option, Some, None, List, [], ◌∷◌, ◌++◌, map, length, slice_get}
use Rattle.sg_booth.specs.Lists.{total, times, StartsWith}
use Rattle.sg_booth.specs.Desks.{IsDeskOf, ArePlacesOrdered, places}
use Rattle.sg_counter.specs.Exchanges.{Exchange, Makes, Caller, OfSource, OfDest, calls_by}
use Rattle.sg_actor.specs.Bringing.{AllBy}
use Rattle.sg_actor.specs.declared.turned.Turned.{Turned}
use Rattle.sg_turns.specs.Turns.{Turn, calls_of, any_step}
use Rattle.sg_turns.specs.Serving.{IsActor, busy_turns, AreFed, ServesWith}
use Rattle.sg_turns.specs.declared.ended.Ended.{Ended}
use Rattle.sg_hub.specs.Histories.{ToldCall, exchanges_of}
use Rattle.sg_hub.specs.Seats.{HubState, SeatState, SeatStep}

-- Lists.

-- one of these items passes
abbrev pub any : {X : Type 0} → (X → Bool) → List X → Bool
any passes [] = false
any passes (x ∷ xs) = passes x || any passes xs

-- this holds of each item
abbrev pub Every : {X : Type 0} → (X → Type 0) → List X → Type 0
Every {X} P xs = (j : ℕ) (x : X) → slice_get xs j ≡ Some x → P x

-- each item changed so, in its place
pub record AllChanged {X : Type 0} (changed : X → X → Type 0) (old new : List X) : Type 0 where
  pub all : length new ≡ length old
  pub each : (j : ℕ) (x y : X) → slice_get old j ≡ Some x → slice_get new j ≡ Some y → changed x y

-- Seats.

-- each call that the seat has seen is its own, or that of a seat that was joined into it
abbrev pub AllSeen : SeatState → Type 0
AllSeen seat = (place : ℕ) → place < length seat.seen → 0 < times place (places seat)

-- these seats were joined into the first one, in order
pub record HasGathered (old : SeatState) (seats : List SeatState) (new : SeatState) : Type 0 where
  pub booth : new.booth ≡ old.booth
  pub made : new.made ≡ old.made
  pub own : new.own ≡ old.own
  pub left : new.left ≡ old.left + total (λ (seat : SeatState). seat.left) seats
  pub seen : StartsWith new.seen old.seen
  pub told : (j : ℕ) (seat : SeatState) → slice_get seats j ≡ Some seat
      → StartsWith new.seen seat.seen
  pub joined : new.joined ≡ old.joined ++ map (λ (seat : SeatState). seat.own) seats

-- Turns.

-- A turn at a seat. Its calls are all this caller's.
pub record WorkedOnce (takes : Turn → Type 0) (who : Caller) (hub : HubState) (old new : SeatState)
    (answer : Option Turned) (turn : Turn) : Type 0 where
  pub took : takes turn
  pub makes : Makes (SeatStep hub) old turn.made new
  pub own : AllBy who turn.made
  pub few : length turn.made ≤ 4
  pub answered : turn.answer ≡ answer

-- turns, one after the other
abbrev pub TookEach : {A : Type 0} → (A → A → Turn → Type 0) → A → A → List Turn → Type 0
TookEach takes old new [] = new ≡ old
TookEach {A} takes old new (turn ∷ turns) =
    (between : A) × (takes old between turn × TookEach takes between new turns)

-- the last of these turns came to this, and none before it found no memory
pub record EndsWith (turns : List Turn) (answer : Option Turned) : Type 0 where
  pub earlier : List Turn
  pub turn : Turn
  pub are : turns ≡ earlier ++ turn ∷ []
  pub fed : AreFed earlier
  pub answered : turn.answer ≡ answer

-- Turns at a seat, one after the other. Their calls are all this caller's.
pub record WorkedWith (takes : List Turn → Type 0) (who : Caller) (hub : HubState)
    (old new : SeatState) (answer : Option Turned) (turns : List Turn) : Type 0 where
  pub took : takes turns
  pub makes : Makes (SeatStep hub) old (calls_of turns) new
  pub own : AllBy who (calls_of turns)
  pub few : length (calls_of turns) ≤ 4 * length turns
  pub ends : EndsWith turns answer

-- Phases: rounds in a row, with no step of the first seat between them.

-- Of all turns but the last one each found memory, and of the last ones each did, or one didn't.
pub record TellsPhase {K : Type 0} (within : K → Type 0) (turns : K → List Turn)
    (starved : Bool) : Type 0 where
  pub ends : (k : K) → within k → (answer : Option Turned) × EndsWith (turns k) answer
  pub starves : starved ≡ true → (k : K) × (within k × EndsWith (turns k) None)
  pub fed : starved ≡ false → (k : K) → within k
      → (turned : Turned) × EndsWith (turns k) (Some turned)

-- Each actor took so many turns, and made these calls.
pub record TookPhase {A B : Type 0} (source : A → A → Turn → Type 0) (dest : B → B → Turn → Type 0)
    (sources sources' : List A) (dests dests' : List B)
    (number busy : ℕ) (starved : Bool) (made : List Exchange)
    (turns : Caller → List Turn) : Type 0 where
  pub sources_took : (i : ℕ) (a b : A) → slice_get sources i ≡ Some a
      → slice_get sources' i ≡ Some b → TookEach source a b (turns (OfSource i))
  pub dests_took : (d : ℕ) (a b : B) → slice_get dests d ≡ Some a → slice_get dests' d ≡ Some b
      → TookEach dest a b (turns (OfDest d))
  pub calls : (who : Caller) → IsActor (length sources) (length dests) who
      → calls_by who made ≡ calls_of (turns who)
  pub others : (who : Caller) → (IsActor (length sources) (length dests) who → ⊥)
      → calls_by who made ≡ []
  pub all : (who : Caller) → IsActor (length sources) (length dests) who
      → length (turns who) ≡ number
  pub tells : TellsPhase (IsActor (length sources) (length dests)) turns starved
  pub counted : busy ≡ busy_turns (length sources) (length dests) turns

-- Of the history that the first seat has seen all is known where it has all calls of it, as the hub's close tells: then the calls of a phase
-- stand behind those of the earlier ones.
pub record HasPhaseWith {A B : Type 0} (source : A → A → Turn → Type 0)
    (dest : B → B → Turn → Type 0) (first first' : SeatState) (sources sources' : List A)
    (dests dests' : List B)
    (number busy : ℕ) (starved : Bool) (more : List ToldCall)
    (turns : Caller → List Turn) : Type 0 where
  pub seen : first'.seen ≡ first.seen ++ more
  pub before : AllSeen first' → AllSeen first
  pub took : AllSeen first' → TookPhase source dest sources sources' dests dests' number busy
      starved (exchanges_of more) turns
  pub all_sources : length sources' ≡ length sources
  pub all_dests : length dests' ≡ length dests

abbrev pub HasPhase : {A B : Type 0} → (A → A → Turn → Type 0) → (B → B → Turn → Type 0) → SeatState
    → SeatState → List A → List A → List B → List B → ℕ → ℕ → Bool → Type 0
HasPhase source dest first first' sources sources' dests dests' number busy starved =
    (more : List ToldCall) × ((turns : Caller → List Turn)
    × HasPhaseWith source dest first first' sources sources' dests dests' number busy starved more
    turns)

-- A phase of so many rounds at most: one round, or as many busy turns as rounds; where a turn found no memory, one fewer.
pub record IsPhase (most rounds busy : ℕ) (starved : Bool) : Type 0 where
  pub some : 0 < rounds
  pub few : rounds ≤ most
  pub lively : starved ≡ false → 1 < rounds → rounds ≤ busy
  pub ended : starved ≡ true → rounds ≤ busy + 1

abbrev pub HasServed : {A B : Type 0} → (A → A → List Turn → Type 0) → (B → B → List Turn → Type 0)
    → SeatState → List A → List A → List B → List B → ℕ → Ended → Type 0
HasServed source dest first sources sources' dests dests' rounds ended =
    (account : Caller → List Turn) × ((number : ℕ)
    × (AllSeen first → ServesWith source dest any_step (tt {0}) (tt {0}) sources sources' dests
    dests' rounds ended (exchanges_of first.seen) account number))

-- Behind phases.

-- The first seat is the hub's, and its places are in order. All turns are those that it has left, as many as this at least, and those of its
-- calls.
pub record IsFirstSeat (hub : HubState) (turns least : ℕ) (seat : SeatState) : Type 0 where
  pub of_hub : IsDeskOf hub seat
  pub ordered : ArePlacesOrdered seat
  pub sum : length (places seat) + seat.left ≡ turns
  pub left : least ≤ seat.left

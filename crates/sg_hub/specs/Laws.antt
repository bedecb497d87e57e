-- What holds of the history of a hub.
use Rattle.std.specs.Prelude.{◌≡◌, ℕ, ◌-◌, List, [], ◌∷◌, ◌++◌, length, map, slice_index, Option, Some}
use mathlib.Core.Option.{some}
use Rattle.atomic_table.specs.Table.{State as TableState}
use Rattle.sg_booth.specs.Lists.{StartsWith, entries_at}
use Rattle.sg_booth.specs.Rule.{IsTableKept, MakesOfficeCalls as MakesAll}
use Rattle.sg_booth.specs.Desks.{IsDeskOf}
use Rattle.sg_booth.specs.declared.table.ServedOffice.{ServedOffice}
use Rattle.sg_booth.specs.declared.table.Notes.{Notes}
use Rattle.sg_machine.specs.declared.event.Event.{Event}
use Rattle.sg_machine.specs.declared.state.State.{State}
use Rattle.sg_counter.specs.Exchanges.{Exchange, Makes}
use Rattle.sg_counter.specs.declared.calls.CoreCall.{CoreCall}
use Rattle.sg_counter.specs.declared.calls.CoreReply.{CoreReply}
use Rattle.sg_standing.specs.States.{CoreState, setup_of}
use Rattle.sg_standing.specs.Standing.{StandsFor, StandsOn}
use Rattle.sg_core.specs.Calls.{Serves, acts_of}
use Rattle.sg_hub.specs.Histories.{ToldCall, exchanges_of}
use Rattle.sg_hub.specs.Offices.{MayServe, room_of}
use Rattle.sg_hub.specs.Seats.{HubState, SeatState, SeatStep}

-- the core stands for more events, which are those of this history, and the rows so far stay
abbrev pub StandsThen : List ToldCall → CoreState → State → List Event → (ℕ → ℕ → ℕ) → Type 0
StandsThen history core start events rows = (more : List Event)
    × (map (λ (event : Event). event.act) more ≡ acts_of (exchanges_of history))
    × StandsOn core start events more rows

-- a history is legal: a core that it gives stands for its events
abbrev pub HistoriesStand : Type 0
HistoriesStand = (old new : CoreState) (history : List ToldCall) (start : State)
    (events : List Event)
    → MakesAll Serves old history new → (stood : StandsFor old start events)
    → StandsThen history new start events stood.moments.rows

-- no call changes the setup
abbrev pub HistoriesKeepSetup : Type 0
HistoriesKeepSetup = (old new : CoreState) (history : List ToldCall)
    → MakesAll Serves old history new
    → setup_of new ≡ setup_of old

-- at each moment at which a core lies in the slot of its hub it stands for the events of the history, whose length is the second word
abbrev pub LiesStanding : Type 0
LiesStanding = (made : CoreState) (turns : ℕ) (s : TableState
    (Option (ServedOffice CoreState CoreCall CoreReply)) (Notes CoreState CoreCall CoreReply))
    (held : ServedOffice CoreState CoreCall CoreReply)
    (start : State) (events : List Event) → IsTableKept Serves MayServe room_of made turns s
    → s.homes ≡ some (Some held) ∷ [] → (stood : StandsFor made start events)
    → (history : List ToldCall) × (slice_index s.words 1 ≡ length history)
    × StandsThen history held.office start events stood.moments.rows

-- Calls at a seat, one after another: it stays a seat of its hub, has seen more, and these calls, in order, stand in the history behind
-- its own calls before.
pub record SeatGoesOn (hub : HubState) (old : SeatState) (made : List Exchange)
    (new : SeatState) : Type 0 where
  pub of_hub : IsDeskOf hub old → IsDeskOf hub new
  pub left : new.left ≡ old.left - length made
  pub seen : StartsWith new.seen old.seen
  pub calls : exchanges_of (entries_at new.seen new.own)
      ≡ exchanges_of (entries_at old.seen old.own) ++ made
  pub joined : new.joined ≡ old.joined

abbrev pub SeatsGoOn : Type 0
SeatsGoOn = (hub : HubState) (old new : SeatState) (made : List Exchange)
    → Makes (SeatStep hub) old made new → SeatGoesOn hub old made new

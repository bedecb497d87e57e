-- What holds of the turns of one actor, one after the other.
use Rattle.std.specs.Prelude.{◌≡◌, ◌≤◌, ◌⊎◌, ℕ, ◌+◌, is_some, true, List, [], ◌∷◌, ◌++◌, length, take}
use Rattle.std.specs.Option.{option_map}
use Rattle.sg_device.specs.Inlet.{Advances}
use Rattle.sg_msg.specs.declared.offer.Offer.{Offer}
use Rattle.sg_frame.specs.Records.{Record}
use Rattle.sg_counter.specs.Exchanges.{Exchange}
use Rattle.sg_counter.specs.declared.calls.CoreCall.{CoreCall}
use Rattle.sg_counter.specs.declared.calls.CoreCall.TheVariants.{Settle}
use Rattle.sg_counter.specs.declared.calls.CoreReply.{CoreReply}
use Rattle.sg_counter.specs.declared.calls.CoreReply.TheVariants.{Credit as CreditReply}
use Rattle.sg_actor.specs.Bringing.{admitted_in, carried_by, IsSentBack}
use Rattle.sg_actor.specs.Rendering.{frames_by}
use Rattle.sg_actor.specs.Sources.{AreOf, HasRead, IsReady}
use Rattle.sg_actor.specs.Outages.{HasFailures}
use Rattle.sg_actor.specs.SourceTurns.{ActorState, bad_after, IsEmptyTurn}
use Rattle.sg_actor.specs.DestTurns.{shown_in, IsShownEmpty}
use Rattle.sg_actor.specs.declared.rendering.DestSpec.{DestSpec}
use Rattle.sg_actor.specs.declared.settings.SourceSpec.{SourceSpec}
use Rattle.sg_turns.specs.Turns.{Turn, calls_of, TookTurns, DestState, SentTurns}
use Rattle.sg_turns.specs.Serving.{AreFed, RestsLast}

-- The records that were admitted are the next ones that the inlet gave, in order, each with its offers; those behind them are still to
-- come. So many parts were given up.
pub record ReadsOn (offers : ℕ → Record → List Offer → Type 0) (dests : ℕ) (spec : SourceSpec)
    (old new : ActorState) (turns : List Turn) (done : List Record) (before : ℕ) : Type 0 where
  pub taken : List Record
  pub ups : ℕ
  pub offered : AreOf offers spec taken (admitted_in (calls_of turns))
  pub reads : HasRead offers spec new.source (done ++ taken) (before + ups)
  pub bad : new.bad_frames ≡ bad_after old.bad_frames ups
  pub ready : IsReady dests spec new.source
  pub advances : Advances old.source.feed new.source.feed
  pub pulls : new.source.feed.pulls ≤ old.source.feed.pulls + length turns

abbrev pub TurnsReadOn : (ℕ → Record → List Offer → Type 0) → ℕ → SourceSpec → ActorState
    → ActorState → List Turn → Type 0
TurnsReadOn offers dests spec old new turns =
    TookTurns offers dests spec old new turns → IsReady dests spec old.source
    → (done : List Record) (before : ℕ) → HasRead offers spec old.source done before
    → ReadsOn offers dests spec old new turns done before

-- the credit that a call tells
abbrev pub told_by : CoreReply → ℕ
told_by (CreditReply credit) = credit
told_by reply = 0

-- No call brings more records than the credit that the one before it told, until some are sent back.
abbrev pub KeepWithin : ℕ → List Exchange → Type 0
KeepWithin told [] = Unit {0}
KeepWithin told (e ∷ es) = (length (carried_by e.call) ≤ told)
    × (IsSentBack e.reply ⊎ KeepWithin (told_by e.reply) es)

-- so it is with the turns of a source that holds no record at first, where none finds no memory
abbrev pub TurnsKeepWithin : (ℕ → Record → List Offer → Type 0) → ℕ → SourceSpec → ActorState
    → ActorState → List Turn → Type 0
TurnsKeepWithin offers dests spec old new turns =
    TookTurns offers dests spec old new turns → AreFed turns → old.source.reader.held ≡ []
    → KeepWithin 0 (calls_of turns)

-- how many entries are settled
abbrev pub settled_by : CoreCall → ℕ
settled_by (Settle d place n count) = n
settled_by call = 0

abbrev pub settled_in : List Exchange → ℕ
settled_in [] = 0
settled_in (e ∷ es) = settled_by e.call + settled_in es

-- the frames of the entries that each of these turns showed first and settled
abbrev pub frames_of : DestSpec → List Turn → List (List ℕ)
frames_of spec [] = []
frames_of spec (turn ∷ turns) = take (settled_in turn.made) (frames_by spec (shown_in turn.made))
    ++ frames_of spec turns

-- each settled no more than it was shown
abbrev pub AreTurnsWithin : List Turn → Type 0
AreTurnsWithin [] = Unit {0}
AreTurnsWithin (turn ∷ turns) =
    (settled_in turn.made ≤ length (shown_in turn.made)) × AreTurnsWithin turns

-- The frames that the outlet took are those of the entries that were settled, in order.
pub record SendsOn (spec : DestSpec) (old new : DestState) (turns : List Turn) : Type 0 where
  pub told : new.drain.taken ≡ option_map (λ before. before ++ frames_of spec turns) old.drain.taken
  pub count : new.drain.count ≡ old.drain.count + settled_in (calls_of turns)
  pub within : AreTurnsWithin turns
  pub failures : HasFailures new.outage new.drain
  pub faults : old.drain.faults ≤ new.drain.faults

abbrev pub TurnsSendOn : DestSpec → DestState → DestState → List Turn → Type 0
TurnsSendOn spec old new turns = SentTurns spec old new turns → HasFailures old.outage old.drain
    → SendsOn spec old new turns

-- At the end of a run whose last round was quiet a source had no credit, or its inlet is over and all that it gave dealt with, and its
-- position is stored, or the store has failed.
abbrev pub SourceRests : (ℕ → Record → List Offer → Type 0) → ℕ → SourceSpec → ActorState
    → ActorState → List Turn → List Exchange → List Exchange → Type 0
SourceRests offers dests spec old new turns before last = TookTurns offers dests spec old new turns
    → RestsLast turns before last → IsEmptyTurn spec new last

-- A destination then is given up, or was shown that no entry is left.
abbrev pub DestRests : DestSpec → DestState → DestState → List Turn → List Exchange → List Exchange
    → Type 0
DestRests spec old new turns before last = SentTurns spec old new turns
    → RestsLast turns before last → (is_some new.outage.given_up ≡ true) ⊎ IsShownEmpty last

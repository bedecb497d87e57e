-- What the turns of an actor tell of the calls of its device that failed.
use Rattle.std.specs.Prelude.{◌≡◌, ◌≤◌, ◌<◌, ℕ, ◌+◌, ◌-◌, ◌*◌, ◌^◌, true, Some, List}
use Rattle.sg_msg.specs.declared.offer.Offer.{Offer}
use Rattle.sg_frame.specs.Records.{Record}
use Rattle.sg_actor.specs.Reading.{one_if}
use Rattle.sg_actor.specs.Steps.{PullFails}
use Rattle.sg_actor.specs.SourceTurns.{ActorState}
use Rattle.sg_actor.specs.declared.rendering.DestSpec.{DestSpec}
use Rattle.sg_actor.specs.declared.settings.SourceSpec.{SourceSpec}
use Rattle.sg_actor.specs.declared.turned.GivenUp.TheVariants.{Outlet}
use Rattle.sg_turns.specs.Turns.{Turn, TookTurns, DestState, SentTurns}
use Rattle.sg_turns.specs.Serving.{busy_of}

-- a pull that failed isn't forgotten, and let the inlet's count of faults rise
abbrev pub SourceFails : (ℕ → Record → List Offer → Type 0) → ℕ → SourceSpec → ActorState
    → ActorState → List Turn → Type 0
SourceFails offers dests spec old new turns =
    TookTurns offers dests spec old new turns → PullFails old.source.reader.failed
    new.source.reader.failed old.source.feed.faults new.source.feed.faults

-- where a destination is given up for its outlet, three sends or reopenings failed since it took a frame last
abbrev pub HasOutletFailed : DestSpec → DestState → Type 0
HasOutletFailed spec s = s.outage.given_up ≡ Some Outlet
    → (spec.gives_up ≡ true) × (3 ≤ s.drain.failing)

abbrev pub DestFails : DestSpec → DestState → DestState → List Turn → Type 0
DestFails spec old new turns = SentTurns spec old new turns → HasOutletFailed spec old
    → HasOutletFailed spec new

-- Each turn of a destination that did something or was idle took a frame, or its outlet failed, or was open again after a failure, or it
-- was too early to reopen it or to send. So a frame pays for one turn, a failure for two, and an answer that it is too early for one.
abbrev pub DestIsBounded : DestSpec → DestState → DestState → List Turn → Type 0
DestIsBounded spec old new turns =
    SentTurns spec old new turns → new.drain.faults < 2 ^ 64 - 1
    → busy_of turns ≤ (new.drain.count - old.drain.count) + 2
    * (new.drain.faults - old.drain.faults) + (new.drain.laters - old.drain.laters)
    + one_if old.outage.reopens

-- What a destination settles, and what its outlet takes: the entries that its front showed.
use Rattle.std.specs.Prelude.{◌≡◌, ◌≢◌, ◌≤◌, ℕ, ◌+◌, Some, List, ◌∷◌, ◌++◌, length, map, take, drop, slice_get}
use Rattle.std.specs.Option.{option_map}
use Rattle.sg_device.specs.Outlet.{OutletState}
use Rattle.sg_msg.specs.Message.{Content}
use Rattle.sg_machine.specs.declared.event.Event.{Event}
use Rattle.sg_machine.specs.declared.state.Dest.{Dest}
use Rattle.sg_machine.specs.declared.state.State.{State}
use Rattle.sg_machine.specs.Runs.{after_all}
use Rattle.sg_counter.specs.Exchanges.{Exchange, OfDest, calls_by}
use Rattle.sg_counter.specs.declared.answers.Settled.{Settled}
use Rattle.sg_counter.specs.declared.answers.Settled.TheVariants.{NotFront}
use Rattle.sg_counter.specs.declared.calls.CoreCall.TheVariants.{Settle}
use Rattle.sg_counter.specs.declared.calls.CoreReply.TheVariants.{Settled as SettledReply}
use Rattle.sg_stores.specs.Stores.{StoreState}
use Rattle.sg_standing.specs.States.{CoreState}
use Rattle.sg_core.specs.Answers.{IsBufferTold}
use Rattle.sg_laws.specs.Calls.{settled_in, sum, Ran}
use Rattle.sg_laws.specs.Turns.{Sending, AreSendings, calls_in, shown_then_settled}

-- They are settled, and where the store of the disk-buffer tells its bytes they are those that were shown.
pub record SettlesShown (stores : List StoreState) (first last : Dest) (place n : ℕ)
    (messages : List Content) (answer : Settled) : Type 0 where
  pub settles : answer ≢ NotFront
  pub shown : IsBufferTold stores first.setup.buffer
      → map (λ e. e.message) (take n (drop place last.settled)) ≡ take n messages

-- The outlet took as many frames as entries were settled; and where the store of the disk-buffer tells its bytes, just the frames of these.
pub record TakesSettled (frame : Content → List ℕ) (stores : List StoreState) (first last : Dest)
    (drain drain' : OutletState) : Type 0 where
  pub count : drain'.count + length first.settled ≡ drain.count + length last.settled
  pub told : IsBufferTold stores first.setup.buffer → drain'.taken
      ≡ option_map
      (λ before. before ++ map (λ e. frame e.message) (drop (length first.settled) last.settled))
      drain.taken

-- With each settling of d that isn't refused a count of frames was shown. Behind the count at first it is the number of entries that d
-- has settled with it.
abbrev pub ShowsTaken : (first d : ℕ) → List Exchange → Type 0
ShowsTaken first d made =
    (before later : List Exchange) (place n count : ℕ) (answer : Settled)
    → made ≡ before ++ record { call = Settle d place n count; reply = SettledReply answer } ∷ later
    → answer ≢ NotFront → count ≡ first + sum (settled_in (calls_by (OfDest d) before)) + n

-- d before the events and behind them
pub record IsDestThroughout (start : State) (before events : List Event) (d : ℕ)
    (first last : Dest) : Type 0 where
  pub at_first : slice_get (after_all start before).dests d ≡ Some first
  pub at_last : slice_get (after_all start (before ++ events)).dests d ≡ Some last

-- whatever others call in between, what d settles is what its front showed
abbrev pub FrontsAreNext : Type 0
FrontsAreNext =
    (old new : CoreState) (made : List Exchange) (start : State) (before events : List Event)
    (d : ℕ) (first last : Dest) → Ran old new made start before events
    → IsDestThroughout start before events d first last
    → (earlier later : List Exchange) (most place n count : ℕ) (messages : List Content)
    (answer : Settled) → calls_by (OfDest d) made
    ≡ earlier ++ (shown_then_settled d most place n count messages answer ++ later)
    → n ≤ length messages → SettlesShown old.stores first last place n messages answer

-- whatever others call in between, the count that d shows with each settling, which is its outlet's, is the number of entries settled with it
abbrev pub SettlesAreTaken : Type 0
SettlesAreTaken =
    (old new : CoreState) (made : List Exchange) (start : State) (before events : List Event)
    (d : ℕ) (first : Dest) → Ran old new made start before events
    → slice_get (after_all start before).dests d ≡ Some first
    → (frame : Content → List ℕ) (turns : List Sending) (drain drain' : OutletState)
    → calls_by (OfDest d) made ≡ calls_in turns → AreSendings frame d turns drain drain'
    → ShowsTaken drain.count d made

-- the frames that the outlet took in all turns of d are those of the entries that it settled, no more and no fewer
abbrev pub FramesAreSettled : Type 0
FramesAreSettled =
    (old new : CoreState) (made : List Exchange) (start : State) (before events : List Event)
    (d : ℕ) (first last : Dest) → Ran old new made start before events
    → IsDestThroughout start before events d first last
    → (frame : Content → List ℕ) (turns : List Sending) (drain drain' : OutletState)
    → calls_by (OfDest d) made ≡ calls_in turns → AreSendings frame d turns drain drain'
    → TakesSettled frame old.stores first last drain drain'

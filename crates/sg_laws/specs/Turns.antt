-- The turns of a destination, and what its outlet takes in them.
use Rattle.std.specs.Prelude.{◌≡◌, ◌≤◌, ℕ, Bool, Ok, List, [], ◌∷◌, ◌++◌, length, map}
use Rattle.sg_device.specs.Outlet.{OutletState}
use Rattle.sg_msg.specs.Message.{Content}
use Rattle.sg_counter.specs.Exchanges.{Exchange}
use Rattle.sg_counter.specs.declared.answers.CoreFront.TheVariants.{Entries}
use Rattle.sg_counter.specs.declared.answers.Settled.{Settled}
use Rattle.sg_counter.specs.declared.calls.CoreCall.TheVariants.{Front, Settle}
use Rattle.sg_counter.specs.declared.calls.CoreReply.TheVariants.{Front as FrontReply, Settled as SettledReply}
use Rattle.sg_actor.specs.DestTurns.{DeliversFront, shown_in}
use Rattle.sg_actor.specs.Outages.{TakesFrames}

-- a turn: its calls, how many frames the outlet took in it, and whether memory sufficed
pub record Sending : Type 0 where
  pub made : List Exchange
  pub taken : ℕ
  pub well : Bool

-- the first entries were asked for, so many of their frames were taken, and just so many were settled, with the outlet's count behind them
pub record IsSending (frame : Content → List ℕ) (d : ℕ) (s : Sending)
    (drain drain' : OutletState) : Type 0 where
  pub delivers : DeliversFront d s.taken drain'.count s.well s.made
  pub within : s.taken ≤ length (shown_in s.made)
  pub takes : TakesFrames s.taken (map frame (shown_in s.made)) drain drain'

-- turns one after another
abbrev pub AreSendings : (Content → List ℕ) → ℕ → List Sending → OutletState → OutletState → Type 0
AreSendings frame d [] drain drain' = drain' ≡ drain
AreSendings frame d (s ∷ rest) drain drain' = (between : OutletState)
    × (IsSending frame d s drain between × AreSendings frame d rest between drain')

abbrev pub calls_in : List Sending → List Exchange
calls_in [] = []
calls_in (s ∷ rest) = s.made ++ calls_in rest

-- two calls, one behind the other: the first entries were shown, from this place on, and so many of them were to be settled
abbrev pub shown_then_settled : (d most place n count : ℕ) → List Content → Settled → List Exchange
shown_then_settled d most place n count messages answer =
    record { call = Front d most; reply = FrontReply (Ok (Entries place messages)) }
    ∷ record { call = Settle d place n count; reply = SettledReply answer } ∷ []

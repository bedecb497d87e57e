-- What a destination of the core says of that of the machine.
use Rattle.std.specs.Prelude.{◌≡◌, ℕ, Bool, false, ◌&&◌, if◌then◌else◌, Option, Some, None, List, [], ◌∷◌, ◌++◌, slice_get}
use Rattle.std.specs.Option.{option_map_or}
use Rattle.sg_msg.specs.Length.{encoded_len}
use Rattle.sg_msg.specs.declared.offer.Offer.{Offer}
use Rattle.sg_machine.specs.declared.setup.BufferSetup.{BufferSetup}
use Rattle.sg_machine.specs.declared.state.Origin.{Origin}
use Rattle.sg_machine.specs.declared.state.Dest.{Dest}
use Rattle.sg_machine.specs.Verdicts.{is_listed, judged_by, take_offer}
use Rattle.sg_machine.specs.Effects.{settled_some, spool_first}
use Rattle.sg_machine.specs.Legal.{first_fits}
use Rattle.sg_sinks.specs.Fitting.{space, has_space}
use Rattle.sg_sinks.specs.States.{SinkState}
use Rattle.sg_sinks.specs.Blocks.{block_of_offer}
use Rattle.sg_sinks.specs.Offers.{would_spool, broken_then, verdict_of, offered}
use Rattle.sg_sinks.specs.Settling.{settled_first}
use Rattle.sg_sinks.specs.Moving.{moved_first}
use Rattle.sg_sinks.specs.Standing.{sink_of, IsSplit}
use Rattle.sg_sinks.specs.Trials.{trial_of, takes_in, tried}

-- whether the store of its disk-buffer is one of these
abbrev pub is_listed_in : Option BufferSetup → List ℕ → Bool
is_listed_in None stores = false
is_listed_in (Some buffer) stores = is_listed buffer.store stores

-- the stores that have failed once an offer is judged
abbrev pub failed_by : Option BufferSetup → List ℕ → Bool → List ℕ
failed_by None failed fails = failed
failed_by (Some buffer) failed fails = if fails then failed ++ buffer.store ∷ [] else failed

-- the verdict is the right one, and the store fails where it is to fail and would spool the offer
abbrev pub Judging : Dest → List ℕ → List ℕ → Offer → Type 0
Judging dest failing failed offer =
    let sink = sink_of (is_listed_in dest.setup.buffer failed) dest in
    let fails = is_listed_in dest.setup.buffer failing in
    judged_by dest.setup.buffer dest.setup.fifo dest.left failing failed offer
    (verdict_of fails sink offer)
    ≡ Some (failed_by dest.setup.buffer failed (fails && would_spool sink offer))

-- what an offer with that verdict leaves
pub record OfferLeaves (dest : Dest) (broken fails : Bool) (origin : Origin)
    (offer : Offer) : Type 0 where
  pub split : IsSplit (take_offer origin offer (verdict_of fails (sink_of broken dest) offer) dest)
  pub seen : sink_of (broken_then fails (sink_of broken dest) offer)
      (take_offer origin offer (verdict_of fails (sink_of broken dest) offer) dest)
      ≡ offered fails origin.inlet origin.number offer
      (block_of_offer dest.setup.buffer origin.inlet origin.end offer)
      (verdict_of fails (sink_of broken dest) offer) (sink_of broken dest)

-- what is left once the first n are settled
pub record Settling (dest : Dest) (broken : Bool) (n : ℕ) : Type 0 where
  pub split : IsSplit (settled_some n dest)
  pub seen : sink_of broken (settled_some n dest) ≡ settled_first n (sink_of broken dest)

-- the first that waits fits, and what is left once it goes to the disk
pub record Moving (dest : Dest) (buffer : BufferSetup) (broken : Bool) : Type 0 where
  pub fits : first_fits buffer.capacity dest.left dest.left ≡ option_map_or
      (λ e. has_space buffer.capacity (space (sink_of broken dest).lengths) (encoded_len e.message))
      (slice_get (sink_of broken dest).entries 0) false
  pub split : IsSplit (record dest { left = spool_first dest.left })
  pub seen : sink_of broken (record dest { left = spool_first dest.left })
      ≡ moved_first (sink_of broken dest)

-- a trial goes along with the offers, while the store works
pub record Trying (buffer : BufferSetup) (sink : SinkState) (inlet number : ℕ) (offer : Offer)
    (block : Option (List ℕ)) : Type 0 where
  pub takes : takes_in (encoded_len offer.message) (trial_of buffer sink) ≡ would_spool sink offer
  pub after :
      trial_of buffer (offered false inlet number offer block (verdict_of false sink offer) sink)
      ≡ tried offer.flow (encoded_len offer.message) (trial_of buffer sink)

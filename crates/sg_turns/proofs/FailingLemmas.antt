-- Turns and the failures of their devices.
use Rattle.std.proofs.Common.{arith, ◌≡◌, ◌≤◌, ℕ, Bool, true, false, Option, Some, None, List, [], ◌∷◌, refl, ap, sym, ◌∙◌, subst}
use Rattle.sg_device.specs.Faults.{Rose}
use Rattle.sg_msg.specs.declared.offer.Offer.{Offer}
use Rattle.sg_frame.specs.Records.{Record}
use Rattle.sg_actor.specs.Steps.{PullFails}
use Rattle.sg_actor.specs.SourceTurns.{ActorState}
use Rattle.sg_actor.specs.DestTurns.{HasGivenUpCause}
use Rattle.sg_actor.specs.declared.rendering.DestSpec.{DestSpec}
use Rattle.sg_actor.specs.declared.settings.SourceSpec.{SourceSpec}
use Rattle.sg_actor.specs.declared.turned.GivenUp.{GivenUp}
use Rattle.sg_turns.specs.Turns.{Turn, TookTurns, DestState, SendsBy}
use Rattle.sg_turns.specs.Failing.{SourceFails, HasOutletFailed, DestFails}

fails-then : (a b c : Bool) (x y z : ℕ) → PullFails a b x y → PullFails b c y z → x ≤ y → y ≤ z → PullFails a c x z
fails-then a true c x y z h k first second = (
  (λ e. k.0 (h.0 e)),
  (λ was e. (let rose : Rose x y = h.1 was refl in omega arith)),
)
fails-then a false c x y z h k first second = (
  (λ e. k.0 (h.0 e)),
  (λ was e. (let rose : Rose y z = k.1 refl e in omega arith)),
)

-- the count of faults doesn't fall
abbrev CountsOn : ActorState → ActorState → Type 0
CountsOn old new = PullFails old.source.reader.failed new.source.reader.failed old.source.feed.faults new.source.feed.faults × (old.source.feed.faults ≤ new.source.feed.faults)

counts-on : (offers : ℕ → Record → List Offer → Type 0) (dests : ℕ) (spec : SourceSpec) (old new : ActorState) (turns : List Turn) → TookTurns offers dests spec old new turns → CountsOn old new
counts-on offers dests spec old new [] same =
    subst (λ s. CountsOn old s) (sym same) (((λ e. e), (λ was e. absurd (let differ : true ≡ false = sym e ∙ was in cc))), omega arith)
counts-on offers dests spec old new (turn ∷ turns) (mid, (took, rest)) =
    let h = took.takes.failing in
    let advances = took.takes.advances in
    let k = counts-on offers dests spec mid new turns rest in (
      fails-then old.source.reader.failed mid.source.reader.failed new.source.reader.failed old.source.feed.faults mid.source.feed.faults new.source.feed.faults h k.0 advances.faults k.1,
      omega (arith, advances.faults, k.1),
    )

pub source-fails : (offers : ℕ → Record → List Offer → Type 0) (dests : ℕ) (spec : SourceSpec) (old new : ActorState) (turns : List Turn) → SourceFails offers dests spec old new turns
source-fails offers dests spec old new turns took = (counts-on offers dests spec old new turns took).0

-- a turn of a destination
sent-failed : (cause : Option GivenUp) (spec : DestSpec) (old new : DestState) (turn : Turn) → SendsBy cause spec old new turn → HasOutletFailed spec old → HasOutletFailed spec new
sent-failed None spec old new turn (taken, (refused, h)) before e =
    let why = subst (λ c. HasGivenUpCause spec.gives_up refused new.drain turn.made c) e h.cause in
    (why.0, why.2)
sent-failed (Some c) spec old new turn h before e =
    let was = before (ap (λ o. o.given_up) (sym h.1.outage_stays) ∙ e) in
    (was.0, subst (λ d. 3 ≤ d.failing) (sym h.1.drain_stays) was.1)

pub dest-fails : (spec : DestSpec) (old new : DestState) (turns : List Turn) → DestFails spec old new turns
dest-fails spec old new [] same before = subst (λ s. HasOutletFailed spec s) (sym same) before
dest-fails spec old new (turn ∷ turns) (mid, (sent, rest)) before =
    dest-fails spec mid new turns rest (sent-failed old.outage.given_up spec old mid turn sent before)

-- What a turn finds for the core.
use Rattle.std.proofs.Common.{arith, ◌≡◌, ◌<◌, ℕ, Bool, true, false, List, [], ◌∷◌, length, refl, ap, sym, ◌∙◌}
use Rattle.std.proofs.lemmas.Bool.Decides.{nat_tests}
use Rattle.std.specs.Prelude.{◌==◌, ◌&&◌, ◌||◌, not}
use Rattle.sg_device.specs.Inlet.{InletState}
use Rattle.sg_msg.specs.declared.offer.Offer.{Offer}
use Rattle.sg_machine.specs.declared.event.Admission.{Admission}
use Rattle.sg_frame.specs.declared.framer.Framed.{Framed}
use Rattle.sg_frame.specs.declared.framer.Framed.TheVariants.{Item as Given, More, BadFrame}
use Rattle.sg_frame.specs.Framing.{Framing}
use Rattle.sg_frame.specs.Records.{Record}
use Rattle.sg_route.specs.Offers.{SameOffers}
use Rattle.sg_actor.specs.Reading.{one_if}
use Rattle.sg_actor.specs.Sources.{SourceState, source}
use Rattle.sg_actor.specs.Steps.{IsFed, IsFrameDealt, IsLookedAhead, IsSpent, IsAsBefore, is_bad_frame, is_bad, is_spent, is_over, has_pulled, was_idle, KeepsRecords, PullsOnto}
use Rattle.sg_actor.specs.declared.reader.Reader.{Reader}
use Rattle.sg_actor.specs.declared.settings.SourceSpec.{SourceSpec}
use Rattle.sg_actor.proofs.PullLemmas.{lt-no}
use Rattle.sg_actor.proofs.KeepLemmas.{keeps-of, keeps-then, keeps-router}

pub empty-of : (held : List Admission) → (length held == 0) ≡ true → held ≡ []
empty-of [] h = refl
empty-of (a ∷ held) h = absurd (grind (arith, nat_tests))

pub both-of : (a b : Bool) → (a && b) ≡ true → (a ≡ true) × (b ≡ true)
both-of true b h = (refl, h)
both-of false b h = absurd (let differ : false ≡ true = h in cc)

pub not-of : (a : Bool) → not a ≡ true → a ≡ false
not-of true h = absurd (let differ : false ≡ true = h in cc)
not-of false h = refl

dealt-of : (f : Framing) (up : Bool) (ahead : Framed) → IsLookedAhead f ahead → (is_bad_frame ahead && not up) ≡ false → IsFrameDealt f up ahead
dealt-of f up (Given text end at) looked h = absurd looked
dealt-of f up More looked h = looked
dealt-of f true (BadFrame place) looked h = refl
dealt-of f false (BadFrame place) looked h = absurd (let differ : true ≡ false = h in cc)

pub spent-of : (reader : Reader) (most : ℕ) → is_spent reader ≡ true → 0 < most → IsFed reader.pulled → (length reader.held < most → IsLookedAhead reader.framer reader.ahead) → IsSpent reader
spent-of reader most is some fed looked =
    let both = both-of (length reader.held == 0) (not (is_bad reader)) is in
    let none : reader.held ≡ [] = empty-of reader.held both.0 in
    record {
      held = none;
      fed = fed;
      ahead = dealt-of reader.framer reader.given_up reader.ahead (looked (let n : length reader.held ≡ 0 = ap length none in omega arith)) (not-of (is_bad reader) both.1);
    }

pub pulled-none : (feed : InletState) (a b : Reader) (x y : List ℕ) → IsAsBefore a b → has_pulled (source feed a x) (source feed b y) ≡ false
pulled-none feed a b x y h =
    rw (h.ended, h.failed, lt-no feed.bytes feed.bytes (omega arith), lt-no feed.parts feed.parts (omega arith), lt-no (one_if a.ended) (one_if a.ended) (omega arith)) (lt-no (one_if a.failed) (one_if a.failed) (omega arith))

pub idle-none : (feed : InletState) (a b : Reader) (x y : List ℕ) → was_idle (source feed a x) (source feed b y) ≡ false
idle-none feed a b x y = lt-no feed.idles feed.idles (omega arith)

-- flags that stay before a pull and after it
pub pulled-as : (feed feed' : InletState) (a b c d : Reader) (u v w x : List ℕ) → IsAsBefore a b → IsAsBefore c d
    → has_pulled (source feed a u) (source feed' d x) ≡ has_pulled (source feed b v) (source feed' c w)
pulled-as feed feed' a b c d u v w x h k = rw (h.ended, h.failed, k.ended, k.failed) refl

pub before-same : (a : Reader) → IsAsBefore a a
before-same a = record { ended = refl; failed = refl }

or-false : (a b : Bool) → (a || b) ≡ false → (a ≡ false) × (b ≡ false)
or-false true b h = absurd (let differ : true ≡ false = h in cc)
or-false false b h = (refl, h)

pub going-of : (reader : Reader) → is_over reader ≡ false → (reader.ended ≡ false) × (reader.failed ≡ false)
going-of reader h = or-false reader.ended reader.failed h

-- an inlet that had ended isn't pulled
pub ended-not : (old mid new : Reader) → IsAsBefore old mid → is_over mid ≡ false → old.ended ≡ true → new.ended ≡ true
ended-not old mid new before going was = absurd (let differ : true ≡ false = sym was ∙ (sym before.ended ∙ (going-of mid going).0) in cc)

-- a part of a turn before its pull, and the pull
pub keeps-pulled : (offers : ℕ → Record → List Offer → Type 0) (dests : ℕ) (spec : SourceSpec) (a b c : SourceState) (idle : Bool) → KeepsRecords offers dests spec a b → PullsOnto b c idle
    → KeepsRecords offers dests spec a c
keeps-pulled offers dests spec a b c idle h pulls = keeps-then offers dests spec a b c h (keeps-of offers dests spec b c (pulls dests spec h.ready).rests)

-- and what follows, with a router that says the same
pub keeps-rest : (offers offers' : ℕ → Record → List Offer → Type 0) (dests dests' : ℕ) (spec : SourceSpec) (a b c d : SourceState) (idle : Bool) → KeepsRecords offers dests spec a b → PullsOnto b c idle
    → SameOffers offers offers' → dests' ≡ dests → KeepsRecords offers' dests' spec c d → KeepsRecords offers dests spec a d
keeps-rest offers offers' dests dests' spec a b c d idle h pulls same count k =
    keeps-then offers dests spec a c d (keeps-pulled offers dests spec a b c idle h pulls) (keeps-router offers offers' dests dests' spec c d same count k)

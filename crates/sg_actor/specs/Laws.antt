-- What holds of what a source has read.
use Rattle.std.specs.Prelude.{◌≡◌, ℕ, true, false, Some, List, ◌++◌}
use Rattle.sg_device.specs.Inlet.{Part}
use Rattle.sg_msg.specs.declared.offer.Offer.{Offer}
use Rattle.sg_frame.specs.declared.kind.FrameKind.TheVariants.{Lines}
use Rattle.sg_frame.specs.Records.{Record, records}
use Rattle.sg_actor.specs.Reading.{bad_parts}
use Rattle.sg_actor.specs.Sources.{SourceState, HasRead, IsReady, HasNothingLeft}
use Rattle.sg_actor.specs.Steps.{IsInletOver}
use Rattle.sg_actor.specs.declared.settings.SourceSpec.{SourceSpec}

-- the records admitted are the first ones that the inlet gave
abbrev pub ReadsFirst : (ℕ → Record → List Offer → Type 0) → ℕ → SourceSpec → SourceState → Type 0
ReadsFirst offers dests spec s =
    (done : List Record) (ups : ℕ) (parts : List Part) → IsReady dests spec s
    → HasRead offers spec s done ups → s.feed.told ≡ Some parts
    → (rest : List Record) × (records spec.kind spec.limit spec.from parts ≡ done ++ rest)

-- they are all of them, and the parts given up are those with a bad count
abbrev pub ReadsAll : (ℕ → Record → List Offer → Type 0) → ℕ → SourceSpec → SourceState → Type 0
ReadsAll offers dests spec s =
    (done : List Record) (ups : ℕ) (parts : List Part) → IsReady dests spec s
    → HasRead offers spec s done ups → IsInletOver s.reader → s.feed.told ≡ Some parts
    → (done ≡ records spec.kind spec.limit spec.from parts)
    × (ups ≡ bad_parts spec.kind spec.limit parts)

-- no part is given up, and at its end a file has no byte left
abbrev pub StaysWhole : ℕ → SourceSpec → SourceState → Type 0
StaysWhole dests spec s =
    IsReady dests spec s → spec.kind ≡ Lines
    → (s.reader.given_up ≡ false) × (s.reader.ended ≡ true → HasNothingLeft s.feed)

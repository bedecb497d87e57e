-- Passing over commas.
use Rattle.std.proofs.Common.{◌≡◌, ◌<◌, true, false, List, [], ◌∷◌, length, refl, arith}
use Rattle.sg_parse_base.specs.declared.spot.Spot.{Spot}
use Rattle.sg_parse_base.specs.Input.{behind, sees}
use Rattle.sg_parse_base.specs.Lists.{after_commas}

pub comma_step : (s : List Spot) → sees 44 s ≡ true → after_commas s ≡ after_commas (behind s)
unfolding sees
comma_step [] h = absurd cc
comma_step (spot ∷ spots) h = rw h refl

pub comma_smaller : (s : List Spot) → sees 44 s ≡ true → length (behind s) < length s
unfolding sees
comma_smaller [] h = absurd cc
comma_smaller (spot ∷ spots) h = omega arith

pub comma_none : (s : List Spot) → sees 44 s ≡ false → after_commas s ≡ s
unfolding sees
comma_none [] h = refl
comma_none (spot ∷ spots) h = rw h refl

-- What the value of an option says, and what stands in its place where it is missing.
use Rattle.std.specs.Prelude.{ℕ, Bool, List, [], Option, Some, None, unwrap_or, ℤ}
use Rattle.sg_parse_base.specs.declared.spot.Spot.{Spot}
use Rattle.sg_parse_expr.specs.Classes.{is_yes, is_one_of}
use Rattle.sg_options.specs.declared.numbers.Range.{Range}
use Rattle.sg_options.specs.Numbers.{number_in, mode_of}
use Rattle.sg_options.specs.Zones.{zone_of}
use Rattle.sg_options.specs.Names.{facility_number, level_number}

abbrev pub text_of : Option Spot → List ℕ
text_of None = []
text_of (Some spot) = spot.token.text

abbrev pub text_or : Option Spot → List ℕ → List ℕ
text_or None default = default
text_or (Some spot) default = spot.token.text

-- A value that says nothing counts as missing.
abbrev pub number_or : Option Spot → Range → ℕ → ℕ
number_or None range default = default
number_or (Some spot) range default = unwrap_or (number_in range spot.token.text) default

abbrev pub truth_or : Option Spot → Bool → Bool
truth_or None default = default
truth_or (Some spot) default = is_yes spot.token.text

abbrev pub one_of_or : Option Spot → List (List ℕ) → Bool → Bool
one_of_or None words default = default
one_of_or (Some spot) words default = is_one_of spot.token.text words

abbrev pub zone_or : Option Spot → ℤ → ℤ
zone_or None default = default
zone_or (Some spot) default = unwrap_or (zone_of spot.token.text) default

abbrev pub later_zone : Option ℤ → Option ℤ → Option ℤ
later_zone None default = default
later_zone (Some zone) default = Some zone

abbrev pub zone_or_none : Option Spot → Option ℤ → Option ℤ
zone_or_none None default = default
zone_or_none (Some spot) default = later_zone (zone_of spot.token.text) default

abbrev pub mode_or : Option Spot → ℕ → ℕ
mode_or None default = default
mode_or (Some spot) default = unwrap_or (mode_of spot.token.text) default

abbrev pub facility_or : Option Spot → ℕ → ℕ
facility_or None default = default
facility_or (Some spot) default = unwrap_or (facility_number spot.token.text) default

abbrev pub level_or : Option Spot → ℕ → ℕ
level_or None default = default
level_or (Some spot) default = unwrap_or (level_number spot.token.text) default

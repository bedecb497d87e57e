-- What may be wrong with the values of options.
use Rattle.std.specs.Prelude.{ℕ, Bool, is_some, if◌then◌else◌, List, [], ◌∷◌, ◌++◌, Option, Some, None}
use Rattle.sg_lex.specs.declared.fault.ConfigKind.TheVariants.{BadValue}
use Rattle.sg_parse_base.specs.declared.spot.Spot.{Spot}
use Rattle.sg_parse_base.specs.Input.{spot_line}
use Rattle.sg_parse_expr.specs.declared.tree.Call.{Call}
use Rattle.sg_parse_expr.specs.Forms.{row_of}
use Rattle.sg_fault.specs.declared.placed.Placed.{Placed}
use Rattle.sg_options.specs.declared.check.Check.{Check}
use Rattle.sg_options.specs.declared.check.Check.TheVariants.{Within, Zone, Mode, Facility, Level}
use Rattle.sg_options.specs.Numbers.{number_in, mode_of}
use Rattle.sg_options.specs.Zones.{zone_of}
use Rattle.sg_options.specs.Names.{facility_number, level_number}
use Rattle.sg_options.specs.Settings.{word_of, value_of}

abbrev pub passes : Check → List ℕ → Bool
passes (Within range) text = is_some (number_in range text)
passes Zone text = is_some (zone_of text)
passes Mode text = is_some (mode_of text)
passes Facility text = is_some (facility_number text)
passes Level text = is_some (level_number text)

abbrev pub bad_value : Spot → Placed
bad_value spot = record { kind = BadValue; line = spot_line spot }

-- a value that says nothing is out of its range
abbrev pub value_faults : Check → Option Spot → List Placed
value_faults check None = []
value_faults check (Some spot) = if passes check spot.token.text then [] else bad_value spot ∷ []

abbrev pub faults_by : Option Check → Option Spot → List Placed
faults_by None value = []
faults_by (Some check) value = value_faults check value

abbrev pub option_faults : List (List ℕ × Check) → Call → List Placed
option_faults rows call = faults_by (row_of rows (word_of call).token.text) (value_of call)

-- what is wrong with each of these options, where this is wrong with one; each is checked, also where a later one counts
abbrev pub faults_of : (Call → List Placed) → List Call → List Placed
faults_of faults [] = []
faults_of faults (call ∷ calls) = faults call ++ faults_of faults calls

-- what is wrong with the values of these options, each by the row of its word
abbrev pub bad_values : List (List ℕ × Check) → List Call → List Placed
bad_values rows calls = faults_of (option_faults rows) calls

-- Facilities and severities.
use Rattle.std.specs.Prelude.{ℕ, Bool, is_some, if◌then◌else◌, List, [], ◌∷◌, ◌++◌}
use Rattle.sg_parse_base.specs.declared.spot.Spot.{Spot}
use Rattle.sg_parse_expr.specs.declared.tree.Arg.{Arg, out-Arg}
use Rattle.sg_parse_expr.specs.declared.tree.Arg.TheOpen.{Arg-F}
use Rattle.sg_parse_expr.specs.declared.tree.Call.{Call}
use Rattle.sg_parse_expr.specs.declared.tree.RawExpr.{RawExpr}
use Rattle.sg_fault.specs.declared.placed.Placed.{Placed}
use Rattle.sg_options.specs.Names.{facility_number, level_number}
use Rattle.sg_options.specs.Checks.{bad_value}
use Rattle.sg_values.specs.declared.range.Scale.{Scale}
use Rattle.sg_values.specs.declared.range.Scale.TheVariants.{Facility, Level}

abbrev pub has : Scale → List ℕ → Bool
has Facility text = is_some (facility_number text)
has Level text = is_some (level_number text)

abbrev pub number_faults : Scale → Spot → List Placed
number_faults scale spot = if has scale spot.token.text then [] else bad_value spot ∷ []

abbrev pub range_at : Scale → Arg-F Arg RawExpr Call → List Placed
range_at scale (Arg-F.Item spot) = number_faults scale spot
range_at scale (Arg-F.Range low high) = number_faults scale low ++ number_faults scale high
range_at scale _ = []

-- a number, or two
unfoldable pub range_faults : Scale → Arg → List Placed
range_faults scale arg = range_at scale (out-Arg arg)

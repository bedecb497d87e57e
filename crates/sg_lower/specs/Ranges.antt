-- Facilities and severities.
use Rattle.std.specs.Prelude.{ℕ, min, max, unwrap_or, List, [], ◌∷◌}
use Rattle.sg_parse_expr.specs.declared.tree.Arg.{Arg, out-Arg}
use Rattle.sg_parse_expr.specs.declared.tree.Arg.TheOpen.{Arg-F}
use Rattle.sg_parse_expr.specs.declared.tree.Call.{Call}
use Rattle.sg_parse_expr.specs.declared.tree.RawExpr.{RawExpr}
use Rattle.sg_options.specs.Names.{facility_number, level_number}
use Rattle.sg_lower.specs.declared.range.PriorityScale.{PriorityScale}
use Rattle.sg_lower.specs.declared.range.PriorityScale.TheVariants.{Facility, Level}

-- a number that isn't of the scale, and so is refused, is 0
abbrev pub number_of : PriorityScale → List ℕ → ℕ
number_of Facility text = unwrap_or (facility_number text) 0
number_of Level text = unwrap_or (level_number text) 0

-- in either order, the lower one first
abbrev pub range_of : ℕ → ℕ → ℕ × ℕ
range_of one other = (min one other, max one other)

abbrev pub ranges_at : PriorityScale → Arg-F Arg RawExpr Call → List (ℕ × ℕ)
ranges_at scale (Arg-F.Item spot) =
    (number_of scale spot.token.text, number_of scale spot.token.text) ∷ []
ranges_at scale (Arg-F.Range low high) =
    range_of (number_of scale low.token.text) (number_of scale high.token.text) ∷ []
ranges_at scale _ = []

unfoldable pub ranges_in : PriorityScale → Arg → List (ℕ × ℕ)
ranges_in scale arg = ranges_at scale (out-Arg arg)

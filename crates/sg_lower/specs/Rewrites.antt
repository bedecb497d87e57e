-- What rewrites do (syslog-ng's administration guide, "Modifying messages using rewrite rules").
use Rattle.std.specs.Prelude.{ℕ, if◌then◌else◌, List, [], ◌∷◌, Option, Some, None, option_map, codes}
use Rattle.std.specs.List.{flat_map}
use Rattle.sg_macro.specs.declared.part.TemplatePart.{TemplatePart}
use Rattle.sg_pattern.specs.declared.text.PatternText.{PatternText}
use Rattle.sg_parse_base.specs.declared.spot.Spot.{Spot}
use Rattle.sg_parse_expr.specs.declared.tree.Arg.{Arg, out-Arg}
use Rattle.sg_parse_expr.specs.declared.tree.Arg.TheOpen.{Arg-F}
use Rattle.sg_parse_expr.specs.declared.tree.Call.{Call}
use Rattle.sg_parse_expr.specs.declared.tree.RawExpr.{RawExpr}
use Rattle.sg_filter.specs.declared.expr.Expr.{Expr}
use Rattle.sg_rewrite.specs.declared.op.Op.{Op}
use Rattle.sg_rewrite.specs.declared.op.Op.TheVariants.{Set, Unset, Subst, GroupSet, GroupUnset, SetTag, ClearTag}
use Rattle.sg_names.specs.declared.names.Names.{Names}
use Rattle.sg_options.specs.Settings.{args_of, item_of, first_item, is_called, calls_of, last_option}
use Rattle.sg_options.specs.Values.{text_of}
use Rattle.sg_lower.specs.Values.{name_of, value_name, template_of, text_if}
use Rattle.sg_lower.specs.Patterns.{pattern_of}
use Rattle.sg_lower.specs.Expressions.{expression}

-- an operation, its globs as a list
pub data Meant : Type 0 where
  set : List ℕ → List TemplatePart → Meant
  unset : List ℕ → Meant
  subst_by : List ℕ → PatternText → List TemplatePart → Meant
  group_set : List (List ℕ) → List TemplatePart → Meant
  group_unset : List (List ℕ) → Meant
  set_tag : List ℕ → Meant
  clear_tag : List ℕ → Meant

abbrev pub meant : Op → Meant
meant (Set name text) = set name text
meant (Unset name) = unset name
meant (Subst name pattern text) = subst_by name pattern text
meant (GroupSet globs text) = group_set globs.items text
meant (GroupUnset globs) = group_unset globs.items
meant (SetTag tag) = set_tag tag
meant (ClearTag tag) = clear_tag tag

abbrev pub second_item : List Arg → Option Spot
second_item [] = None
second_item (arg ∷ args) = first_item args

abbrev pub first_template : List Arg → List TemplatePart
first_template args = template_of (text_of (first_item args))

abbrev pub second_template : List Arg → List TemplatePart
second_template args = template_of (text_of (second_item args))

abbrev pub globs_behind : Option Call → List (List ℕ)
globs_behind None = []
globs_behind (Some call) = flat_map (λ arg. text_if (item_of arg)) (args_of call)

-- those of the last `values`
abbrev pub globs_in : List Arg → List (List ℕ)
globs_in args = globs_behind (last_option (codes "values" ∷ []) (calls_of args))

abbrev pub single_by : Call → Meant
single_by call =
    if is_called (codes "set" ∷ []) call
    then set (value_name (args_of call)) (first_template (args_of call))
    else (if is_called (codes "unset" ∷ []) call then unset (value_name (args_of call))
    else subst_by (value_name (args_of call))
    (pattern_of (first_item (args_of call)) (args_of call)) (second_template (args_of call)))

abbrev pub group_by : Call → Meant
group_by call =
    if is_called (codes "groupset" ∷ []) call
    then group_set (globs_in (args_of call)) (first_template (args_of call))
    else group_unset (globs_in (args_of call))

abbrev pub tag_by : Call → Meant
tag_by call = if is_called (codes "set-tag" ∷ []) call
    then set_tag (name_of (first_item (args_of call)))
    else clear_tag (name_of (first_item (args_of call)))

unfoldable pub meant_by : Call → Meant
meant_by call =
    if is_called (codes "set" ∷ codes "unset" ∷ codes "subst" ∷ []) call then single_by call
    else (if is_called (codes "groupset" ∷ codes "groupunset" ∷ []) call then group_by call
    else tag_by call)

abbrev pub test_at : Arg-F Arg RawExpr Call → Option RawExpr
test_at (Arg-F.Test expr) = Some expr
test_at _ = None

unfoldable pub test_of : Arg → Option RawExpr
test_of arg = test_at (out-Arg arg)

abbrev pub first_test : List Arg → Option RawExpr
first_test [] = None
first_test (arg ∷ args) = test_of arg

abbrev pub test_behind : Option Call → Option RawExpr
test_behind None = None
test_behind (Some call) = first_test (args_of call)

-- the expression of the last `condition`
abbrev pub condition : Names → List Arg → Option Expr
condition names args = option_map (expression names)
    (test_behind (last_option (codes "condition" ∷ []) (calls_of args)))

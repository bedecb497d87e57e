-- What filters ask of messages (syslog-ng's administration guide, "Filter functions").
use Rattle.std.specs.Prelude.{ℕ, if◌then◌else◌, List, [], ◌∷◌, Option, Some, None, codes}
use Rattle.std.specs.List.{flat_map}
use Rattle.sg_parse_expr.specs.declared.tree.Arg.{Arg}
use Rattle.sg_parse_expr.specs.declared.tree.Call.{Call}
use Rattle.sg_filter.specs.declared.expr.Expr.{Expr}
use Rattle.sg_filter.specs.declared.expr.Expr.TheVariants as x
use Rattle.sg_names.specs.declared.kind.NameKind.TheVariants.{Filter}
use Rattle.sg_names.specs.declared.names.Names.{Names}
use Rattle.sg_names.specs.Registers.{place_in}
use Rattle.sg_options.specs.Settings.{args_of, item_of, first_item, is_called}
use Rattle.sg_options.specs.Values.{text_of}
use Rattle.sg_lower.specs.declared.range.PriorityScale.TheVariants.{Facility, Level}
use Rattle.sg_lower.specs.Values.{text_if, value_name}
use Rattle.sg_lower.specs.Ranges.{ranges_in}
use Rattle.sg_lower.specs.Patterns.{pattern_of}

abbrev pub field : List ℕ → List Arg → Expr
field name args = x.Field name (pattern_of (first_item args) args)

-- the name whose value it looks at
abbrev pub field_name : Call → List ℕ
field_name call =
    if is_called (codes "program" ∷ []) call then codes "PROGRAM"
    else (if is_called (codes "host" ∷ []) call then codes "HOST"
    else (if is_called (codes "message" ∷ []) call then codes "MESSAGE"
    else value_name (args_of call)))

abbrev pub field_expr : Call → Expr
field_expr call = field (field_name call) (args_of call)

abbrev pub named_if : Option ℕ → Expr
named_if (Some place) = x.Named place
named_if None = x.Or []

-- a name that no filter statement has, and so is refused, lets nothing pass
abbrev pub named : Names → List Arg → Expr
named names args = named_if (place_in names Filter (text_of (first_item args)))

unfoldable pub filter_expr : Names → Call → Expr
filter_expr names call =
    if is_called (codes "facility" ∷ []) call
    then x.Facility (flat_map (ranges_in Facility) (args_of call))
    else (if is_called (codes "level" ∷ codes "severity" ∷ codes "priority" ∷ []) call
    then x.Level (flat_map (ranges_in Level) (args_of call))
    else (if is_called (codes "tags" ∷ []) call
    then x.Tags (flat_map (λ arg. text_if (item_of arg)) (args_of call))
    else (if is_called (codes "filter" ∷ []) call then named names (args_of call)
    else field_expr call)))

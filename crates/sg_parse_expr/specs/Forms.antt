-- The words of filters, rewrites and their options, with the forms of their arguments (syslog-ng's administration guide, "Filters" and
-- "Rewrite rules").
use Rattle.std.specs.Prelude.{ℕ, if◌then◌else◌, List, [], ◌∷◌, codes, Option, Some, None}
use Rattle.sg_parse_base.specs.Tokens.{same_keyword}
use Rattle.sg_parse_expr.specs.declared.class.WordChoice.TheVariants.{PatternKind, PatternFlag, SubstFlag}
use Rattle.sg_parse_expr.specs.declared.class.Class.TheVariants.{Name, Template, Facility, Level, Word}
use Rattle.sg_parse_expr.specs.declared.form.Flat.{Flat}
use Rattle.sg_parse_expr.specs.declared.form.Flat.TheVariants.{One, Many, Ranges}
use Rattle.sg_parse_expr.specs.declared.form.RewriteOption.{RewriteOption}
use Rattle.sg_parse_expr.specs.declared.form.RewriteOption.TheVariants as option
use Rattle.sg_parse_expr.specs.declared.form.FilterTable.{FilterTable}
use Rattle.sg_parse_expr.specs.declared.form.FilterTable.TheVariants as filter_table
use Rattle.sg_parse_expr.specs.declared.form.RewriteTable.{RewriteTable}
use Rattle.sg_parse_expr.specs.declared.form.RewriteTable.TheVariants as table
use Rattle.sg_parse_expr.specs.declared.form.FilterForm.{FilterForm}
use Rattle.sg_parse_expr.specs.declared.form.FilterForm.TheVariants as filter
use Rattle.sg_parse_expr.specs.declared.form.RewriteForm.{RewriteForm}
use Rattle.sg_parse_expr.specs.declared.form.RewriteForm.TheVariants as rewrite

-- what stands in the first row of that keyword
abbrev pub row_of : {A : Type 0} → List (List ℕ × A) → List ℕ → Option A
row_of [] text = None
row_of (row ∷ rows) text = if same_keyword text row.0 then Some row.1 else row_of rows text

unfoldable pub filter_options : FilterTable → List (List ℕ × Flat)
filter_options filter_table.Pattern =
    (codes "type", One (Word PatternKind)) ∷ (codes "flags", Many (Word PatternFlag)) ∷ []
filter_options filter_table.Match = (codes "type", One (Word PatternKind))
    ∷ (codes "flags", Many (Word PatternFlag)) ∷ (codes "value", One Name) ∷ []

unfoldable pub filters : List (List ℕ × FilterForm)
filters =
    (codes "facility", filter.Flat (Ranges Facility))
    ∷ (codes "level", filter.Flat (Ranges Level))
    ∷ (codes "severity", filter.Flat (Ranges Level))
    ∷ (codes "priority", filter.Flat (Ranges Level))
    ∷ (codes "program", filter.Pattern filter_table.Pattern)
    ∷ (codes "host", filter.Pattern filter_table.Pattern)
    ∷ (codes "message", filter.Pattern filter_table.Pattern)
    ∷ (codes "match", filter.Pattern filter_table.Match)
    ∷ (codes "tags", filter.Flat (Many Name))
    ∷ (codes "filter", filter.Flat (One Name))
    ∷ []

unfoldable pub rewrite_options : RewriteTable → List (List ℕ × RewriteOption)
rewrite_options table.Set = (codes "value", option.Flat (One Name))
    ∷ (codes "condition", option.Condition) ∷ []
rewrite_options table.Subst =
    (codes "value", option.Flat (One Name))
    ∷ (codes "type", option.Flat (One (Word PatternKind)))
    ∷ (codes "flags", option.Flat (Many (Word SubstFlag)))
    ∷ (codes "condition", option.Condition)
    ∷ []
rewrite_options table.Group = (codes "values", option.Flat (Many Name))
    ∷ (codes "condition", option.Condition) ∷ []
rewrite_options table.Tag = (codes "condition", option.Condition) ∷ []

unfoldable pub rewrites : List (List ℕ × RewriteForm)
rewrites =
    (codes "set", rewrite.Named Template table.Set)
    ∷ (codes "unset", rewrite.Options table.Set)
    ∷ (codes "subst", rewrite.Pattern table.Subst)
    ∷ (codes "groupset", rewrite.Named Template table.Group)
    ∷ (codes "groupunset", rewrite.Options table.Group)
    ∷ (codes "set-tag", rewrite.Named Name table.Tag)
    ∷ (codes "clear-tag", rewrite.Named Name table.Tag)
    ∷ []

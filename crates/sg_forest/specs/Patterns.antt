-- The patterns of log statements, in the order in which their elements are made.
use Rattle.std.specs.Prelude.{List, [], ◌++◌, map, Option, Some, None}
use Rattle.sg_parse_expr.specs.declared.tree.Call.{Call}
use Rattle.sg_parse_path.specs.declared.tree.RawElement.{RawElement, fold-RawElement}
use Rattle.sg_parse_path.specs.declared.tree.RawElement.TheOpen.{RawElement-F, RawLog-F, RawBranch-F}
use Rattle.sg_parse_path.specs.declared.tree.RawLog.{RawLog, fold-RawLog}
use Rattle.sg_parse_path.specs.declared.tree.RawBranch.{RawBranch, fold-RawBranch}
use Rattle.sg_filter.specs.Patterns.{joined, patterns_of}
use Rattle.sg_filter.specs.declared.expr.Expr.{Expr}
use Rattle.sg_table.specs.Patterns.{PatternTexts}
use Rattle.sg_names.specs.declared.names.Names.{Names}
use Rattle.sg_lower.specs.Expressions.{expression}
use Rattle.sg_forest.specs.Written.{written_in, written_patterns}
use Rattle.sg_forest.specs.References.{filter_meant, calls_meant}

abbrev pub call_patterns : Names → List Expr → Call → PatternTexts
call_patterns names named call = joined (map (written_patterns named) (written_in names call))

abbrev pub rewrite_patterns : Names → List Expr → List Call → PatternTexts
rewrite_patterns names named calls = joined (map (call_patterns names named) calls)

abbrev pub joined_if : Option (List PatternTexts) → PatternTexts
joined_if None = []
joined_if (Some elements) = joined elements

-- one layer, with the patterns of what it holds in its place
abbrev pub element_step : Names → List (List Call) → List Expr
    → RawElement-F PatternTexts PatternTexts PatternTexts → PatternTexts
element_step names rewrites named (RawElement-F.Source word source) = []
element_step names rewrites named (RawElement-F.Destination destination) = []
element_step names rewrites named (RawElement-F.Filter reference) = patterns_of named
    (filter_meant names reference)
element_step names rewrites named (RawElement-F.Rewrite reference) = rewrite_patterns names named
    (calls_meant names rewrites reference)
element_step names rewrites named (RawElement-F.Parser reference) = []
element_step names rewrites named (RawElement-F.Junction channels) = joined channels
element_step names rewrites named (RawElement-F.If branches other) = joined branches
    ++ joined_if other

abbrev pub branch_step : Names → List Expr → RawBranch-F PatternTexts PatternTexts PatternTexts
    → PatternTexts
branch_step names named branch = patterns_of named (expression names branch.test)
    ++ joined branch.elements

abbrev pub log_step : RawLog-F PatternTexts PatternTexts PatternTexts → PatternTexts
log_step log = joined log.elements ++ joined log.embedded

unfoldable pub element_patterns : Names → List (List Call) → List Expr → RawElement → PatternTexts
element_patterns names rewrites named = fold-RawElement PatternTexts PatternTexts PatternTexts
    (element_step names rewrites named) (branch_step names named) log_step

unfoldable pub branch_patterns : Names → List (List Call) → List Expr → RawBranch → PatternTexts
branch_patterns names rewrites named = fold-RawBranch PatternTexts PatternTexts PatternTexts
    (element_step names rewrites named) (branch_step names named) log_step

unfoldable pub log_patterns : Names → List (List Call) → List Expr → RawLog → PatternTexts
log_patterns names rewrites named = fold-RawLog PatternTexts PatternTexts PatternTexts
    (element_step names rewrites named) (branch_step names named) log_step

abbrev pub elements_patterns : Names → List (List Call) → List Expr → List RawElement → PatternTexts
elements_patterns names rewrites named elements = joined
    (map (element_patterns names rewrites named) elements)

abbrev pub branches_patterns : Names → List (List Call) → List Expr → List RawBranch → PatternTexts
branches_patterns names rewrites named branches = joined
    (map (branch_patterns names rewrites named) branches)

abbrev pub logs_patterns : Names → List (List Call) → List Expr → List RawLog → PatternTexts
logs_patterns names rewrites named logs = joined (map (log_patterns names rewrites named) logs)

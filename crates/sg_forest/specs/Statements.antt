-- What the statements of a configuration say of its log paths.
use Rattle.std.specs.Prelude.{List, [], ◌∷◌, ◌++◌, map, length, codes}
use Rattle.std.specs.List.{flat_map}
use Rattle.sg_lex.specs.declared.place.Line.{Line}
use Rattle.sg_parse_base.specs.Input.{spot_line}
use Rattle.sg_parse_expr.specs.declared.tree.Call.{Call}
use Rattle.sg_parse_obj.specs.declared.object.Object.{Object}
use Rattle.sg_parse_obj.specs.declared.object.Object.TheVariants as object
use Rattle.sg_parse_path.specs.declared.tree.RawLog.{RawLog, out-RawLog}
use Rattle.sg_parse_text.specs.declared.statement.Statement.{Statement}
use Rattle.sg_parse_text.specs.declared.statement.Statement.TheVariants as statement
use Rattle.sg_filter.specs.declared.expr.Expr.{Expr}
use Rattle.sg_filter.specs.Patterns.{joined}
use Rattle.sg_tree.specs.declared.forest.InletRule.{InletRule}
use Rattle.sg_tree.specs.declared.tree.Path.{Path, out-Path}
use Rattle.sg_tree.specs.Readings.{inlet_of}
use Rattle.sg_tree.specs.Offers.{TopStatement, Woods}
use Rattle.sg_table.specs.Patterns.{PatternTexts, filters_patterns}
use Rattle.sg_names.specs.declared.names.Names.{Names}
use Rattle.sg_plan.specs.declared.ends.Endpoints.{Endpoints}
use Rattle.sg_options.specs.Settings.{has_word}
use Rattle.sg_lower.specs.Expressions.{expression}
use Rattle.sg_forest.specs.Written.{WrittenRule, written_in, written_patterns}
use Rattle.sg_forest.specs.References.{source_in, flags_of}
use Rattle.sg_forest.specs.Steps.{log_steps}
use Rattle.sg_forest.specs.Patterns.{log_patterns}

abbrev pub object_filters : Names → Object → List Expr
object_filters names (object.Filter name expr) = expression names expr ∷ []
object_filters names _ = []

abbrev pub filters_at : Names → Statement → List Expr
filters_at names (statement.Object object) = object_filters names object
filters_at names (statement.Log log) = []

-- the expression of each filter statement, used or not
abbrev pub filters_in : Names → List Statement → List Expr
filters_in names statements = flat_map (filters_at names) statements

abbrev pub object_rewrites : Object → List (List Call)
object_rewrites (object.Rewrite name calls) = calls ∷ []
object_rewrites _ = []

abbrev pub rewrites_at : Statement → List (List Call)
rewrites_at (statement.Object object) = object_rewrites object
rewrites_at (statement.Log log) = []

-- the calls of each rewrite statement
abbrev pub rewrites_of : List Statement → List (List Call)
rewrites_of statements = flat_map rewrites_at statements

abbrev pub object_parsers : Object → List (List Call)
object_parsers (object.Parser name calls) = calls ∷ []
object_parsers _ = []

abbrev pub parsers_at : Statement → List (List Call)
parsers_at (statement.Object object) = object_parsers object
parsers_at (statement.Log log) = []

-- the calls of each parser statement
abbrev pub parsers_of : List Statement → List (List Call)
parsers_of statements = flat_map parsers_at statements

-- the calls of each rewrite statement, and behind them those of each parser statement
abbrev pub calls_of : List Statement → List (List Call)
calls_of statements = rewrites_of statements ++ parsers_of statements

abbrev pub written_at : Names → List Call → List WrittenRule
written_at names calls = flat_map (written_in names) calls

-- what they come to, used or not
abbrev pub rewrites_in : Names → List Statement → List WrittenRule
rewrites_in names statements = flat_map (written_at names) (rewrites_of statements)

abbrev pub logs_at : Statement → List RawLog
logs_at (statement.Object object) = []
logs_at (statement.Log log) = log ∷ []

-- the top-level log statements
abbrev pub logs_of : List Statement → List RawLog
logs_of statements = flat_map logs_at statements

unfoldable pub line_in : RawLog → Line
line_in log = spot_line (out-RawLog log).word

abbrev pub line_of : Path → Line
line_of path = (out-Path path).line

-- where each begins
abbrev pub lines_in : List Statement → List Line
lines_in statements = map line_in (logs_of statements)

-- a top-level log statement: the inlets of the sources among its elements, its flags, and what it does
unfoldable pub top_in : Names → Endpoints → List (List Call) → List Expr → RawLog → TopStatement
top_in names ends rewrites named log = record {
  sources = flat_map (source_in ends.inlets) (out-RawLog log).elements;
  catchall = has_word (codes "catchall") (flags_of log);
  marks = (log_steps names ends.outlets rewrites named log).0;
  steps = (log_steps names ends.outlets rewrites named log).1;
}

abbrev pub tops_in : Names → Endpoints → List Statement → List TopStatement
tops_in names ends statements =
    map (top_in names ends (calls_of statements) (filters_in names statements))
    (logs_of statements)

-- what all of them mean over these inlets
abbrev pub woods_in : Names → Endpoints → List InletRule → List Statement → Woods
woods_in names ends inlets statements = record {
  inlets = map inlet_of inlets;
  dests = length ends.outlets;
  tops = tops_in names ends statements;
}

abbrev pub patterns_with : Names → List Statement → List Expr → PatternTexts
patterns_with names statements named =
    filters_patterns named named
    ++ joined (map (written_patterns named) (rewrites_in names statements))
    ++ joined (map (log_patterns names (calls_of statements) named) (logs_of statements))

-- all their patterns, those of filters and rewrites that nothing uses too
abbrev pub patterns_of_text : Names → List Statement → PatternTexts
patterns_of_text names statements = patterns_with names statements (filters_in names statements)

-- What the parts of a lowering make.
use Rattle.std.specs.Prelude.{◌≡◌, List, [], ◌++◌, map, Vec}
use Rattle.std.specs.declared.alloc.Global.{Global}
use Rattle.sg_parse_expr.specs.declared.tree.Call.{Call}
use Rattle.sg_parse_path.specs.declared.tree.RawElement.{RawElement}
use Rattle.sg_parse_path.specs.declared.tree.RawLog.{RawLog}
use Rattle.sg_parse_path.specs.declared.tree.RawBranch.{RawBranch}
use Rattle.sg_filter.specs.Decisions.{decision_of}
use Rattle.sg_filter.specs.declared.expr.Expr.{Expr}
use Rattle.sg_tree.specs.declared.tree.Element.{Element}
use Rattle.sg_tree.specs.declared.tree.Path.{Path}
use Rattle.sg_tree.specs.Offers.{top_view}
use Rattle.sg_tree.specs.Walk.{Steps}
use Rattle.sg_tree.specs.Plain.{in_front, element_view, steps_view}
use Rattle.sg_table.specs.Patterns as table
use Rattle.sg_table.specs.Patterns.{PatternTexts}
use Rattle.sg_table.specs.Compiled.{own, choices}
use Rattle.sg_names.specs.declared.names.Names.{Names}
use Rattle.sg_plan.specs.declared.owner.Owner.{Owner}
use Rattle.sg_plan.specs.declared.ends.Endpoints.{Endpoints}
use Rattle.sg_forest.specs.Statements.{line_of, line_in, top_in}
use Rattle.sg_forest.specs.Steps.{element_steps, branch_steps, log_steps, elements_steps}
use Rattle.sg_forest.specs.Patterns.{element_patterns, branch_patterns, log_patterns, elements_patterns, branches_patterns, logs_patterns}

-- behind the old elements stand those that mean these steps and have these patterns
pub record AddsElements (named : List Expr) (old new : List Element) (steps : Steps → Steps)
    (patterns : PatternTexts) : Type 0 where
  pub steps_are : (rest : Steps) → in_front (map (element_view named) new) rest
      ≡ in_front (map (element_view named) old) (steps rest)
  pub patterns_are : table.list_patterns named new ≡ table.list_patterns named old ++ patterns

-- whatever the list of named filters
abbrev pub AddsElement : Names → List Owner → List (List Call) → RawElement → List Element
    → List Element → Type 0
AddsElement names outlets rewrites element old new =
    (named : List Expr) → AddsElements named old new
    (element_steps names outlets rewrites named element)
    (element_patterns names rewrites named element)

abbrev pub AreElements : Names → List Owner → List (List Call) → List RawElement → List Element
    → Type 0
AreElements names outlets rewrites elements made =
    (named : List Expr) → AddsElements named [] made
    (elements_steps names outlets rewrites named elements)
    (elements_patterns names rewrites named elements)

abbrev pub IsBranch : Names → List Owner → List (List Call) → RawBranch → Expr × Vec Element Global
    → Type 0
IsBranch names outlets rewrites branch made =
    (named : List Expr)
    → ((decision_of named made.0, steps_view named made.1.items [])
    ≡ branch_steps names outlets rewrites named branch)
    × (table.branch_patterns named made ≡ branch_patterns names rewrites named branch)

abbrev pub AreBranches : Names → List Owner → List (List Call) → List RawBranch
    → List (Expr × Vec Element Global) → Type 0
AreBranches names outlets rewrites branches made =
    (named : List Expr)
    → (choices named made ≡ map (branch_steps names outlets rewrites named) branches)
    × (table.choices_patterns named made ≡ branches_patterns names rewrites named branches)

abbrev pub IsLoweredLog : Names → List Owner → List (List Call) → RawLog → Path → Type 0
IsLoweredLog names outlets rewrites log made =
    (named : List Expr)
    → (own named made ≡ log_steps names outlets rewrites named log)
    × (table.path_patterns named made ≡ log_patterns names rewrites named log)

abbrev pub AreLogs : Names → List Owner → List (List Call) → List RawLog → List Path → Type 0
AreLogs names outlets rewrites logs made =
    (named : List Expr)
    → (map (own named) made ≡ map (log_steps names outlets rewrites named) logs)
    × (table.siblings_patterns named made ≡ logs_patterns names rewrites named logs)

-- a top-level statement
pub record IsTop (names : Names) (ends : Endpoints) (rewrites : List (List Call)) (log : RawLog)
    (path : Path) : Type 0 where
  pub top : (named : List Expr) → top_view named path ≡ top_in names ends rewrites named log
  pub patterns : (named : List Expr)
      → table.path_patterns named path ≡ log_patterns names rewrites named log
  pub line : line_of path ≡ line_in log

-- behind the old statements stand these
pub record AddsTops (names : Names) (ends : Endpoints) (rewrites : List (List Call))
    (logs : List RawLog) (old new : List Path) : Type 0 where
  pub tops : (named : List Expr) → map (top_view named) new
      ≡ map (top_view named) old ++ map (top_in names ends rewrites named) logs
  pub patterns : (named : List Expr) → table.siblings_patterns named new
      ≡ table.siblings_patterns named old ++ logs_patterns names rewrites named logs
  pub lines : map line_of new ≡ map line_of old ++ map line_in logs

-- The log paths that a configuration's statements stand for.
use Rattle.std.specs.Prelude.{◌≡◌, List, map}
use Rattle.sg_parse_text.specs.declared.statement.Statement.{Statement}
use Rattle.sg_tree.specs.declared.forest.Forest.{Forest}
use Rattle.sg_tree.specs.declared.forest.InletRule.{InletRule}
use Rattle.sg_tree.specs.Offers.{woods_of}
use Rattle.sg_tree.specs.Laws.{TopsStayWithin}
use Rattle.sg_table.specs.Patterns.{patterns_in}
use Rattle.sg_names.specs.declared.names.Names.{Names}
use Rattle.sg_plan.specs.declared.ends.Endpoints.{Endpoints}
use Rattle.sg_forest.specs.Written.{written_of}
use Rattle.sg_forest.specs.Statements.{line_of, filters_in, rewrites_in, lines_in, woods_in, patterns_of_text}

-- all that contracts see of it
pub record IsForest (names : Names) (ends : Endpoints) (inlets : List InletRule)
    (statements : List Statement) (forest : Forest) : Type 0 where
  pub woods : woods_of forest ≡ woods_in names ends inlets statements
  pub patterns : patterns_in forest ≡ patterns_of_text names statements
  pub lines : map line_of forest.paths.items ≡ lines_in statements
  pub filters : forest.filters.items ≡ filters_in names statements
  pub rewrites : map written_of forest.rewrites.items ≡ rewrites_in names statements
  -- each destination that they name is there
  pub within : TopsStayWithin (woods_of forest).dests (woods_of forest).tops

-- What holds of every filter.
use Rattle.std.specs.Prelude.{◌≡◌, List}
use Rattle.sg_msg.specs.Message.{Content}
use Rattle.sg_filter.specs.declared.expr.Expr.{Expr}
use Rattle.sg_filter.specs.Decisions.{decides, decision_of}
use Rattle.sg_filter.specs.Holds.{holds}

-- what the expression's decision answers is whether it holds
abbrev pub FiltersHold : Type 0
FiltersHold = (named : List Expr) (expr : Expr) (message : Content)
    → decides (decision_of named expr) message ≡ holds named expr message

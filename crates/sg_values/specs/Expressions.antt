-- The values in expressions.
use Rattle.std.specs.Prelude.{List, []}
use Rattle.std.specs.List.{flat_map}
use Rattle.sg_parse_expr.specs.declared.tree.Arg.{Arg}
use Rattle.sg_parse_expr.specs.declared.tree.Arg.TheOpen.{RawExpr-F}
use Rattle.sg_parse_expr.specs.declared.tree.Arg.TheFolds.{para-RawExpr}
use Rattle.sg_parse_expr.specs.declared.tree.Call.{Call}
use Rattle.sg_parse_expr.specs.declared.tree.RawExpr.{RawExpr}
use Rattle.sg_fault.specs.declared.placed.Placed.{Placed}
use Rattle.sg_values.specs.Calls.{filter_faults}

-- one layer, with each part beside its faults
abbrev pub FaultLayer : Type 0
FaultLayer = RawExpr-F (Arg × Unit {0}) (RawExpr × List Placed) (Call × Unit {0})

abbrev pub faults_step : FaultLayer → List Placed
faults_step (RawExpr-F.Call call) = filter_faults call.0
faults_step (RawExpr-F.Compare left cmp right) = []
faults_step (RawExpr-F.And terms) = flat_map (λ t. t.1) terms
faults_step (RawExpr-F.Or terms) = flat_map (λ t. t.1) terms
faults_step (RawExpr-F.Not term) = term.1

unfoldable pub expression_faults : RawExpr → List Placed
expression_faults = para-RawExpr (Unit {0}) (List Placed) (Unit {0}) (λ a. tt) faults_step (λ c. tt)

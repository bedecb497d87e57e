-- What expressions ask of messages.
use Rattle.std.specs.Prelude.{List, map}
use Rattle.sg_parse_expr.specs.declared.tree.Arg.{Arg}
use Rattle.sg_parse_expr.specs.declared.tree.Arg.TheOpen.{RawExpr-F}
use Rattle.sg_parse_expr.specs.declared.tree.Arg.TheFolds.{para-RawExpr}
use Rattle.sg_parse_expr.specs.declared.tree.Call.{Call}
use Rattle.sg_parse_expr.specs.declared.tree.RawExpr.{RawExpr}
use Rattle.sg_filter.specs.declared.expr.Expr.{Expr}
use Rattle.sg_filter.specs.declared.expr.Expr.TheVariants as x
use Rattle.sg_names.specs.declared.names.Names.{Names}
use Rattle.sg_lower.specs.Values.{template_of}
use Rattle.sg_lower.specs.Filters.{filter_expr}

-- one layer, with each part beside what it stands for
abbrev pub LoweredLayer : Type 0
LoweredLayer = RawExpr-F (Arg × Unit {0}) (RawExpr × Expr) (Call × Unit {0})

abbrev pub expr_step : Names → LoweredLayer → Expr
expr_step names (RawExpr-F.Call call) = filter_expr names call.0
expr_step names (RawExpr-F.Compare left cmp right) = x.Compare (template_of left.token.text) cmp
    (template_of right.token.text)
expr_step names (RawExpr-F.And terms) = x.And (map (λ t. t.1) terms)
expr_step names (RawExpr-F.Or terms) = x.Or (map (λ t. t.1) terms)
expr_step names (RawExpr-F.Not term) = x.Not term.1

unfoldable pub expression : Names → RawExpr → Expr
expression names = para-RawExpr (Unit {0}) Expr (Unit {0}) (λ a. tt) (expr_step names) (λ c. tt)

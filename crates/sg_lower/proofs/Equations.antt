-- The equations of expressions.
use Rattle.std.proofs.Common.{◌≡◌, List, [], ◌∷◌, map, refl, sym, ap, ◌∙◌}
use Rattle.sg_lex.specs.declared.place.Cmp.{Cmp}
use Rattle.sg_parse_base.specs.declared.spot.Spot.{Spot}
use Rattle.sg_parse_expr.specs.declared.tree.Arg.TheOpen.{RawExpr-F}
use Rattle.sg_parse_expr.specs.declared.tree.Arg.TheFolds.{para-roll-RawExpr}
use Rattle.sg_parse_expr.specs.declared.tree.Call.{Call}
use Rattle.sg_parse_expr.specs.declared.tree.RawExpr.{RawExpr}
use Rattle.sg_parse_expr.specs.declared.tree.RawExpr.TheVariants as e
use Rattle.sg_parse_expr.specs.declared.tree.RawExpr.TheVariants.{rolls-Call, rolls-Compare, rolls-And, rolls-Or, rolls-Not}
use Rattle.sg_filter.specs.declared.expr.Expr.{Expr}
use Rattle.sg_filter.specs.declared.expr.Expr.TheVariants as x
use Rattle.sg_names.specs.declared.names.Names.{Names}
use Rattle.sg_lower.specs.Values.{template_of}
use Rattle.sg_lower.specs.Filters.{filter_expr}
use Rattle.sg_lower.specs.Expressions.{expr_step, expression}

map-twice : {A B C : Type 0} (f : A → B) (g : B → C) (xs : List A) → map g (map f xs) ≡ map (λ x. g (f x)) xs
map-twice f g [] = refl
map-twice f g (x ∷ xs) = ap (λ ys. g (f x) ∷ ys) (map-twice f g xs)

module _ (names : Names) where
  pub means_call : (call : Call) → expression names (e.Call call) ≡ filter_expr names call
  unfolding expression
  means_call call = ap (expression names) (sym (rolls-Call call)) ∙ para-roll-RawExpr (Unit {0}) Expr (Unit {0}) (λ a. tt) (expr_step names) (λ c. tt) (RawExpr-F.Call call)

  pub means_compare : (left : Spot) (cmp : Cmp) (right : Spot) → expression names (e.Compare left cmp right) ≡ x.Compare (template_of left.token.text) cmp (template_of right.token.text)
  unfolding expression
  means_compare left cmp right = ap (expression names) (sym (rolls-Compare left cmp right)) ∙ para-roll-RawExpr (Unit {0}) Expr (Unit {0}) (λ a. tt) (expr_step names) (λ c. tt) (RawExpr-F.Compare left cmp right)

  pub means_and : (terms : List RawExpr) → expression names (e.And terms) ≡ x.And (map (expression names) terms)
  unfolding expression
  means_and terms = ap (expression names) (sym (rolls-And terms)) ∙ para-roll-RawExpr (Unit {0}) Expr (Unit {0}) (λ a. tt) (expr_step names) (λ c. tt) (RawExpr-F.And terms) ∙ ap x.And (map-twice _ _ terms)

  pub means_or : (terms : List RawExpr) → expression names (e.Or terms) ≡ x.Or (map (expression names) terms)
  unfolding expression
  means_or terms = ap (expression names) (sym (rolls-Or terms)) ∙ para-roll-RawExpr (Unit {0}) Expr (Unit {0}) (λ a. tt) (expr_step names) (λ c. tt) (RawExpr-F.Or terms) ∙ ap x.Or (map-twice _ _ terms)

  pub means_not : (term : RawExpr) → expression names (e.Not term) ≡ x.Not (expression names term)
  unfolding expression
  means_not term = ap (expression names) (sym (rolls-Not term)) ∙ para-roll-RawExpr (Unit {0}) Expr (Unit {0}) (λ a. tt) (expr_step names) (λ c. tt) (RawExpr-F.Not term)

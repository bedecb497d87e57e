use Rattle.std.proofs.Common.{◌≡◌, List, [], ◌∷◌, length, refl, arith}
use Rattle.sg_parse_expr.specs.declared.tree.RawExpr.{RawExpr}
use Rattle.sg_parse_expr.specs.declared.tree.RawExpr.TheVariants as e
use Rattle.sg_parse_expr.specs.Expr.{and_of}
use Rattle.sg_parse_base.proofs.ListSteps.{just_one}
use Rattle.sg_parse_expr.proofs.expr.and_of.Goals as goal

not_one : (terms : List RawExpr) → (length terms ≡ 1 → ⊥) → e.And terms ≡ and_of terms
unfolding and_of
not_one [] h = refl
not_one (a ∷ []) h = absurd (h refl)
not_one (a ∷ b ∷ more) h = refl

pub returns-then-len-eq1 : goal.returns-then-len-eq1
unfolding and_of
returns-then-len-eq1 c = rw (just_one c.args.terms _ (omega arith) c.remove.ensures.item) refl

pub returns-else-len-eq1 : goal.returns-else-len-eq1
returns-else-len-eq1 c = not_one c.args.terms (omega arith)

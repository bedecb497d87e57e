-- The equations of the faults of expressions.
use Rattle.std.proofs.Common.{◌≡◌, List, [], sym, ap, ◌∙◌}
use Rattle.std.specs.List.{flat_map}
use Rattle.std.proofs.lemmas.List.Folds.{flat_map-map}
use Rattle.sg_lex.specs.declared.place.Cmp.{Cmp}
use Rattle.sg_parse_base.specs.declared.spot.Spot.{Spot}
use Rattle.sg_parse_expr.specs.declared.tree.Arg.TheOpen.{RawExpr-F}
use Rattle.sg_parse_expr.specs.declared.tree.Arg.TheFolds.{para-roll-RawExpr}
use Rattle.sg_parse_expr.specs.declared.tree.Call.{Call}
use Rattle.sg_parse_expr.specs.declared.tree.RawExpr.{RawExpr}
use Rattle.sg_parse_expr.specs.declared.tree.RawExpr.TheVariants as e
use Rattle.sg_parse_expr.specs.declared.tree.RawExpr.TheVariants.{rolls-Call, rolls-Compare, rolls-And, rolls-Or, rolls-Not}
use Rattle.sg_fault.specs.declared.placed.Placed.{Placed}
use Rattle.sg_values.specs.Calls.{filter_faults}
use Rattle.sg_values.specs.Expressions.{faults_step, expression_faults}

pub faults_call : (call : Call) → expression_faults (e.Call call) ≡ filter_faults call
unfolding expression_faults
faults_call call = ap expression_faults (sym (rolls-Call call)) ∙ para-roll-RawExpr (Unit {0}) (List Placed) (Unit {0}) (λ a. tt) faults_step (λ c. tt) (RawExpr-F.Call call)

pub faults_compare : (left : Spot) (cmp : Cmp) (right : Spot) → expression_faults (e.Compare left cmp right) ≡ []
unfolding expression_faults
faults_compare left cmp right = ap expression_faults (sym (rolls-Compare left cmp right)) ∙ para-roll-RawExpr (Unit {0}) (List Placed) (Unit {0}) (λ a. tt) faults_step (λ c. tt) (RawExpr-F.Compare left cmp right)

pub faults_and : (terms : List RawExpr) → expression_faults (e.And terms) ≡ flat_map expression_faults terms
unfolding expression_faults
faults_and terms = ap expression_faults (sym (rolls-And terms)) ∙ para-roll-RawExpr (Unit {0}) (List Placed) (Unit {0}) (λ a. tt) faults_step (λ c. tt) (RawExpr-F.And terms) ∙ flat_map-map _ _ terms

pub faults_or : (terms : List RawExpr) → expression_faults (e.Or terms) ≡ flat_map expression_faults terms
unfolding expression_faults
faults_or terms = ap expression_faults (sym (rolls-Or terms)) ∙ para-roll-RawExpr (Unit {0}) (List Placed) (Unit {0}) (λ a. tt) faults_step (λ c. tt) (RawExpr-F.Or terms) ∙ flat_map-map _ _ terms

pub faults_not : (term : RawExpr) → expression_faults (e.Not term) ≡ expression_faults term
unfolding expression_faults
faults_not term = ap expression_faults (sym (rolls-Not term)) ∙ para-roll-RawExpr (Unit {0}) (List Placed) (Unit {0}) (λ a. tt) faults_step (λ c. tt) (RawExpr-F.Not term)

-- The equations of terms.
use Rattle.std.proofs.Common.{◌≡◌, List, [], ◌∷◌, refl, sym, ap, ◌∙◌}
use Rattle.std.specs.List.{flat_map}
use Rattle.std.proofs.lemmas.List.Folds.{flat_map-map}
use Rattle.sg_lex.specs.declared.place.Cmp.{Cmp}
use Rattle.sg_parse_base.specs.declared.spot.Spot.{Spot}
use Rattle.sg_parse_expr.specs.declared.tree.Arg.TheOpen.{RawExpr-F}
use Rattle.sg_parse_expr.specs.declared.tree.Arg.TheFolds.{para-roll-RawExpr}
use Rattle.sg_parse_expr.specs.declared.tree.Call.{Call}
use Rattle.sg_parse_expr.specs.declared.tree.RawExpr.{RawExpr}
use Rattle.sg_parse_expr.specs.declared.tree.RawExpr.TheVariants as e
use Rattle.sg_parse_expr.specs.declared.tree.RawExpr.TheVariants.{rolls-Call, rolls-Compare, rolls-And, rolls-Or, rolls-Not}
use Rattle.sg_names.specs.declared.names.Names.{Names}
use Rattle.sg_names.specs.declared.reference.Term.{Term}
use Rattle.sg_names.specs.Terms.{terms_step, terms_of, call_term, plain_term}

module _ (names : Names) where
  pub terms_call : (call : Call) → terms_of names (e.Call call) ≡ call_term names call ∷ []
  unfolding terms_of
  terms_call call = ap (terms_of names) (sym (rolls-Call call)) ∙ para-roll-RawExpr (Unit {0}) (List Term) (Unit {0}) (λ a. tt) (terms_step names) (λ c. tt) (RawExpr-F.Call call)

  pub terms_compare : (left : Spot) (cmp : Cmp) (right : Spot) → terms_of names (e.Compare left cmp right) ≡ plain_term left ∷ []
  unfolding terms_of
  terms_compare left cmp right = ap (terms_of names) (sym (rolls-Compare left cmp right)) ∙ para-roll-RawExpr (Unit {0}) (List Term) (Unit {0}) (λ a. tt) (terms_step names) (λ c. tt) (RawExpr-F.Compare left cmp right)

  pub terms_and : (terms : List RawExpr) → terms_of names (e.And terms) ≡ flat_map (terms_of names) terms
  unfolding terms_of
  terms_and terms = ap (terms_of names) (sym (rolls-And terms)) ∙ para-roll-RawExpr (Unit {0}) (List Term) (Unit {0}) (λ a. tt) (terms_step names) (λ c. tt) (RawExpr-F.And terms) ∙ flat_map-map _ _ terms

  pub terms_or : (terms : List RawExpr) → terms_of names (e.Or terms) ≡ flat_map (terms_of names) terms
  unfolding terms_of
  terms_or terms = ap (terms_of names) (sym (rolls-Or terms)) ∙ para-roll-RawExpr (Unit {0}) (List Term) (Unit {0}) (λ a. tt) (terms_step names) (λ c. tt) (RawExpr-F.Or terms) ∙ flat_map-map _ _ terms

  pub terms_not : (term : RawExpr) → terms_of names (e.Not term) ≡ terms_of names term
  unfolding terms_of
  terms_not term = ap (terms_of names) (sym (rolls-Not term)) ∙ para-roll-RawExpr (Unit {0}) (List Term) (Unit {0}) (λ a. tt) (terms_step names) (λ c. tt) (RawExpr-F.Not term)

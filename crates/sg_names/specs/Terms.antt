-- The calls and comparisons of an expression.
use Rattle.std.specs.Prelude.{ℕ, if◌then◌else◌, List, [], ◌∷◌, Option, Some, None, codes}
use Rattle.std.specs.List.{flat_map}
use Rattle.sg_parse_base.specs.declared.spot.Spot.{Spot}
use Rattle.sg_parse_base.specs.Input.{spot_line}
use Rattle.sg_parse_base.specs.Tokens.{is_keyword}
use Rattle.sg_parse_expr.specs.declared.tree.Arg.{Arg, out-Arg}
use Rattle.sg_parse_expr.specs.declared.tree.Arg.TheOpen.{Arg-F, RawExpr-F}
use Rattle.sg_parse_expr.specs.declared.tree.Arg.TheFolds.{para-RawExpr}
use Rattle.sg_parse_expr.specs.declared.tree.Call.{Call, out-Call}
use Rattle.sg_parse_expr.specs.declared.tree.RawExpr.{RawExpr}
use Rattle.sg_names.specs.declared.kind.NameKind.{NameKind}
use Rattle.sg_names.specs.declared.kind.NameKind.TheVariants as kind
use Rattle.sg_names.specs.declared.names.Names.{Names}
use Rattle.sg_names.specs.declared.reference.Reference.{Reference}
use Rattle.sg_names.specs.declared.reference.Term.{Term}
use Rattle.sg_names.specs.Registers.{place_in}

abbrev pub reference_of : Names → NameKind → Spot → Reference
reference_of names kind spot =
    record { line = spot_line spot; place = place_in names kind spot.token.text }

abbrev pub filter_at : Names → Arg-F Arg RawExpr Call → Option Reference
filter_at names (Arg-F.Item spot) = Some (reference_of names kind.Filter spot)
filter_at names _ = None

-- the filter that the one argument names
abbrev pub filter_in : Names → List Arg → Option Reference
filter_in names [] = None
filter_in names (arg ∷ []) = filter_at names (out-Arg arg)
filter_in names (a ∷ b ∷ more) = None

abbrev pub plain_term : Spot → Term
plain_term spot = record { line = spot_line spot; filter = None }

unfoldable pub call_term : Names → Call → Term
call_term names call =
    if is_keyword (codes "filter") (out-Call call).word.token
    then record
    { line = spot_line (out-Call call).word; filter = filter_in names (out-Call call).args }
    else plain_term (out-Call call).word

-- one layer, with each part beside its terms
abbrev pub TermLayer : Type 0
TermLayer = RawExpr-F (Arg × Unit {0}) (RawExpr × List Term) (Call × Unit {0})

abbrev pub terms_step : Names → TermLayer → List Term
terms_step names (RawExpr-F.Call call) = call_term names call.0 ∷ []
terms_step names (RawExpr-F.Compare left cmp right) = plain_term left ∷ []
terms_step names (RawExpr-F.And terms) = flat_map (λ t. t.1) terms
terms_step names (RawExpr-F.Or terms) = flat_map (λ t. t.1) terms
terms_step names (RawExpr-F.Not term) = term.1

-- in the order of the text
unfoldable pub terms_of : Names → RawExpr → List Term
terms_of names = para-RawExpr (Unit {0}) (List Term) (Unit {0}) (λ a. tt) (terms_step names)
    (λ c. tt)

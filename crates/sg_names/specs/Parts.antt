-- What stands in statements that refers to names or has a size.
use Rattle.std.specs.Prelude.{List, [], ◌∷◌, map}
use Rattle.std.specs.List.{flat_map}
use Rattle.sg_parse_base.specs.declared.spot.Spot.{Spot}
use Rattle.sg_parse_base.specs.Input.{spot_line}
use Rattle.sg_parse_expr.specs.declared.tree.Arg.{Arg, out-Arg}
use Rattle.sg_parse_expr.specs.declared.tree.Arg.TheOpen.{Arg-F}
use Rattle.sg_parse_expr.specs.declared.tree.Call.{Call, out-Call}
use Rattle.sg_parse_expr.specs.declared.tree.RawExpr.{RawExpr}
use Rattle.sg_parse_obj.specs.declared.object.Object.{Object}
use Rattle.sg_parse_obj.specs.declared.object.Object.TheVariants as object
use Rattle.sg_parse_path.specs.declared.tree.RawRef.{RawRef}
use Rattle.sg_parse_path.specs.declared.tree.RawRef.TheVariants as ref
use Rattle.sg_names.specs.declared.kind.NameKind.{NameKind}
use Rattle.sg_names.specs.declared.kind.NameKind.TheVariants as kind
use Rattle.sg_names.specs.declared.names.Names.{Names}
use Rattle.sg_names.specs.declared.reference.Term.{Term}
use Rattle.sg_names.specs.declared.part.NameUse.{NameUse}
use Rattle.sg_names.specs.declared.part.NameUse.TheVariants as part
use Rattle.sg_names.specs.Terms.{reference_of, terms_of}

abbrev pub tests_at : Names → Arg-F Arg RawExpr Call → List (List Term)
tests_at names (Arg-F.Test expr) = terms_of names expr ∷ []
tests_at names _ = []

-- an expression among the arguments of an option
unfoldable pub tests_in : Names → Arg → List (List Term)
tests_in names arg = tests_at names (out-Arg arg)

abbrev pub options_at : Names → Arg-F Arg RawExpr Call → List (List Term)
options_at names (Arg-F.Nested call) = flat_map (tests_in names) (out-Call call).args
options_at names _ = []

-- the conditions of a rewrite stand in its options
unfoldable pub conditions_in : Names → Arg → List (List Term)
conditions_in names arg = options_at names (out-Arg arg)

unfoldable pub rewrite_part : Names → Call → NameUse
rewrite_part names call = part.Rewrite (spot_line (out-Call call).word)
    (flat_map (conditions_in names) (out-Call call).args)

abbrev pub parser_part : Call → NameUse
parser_part call = part.Parser (spot_line (out-Call call).word)

abbrev pub object_parts : Names → Object → List NameUse
object_parts names (object.Filter name expr) = part.Expression (terms_of names expr) ∷ []
object_parts names (object.Rewrite name calls) = map (rewrite_part names) calls
object_parts names (object.Parser name calls) = map parser_part calls
object_parts names _ = []

abbrev pub named_part : Names → NameKind → Spot → NameUse
named_part names kind.Filter spot = part.Filter (reference_of names kind.Filter spot)
named_part names kind.Rewrite spot = part.Rewrites (reference_of names kind.Rewrite spot)
named_part names kind.Parser spot = part.Parsers (reference_of names kind.Parser spot)
named_part names kind.Source spot = part.End (reference_of names kind.Source spot)
named_part names kind.Destination spot = part.End (reference_of names kind.Destination spot)
named_part names kind.Template spot = part.End (reference_of names kind.Template spot)

-- a name, or what stands in its place
abbrev pub reference_parts : Names → NameKind → RawRef → List NameUse
reference_parts names kind (ref.Named spot) = named_part names kind spot ∷ []
reference_parts names kind (ref.Inline object) = object_parts names object

-- Which filters the filter statements name.
use Rattle.std.specs.Prelude.{ℕ, List, [], ◌∷◌, ◌++◌, length, Option, Some, None}
use Rattle.std.specs.List.{fold, filter_map}
use Rattle.sg_parse_base.specs.declared.spot.Spot.{Spot}
use Rattle.sg_parse_base.specs.Input.{spot_line}
use Rattle.sg_parse_expr.specs.declared.tree.RawExpr.{RawExpr}
use Rattle.sg_parse_obj.specs.declared.object.Object.{Object}
use Rattle.sg_parse_obj.specs.declared.object.Object.TheVariants as object
use Rattle.sg_parse_text.specs.declared.statement.Statement.{Statement}
use Rattle.sg_parse_text.specs.declared.statement.Statement.TheVariants as statement
use Rattle.sg_names.specs.declared.names.Names.{Names}
use Rattle.sg_names.specs.declared.reference.Reference.{Reference}
use Rattle.sg_names.specs.declared.reference.Term.{Term}
use Rattle.sg_names.specs.declared.filters.Filters.{Filters}
use Rattle.sg_names.specs.Terms.{terms_of}

abbrev pub place_if : Option Reference → Option ℕ
place_if None = None
place_if (Some reference) = reference.place

-- the number of the filter that a term names
abbrev pub filter_place : Term → Option ℕ
filter_place term = place_if term.filter

abbrev pub places_in : List Term → List ℕ
places_in terms = filter_map filter_place terms

abbrev pub no_filters : Filters
no_filters = record { lines = []; links = []; own = [] }

abbrev pub with_filter : Names → Filters → Spot → RawExpr → Filters
with_filter names filters name expr = record {
  lines = filters.lines ++ spot_line name ∷ [];
  links = filters.links ++ places_in (terms_of names expr) ∷ [];
  own = filters.own ++ length (terms_of names expr) ∷ [];
}

abbrev pub with_object : Names → Filters → Object → Filters
with_object names filters (object.Filter name expr) = with_filter names filters name expr
with_object names filters _ = filters

-- with a statement more
abbrev pub with_statement : Names → Filters → Statement → Filters
with_statement names filters (statement.Object object) = with_object names filters object
with_statement names filters (statement.Log log) = filters

unfoldable pub filters_of : Names → List Statement → Filters
filters_of names statements = fold (with_statement names) no_filters statements

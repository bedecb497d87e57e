-- How large expressions are.
use Rattle.std.specs.Prelude.{ℕ, ◌+◌, min, List, [], ◌∷◌, ◌++◌, length, map, slice_index, Option, Some, None}
use Rattle.std.specs.List.{fold, sum_by}
use Rattle.sg_parse_obj.specs.declared.object.Object.{Object}
use Rattle.sg_parse_obj.specs.declared.object.Object.TheVariants as object
use Rattle.sg_parse_text.specs.declared.statement.Statement.{Statement}
use Rattle.sg_parse_text.specs.declared.statement.Statement.TheVariants as statement
use Rattle.sg_names.specs.declared.names.Names.{Names}
use Rattle.sg_names.specs.declared.reference.Term.{Term}
use Rattle.sg_names.specs.declared.part.NameUse.{NameUse}
use Rattle.sg_names.specs.declared.part.NameUse.TheVariants as part
use Rattle.sg_names.specs.Filters.{filter_place}
use Rattle.sg_names.specs.Parts.{rewrite_part}

-- above all limits, sizes are counted no further
abbrev pub most : ℕ
most = 65537

abbrev pub capped : ℕ → ℕ
capped size = min most size

-- the size of that number, 0 where there is none
abbrev pub size_at : List ℕ → Option ℕ → ℕ
size_at sizes None = 0
size_at sizes (Some place) = slice_index sizes place

-- A call or a comparison counts 1, and one that names a filter so much more as that filter's expression.
abbrev pub term_size : List ℕ → Term → ℕ
term_size sizes term = 1 + size_at sizes (filter_place term)

abbrev pub terms_size : List ℕ → List Term → ℕ
terms_size sizes terms = sum_by (term_size sizes) terms

-- A rewrite counts 1 and its conditions, a parser 1, and an element that names a filter, a rewrite or a parser as much as what it
-- names.
abbrev pub part_size : List ℕ → List ℕ → List ℕ → NameUse → ℕ
part_size sizes rewrites parsers (part.Expression terms) = terms_size sizes terms
part_size sizes rewrites parsers (part.Rewrite word conditions) =
    1 + sum_by (terms_size sizes) conditions
part_size sizes rewrites parsers (part.Filter reference) = size_at sizes reference.place
part_size sizes rewrites parsers (part.Rewrites reference) = size_at rewrites reference.place
part_size sizes rewrites parsers (part.Parser word) = 1
part_size sizes rewrites parsers (part.Parsers reference) = size_at parsers reference.place
part_size sizes rewrites parsers (part.End reference) = 0

abbrev pub object_sizes : Names → List ℕ → List ℕ → Object → List ℕ
object_sizes names sizes found (object.Rewrite name calls) = found
    ++ capped (sum_by (part_size sizes [] []) (map (rewrite_part names) calls)) ∷ []
object_sizes names sizes found _ = found

abbrev pub statement_sizes : Names → List ℕ → List ℕ → Statement → List ℕ
statement_sizes names sizes found (statement.Object object) = object_sizes names sizes found object
statement_sizes names sizes found (statement.Log log) = found

-- the sizes of the rewrite statements
unfoldable pub rewrite_sizes : Names → List ℕ → List Statement → List ℕ
rewrite_sizes names sizes statements = fold (statement_sizes names sizes) [] statements

abbrev pub parser_sizes_of : List ℕ → Object → List ℕ
parser_sizes_of found (object.Parser name calls) = found ++ capped (length calls) ∷ []
parser_sizes_of found _ = found

abbrev pub parser_sizes_with : List ℕ → Statement → List ℕ
parser_sizes_with found (statement.Object object) = parser_sizes_of found object
parser_sizes_with found (statement.Log log) = found

-- the sizes of the parser statements
unfoldable pub parser_sizes : List Statement → List ℕ
parser_sizes statements = fold parser_sizes_with [] statements

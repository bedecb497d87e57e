-- What names, and what stands in the place of names, mean in log statements.
use Rattle.std.specs.Prelude.{ℕ, ◌+◌, List, [], Option, Some, None, unwrap_or, slice_get}
use Rattle.sg_parse_base.specs.declared.spot.Spot.{Spot}
use Rattle.sg_parse_expr.specs.declared.tree.Call.{Call}
use Rattle.sg_parse_obj.specs.declared.object.Object.{Object}
use Rattle.sg_parse_obj.specs.declared.object.Object.TheVariants as object
use Rattle.sg_parse_path.specs.declared.tree.RawRef.{RawRef}
use Rattle.sg_parse_path.specs.declared.tree.RawRef.TheVariants as ref
use Rattle.sg_parse_path.specs.declared.tree.RawElement.{RawElement, out-RawElement}
use Rattle.sg_parse_path.specs.declared.tree.RawElement.TheOpen.{RawElement-F}
use Rattle.sg_parse_path.specs.declared.tree.RawLog.{RawLog, out-RawLog}
use Rattle.sg_parse_path.specs.declared.tree.RawBranch.{RawBranch}
use Rattle.sg_filter.specs.declared.expr.Expr.{Expr}
use Rattle.sg_filter.specs.declared.expr.Expr.TheVariants as x
use Rattle.sg_names.specs.declared.kind.NameKind.TheVariants as kind
use Rattle.sg_names.specs.declared.names.Names.{Names}
use Rattle.sg_names.specs.Registers.{place_in}
use Rattle.sg_plan.specs.declared.owner.Owner.{Owner}
use Rattle.sg_plan.specs.Owners.{owner_of, numbers_of}
use Rattle.sg_lower.specs.Filters.{named_if}
use Rattle.sg_lower.specs.Expressions.{expression}

-- nothing else than a filter is read there
abbrev pub inline_filter : Names → Object → Expr
inline_filter names (object.Filter name expr) = expression names expr
inline_filter names _ = x.Or []

-- a name means the filter of its number; one that no filter has, and so is refused, lets nothing pass
abbrev pub filter_meant : Names → RawRef → Expr
filter_meant names (ref.Named spot) = named_if (place_in names kind.Filter spot.token.text)
filter_meant names (ref.Inline object) = inline_filter names object

abbrev pub rewrite_calls : Object → List Call
rewrite_calls (object.Rewrite name calls) = calls
rewrite_calls _ = []

abbrev pub calls_at : List (List Call) → Option ℕ → List Call
calls_at rewrites None = []
calls_at rewrites (Some place) = unwrap_or (slice_get rewrites place) []

-- of the rewrite statements' calls, each at its number, those of the statement of that name: none where no statement has it
abbrev pub calls_meant : Names → List (List Call) → RawRef → List Call
calls_meant names rewrites (ref.Named spot) = calls_at rewrites
    (place_in names kind.Rewrite spot.token.text)
calls_meant names rewrites (ref.Inline object) = rewrite_calls object

abbrev pub parser_calls : Object → List Call
parser_calls (object.Parser name calls) = calls
parser_calls _ = []

-- the calls of the parser statement of that number, which stand behind those of the rewrite statements
abbrev pub parsers_at : Names → List (List Call) → Option ℕ → List Call
parsers_at names calls None = []
parsers_at names calls (Some place) = unwrap_or (slice_get calls (names.rewrites.count + place)) []

-- the same of the parser statements
abbrev pub parsers_meant : Names → List (List Call) → RawRef → List Call
parsers_meant names calls (ref.Named spot) = parsers_at names calls
    (place_in names kind.Parser spot.token.text)
parsers_meant names calls (ref.Inline object) = parser_calls object

abbrev pub source_at : List Owner → RawElement-F RawElement RawBranch RawLog → List ℕ
source_at inlets (RawElement-F.Source word source) = numbers_of inlets (owner_of source)
source_at inlets _ = []

-- the inlets of the source that an element names
unfoldable pub source_in : List Owner → RawElement → List ℕ
source_in inlets element = source_at inlets (out-RawElement element)

unfoldable pub flags_of : RawLog → List Spot
flags_of log = (out-RawLog log).flags

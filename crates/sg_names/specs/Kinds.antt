-- The names of statements.
use Rattle.std.specs.Prelude.{Option, Some, None}
use Rattle.sg_parse_base.specs.declared.spot.Spot.{Spot}
use Rattle.sg_parse_obj.specs.declared.object.Object.{Object}
use Rattle.sg_parse_obj.specs.declared.object.Object.TheVariants as object
use Rattle.sg_parse_text.specs.declared.statement.Statement.{Statement}
use Rattle.sg_parse_text.specs.declared.statement.Statement.TheVariants as statement
use Rattle.sg_names.specs.declared.kind.NameKind.{NameKind}
use Rattle.sg_names.specs.declared.kind.NameKind.TheVariants as kind

-- the name of one of this kind
abbrev pub object_name : NameKind → Object → Option Spot
object_name kind.Source (object.Source name drivers) = Some name
object_name kind.Destination (object.Destination name drivers) = Some name
object_name kind.Filter (object.Filter name expr) = Some name
object_name kind.Rewrite (object.Rewrite name calls) = Some name
object_name kind.Parser (object.Parser name calls) = Some name
object_name kind.Template (object.Template name text) = Some name
object_name _ _ = None

abbrev pub name_of : NameKind → Statement → Option Spot
name_of kind (statement.Object object) = object_name kind object
name_of kind (statement.Log log) = None

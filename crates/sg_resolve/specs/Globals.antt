-- The values of global options.
use Rattle.std.specs.Prelude.{List, []}
use Rattle.std.specs.List.{flat_map}
use Rattle.sg_parse_obj.specs.declared.object.Object.{Object}
use Rattle.sg_parse_obj.specs.declared.object.Object.TheVariants as object
use Rattle.sg_parse_text.specs.declared.statement.Statement.{Statement}
use Rattle.sg_parse_text.specs.declared.statement.Statement.TheVariants as statement
use Rattle.sg_fault.specs.declared.placed.Placed.{Placed}
use Rattle.sg_driver.specs.Defaults.{options_faults}

abbrev pub object_faults : Object → List Placed
object_faults (object.Options calls) = options_faults calls
object_faults _ = []

abbrev pub statement_faults : Statement → List Placed
statement_faults (statement.Object object) = object_faults object
statement_faults (statement.Log log) = []

unfoldable pub globals_faults : List Statement → List Placed
globals_faults statements = flat_map statement_faults statements

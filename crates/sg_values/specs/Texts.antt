-- The values of all filters, rewrites and parsers, in the order of the text.
use Rattle.std.specs.Prelude.{List, []}
use Rattle.std.specs.List.{flat_map}
use Rattle.sg_parse_obj.specs.declared.object.Object.{Object}
use Rattle.sg_parse_obj.specs.declared.object.Object.TheVariants as object
use Rattle.sg_parse_path.specs.declared.tree.RawRef.{RawRef}
use Rattle.sg_parse_path.specs.declared.tree.RawRef.TheVariants as ref
use Rattle.sg_parse_text.specs.declared.statement.Statement.{Statement}
use Rattle.sg_visit.specs.Leaves.{Leaf, leaves_of}
use Rattle.sg_fault.specs.declared.placed.Placed.{Placed}
use Rattle.sg_values.specs.Expressions.{expression_faults}
use Rattle.sg_values.specs.Conditions.{rewrite_faults}
use Rattle.sg_values.specs.Parsers.{parser_faults}

abbrev pub object_faults : Object → List Placed
object_faults (object.Filter name expr) = expression_faults expr
object_faults (object.Rewrite name calls) = flat_map rewrite_faults calls
object_faults (object.Parser name calls) = flat_map parser_faults calls
object_faults _ = []

-- of what stands in the place of a name
abbrev pub reference_faults : RawRef → List Placed
reference_faults (ref.Named spot) = []
reference_faults (ref.Inline object) = object_faults object

abbrev pub leaf_faults : Leaf → List Placed
leaf_faults (Leaf.object one) = object_faults one
leaf_faults (Leaf.source word) = []
leaf_faults (Leaf.reference kind one) = reference_faults one
leaf_faults (Leaf.test expr) = expression_faults expr
leaf_faults (Leaf.flags words) = []

unfoldable pub values_faults : List Statement → List Placed
values_faults statements = flat_map leaf_faults (leaves_of statements)

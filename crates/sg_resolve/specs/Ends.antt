-- The drivers that stand in statements, in the order of the text.
use Rattle.std.specs.Prelude.{List, [], map}
use Rattle.std.specs.List.{fold, flat_map}
use Rattle.sg_parse_expr.specs.declared.tree.Call.{Call}
use Rattle.sg_parse_obj.specs.declared.driver.Side.{Side}
use Rattle.sg_parse_obj.specs.declared.driver.Side.TheVariants as side
use Rattle.sg_parse_obj.specs.declared.object.Object.{Object}
use Rattle.sg_parse_obj.specs.declared.object.Object.TheVariants as object
use Rattle.sg_parse_path.specs.declared.tree.RawRef.{RawRef}
use Rattle.sg_parse_path.specs.declared.tree.RawRef.TheVariants as ref
use Rattle.sg_parse_text.specs.declared.statement.Statement.{Statement}
use Rattle.sg_visit.specs.Leaves.{Leaf, leaves_of}
use Rattle.sg_resolve.specs.declared.templates.TemplateTexts.{TemplateTexts}
use Rattle.sg_resolve.specs.declared.driver.DriverCounts.{DriverCounts}
use Rattle.sg_resolve.specs.Drivers.{no_drivers, with_driver}

abbrev pub Drivers : Type 0
Drivers = List (Side × Call)

abbrev pub object_drivers : Object → Drivers
object_drivers (object.Source name calls) = map (λ call. (side.Source, call)) calls
object_drivers (object.Destination name calls) = map (λ call. (side.Destination, call)) calls
object_drivers _ = []

-- of what stands in the place of a name
abbrev pub reference_drivers : RawRef → Drivers
reference_drivers (ref.Named spot) = []
reference_drivers (ref.Inline object) = object_drivers object

abbrev pub leaf_drivers : Leaf → Drivers
leaf_drivers (Leaf.object one) = object_drivers one
leaf_drivers (Leaf.reference kind one) = reference_drivers one
leaf_drivers _ = []

abbrev pub drivers_of : List Statement → Drivers
drivers_of statements = flat_map leaf_drivers (leaves_of statements)

-- what is found of all of them
unfoldable pub counted : TemplateTexts → List Statement → DriverCounts
counted texts statements = fold (with_driver texts) no_drivers (drivers_of statements)

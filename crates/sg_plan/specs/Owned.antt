-- The drivers of a configuration with the statements in which they stand, in the order of the text.
use Rattle.std.specs.Prelude.{Bool, true, false, List, [], map}
use Rattle.std.specs.List.{flat_map}
use Rattle.sg_parse_base.specs.declared.spot.Spot.{Spot}
use Rattle.sg_parse_expr.specs.declared.tree.Call.{Call}
use Rattle.sg_parse_obj.specs.declared.driver.Side.{Side}
use Rattle.sg_parse_obj.specs.declared.driver.Side.TheVariants as side
use Rattle.sg_parse_obj.specs.declared.object.Object.{Object}
use Rattle.sg_parse_obj.specs.declared.object.Object.TheVariants as object
use Rattle.sg_parse_path.specs.declared.tree.RawRef.{RawRef}
use Rattle.sg_parse_path.specs.declared.tree.RawRef.TheVariants as ref
use Rattle.sg_parse_text.specs.declared.statement.Statement.{Statement}
use Rattle.sg_visit.specs.Leaves.{Leaf, leaves_of}
use Rattle.sg_plan.specs.declared.owner.Owner.{Owner}
use Rattle.sg_plan.specs.declared.owner.Owner.TheVariants.{Named, Inline}

abbrev pub Owned : Type 0
Owned = List (Owner × (Side × Call))

-- a statement is known by its name, and what stands in the place of a name by its brace
abbrev pub owner_at : Bool → Spot → Owner
owner_at false name = Named name.token.text
owner_at true name = Inline name.at

abbrev pub calls_at : Bool → Spot → Side → List Call → Owned
calls_at inline name side calls = map (λ call. (owner_at inline name, (side, call))) calls

abbrev pub object_owned : Bool → Object → Owned
object_owned inline (object.Source name calls) = calls_at inline name side.Source calls
object_owned inline (object.Destination name calls) = calls_at inline name side.Destination calls
object_owned inline _ = []

-- of what stands in the place of a name
abbrev pub reference_owned : RawRef → Owned
reference_owned (ref.Named spot) = []
reference_owned (ref.Inline object) = object_owned true object

abbrev pub leaf_owned : Leaf → Owned
leaf_owned (Leaf.object one) = object_owned false one
leaf_owned (Leaf.reference kind one) = reference_owned one
leaf_owned _ = []

abbrev pub owned_drivers : List Statement → Owned
owned_drivers statements = flat_map leaf_owned (leaves_of statements)

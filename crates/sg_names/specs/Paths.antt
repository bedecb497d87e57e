-- What stands in statements that refers to names or has a size, in the order of the text.
use Rattle.std.specs.Prelude.{List, [], ◌∷◌}
use Rattle.std.specs.List.{flat_map}
use Rattle.sg_parse_path.specs.declared.reference.ReferenceKind.{ReferenceKind}
use Rattle.sg_parse_path.specs.declared.reference.ReferenceKind.TheVariants as element
use Rattle.sg_parse_text.specs.declared.statement.Statement.{Statement}
use Rattle.sg_visit.specs.Leaves.{Leaf, leaves_of}
use Rattle.sg_names.specs.declared.kind.NameKind.{NameKind}
use Rattle.sg_names.specs.declared.kind.NameKind.TheVariants as kind
use Rattle.sg_names.specs.declared.names.Names.{Names}
use Rattle.sg_names.specs.declared.part.NameUse.{NameUse}
use Rattle.sg_names.specs.declared.part.NameUse.TheVariants as part
use Rattle.sg_names.specs.Terms.{terms_of}
use Rattle.sg_names.specs.Parts.{object_parts, reference_parts}

-- the kind of the statements that an element of this kind names
abbrev pub kind_of : ReferenceKind → NameKind
kind_of element.Source = kind.Source
kind_of element.Destination = kind.Destination
kind_of element.Filter = kind.Filter
kind_of element.Rewrite = kind.Rewrite
kind_of element.Parser = kind.Parser

abbrev pub leaf_parts : Names → Leaf → List NameUse
leaf_parts names (Leaf.object one) = object_parts names one
leaf_parts names (Leaf.source word) = []
leaf_parts names (Leaf.reference of one) = reference_parts names (kind_of of) one
leaf_parts names (Leaf.test expr) = part.Expression (terms_of names expr) ∷ []
leaf_parts names (Leaf.flags words) = []

unfoldable pub parts_of : Names → List Statement → List NameUse
parts_of names statements = flat_map (leaf_parts names) (leaves_of statements)

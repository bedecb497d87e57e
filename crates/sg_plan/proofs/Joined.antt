-- The drivers with their statements are the drivers.
use Rattle.std.proofs.Common.{◌≡◌, false, List, refl}
use Rattle.sg_parse_text.specs.declared.statement.Statement.{Statement}
use Rattle.sg_visit.specs.Leaves.{Leaf, leaves_of}
use Rattle.sg_resolve.specs.Ends.{leaf_drivers, drivers_of}
use Rattle.sg_plan.specs.Owned.{leaf_owned, owned_drivers}
use Rattle.sg_plan.proofs.Written.{written, object-joined, reference-joined, all-joined}

leaf-joined : (leaf : Leaf) → leaf_drivers leaf ≡ written (leaf_owned leaf)
leaf-joined (Leaf.object one) = object-joined false one
leaf-joined (Leaf.source word) = refl
leaf-joined (Leaf.reference kind one) = reference-joined one
leaf-joined (Leaf.test expr) = refl
leaf-joined (Leaf.flags words) = refl

pub drivers-joined : (statements : List Statement) → drivers_of statements ≡ written (owned_drivers statements)
drivers-joined statements = all-joined leaf_drivers leaf_owned leaf-joined (leaves_of statements)

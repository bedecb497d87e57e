-- The statements to which inlets and drivers of destinations belong.
use Rattle.std.specs.Prelude.{ℕ, ◌+◌, ◌<◌, ◌==◌, Bool, false, if◌then◌else◌, List, [], ◌∷◌, ◌++◌, length, bytes_eq}
use Rattle.std.specs.List.{AllByRecursion}
use Rattle.sg_parse_obj.specs.declared.object.Object.{Object}
use Rattle.sg_parse_obj.specs.declared.object.Object.TheVariants as object
use Rattle.sg_parse_path.specs.declared.tree.RawRef.{RawRef}
use Rattle.sg_parse_path.specs.declared.tree.RawRef.TheVariants as ref
use Rattle.sg_plan.specs.declared.owner.Owner.{Owner}
use Rattle.sg_plan.specs.declared.owner.Owner.TheVariants.{Named, Inline}

-- the place of a statement's name, or of the brace in place of one; 0 for one without either
abbrev pub object_place : Object → ℕ
object_place (object.Options calls) = 0
object_place (object.Source name drivers) = name.at
object_place (object.Destination name drivers) = name.at
object_place (object.Filter name expr) = name.at
object_place (object.Rewrite name calls) = name.at
object_place (object.Parser name calls) = name.at
object_place (object.Template name text) = name.at

-- the statement that a reference means
abbrev pub owner_of : RawRef → Owner
owner_of (ref.Named spot) = Named spot.token.text
owner_of (ref.Inline object) = Inline (object_place object)

abbrev pub is_named : Owner → List ℕ → Bool
is_named (Named own) name = bytes_eq own name
is_named (Inline own) name = false

abbrev pub is_inline : Owner → ℕ → Bool
is_inline (Named own) place = false
is_inline (Inline own) place = own == place

abbrev pub same_owner : Owner → Owner → Bool
same_owner owner (Named name) = is_named owner name
same_owner owner (Inline place) = is_inline owner place

abbrev pub number_if : ℕ → Owner → Owner → List ℕ
number_if number one owner = if same_owner one owner then number ∷ [] else []

-- the numbers of those of one statement, where the first of the list has this number
abbrev pub numbers_from : ℕ → List Owner → Owner → List ℕ
numbers_from number [] owner = []
numbers_from number (one ∷ owners) owner = number_if number one owner
    ++ numbers_from (number + 1) owners owner

abbrev pub numbers_of : List Owner → Owner → List ℕ
numbers_of owners owner = numbers_from 0 owners owner

-- each number is that of one of them
abbrev pub NumbersAreWithin : Type 0
NumbersAreWithin = (owners : List Owner) (owner : Owner)
    → AllByRecursion (λ number. number < length owners) (numbers_of owners owner)

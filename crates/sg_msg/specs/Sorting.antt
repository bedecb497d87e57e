-- Pairs in the order of their names.
use Rattle.std.specs.Prelude.{ℕ, ◌-◌, Bool, false, if◌then◌else◌, List, [], ◌∷◌, ◌++◌, length, take, Option, None, Some, bytes_eq, slice_get}
use Rattle.std.specs.Ordering.{is_lt}
use Rattle.std.specs.List.Sorted.{IsSortedBy, IsStableBy}
use Rattle.sg_msg.specs.Message.{NameValue, byte_order}

-- the first stands before the second by its name
abbrev pub is_before : NameValue → NameValue → Bool
is_before a b = is_lt (byte_order a.name b.name)

-- no pair stands before one of a smaller name
abbrev pub IsInOrder : List NameValue → Type 0
IsInOrder pairs = IsSortedBy is_before pairs

-- those of one name stand in new in the order that they have in old
abbrev pub KeepsEachName : List NameValue → List NameValue → Type 0
KeepsEachName old new = IsStableBy is_before old new

-- there is a pair, and it has this name
abbrev pub is_named : List ℕ → Option NameValue → Bool
is_named name None = false
is_named name (Some pair) = bytes_eq pair.name name

-- the pairs with this one at the end, in the place of one of its name that stands there
abbrev pub put_last : NameValue → List NameValue → List NameValue
put_last pair pairs =
    (if is_named pair.name (slice_get pairs (length pairs - 1)) then take (length pairs - 1) pairs
    else pairs) ++ pair ∷ []

-- the same with one pair after another
abbrev pub put_each : List NameValue → List NameValue → List NameValue
put_each [] kept = kept
put_each (pair ∷ pairs) kept = put_each pairs (put_last pair kept)

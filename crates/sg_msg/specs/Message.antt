-- What a message says, and what a change makes of it.
use Rattle.std.specs.Prelude.{◌≡◌, ◌≢◌, ◌≤◌, ℕ, Bool, false, if◌then◌else◌, List, [], ◌∷◌, ◌++◌, length, Option, Some, None, bytes_eq}
use Rattle.std.specs.List.{list_any}
use Rattle.std.specs.declared.cmp.Ordering.{Ordering}
use Rattle.std.specs.declared.cmp.Ordering.TheVariants.{Less}
use Rattle.std.specs.Ordering.{nat_cmp, match_ordering}
use Rattle.std.specs.Cmp.Lexicographic.{slice_cmp}
use Rattle.sg_time.specs.Stamp.{IsValidStamp}
use Rattle.sg_time.specs.declared.stamp.Stamp.{Stamp}
use Rattle.sg_msg.specs.Macros.{is_hard}

-- a name and its value
pub record NameValue : Type 0 where
  pub name : List ℕ
  pub value : List ℕ

-- what a message says
pub record Content : Type 0 where
  -- the facility times 8, plus the severity (RFC 5424, 6.2.1)
  pub pri : ℕ
  -- the message's own stamp, and that of its arrival
  pub sent : Stamp
  pub received : Stamp
  -- in ascending byte order of distinct names
  pub pairs : List NameValue
  -- distinct, in the order set
  pub tags : List (List ℕ)

-- the first byte that differs decides, and a text comes after each of its prefixes
abbrev pub byte_order : List ℕ → List ℕ → Ordering
byte_order = slice_cmp nat_cmp

-- the value of that name
abbrev pub value_of : List ℕ → List NameValue → Option (List ℕ)
value_of name [] = None
value_of name (pair ∷ pairs) =
    if bytes_eq pair.name name then Some pair.value else value_of name pairs

-- the pairs with this one in the place of the pair of its name, or before the first greater name
abbrev pub with_pair : List ℕ → List ℕ → List NameValue → List NameValue
with_pair name value [] = (record { name = name; value = value }) ∷ []
with_pair name value (pair ∷ pairs) =
    match_ordering (byte_order pair.name name)
    (pair ∷ with_pair name value pairs)
    ((record { name = name; value = value }) ∷ pairs)
    ((record { name = name; value = value }) ∷ pair ∷ pairs)

-- the pairs with these set, one after another
abbrev pub with_all : List NameValue → List NameValue → List NameValue
with_all [] pairs = pairs
with_all (pair ∷ others) pairs = with_all others (with_pair pair.name pair.value pairs)

-- the pairs but for that of this name
abbrev pub without_pair : List ℕ → List NameValue → List NameValue
without_pair name [] = []
without_pair name (pair ∷ pairs) =
    if bytes_eq pair.name name then pairs else pair ∷ without_pair name pairs

-- every other name has the value that it had
abbrev pub KeepsOthers : List ℕ → List NameValue → List NameValue → Type 0
KeepsOthers name old new = (other : List ℕ) → other ≢ name → value_of other new ≡ value_of other old

abbrev pub has_tag : List ℕ → List (List ℕ) → Bool
has_tag tag tags = list_any (λ set. bytes_eq set tag) tags

-- the tags with this one, at the end where it wasn't set
abbrev pub with_tag : List ℕ → List (List ℕ) → List (List ℕ)
with_tag tag tags = if has_tag tag tags then tags else tags ++ tag ∷ []

-- the tags but for this one
abbrev pub without_tag : List ℕ → List (List ℕ) → List (List ℕ)
without_tag tag [] = []
without_tag tag (set ∷ tags) = if bytes_eq set tag then tags else set ∷ without_tag tag tags

-- the name is less than each name of the pairs
abbrev pub IsNameBelow : List ℕ → List NameValue → Type 0
IsNameBelow name [] = Unit {0}
IsNameBelow name (pair ∷ pairs) = (byte_order name pair.name ≡ Less) × IsNameBelow name pairs

-- each name is less than all that follow
abbrev pub IsAscending : List NameValue → Type 0
IsAscending [] = Unit {0}
IsAscending (pair ∷ pairs) = IsNameBelow pair.name pairs × IsAscending pairs

-- what a pair may be called
abbrev pub IsPairName : List ℕ → Type 0
IsPairName name = (1 ≤ length name) × (length name ≤ 255) × (is_hard name ≡ false)

abbrev pub HaveNames : List NameValue → Type 0
HaveNames [] = Unit {0}
HaveNames (pair ∷ pairs) = IsPairName pair.name × HaveNames pairs

-- no tag comes twice
abbrev pub AreDistinct : List (List ℕ) → Type 0
AreDistinct [] = Unit {0}
AreDistinct (tag ∷ tags) = (has_tag tag tags ≡ false) × AreDistinct tags

-- what holds of every message
pub record IsMessage (content : Content) : Type 0 where
  pub pri : content.pri ≤ 191
  pub sent : IsValidStamp content.sent
  pub received : IsValidStamp content.received
  pub ascending : IsAscending content.pairs
  pub names : HaveNames content.pairs
  pub tags : AreDistinct content.tags

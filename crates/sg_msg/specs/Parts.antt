-- Where the names and the values of a message's pairs stand: in its record, or among texts of its own.
use Rattle.std.specs.Prelude.{◌≡◌, ◌<◌, ℕ, ◌&&◌, nat_le, if◌then◌else◌, List, [], ◌∷◌, ◌++◌, length, map, slice_get, slice_range, unwrap_or, Option, None, Some, codes, bytes_eq}
use Rattle.std.specs.List.{All}
use Rattle.sg_msg.specs.Message.{NameValue}
use Rattle.sg_msg.specs.declared.pair.Name.{Name}
use Rattle.sg_msg.specs.declared.pair.Name.TheVariants.{Host, Message, MessageId, Pid, Program, Own as OwnName}
use Rattle.sg_msg.specs.declared.pair.Text.{Text}
use Rattle.sg_msg.specs.declared.pair.Text.TheVariants.{Part, Own, OwnPart}
use Rattle.sg_msg.specs.declared.pair.Pair.{Pair}
use Rattle.sg_msg.specs.declared.texts.Texts.{Texts}

-- the name, where it is one that most records have
abbrev pub known_name : List ℕ → Option Name
known_name name =
    if bytes_eq name (codes "HOST") then Some Host
    else (if bytes_eq name (codes "MESSAGE") then Some Message
    else (if bytes_eq name (codes "MSGID") then Some MessageId
    else (if bytes_eq name (codes "PID") then Some Pid
    else (if bytes_eq name (codes "PROGRAM") then Some Program
    else None))))

-- the place of such a name among those, in the order of their texts
abbrev pub rank : Name → Option ℕ
rank Host = Some 0
rank Message = Some 1
rank MessageId = Some 2
rank Pid = Some 3
rank Program = Some 4
rank (OwnName k) = None

-- the text of this number
abbrev pub own_text : List (List ℕ) → ℕ → List ℕ
own_text own k = unwrap_or (slice_get own k) []

-- the part of the record, and nothing where it hasn't that part
abbrev pub part_text : List ℕ → ℕ → ℕ → List ℕ
part_text item from to =
    if nat_le from to && nat_le to (length item) then slice_range item from to else []

abbrev pub name_in : List (List ℕ) → Name → List ℕ
name_in own Host = codes "HOST"
name_in own Message = codes "MESSAGE"
name_in own MessageId = codes "MSGID"
name_in own Pid = codes "PID"
name_in own Program = codes "PROGRAM"
name_in own (OwnName k) = own_text own k

abbrev pub value_in : List ℕ → List (List ℕ) → Text → List ℕ
value_in item own (Part from to) = part_text item from to
value_in item own (Own k) = own_text own k
value_in item own (OwnPart k from to) = part_text (own_text own k) from to

abbrev pub pair_in : List ℕ → List (List ℕ) → Pair → NameValue
pair_in item own pair = record {
  name = name_in own pair.name;
  value = value_in item own pair.value;
}

abbrev pub pairs_in : List ℕ → List (List ℕ) → List Pair → List NameValue
pairs_in item own pairs = map (pair_in item own) pairs

-- the pairs, by a message's texts
abbrev pub pair_of : Texts → Pair → NameValue
pair_of texts pair = pair_in texts.item texts.own.items pair

abbrev pub pairs_of : Texts → List Pair → List NameValue
pairs_of texts pairs = pairs_in texts.item texts.own.items pairs

-- the name stands there, and isn't one that most records have in another form
abbrev pub IsNameIn : List (List ℕ) → Name → Type 0
IsNameIn own Host = Unit {0}
IsNameIn own Message = Unit {0}
IsNameIn own MessageId = Unit {0}
IsNameIn own Pid = Unit {0}
IsNameIn own Program = Unit {0}
IsNameIn own (OwnName k) = (k < length own) × (known_name (own_text own k) ≡ None)

abbrev pub IsTextIn : List (List ℕ) → Text → Type 0
IsTextIn own (Own k) = k < length own
IsTextIn own (Part from to) = Unit {0}
IsTextIn own (OwnPart k from to) = k < length own

pub record IsPairIn (own : List (List ℕ)) (pair : Pair) : Type 0 where
  pub name : IsNameIn own pair.name
  pub value : IsTextIn own pair.value

abbrev pub AreIn : List (List ℕ) → List Pair → Type 0
AreIn own pairs = All (IsPairIn own) pairs

abbrev pub AreInTexts : Texts → List Pair → Type 0
AreInTexts texts pairs = AreIn texts.own.items pairs

-- no text is lost where more are kept
abbrev pub Extends : List (List ℕ) → List (List ℕ) → Type 0
Extends old new = (more : List (List ℕ)) × (new ≡ old ++ more)

-- one more text is kept, and this is its number
pub record KeepsText (old new : List (List ℕ)) (place : ℕ) (text : List ℕ) : Type 0 where
  pub number : place ≡ length old
  pub texts : new ≡ old ++ text ∷ []

-- a name is kept
pub record KeepsName (old new : List (List ℕ)) (kept : Name) (text : List ℕ) : Type 0 where
  pub stays : Extends old new
  pub there : IsNameIn new kept
  pub says : name_in new kept ≡ text

-- a part of the record is kept
pub record KeepsPart (item : List ℕ) (old new : List (List ℕ)) (kept : Text) (from to : ℕ)
    : Type 0 where
  pub stays : Extends old new
  pub there : IsTextIn new kept
  pub says : value_in item new kept ≡ slice_range item from to

-- a part of one of the texts is kept
pub record KeepsOwnPart (old new : List (List ℕ)) (kept : Text) (place from to : ℕ)
    : Type 0 where
  pub stays : Extends old new
  pub there : IsTextIn new kept
  pub says : (item : List ℕ) → value_in item new kept ≡ slice_range (own_text old place) from to

-- What a line says again of the message that it is written from, each part where it has the form of its field.
use Rattle.std.specs.Prelude.{◌≡◌, ◌≤◌, ℕ, Bool, true, false, List, [], ◌∷◌, length, take, codes, bytes_eq, Option, None, Some, is_some}
use Rattle.std.specs.List.{AllPass, filter, filter_map}
use Rattle.sg_msg.specs.Message.{NameValue, Content, value_of}
use Rattle.sg_msg.specs.Sets.{is_print}
use Rattle.sg_r3164.specs.declared.opts.ReadOpts.{ReadOpts}
use Rattle.sg_template.specs.Texts.{text_of}
use Rattle.sg_template.specs.Elements.{SdItem, sd_name, item_of}
use Rattle.sg_r5424.specs.Grammar.{without_bom}
use Rattle.sg_r5424.specs.Is5424.{without_end}

-- 1 to so many printing characters, other than the nil value (RFC 5424, sections 6.2.4 to 6.2.7)
pub record IsFieldText (limit : ℕ) (value : List ℕ) : Type 0 where
  pub some : 1 ≤ length value
  pub most : length value ≤ limit
  pub print : AllPass is_print value
  pub named : bytes_eq value (codes "-") ≡ false

-- no value, or one of that form
abbrev pub HasFieldForm : ℕ → Option (List ℕ) → Type 0
HasFieldForm limit None = Unit {0}
HasFieldForm limit (Some value) = IsFieldText limit value

-- no byte order mark stands at the front of a text, and no LF or NUL at its end
pub record IsWholeText (text : List ℕ) : Type 0 where
  pub front : without_bom text ≡ text
  pub end : without_end text ≡ text

-- the pairs of structured data
abbrev pub is_data : NameValue → Bool
is_data pair = bytes_eq (take 7 pair.name) (codes ".SDATA.")

abbrev pub data_pairs : List NameValue → List NameValue
data_pairs pairs = filter is_data pairs

-- their names are of the grammar
abbrev pub AreNamed : List NameValue → Type 0
AreNamed [] = Unit {0}
AreNamed (pair ∷ pairs) = (is_data pair ≡ true → is_some (sd_name pair.name) ≡ true)
    × AreNamed pairs

-- whether an element of this ID is open, and whether the items begin with one of it
abbrev pub is_open : Option (List ℕ) → List ℕ → Bool
is_open None id = false
is_open (Some current) id = bytes_eq current id

abbrev pub begin_with : List ℕ → List SdItem → Bool
begin_with id [] = false
begin_with id (item ∷ items) = bytes_eq id item.id

-- a pair that is an element alone has no value, and stands between those of other elements
pub record IsAlone (before : Option (List ℕ)) (id value : List ℕ)
    (behind : List SdItem) : Type 0 where
  pub empty : value ≡ []
  pub begins : is_open before id ≡ false
  pub ends : begin_with id behind ≡ false

abbrev pub HasPlace : Option (List ℕ) → List ℕ → Option (List ℕ) → List ℕ → List SdItem → Type 0
HasPlace before id None value behind = IsAlone before id value behind
HasPlace before id (Some name) value behind = Unit {0}

abbrev pub HavePlaces : Option (List ℕ) → List SdItem → Type 0
HavePlaces before [] = Unit {0}
HavePlaces before (item ∷ items) = HasPlace before item.id item.param item.value items
    × HavePlaces (Some item.id) items

-- structured data that a line has a place for
pub record KeepsData (pairs : List NameValue) : Type 0 where
  pub named : AreNamed pairs
  pub places : HavePlaces None (filter_map item_of pairs)

-- what is said again
pub record SaysAgain (opts : ReadOpts) (message said : Content) : Type 0 where
  pub pri : said.pri ≡ message.pri
  pub host : opts.keep_hostname ≡ true → (value : List ℕ)
      → value_of (codes "HOST") message.pairs ≡ Some value → IsFieldText 255 value
      → value_of (codes "HOST") said.pairs ≡ Some value
  pub program : HasFieldForm 48 (value_of (codes "PROGRAM") message.pairs)
      → value_of (codes "PROGRAM") said.pairs ≡ value_of (codes "PROGRAM") message.pairs
  pub pid : HasFieldForm 128 (value_of (codes "PID") message.pairs)
      → value_of (codes "PID") said.pairs ≡ value_of (codes "PID") message.pairs
  pub msgid : HasFieldForm 32 (value_of (codes "MSGID") message.pairs)
      → value_of (codes "MSGID") said.pairs ≡ value_of (codes "MSGID") message.pairs
  pub text : IsWholeText (text_of (codes "MESSAGE") message.pairs)
      → value_of (codes "MESSAGE") said.pairs ≡ Some (text_of (codes "MESSAGE") message.pairs)
  pub structured : KeepsData message.pairs → data_pairs said.pairs ≡ data_pairs message.pairs

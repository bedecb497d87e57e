-- The items of a stream of bytes, by the two framings of RFC 6587, section 3.4.
use Rattle.std.specs.Prelude.{ℕ, ℤ, ◌+◌, ◌-◌, ◌*◌, List, [], ◌∷◌, ◌++◌, length, Bool, ◌==◌, ◌||◌, ◌&&◌, nat_lt, nat_le, if◌then◌else◌}
use Rattle.sg_device.specs.Inlet.{Stamped}
use Rattle.sg_frame.specs.declared.kind.FrameKind.{FrameKind}
use Rattle.sg_frame.specs.declared.kind.FrameKind.TheVariants.{Lines, Counted}

-- a record's text, the moment of the byte that made it whole, and the place behind its last byte
pub record Item : Type 0 where
  pub text : List ℕ
  pub at : ℤ
  pub end : ℕ

-- what stands open behind the last whole item
pub data Form : Type 0 where
  -- the bytes of a line so far
  Text : (line : List ℕ) → Form
  -- the value of a count's digits so far, 0 before the first
  Count : (value : ℕ) → Form
  -- how many bytes of a counted item are still to come, and those that came
  Body : (missing : ℕ) (text : List ℕ) → Form
  -- a byte at this place can't stand where it does, so nothing behind it is an item
  Bad : (place : ℕ) → Form

-- no bad byte stands open
abbrev pub IsSoundForm : Form → Type 0
IsSoundForm (Text line) = Unit {0}
IsSoundForm (Count value) = Unit {0}
IsSoundForm (Body missing text) = Unit {0}
IsSoundForm (Bad place) = ⊥

-- CR and NUL don't count at the end of a line
abbrev pub is_trailing : ℕ → Bool
is_trailing b = b == 13 || b == 0

-- a byte before a text whose end is trimmed
abbrev pub trimmed_onto : ℕ → List ℕ → List ℕ
trimmed_onto b [] = if is_trailing b then [] else b ∷ []
trimmed_onto b (c ∷ text) = b ∷ c ∷ text

abbrev pub trimmed : List ℕ → List ℕ
trimmed [] = []
trimmed (b ∷ text) = trimmed_onto b (trimmed text)

abbrev pub is_digit : ℕ → Bool
is_digit b = nat_le 48 b && nat_le b 57

-- a count: its first digit isn't 0, and its value is at most the limit
abbrev pub count_of : (limit place value : ℕ) → Form
count_of limit place value = if nat_lt 0 value && nat_le value limit then Count value else Bad place

-- what stands open behind the byte at this place: in a line, LF ends it, and so does one more byte
-- than the limit, which begins the next; a count is digits and one space
abbrev pub open_at : (limit place : ℕ) → Form → ℕ → Form
open_at limit place (Text line) b =
    if b == 10 then Text [] else (if length line == limit then Text (b ∷ [])
    else Text (line ++ b ∷ []))
open_at limit place (Count value) b =
    if is_digit b then count_of limit place (value * 10 + (b - 48))
    else (if b == 32 && nat_lt 0 value then Body value [] else Bad place)
open_at limit place (Body missing text) b =
    if missing == 1 then Count 0 else Body (missing - 1) (text ++ b ∷ [])
open_at limit place (Bad bad) b = Bad bad

abbrev pub item_of : List ℕ → ℤ → ℕ → List Item
item_of text at end = (record { text = text; at = at; end = end }) ∷ []

-- the item that the byte at this place makes whole, if it does
abbrev pub item_at : (limit place : ℕ) → Form → Stamped → List Item
item_at limit place (Text line) b =
    if b.0 == 10 then item_of (trimmed line) b.1 (place + 1)
    else (if length line == limit then item_of (trimmed line) b.1 place else [])
item_at limit place (Count value) b = []
item_at limit place (Body missing text) b =
    if missing == 1 then item_of (text ++ b.0 ∷ []) b.1 (place + 1) else []
item_at limit place (Bad bad) b = []

-- the items that these bytes, from this place on, make whole behind what stands open
abbrev pub items : (limit place : ℕ) → Form → List Stamped → List Item
items limit place form [] = []
items limit place form (b ∷ bytes) =
    item_at limit place form b ++ items limit (place + 1) (open_at limit place form b.0) bytes

-- what stands open behind these bytes
abbrev pub open_after : (limit place : ℕ) → Form → List Stamped → Form
open_after limit place form [] = form
open_after limit place form (b ∷ bytes) = open_after limit (place + 1)
    (open_at limit place form b.0) bytes

-- what stands open where an item may begin
abbrev pub beginning : FrameKind → Form
beginning Lines = Text []
beginning Counted = Count 0

-- the items of a stream
abbrev pub items_of : FrameKind → ℕ → List Stamped → List Item
items_of kind limit bytes = items limit 0 (beginning kind) bytes

-- what stands open at its end
abbrev pub open_of : FrameKind → ℕ → List Stamped → Form
open_of kind limit bytes = open_after limit 0 (beginning kind) bytes

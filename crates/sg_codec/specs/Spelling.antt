-- The bytes of an entry, in the two formats of this program's own. All numbers are big-endian.
use Rattle.std.specs.Prelude.{◌≡◌, ◌<◌, ◌^◌, ◌⊎◌, ℕ, ℤ, Bool, true, false, List, [], ◌∷◌, ◌++◌, length}
use Rattle.std.specs.Int.{Width, w16, w32, w64, to_be_bytes, cast_unsigned}
use Rattle.sg_time.specs.declared.stamp.Stamp.{Stamp}
use Rattle.sg_msg.specs.Message.{Content, NameValue, IsMessage}
use Rattle.sg_codec.specs.declared.kept.Kept.{Kept}

unfoldable pub number_bytes : Width → ℕ → List ℕ
number_bytes width number = to_be_bytes width number

-- in two's complement
abbrev pub signed_bytes : Width → ℤ → List ℕ
signed_bytes width number = number_bytes width (cast_unsigned width number)

abbrev pub flag_bytes : Bool → List ℕ
flag_bytes false = 0 ∷ []
flag_bytes true = 1 ∷ []

-- the moment in microseconds, and the offset in minutes
abbrev pub stamp_bytes : Stamp → List ℕ
stamp_bytes stamp = signed_bytes w64 stamp.at ++ signed_bytes w16 stamp.offset

-- its length, and the bytes
abbrev pub text_bytes : List ℕ → List ℕ
text_bytes text = number_bytes w32 (length text) ++ text

abbrev pub tags_bytes : List (List ℕ) → List ℕ
tags_bytes [] = []
tags_bytes (tag ∷ tags) = text_bytes tag ++ tags_bytes tags

abbrev pub pairs_bytes : List NameValue → List ℕ
pairs_bytes [] = []
pairs_bytes (pair ∷ pairs) = text_bytes pair.name ++ (text_bytes pair.value ++ pairs_bytes pairs)

-- the number of them first
abbrev pub tag_list : List (List ℕ) → List ℕ
tag_list tags = number_bytes w32 (length tags) ++ tags_bytes tags

abbrev pub pair_list : List NameValue → List ℕ
pair_list pairs = number_bytes w32 (length pairs) ++ pairs_bytes pairs

-- what both formats begin with, behind the byte that tells the format: flow, source, end, PRI and the
-- message's own stamp
abbrev pub head_bytes : Kept → List ℕ
head_bytes kept =
    flag_bytes kept.flow ++ (number_bytes w32 kept.source
    ++ (number_bytes w64 kept.end ++ (kept.message.pri ∷ stamp_bytes kept.message.sent)))

-- format 2, in which entries are written
abbrev pub spelling2 : Kept → List ℕ
spelling2 kept =
    2 ∷ (head_bytes kept ++ (stamp_bytes kept.message.received
    ++ (tag_list kept.message.tags ++ pair_list kept.message.pairs)))

-- format 1, the older one, which has neither the stamp of arrival nor tags
abbrev pub spelling1 : Kept → List ℕ
spelling1 kept = 1 ∷ (head_bytes kept ++ pair_list kept.message.pairs)

-- texts whose length is a number of four bytes
abbrev pub AreTexts : List (List ℕ) → Type 0
AreTexts [] = Unit {0}
AreTexts (text ∷ texts) = (length text < 2 ^ 32) × AreTexts texts

abbrev pub HaveValues : List NameValue → Type 0
HaveValues [] = Unit {0}
HaveValues (pair ∷ pairs) = (length pair.value < 2 ^ 32) × HaveValues pairs

-- what has a spelling in format 2
pub record IsSpellable (kept : Kept) : Type 0 where
  pub source : kept.source < 2 ^ 32
  pub end : kept.end < 2 ^ 63
  pub message : IsMessage kept.message
  pub tag_count : length kept.message.tags < 2 ^ 32
  pub tags : AreTexts kept.message.tags
  pub pair_count : length kept.message.pairs < 2 ^ 32
  pub values : HaveValues kept.message.pairs

-- stored form: what format 1 can say
pub record IsStoredForm (content : Content) : Type 0 where
  pub tags : content.tags ≡ []
  pub received : content.received ≡ content.sent

pub record Spells2 (kept : Kept) (bytes : List ℕ) : Type 0 where
  pub fits : IsSpellable kept
  pub spelled : bytes ≡ spelling2 kept

pub record Spells1 (kept : Kept) (bytes : List ℕ) : Type 0 where
  pub fits : IsSpellable kept
  pub stored : IsStoredForm kept.message
  pub spelled : bytes ≡ spelling1 kept

-- the spellings of an entry: one in format 2, and one in format 1 where its message is in stored form
abbrev pub Spells : Kept → List ℕ → Type 0
Spells kept bytes = Spells2 kept bytes ⊎ Spells1 kept bytes

-- The fields of an entry from the left, up to the first that is cut off or out of its range. What a field
-- says is its value and the bytes behind it, or, where it is damaged, how many bytes stand from the first
-- damaged one on.
use Rattle.std.specs.Prelude.{ℕ, zero, suc, pos, negsuc, ◌-◌, ◌^◌, Bool, true, false, not, ◌&&◌, if◌then◌else◌, nat_lt, nat_le, int_le, List, [], ◌∷◌, ◌++◌, length, take, drop, Result, Ok, Err}
use Rattle.std.specs.Int.{Width, w16, w32, w64, byte_len, from_be_bytes, cast_signed}
use Rattle.std.specs.Ordering.{is_lt}
use Rattle.sg_time.specs.declared.stamp.Stamp.{Stamp}
use Rattle.sg_time.specs.Stamp.{local_of}
use Rattle.sg_msg.specs.Macros.{is_hard}
use Rattle.sg_msg.specs.Message.{NameValue, byte_order, has_tag}
use Rattle.sg_codec.specs.declared.kept.Kept.{Kept}
use Rattle.sg_codec.specs.declared.kept.KeptPrefix.{KeptPrefix}

infixl 10 ◌>>=◌
abbrev pub ◌>>=◌ : {A B : Type 0} → Result A ℕ → (A → Result B ℕ) → Result B ℕ
(Ok x) >>= f = f x
(Err left) >>= f = Err left

-- so many bytes
unfoldable pub bytes_at : ℕ → List ℕ → Result (List ℕ × List ℕ) ℕ
bytes_at count bytes = if nat_lt (length bytes) count then Err (length bytes)
    else Ok (take count bytes, drop count bytes)

unfoldable pub number_at : Width → List ℕ → Result (ℕ × List ℕ) ℕ
number_at width bytes =
    if nat_lt (length bytes) (byte_len width) then Err (length bytes)
    else Ok (from_be_bytes width (take (byte_len width) bytes), drop (byte_len width) bytes)

-- 0 or 1
unfoldable pub flag_at : List ℕ → Result (Bool × List ℕ) ℕ
flag_at [] = Err 0
flag_at (zero ∷ rest) = Ok (false, rest)
flag_at (suc zero ∷ rest) = Ok (true, rest)
flag_at (suc (suc other) ∷ rest) = Err (suc (length rest))

-- below 2^63
unfoldable pub end_at : List ℕ → Result (ℕ × List ℕ) ℕ
end_at bytes = do
  end ← number_at w64 bytes
  if nat_lt end.0 (2 ^ 63) then Ok end else Err (length bytes)

-- at most 191
unfoldable pub pri_at : List ℕ → Result (ℕ × List ℕ) ℕ
pri_at [] = Err 0
pri_at (pri ∷ rest) = if nat_le pri 191 then Ok (pri, rest) else Err (suc (length rest))

-- whether the offset and the local year are in their ranges
unfoldable pub is_valid : Stamp → Bool
is_valid stamp =
    int_le (negsuc 1438) stamp.offset && int_le stamp.offset (pos 1439)
    && int_le (negsuc 62167219199999999) (local_of stamp)
    && int_le (local_of stamp) (pos 253402300799999999)

-- one that isn't valid is damaged at its offset
unfoldable pub stamp_at : List ℕ → Result (Stamp × List ℕ) ℕ
stamp_at bytes = do
  at ← number_at w64 bytes
  offset ← number_at w16 at.1
  let stamp : Stamp = record { at = cast_signed w64 at.0; offset = cast_signed w16 offset.0 } in
      if is_valid stamp then Ok (stamp, offset.1) else Err (length at.1)

-- one that is cut off is damaged behind its length
unfoldable pub text_at : List ℕ → Result (List ℕ × List ℕ) ℕ
text_at bytes = do
  size ← number_at w32 bytes
  bytes_at size.0 size.1

-- tags behind those before them; one that was set before is damaged at its length
unfoldable pub tags_at : ℕ → List (List ℕ) → List ℕ → Result (List (List ℕ) × List ℕ) ℕ
tags_at zero before bytes = Ok (before, bytes)
tags_at (suc count) before bytes = do
  tag ← text_at bytes
  if has_tag tag.0 before then Err (length bytes) else tags_at count (before ++ tag.0 ∷ []) tag.1

-- 1 to 255
unfoldable pub name_size_at : List ℕ → Result (ℕ × List ℕ) ℕ
name_size_at bytes = do
  size ← number_at w32 bytes
  if nat_le 1 size.0 && nat_le size.0 255 then Ok size else Err (length bytes)

-- a name that is greater than the one before it, and isn't a macro's
abbrev pub may_follow : List ℕ → List ℕ → Bool
may_follow last name = is_lt (byte_order last name) && not (is_hard name)

unfoldable pub name_at : List ℕ → List ℕ → Result (List ℕ × List ℕ) ℕ
name_at last bytes = do
  size ← name_size_at bytes
  name ← bytes_at size.0 size.1
  if may_follow last name.0 then Ok name else Err (length size.1)

-- the greatest name of ascending pairs, and the empty text, below every name, where there is none
abbrev pub last_name : List NameValue → List ℕ
last_name [] = []
last_name (pair ∷ []) = pair.name
last_name (pair ∷ next ∷ pairs) = last_name (next ∷ pairs)

-- pairs behind those before them
unfoldable pub pairs_at : ℕ → List NameValue → List ℕ → Result (List NameValue × List ℕ) ℕ
pairs_at zero before bytes = Ok (before, bytes)
pairs_at (suc count) before bytes = do
  name ← name_at (last_name before) bytes
  value ← text_at name.1
  pairs_at count (before ++ (record { name = name.0; value = value.0 }) ∷ []) value.1

unfoldable pub tag_list_at : List ℕ → Result (List (List ℕ) × List ℕ) ℕ
tag_list_at bytes = do
  count ← number_at w32 bytes
  tags_at count.0 [] count.1

unfoldable pub pair_list_at : List ℕ → Result (List NameValue × List ℕ) ℕ
pair_list_at bytes = do
  count ← number_at w32 bytes
  pairs_at count.0 [] count.1

-- what both formats begin with, behind the byte that tells the format
unfoldable pub head_at : List ℕ → Result (KeptPrefix × List ℕ) ℕ
head_at bytes = do
  flow ← flag_at bytes
  source ← number_at w32 flow.1
  end ← end_at source.1
  pri ← pri_at end.1
  sent ← stamp_at pri.1
  Ok (record { flow = flow.0; source = source.0; end = end.0; pri = pri.0; sent = sent.0 }, sent.1)

abbrev pub kept_of : KeptPrefix → Stamp → List (List ℕ) → List NameValue → Kept
kept_of head received tags pairs =
    record {
      source = head.source;
      end = head.end;
      flow = head.flow;
      message = record {
        pri = head.pri;
        sent = head.sent;
        received = received;
        pairs = pairs;
        tags = tags;
      };
    }

-- the pairs, behind which nothing follows
unfoldable pub last_at : KeptPrefix → Stamp → List (List ℕ) → List ℕ → Result Kept ℕ
last_at head received tags bytes = do
  pairs ← pair_list_at bytes
  if nat_lt 0 (length pairs.1) then Err (length pairs.1)
      else Ok (kept_of head received tags pairs.0)

unfoldable pub format1_at : List ℕ → Result Kept ℕ
format1_at bytes = do
  head ← head_at bytes
  last_at head.0 head.0.sent [] head.1

unfoldable pub format2_at : List ℕ → Result Kept ℕ
format2_at bytes = do
  head ← head_at bytes
  received ← stamp_at head.1
  tags ← tag_list_at received.1
  last_at head.0 received.0 tags.0 tags.1

-- the byte of the format, and the fields of that format
unfoldable pub entry_at : List ℕ → Result Kept ℕ
entry_at [] = Err 0
entry_at (suc zero ∷ rest) = format1_at rest
entry_at (suc (suc zero) ∷ rest) = format2_at rest
entry_at (other ∷ rest) = Err (suc (length rest))

-- the entry that the bytes spell, or the place of the first damaged byte
abbrev pub placed : ℕ → Result Kept ℕ → Result Kept ℕ
placed count (Ok kept) = Ok kept
placed count (Err left) = Err (count - left)

unfoldable pub reading : List ℕ → Result Kept ℕ
reading bytes = placed (length bytes) (entry_at bytes)

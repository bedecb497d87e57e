-- The STRUCTURED-DATA that the pairs of a message come to (RFC 5424, 6.3). The parameter NAME of the element ID is the pair `.SDATA.ID.NAME`,
-- and an element without parameters the pair `.SDATA.ID` (syslog-ng's administration guide, "SDATA").
use Rattle.std.specs.Prelude.{ℕ, ◌+◌, ◌==◌, ◌&&◌, not, nat_lt, Bool, true, false, if◌then◌else◌, List, [], ◌∷◌, ◌++◌, length, take, drop, Option, Some, None, codes, bytes_eq}
use Rattle.std.specs.List.{prefix_len, list_all, filter_map, flat_map}
use Rattle.std.specs.Option.{option_map}
use Rattle.sg_msg.specs.Message.{NameValue}
use Rattle.sg_msg.specs.Priority.{is_digit}
use Rattle.sg_msg.specs.Sets.{is_sd_byte, is_escaped}

-- an element's ID, and the name of a parameter, if it is one
pub record SdName : Type 0 where
  pub id : List ℕ
  pub param : Option (List ℕ)

pub record SdItem : Type 0 where
  pub id : List ℕ
  pub param : Option (List ℕ)
  pub value : List ℕ

-- 1 to 32 bytes of a name
abbrev pub is_sd_name : List ℕ → Bool
is_sd_name bytes = if length bytes == 0 then false
    else (if nat_lt 32 (length bytes) then false else list_all is_sd_byte bytes)

abbrev pub is_no_dot : ℕ → Bool
is_no_dot b = not (b == 46)

abbrev pub is_no_at : ℕ → Bool
is_no_at b = not (b == 64)

abbrev pub begins_with_digit : List ℕ → Bool
begins_with_digit [] = false
begins_with_digit (b ∷ text) = is_digit b

-- how many bytes stand before the first dot that no digit follows
abbrev pub before_dot : List ℕ → ℕ
before_dot [] = 0
before_dot (b ∷ text) = if b == 46 && not (begins_with_digit text) then 0 else before_dot text + 1

-- The length of the ID: up to the first dot behind the first `@` that no digit follows, since the number there may have dots
-- of its own (RFC 5424, 7.2.2), and without an `@` up to the first dot.
abbrev pub id_length : List ℕ → ℕ
id_length text =
    let at = prefix_len is_no_at text in
    if at == length text then prefix_len is_no_dot text else at + before_dot (drop at text)

-- an ID alone, or an ID and a name around that dot
abbrev pub split_name : List ℕ → SdName
split_name text =
    let len = id_length text in
    if len == length text then (record { id = text; param = None })
    else (record { id = take len text; param = Some (drop (len + 1) text) })

abbrev pub is_param_name : Option (List ℕ) → Bool
is_param_name None = true
is_param_name (Some name) = is_sd_name name

abbrev pub checked : SdName → Option SdName
checked found = if is_sd_name found.id && is_param_name found.param then Some found else None

-- what the name of a pair says, where it is of the grammar
unfoldable pub sd_name : List ℕ → Option SdName
sd_name name = if bytes_eq (take 7 name) (codes ".SDATA.") then checked (split_name (drop 7 name))
    else None

abbrev pub item_of : NameValue → Option SdItem
item_of pair =
    option_map (λ found. record { id = found.id; param = found.param; value = pair.value })
    (sd_name pair.name)

-- `"`, `\` and `]` stand behind a backslash
abbrev pub escaped_byte : ℕ → List ℕ
escaped_byte b = if is_escaped b then 92 ∷ b ∷ [] else b ∷ []

abbrev pub escaped : List ℕ → List ℕ
escaped value = flat_map escaped_byte value

-- ` NAME="VALUE"`
abbrev pub param_text : Option (List ℕ) → List ℕ → List ℕ
param_text None value = []
param_text (Some name) value = codes " " ++ name ++ (61 ∷ 34 ∷ []) ++ escaped value ++ (34 ∷ [])

-- `[ID`, behind the end of the element of another ID; nothing where the element of this ID is open
abbrev pub opening_text : Option (List ℕ) → List ℕ → List ℕ
opening_text None id = codes "[" ++ id
opening_text (Some current) id = if bytes_eq current id then [] else codes "][" ++ id

abbrev pub item_text : Option (List ℕ) → SdItem → List ℕ
item_text current item = opening_text current item.id ++ param_text item.param item.value

-- the elements, behind the beginning of the one that is open; `-` where there is none
abbrev pub elements_text : Option (List ℕ) → List SdItem → List ℕ
elements_text None [] = codes "-"
elements_text (Some current) [] = codes "]"
elements_text current (item ∷ items) = item_text current item ++ elements_text (Some item.id) items

unfoldable pub sdata_text : List NameValue → List ℕ
sdata_text pairs = elements_text None (filter_map item_of pairs)

-- The fields of a text with delimiters (syslog-ng's administration guide, "Parsing messages with comma-separated and similar values";
-- a quote within quotes is doubled: dialect(escape-double-char), quote-pairs('""')).
use Rattle.std.specs.Prelude.{ℕ, ◌+◌, ◌==◌, ◌&&◌, Bool, false, not, min, if◌then◌else◌, List, [], ◌∷◌, ◌++◌, length}
use Rattle.std.specs.List.{list_any, prefix_len}
use Rattle.sg_msg.specs.Priority.{has_at}
use Rattle.sg_parsers.specs.declared.fields.FieldPosition.{FieldPosition}
use Rattle.sg_parsers.specs.declared.fields.FieldPosition.TheVariants.{Front, Plain, Quoted, Closing}

abbrev pub is_delimiter : List ℕ → ℕ → Bool
is_delimiter delimiters b = list_any (λ delimiter. delimiter == b) delimiters

abbrev pub is_no_quote : ℕ → Bool
is_no_quote b = not (b == 34)

-- a delimiter outside of quotes ends a field
abbrev pub ends : List ℕ → FieldPosition → ℕ → Bool
ends delimiters Front b = is_delimiter delimiters b
ends delimiters Plain b = is_delimiter delimiters b
ends delimiters Quoted b = false
ends delimiters Closing b = is_delimiter delimiters b

-- Where the byte behind this one stands. A field that begins with a quote is in quotes up to the next one; two quotes there are
-- one, and what follows the last one is written as it is.
abbrev pub behind : FieldPosition → ℕ → FieldPosition
behind Front b = if b == 34 then Quoted else Plain
behind Plain b = Plain
behind Quoted b = if b == 34 then Closing else Quoted
behind Closing b = if b == 34 then Quoted else Plain

-- what a byte adds to the field's value
abbrev pub added : FieldPosition → ℕ → List ℕ
added Front b = if b == 34 then [] else b ∷ []
added Plain b = b ∷ []
added Quoted b = if b == 34 then [] else b ∷ []
added Closing b = b ∷ []

-- how many bytes the rest of a field has, up to its delimiter or the end
abbrev pub len_from : List ℕ → FieldPosition → List ℕ → ℕ
len_from delimiters within [] = 0
len_from delimiters within (b ∷ text) =
    if ends delimiters within b then 0 else 1 + len_from delimiters (behind within b) text

abbrev pub field_len : List ℕ → List ℕ → ℕ
field_len delimiters text = len_from delimiters Front text

-- what the rest of a field says
abbrev pub value_from : FieldPosition → List ℕ → List ℕ
value_from within [] = []
value_from within (b ∷ text) = added within b ++ value_from (behind within b) text

abbrev pub field_value : List ℕ → List ℕ
field_value written = value_from Front written

-- how many fields there are from here on: a delimiter stands between two
abbrev pub fields_from : List ℕ → FieldPosition → List ℕ → ℕ
fields_from delimiters within [] = 1
fields_from delimiters within (b ∷ text) =
    if ends delimiters within b then 1 + fields_from delimiters Front text
    else fields_from delimiters (behind within b) text

abbrev pub field_count : List ℕ → List ℕ → ℕ
field_count delimiters text = fields_from delimiters Front text

-- the text begins with a quote that is no delimiter
abbrev pub opens : List ℕ → List ℕ → Bool
opens delimiters text = has_at text 0 34 && not (is_delimiter delimiters 34)

-- how many bytes stand up to and with the first quote, all where there is none
abbrev pub through_quote : List ℕ → ℕ
through_quote text = min (prefix_len is_no_quote text + 1) (length text)

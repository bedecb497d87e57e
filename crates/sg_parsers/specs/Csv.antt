-- What csv-parser() makes of a text (syslog-ng's administration guide, "Options of CSV parsers").
use Rattle.std.specs.Prelude.{ℕ, ◌+◌, ◌==◌, ◌||◌, ◌&&◌, not, nat_le, nat_lt, Bool, if◌then◌else◌, List, [], ◌∷◌, ◌++◌, length, take, drop, map, Option, None, Some}
use Rattle.std.specs.List.{list_all}
use Rattle.sg_msg.specs.Message.{NameValue, Content, with_all}
use Rattle.sg_parsers.specs.declared.csv.Csv.{Csv}
use Rattle.sg_parsers.specs.Names.{may_name}
use Rattle.sg_parsers.specs.Fields.{field_len, field_value, field_count}

-- what a column is called
abbrev pub prefixed : List ℕ → List (List ℕ) → List (List ℕ)
prefixed prefix columns = map (λ column. prefix ++ column) columns

-- the parser with these names, where pairs may be called so
abbrev pub if_names : Csv → Option Csv
if_names csv = if list_all may_name csv.names then Some csv else None

-- the text behind the first field and its delimiter
abbrev pub behind_field : List ℕ → List ℕ → Option (List ℕ)
behind_field delimiters text =
    let len = field_len delimiters text in
    if nat_lt len (length text) then Some (drop (len + 1) text) else None

-- the value of a column whose field begins the text; the last one's with greedy is the text
abbrev pub column_value : List ℕ → Bool → List ℕ → List ℕ
column_value delimiters whole text =
    if whole then text else field_value (take (field_len delimiters text) text)

-- Each column gets its field. Columns that have none get nothing, and fields past the columns are passed over.
abbrev pub column_pairs : List ℕ → Bool → List (List ℕ) → Option (List ℕ) → List NameValue
column_pairs delimiters greedy [] rest = []
column_pairs delimiters greedy (name ∷ names) None = []
column_pairs delimiters greedy (name ∷ names) (Some text) =
    (record { name = name; value = column_value delimiters (greedy && length names == 0) text })
    ∷ column_pairs delimiters greedy names (behind_field delimiters text)

abbrev pub csv_pairs : Csv → List ℕ → List NameValue
csv_pairs csv text = column_pairs csv.delimiters csv.greedy csv.names (Some text)

-- as many fields as columns, or with greedy at least as many
abbrev pub are_enough : Bool → ℕ → ℕ → Bool
are_enough greedy columns fields = if greedy then nat_le columns fields else fields == columns

-- the text isn't refused
abbrev pub csv_takes : Csv → List ℕ → Bool
csv_takes csv text =
    not csv.drop_invalid
    || are_enough csv.greedy (length csv.names) (field_count csv.delimiters text)

-- the message that it gives; a text that is refused changes nothing
abbrev pub csv_parsed : Csv → List ℕ → Content → Content
csv_parsed csv text content =
    if csv_takes csv text
    then record content { pairs = with_all (csv_pairs csv text) content.pairs }
    else content

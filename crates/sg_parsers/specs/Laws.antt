-- What parsers of columns do, in the words of who writes the texts.
use Rattle.std.specs.Prelude.{◌≡◌, ℕ, ◌==◌, Bool, true, false, if◌then◌else◌, List, [], ◌∷◌, ◌++◌, length, Some, bytes_eq}
use Rattle.std.specs.List.{list_any}
use Rattle.sg_msg.specs.Message.{NameValue, Content, value_of}
use Rattle.sg_parsers.specs.declared.csv.Csv.{Csv}
use Rattle.sg_parsers.specs.Fields.{is_delimiter, field_count}
use Rattle.sg_parsers.specs.Csv.{column_pairs, csv_parsed}

-- each quote twice
abbrev pub doubled : List ℕ → List ℕ
doubled [] = []
doubled (b ∷ value) = if b == 34 then 34 ∷ 34 ∷ doubled value else b ∷ doubled value

-- a value and others behind it, each in quotes, with the delimiter between two
abbrev pub row_of : ℕ → List ℕ → List (List ℕ) → List ℕ
row_of delimiter value [] = 34 ∷ (doubled value ++ 34 ∷ [])
row_of delimiter value (next ∷ values) =
    34 ∷ (doubled value ++ 34 ∷ delimiter ∷ row_of delimiter next values)

abbrev pub pair_of : List ℕ → List ℕ → NameValue
pair_of name value = record { name = name; value = value }

-- each name with its value
abbrev pub beside : List (List ℕ) → List (List ℕ) → List NameValue
beside [] values = []
beside (name ∷ names) [] = []
beside (name ∷ names) (value ∷ values) = pair_of name value ∷ beside names values

-- the byte is one of the delimiters, and a quote is none
pub record IsDelimiter (delimiters : List ℕ) (delimiter : ℕ) : Type 0 where
  pub one : is_delimiter delimiters delimiter ≡ true
  pub quote : is_delimiter delimiters 34 ≡ false

-- what was written in quotes is read as it was, and has as many fields
abbrev pub ColumnsAreRead : Type 0
ColumnsAreRead = (delimiters : List ℕ) (delimiter : ℕ) (names : List (List ℕ)) (value : List ℕ)
    (values : List (List ℕ)) → IsDelimiter delimiters delimiter
    → column_pairs delimiters false names (Some (row_of delimiter value values))
    ≡ beside names (value ∷ values)

abbrev pub FieldsAreCounted : Type 0
FieldsAreCounted = (delimiters : List ℕ) (delimiter : ℕ) (value : List ℕ) (values : List (List ℕ))
    → IsDelimiter delimiters delimiter
    → field_count delimiters (row_of delimiter value values) ≡ length (value ∷ values)

-- a name that is no column's keeps its value
abbrev pub OthersAreKept : Type 0
OthersAreKept = (csv : Csv) (text name : List ℕ) (content : Content)
    → list_any (λ column. bytes_eq column name) csv.names ≡ false
    → value_of name (csv_parsed csv text content).pairs ≡ value_of name content.pairs

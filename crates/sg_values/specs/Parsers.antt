-- The values of parsers.
use Rattle.std.specs.Prelude.{ℕ, ◌==◌, nat_lt, Bool, false, ◌||◌, not, if◌then◌else◌, List, [], ◌∷◌, ◌++◌, length, Option, Some, None, codes}
use Rattle.std.specs.List.{flat_map, list_any}
use Rattle.sg_lex.specs.declared.fault.ConfigKind.TheVariants.{HardMacro}
use Rattle.sg_msg.specs.Macros.{is_hard}
use Rattle.sg_parsers.specs.Values.{is_key_byte}
use Rattle.sg_parse_base.specs.declared.spot.Spot.{Spot}
use Rattle.sg_parse_base.specs.Input.{spot_line}
use Rattle.sg_parse_expr.specs.declared.tree.Arg.{Arg}
use Rattle.sg_parse_expr.specs.declared.tree.Call.{Call, out-Call}
use Rattle.sg_fault.specs.declared.placed.Placed.{Placed}
use Rattle.sg_options.specs.Settings.{args_of, calls_of, item_of, is_called, last_option, last_value}
use Rattle.sg_options.specs.Values.{text_of}
use Rattle.sg_options.specs.Checks.{bad_value}
use Rattle.sg_values.specs.Settings.{missing}

abbrev pub bad_if : Bool → Spot → List Placed
bad_if test spot = if test then bad_value spot ∷ [] else []

-- delimiters and a pair separator have 1 to 16 bytes
abbrev pub length_faults : Option Spot → List Placed
length_faults None = []
length_faults (Some spot) =
    bad_if ((length spot.token.text == 0) || nat_lt 16 (length spot.token.text)) spot

-- a quote is no delimiter
abbrev pub quote_faults : Option Spot → List Placed
quote_faults None = []
quote_faults (Some spot) = bad_if (list_any (λ b. b == 34) spot.token.text) spot

abbrev pub delimiter_faults : Option Spot → List Placed
delimiter_faults value = length_faults value ++ quote_faults value

-- one byte that no key has, no quote and no backslash
abbrev pub is_separator : List ℕ → Bool
is_separator (b ∷ []) = not (is_key_byte b || (b == 34 || b == 92))
is_separator _ = false

abbrev pub separator_faults : Option Spot → List Placed
separator_faults None = []
separator_faults (Some spot) = bad_if (not (is_separator spot.token.text)) spot

-- with the prefix, a column has 1 to 255 bytes, and is no macro's name: that at the parser's word
abbrev pub column_name_faults : Spot → List ℕ → Spot → List Placed
column_name_faults word prefix column =
    let name = prefix ++ column.token.text in
    if (length name == 0) || nat_lt 255 (length name) then bad_value column ∷ []
    else (if is_hard name then (record { kind = HardMacro; line = spot_line word }) ∷ [] else [])

abbrev pub name_faults_if : Spot → List ℕ → Option Spot → List Placed
name_faults_if word prefix None = []
name_faults_if word prefix (Some column) = column_name_faults word prefix column

abbrev pub column_faults : Spot → List ℕ → Arg → List Placed
column_faults word prefix arg = name_faults_if word prefix (item_of arg)

-- 1 to 64 columns: at the word of `columns`
abbrev pub count_faults : Call → List Placed
count_faults option =
    bad_if ((length (args_of option) == 0) || nat_lt 64 (length (args_of option)))
    (out-Call option).word

abbrev pub columns_faults : Spot → List ℕ → Option Call → List Placed
columns_faults word prefix None = []
columns_faults word prefix (Some option) = count_faults option
    ++ flat_map (column_faults word prefix) (args_of option)

-- columns and delimiters are wanted
abbrev pub wanted_faults : Call → List Placed
wanted_faults call = missing (codes "columns") call ++ missing (codes "delimiters") call

abbrev pub csv_faults : Call → List Placed
csv_faults call =
    let calls = calls_of (args_of call) in
    let prefix = text_of (last_value (codes "prefix" ∷ []) calls) in
    (wanted_faults call ++ delimiter_faults (last_value (codes "delimiters" ∷ []) calls))
    ++ columns_faults (out-Call call).word prefix (last_option (codes "columns" ∷ []) calls)

abbrev pub kv_faults : Call → List Placed
kv_faults call =
    let calls = calls_of (args_of call) in
    length_faults (last_value (codes "pair-separator" ∷ []) calls)
    ++ separator_faults (last_value (codes "value-separator" ∷ []) calls)

unfoldable pub parser_faults : Call → List Placed
parser_faults call =
    if is_called (codes "csv-parser" ∷ []) call then csv_faults call else kv_faults call

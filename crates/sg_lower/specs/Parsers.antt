-- What parsers do (syslog-ng's administration guide, "Options of CSV parsers" and "Options of key=value parsers").
use Rattle.std.specs.Prelude.{ℕ, Bool, if◌then◌else◌, List, [], ◌∷◌, Option, Some, None, option_map, slice_index_or, codes}
use Rattle.std.specs.List.{flat_map}
use Rattle.sg_macro.specs.declared.part.TemplatePart.{TemplatePart}
use Rattle.sg_parse_expr.specs.declared.tree.Arg.{Arg}
use Rattle.sg_parse_expr.specs.declared.tree.Call.{Call}
use Rattle.sg_parsers.specs.declared.parser.MessageParser.{MessageParser}
use Rattle.sg_parsers.specs.declared.csv.Csv.{Csv}
use Rattle.sg_parsers.specs.declared.parser.MessageParser.TheVariants as parser
use Rattle.sg_parsers.specs.declared.rule.ParserRule.{ParserRule}
use Rattle.sg_parsers.specs.Csv.{prefixed, if_names}
use Rattle.sg_options.specs.Settings.{args_of, item_of, is_called, calls_of, last_option, last_value, has_flag}
use Rattle.sg_options.specs.Values.{text_or}
use Rattle.sg_lower.specs.Values.{template_of, text_if}

abbrev pub columns_behind : Option Call → List (List ℕ)
columns_behind None = []
columns_behind (Some call) = flat_map (λ arg. text_if (item_of arg)) (args_of call)

-- those of the last `columns`
abbrev pub columns_in : List Arg → List (List ℕ)
columns_in args = columns_behind (last_option (codes "columns" ∷ []) (calls_of args))

-- the value of the last option of this word, or the default
abbrev pub option_text : List ℕ → List Arg → List ℕ → List ℕ
option_text word args default = text_or (last_value (word ∷ []) (calls_of args)) default

abbrev pub flag_of : List ℕ → List Arg → Bool
flag_of word args = has_flag word (last_option (codes "flags" ∷ []) (calls_of args))

-- as it is written, whatever its columns are called
abbrev pub csv_of : List Arg → Csv
csv_of args = record {
  names = prefixed (option_text (codes "prefix") args []) (columns_in args);
  delimiters = option_text (codes "delimiters") args [];
  greedy = flag_of (codes "greedy") args;
  drop_invalid = flag_of (codes "drop-invalid") args;
}

abbrev pub csv_by : List Arg → Option MessageParser
csv_by args = option_map parser.Csv (if_names (csv_of args))

abbrev pub kv_by : List Arg → MessageParser
kv_by args = parser.Kv (record {
  prefix = option_text (codes "prefix") args [];
  pair_separator = option_text (codes "pair-separator") args (codes ", ");
  value_separator = slice_index_or (option_text (codes "value-separator") args (codes "=")) 0 61;
})

abbrev pub parser_by : Call → Option MessageParser
parser_by call =
    if is_called (codes "csv-parser" ∷ []) call then csv_by (args_of call)
    else Some (kv_by (args_of call))

-- the text that is parsed, MESSAGE by default
abbrev pub parsed_text : Call → List TemplatePart
parsed_text call = template_of (option_text (codes "template") (args_of call) (codes "$MESSAGE"))

abbrev pub rule_with : Call → MessageParser → ParserRule
rule_with call parser = record { text = parsed_text call; parser = parser }

-- none where a column's name is none that a pair may have, and so is refused
unfoldable pub rule_by : Call → Option ParserRule
rule_by call = option_map (rule_with call) (parser_by call)

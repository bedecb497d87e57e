-- Rewrites and parsers with whose values nothing is wrong.
use Rattle.std.specs.Prelude.{◌≡◌, if◌then◌else◌, [], ◌∷◌, Some, codes}
use Rattle.sg_parse_base.specs.declared.spot.Spot.{Spot}
use Rattle.sg_parse_expr.specs.declared.tree.Call.{Call}
use Rattle.sg_names.specs.declared.names.Names.{Names}
use Rattle.sg_parsers.specs.declared.parser.MessageParser.{MessageParser}
use Rattle.sg_parsers.specs.declared.parser.MessageParser.TheVariants.{Csv}
use Rattle.sg_options.specs.Settings.{args_of, calls_of, is_called, last_option, value_of}
use Rattle.sg_lower.specs.Parsers.{csv_of, kv_by, rule_by, rule_with}
use Rattle.sg_lower.specs.Rewrites.{meant_by, condition}
use Rattle.sg_values.specs.Conditions.{rewrite_faults}
use Rattle.sg_values.specs.Parsers.{parser_faults}
use Rattle.sg_forest.specs.Written.{written_in}

-- the option `value` that counts has a value, if there is one
abbrev pub HasValue : Call → Type 0
HasValue call = (option : Call) → last_option (codes "value" ∷ []) (calls_of (args_of call))
    ≡ Some option → (spot : Spot) × (value_of option ≡ Some spot)

abbrev pub RewritesAreKept : Type 0
RewritesAreKept = (names : Names) (call : Call) → HasValue call → rewrite_faults call ≡ []
    → written_in names call
    ≡ (record { condition = condition names (args_of call); operation = meant_by call }) ∷ []

-- the parser as it is written
abbrev pub parser_written : Call → MessageParser
parser_written call =
    if is_called (codes "csv-parser" ∷ []) call then Csv (csv_of (args_of call))
    else kv_by (args_of call)

abbrev pub ParsersAreKept : Type 0
ParsersAreKept = (call : Call) → parser_faults call ≡ []
    → rule_by call ≡ Some (rule_with call (parser_written call))

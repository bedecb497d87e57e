-- Patterns.
use Rattle.std.specs.Prelude.{ℕ, Bool, false, if◌then◌else◌, List, [], ◌∷◌, Option, Some, None, codes}
use Rattle.sg_lex.specs.declared.place.Line.{Line}
use Rattle.sg_pattern.specs.declared.pattern.Kind.{Kind}
use Rattle.sg_pattern.specs.declared.pattern.Kind.TheVariants.{Regex, Text, Glob}
use Rattle.sg_pattern.specs.declared.pattern.Flags.{Flags}
use Rattle.sg_pattern.specs.declared.text.PatternText.{PatternText}
use Rattle.sg_parse_base.specs.declared.spot.Spot.{Spot}
use Rattle.sg_parse_base.specs.Input.{spot_line}
use Rattle.sg_parse_base.specs.Tokens.{same_keyword}
use Rattle.sg_parse_expr.specs.declared.tree.Arg.{Arg}
use Rattle.sg_parse_expr.specs.declared.tree.Call.{Call}
use Rattle.sg_options.specs.Settings.{calls_of, last_option, last_value, has_flag}
use Rattle.sg_lower.specs.Values.{name_of}

abbrev pub says : List ℕ → Option Spot → Bool
says word None = false
says word (Some spot) = same_keyword spot.token.text word

-- the type that counts, a regular expression by default
abbrev pub kind_of : List Arg → Kind
kind_of args =
    if says (codes "string") (last_value (codes "type" ∷ []) (calls_of args)) then Text
    else (if says (codes "glob") (last_value (codes "type" ∷ []) (calls_of args)) then Glob
    else Regex)

abbrev pub flags_by : Option Call → Flags
flags_by option = record {
  ignore_case = has_flag (codes "ignore-case") option;
  prefix = has_flag (codes "prefix") option;
  substring = has_flag (codes "substring") option;
  global = has_flag (codes "global") option;
}

-- the flags that count
abbrev pub flags_of : List Arg → Flags
flags_of args = flags_by (last_option (codes "flags" ∷ []) (calls_of args))

abbrev pub line_at : Option Spot → Line
line_at None = record { file = 0; line = 0; at = 0 }
line_at (Some spot) = spot_line spot

unfoldable pub pattern_of : Option Spot → List Arg → PatternText
pattern_of text args = record {
  kind = kind_of args;
  text = name_of text;
  flags = flags_of args;
  line = line_at text;
}

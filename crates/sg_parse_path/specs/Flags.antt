-- The flags of log statements (syslog-ng's administration guide, "Log path flags").
use Rattle.std.specs.Prelude.{ℕ, Bool, ◌&&◌, ◌||◌, if◌then◌else◌, List, codes, Some, Ok, Err}
use Rattle.sg_lex.specs.declared.token.Token.{Token}
use Rattle.sg_lex.specs.declared.fault.ConfigKind.TheVariants.{Unsupported}
use Rattle.sg_parse_base.specs.declared.spot.Spot.{Spot}
use Rattle.sg_parse_base.specs.Tokens.{is_name, same_keyword}
use Rattle.sg_parse_base.specs.Input.{Parser, ◌>>=◌, name, spot_line}

unfoldable pub is_flag : List ℕ → Bool
is_flag text =
    same_keyword text (codes "final") || same_keyword text (codes "fallback")
    || same_keyword text (codes "catchall") || same_keyword text (codes "flow-control")
    || same_keyword text (codes "drop-unmatched")

-- a word or a string that is a flag
unfoldable pub names_flag : Token → Bool
names_flag token = is_name token && is_flag token.text

unfoldable pub flag : Parser Spot
flag spots = do
  called ← name spots
  if is_flag called.0.token.text then Ok (called.0, called.1)
      else Err (record { kind = Unsupported; at = Some (spot_line called.0) })

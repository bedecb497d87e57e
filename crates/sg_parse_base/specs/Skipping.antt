-- What stands in parentheses and has no effect: any tokens between which brackets are balanced.
use Rattle.std.specs.Prelude.{◌≡◌, ℕ, zero, suc, Bool, true, false, ◌==◌, if◌then◌else◌, List, [], ◌∷◌, length, Option, Some, None, Ok, Err}
use Rattle.sg_lex.specs.declared.token.Token.{Token}
use Rattle.sg_lex.specs.declared.fault.ConfigKind.TheVariants.{Unexpected}
use Rattle.sg_parse_base.specs.declared.spot.Spot.{Spot}
use Rattle.sg_parse_base.specs.declared.skip.BracketEffect.{BracketEffect}
use Rattle.sg_parse_base.specs.declared.skip.BracketEffect.TheVariants.{Opens, Closes, Neither}
use Rattle.sg_parse_base.specs.Tokens.{is_symbol}
use Rattle.sg_parse_base.specs.Input.{Parser, ParseOutcome, ◌>>=◌, behind, symbol, fault_at}

-- what a token does to the brackets that are open, which are listed by the bytes that close them, the innermost first
abbrev pub bracket : Token → BracketEffect
bracket token =
    if is_symbol 41 token then Closes 41
    else (if is_symbol 125 token then Closes 125
    else (if is_symbol 40 token then Opens 41
    else (if is_symbol 123 token then Opens 125
    else Neither)))

abbrev pub next_bracket : List Spot → BracketEffect
next_bracket [] = Neither
next_bracket (spot ∷ spots) = bracket spot.token

-- the brackets that are open behind a token, and none where it closes another one than the innermost
abbrev pub open_behind : BracketEffect → List ℕ → Option (List ℕ)
open_behind (Opens c) open_ones = Some (c ∷ open_ones)
open_behind (Closes c) [] = None
open_behind (Closes c) (d ∷ open_ones) = if d == c then Some open_ones else None
open_behind Neither open_ones = Some open_ones

-- they are these, or there are none
abbrev pub AreBracketsBehind : Option (List ℕ) → List ℕ → Bool → Type 0
AreBracketsBehind open_ones new true = open_ones ≡ Some new
AreBracketsBehind open_ones new false = open_ones ≡ None

-- what follows such a token
abbrev pub skipped_behind : Option (List ℕ) → (List ℕ → ParseOutcome (Unit {0})) → Parser (Unit {0})
skipped_behind None later spots = Err (fault_at Unexpected spots)
skipped_behind (Some []) later spots = Ok (tt, behind spots)
skipped_behind (Some (c ∷ open_ones)) later spots = later (c ∷ open_ones)

-- the tokens behind the one that closes the outermost bracket; a number bounds the turns, of which each takes a token
unfoldable pub skipped_from : ℕ → List ℕ → Parser (Unit {0})
skipped_from zero open_ones spots = Err (fault_at Unexpected spots)
skipped_from (suc n) open_ones spots = skipped_behind (open_behind (next_bracket spots) open_ones)
    (λ later. skipped_from n later (behind spots)) spots

-- "(" balanced ")"
unfoldable pub skipped : Parser (Unit {0})
skipped spots = do
  opened ← symbol 40 spots
  skipped_from (length opened.1) (41 ∷ []) opened.1

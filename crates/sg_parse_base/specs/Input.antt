-- What a statement is read from, and the steps that each rule is made of.
use Rattle.std.specs.Prelude.{◌≡◌, ℕ, ◌+◌, Bool, false, if◌then◌else◌, List, [], ◌∷◌, Option, Some, None, Result, Ok, Err}
use Rattle.sg_lex.specs.declared.token.Token.{Token}
use Rattle.sg_lex.specs.declared.fault.ConfigKind.{ConfigKind}
use Rattle.sg_lex.specs.declared.fault.ConfigKind.TheVariants.{Unexpected, Unsupported}
use Rattle.sg_parse_base.specs.declared.spot.Spot.{Spot}
use Rattle.sg_lex.specs.declared.place.Line.{Line}
use Rattle.sg_parse_base.specs.declared.fault.ParseFault.{ParseFault}
use Rattle.sg_parse_base.specs.declared.fault.ParseStop.{ParseStop}
use Rattle.sg_parse_base.specs.declared.fault.ParseStop.TheVariants as stops
use Rattle.sg_parse_base.specs.Tokens.{line_of, is_word, is_name, is_symbol, is_dots, is_keyword}

-- the tokens with their places, of which the first is this
abbrev pub spots_from : ℕ → List Token → List Spot
spots_from at [] = []
spots_from at (token ∷ tokens) = (record { token = token; at = at }) ∷ spots_from (at + 1) tokens

-- A parser gives what stands at the front and the tokens behind it, or the first fault.
abbrev pub ParseOutcome : Type 0 → Type 0
ParseOutcome A = Result (A × List Spot) ParseFault

abbrev pub Parser : Type 0 → Type 0
Parser A = List Spot → ParseOutcome A

abbrev pub first_token : List Spot → Option Token
first_token [] = None
first_token (spot ∷ spots) = Some spot.token

abbrev pub spot_line : Spot → Line
spot_line spot = line_of spot.token spot.at

-- where the first token stands
abbrev pub place_of : List Spot → Option Line
place_of [] = None
place_of (spot ∷ spots) = Some (spot_line spot)

abbrev pub fault_at : ConfigKind → List Spot → ParseFault
fault_at kind spots = record { kind = kind; at = place_of spots }

-- What a function that reads ensures: the parser's outcome, unless memory runs out.
abbrev pub StopsParsing : {A : Type 0} → ParseStop → ParseOutcome A → Type 0
StopsParsing (stops.Bad fault) outcome = outcome ≡ Err fault
StopsParsing stops.NoMemory outcome = Unit {0}

abbrev pub ReadsTokens : {A : Type 0} → ParseOutcome A → Result A ParseStop → List Spot → Type 0
ReadsTokens outcome (Ok x) new = outcome ≡ Ok (x, new)
ReadsTokens outcome (Err stop) new = StopsParsing stop outcome

-- ---- the steps of rules

infixl 10 ◌>>=◌
abbrev pub ◌>>=◌ : {A B : Type 0} → ParseOutcome A → (A × List Spot → ParseOutcome B)
    → ParseOutcome B
(Ok x) >>= f = f x
(Err fault) >>= f = Err fault

abbrev pub behind : List Spot → List Spot
behind [] = []
behind (spot ∷ spots) = spots

-- whether the next token passes
abbrev pub next_is : (Token → Bool) → List Spot → Bool
next_is passes [] = false
next_is passes (spot ∷ spots) = passes spot.token

-- the next token, whatever it is
unfoldable pub any : Parser Spot
any [] = Err (fault_at Unexpected [])
any (spot ∷ spots) = Ok (spot, spots)

-- the next token, where it passes
unfoldable pub expected : (Token → Bool) → Parser Spot
expected passes spots = if next_is passes spots then any spots else Err (fault_at Unexpected spots)

unfoldable pub sees : ℕ → List Spot → Bool
sees byte spots = next_is (is_symbol byte) spots

unfoldable pub sees_dots : List Spot → Bool
sees_dots spots = next_is is_dots spots

unfoldable pub sees_word : List ℕ → List Spot → Bool
sees_word word spots = next_is (is_keyword word) spots

-- the symbol of this byte
unfoldable pub symbol : ℕ → Parser (Unit {0})
symbol byte spots = if sees byte spots then Ok (tt, behind spots)
    else Err (fault_at Unexpected spots)

unfoldable pub word : Parser Spot
word = expected is_word

unfoldable pub name : Parser Spot
name = expected is_name

-- the word of a call must be known
abbrev pub known : {A : Type 0} → Option A → Spot → List Spot → ParseOutcome A
known (Some x) spot spots = Ok (x, spots)
known None spot spots = Err (record { kind = Unsupported; at = Some (spot_line spot) })

-- Brackets in a token list, and where they close.
use Rattle.std.specs.Prelude.{◌≡◌, ℕ, ◌+◌, ◌-◌, ◌<◌, ◌≤◌, ◌==◌, if◌then◌else◌, List, [], ◌∷◌, length, take, drop, Option, Some, None, slice_index}
use Rattle.std.specs.Option.{option_map}
use Rattle.sg_list.specs.Lists.{passes_at}
use Rattle.sg_lex.specs.declared.token.Token.{Token}
use Rattle.sg_block.specs.Tokens.{is_symbol}
use Rattle.sg_block.specs.declared.token.Bracket.{Bracket}
use Rattle.sg_block.specs.declared.token.Bracket.TheVariants.{Opens, Closes, Neither}

-- what a token does to the brackets that are open, which are listed by the bytes that close them, the innermost first
abbrev pub bracket : Token → Bracket
bracket token =
    if is_symbol 41 token then Closes 41
    else (if is_symbol 125 token then Closes 125
    else (if is_symbol 40 token then Opens 41
    else (if is_symbol 123 token then Opens 125
    else Neither)))

-- the brackets that are open behind a token, and none where it closes another one than the innermost
abbrev pub open_behind : Bracket → List ℕ → Option (List ℕ)
open_behind (Opens c) open_ones = Some (c ∷ open_ones)
open_behind (Closes c) [] = None
open_behind (Closes c) (d ∷ open_ones) = if c == d then Some open_ones else None
open_behind Neither open_ones = Some open_ones

-- the tokens behind a bracket up to the one that closes it, and those behind that
abbrev pub Parted : Type 0
Parted = List Token × List Token

abbrev pub inner_behind : Token → Parted → Parted
inner_behind token parted = (token ∷ parted.0, parted.1)

abbrev pub parted_behind : Token → List Token → Option (List ℕ) → (List ℕ → Option Parted)
    → Option Parted
parted_behind token tokens None later = None
parted_behind token tokens (Some []) later = Some ([], tokens)
parted_behind token tokens (Some (c ∷ open_ones)) later = option_map (inner_behind token)
    (later (c ∷ open_ones))

-- the tokens up to the one that closes the outermost bracket, none where what stands before it isn't balanced
abbrev pub inside : List ℕ → List Token → Option Parted
inside open_ones [] = None
inside open_ones (token ∷ tokens) = parted_behind token tokens
    (open_behind (bracket token) open_ones) (λ later. inside later tokens)

-- what stands in the brackets that open at a place, between two bytes
abbrev pub bracketed : ℕ → ℕ → List Token → ℕ → Option Parted
bracketed opening closing tokens place = if passes_at tokens place (is_symbol opening)
    then inside (closing ∷ []) (drop (place + 1) tokens) else None

-- the tokens from a place on up to the end, where the byte's bracket stands there
abbrev pub closed_at : ℕ → List Token → ℕ → ℕ → Option Parted
closed_at closing tokens place end =
    if passes_at tokens end (is_symbol closing)
    then Some (take (end - place) (drop place tokens), drop (end + 1) tokens)
    else None

-- what closes a bracket that was opened before a place is the one at the end
abbrev pub EndsAt : List Token → ℕ → ℕ → Type 0
EndsAt tokens end place =
    (inside (41 ∷ []) (drop place tokens) ≡ closed_at 41 tokens place end)
    × (inside (125 ∷ []) (drop place tokens) ≡ closed_at 125 tokens place end)
    × (place ≤ end) × (end ≤ length tokens)

-- the ends of the places from one on
abbrev pub HasEndsFrom : List Token → List ℕ → ℕ → Type 0
HasEndsFrom tokens ends from = (length ends ≡ length tokens + 1)
    × ((place : ℕ) → from ≤ place → place ≤ length tokens
    → EndsAt tokens (slice_index ends place) place)

abbrev pub HasEnds : List Token → List ℕ → Type 0
HasEnds tokens ends = HasEndsFrom tokens ends 0

-- the entry of a place at which a bracket opens that the byte closes: the end behind its own
abbrev pub EndsBehind : List Token → List ℕ → ℕ → ℕ → ℕ → Type 0
EndsBehind tokens ends closing place end =
    end ≡ (if passes_at tokens (slice_index ends (place + 1)) (is_symbol closing) then slice_index
    ends (slice_index ends (place + 1) + 1) else length tokens)

-- the place at which the byte closes the bracket that opens at a place, if it does
abbrev pub IsClosing : ℕ → List Token → ℕ → Option ℕ → Type 0
IsClosing closing tokens place None = inside (closing ∷ []) (drop (place + 1) tokens) ≡ None
IsClosing closing tokens place (Some end) =
    (inside (closing ∷ []) (drop (place + 1) tokens)
    ≡ Some (take (end - (place + 1)) (drop (place + 1) tokens), drop (end + 1) tokens))
    × (place + 1 ≤ end) × (end < length tokens)

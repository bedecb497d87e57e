-- Lists of items, as rules of which one item is a parameter. A number bounds the turns: each takes a token, so the number of tokens is enough.
use Rattle.std.specs.Prelude.{ℕ, zero, suc, ◌&&◌, if◌then◌else◌, List, [], ◌∷◌, ◌++◌, length, Ok, Err}
use Rattle.sg_lex.specs.declared.fault.ConfigKind.TheVariants.{Unexpected}
use Rattle.sg_parse_base.specs.declared.spot.Spot.{Spot}
use Rattle.sg_parse_base.specs.Tokens.{is_symbol}
use Rattle.sg_parse_base.specs.Input.{Parser, ◌>>=◌, behind, sees, sees_word, symbol, fault_at}

-- commas at the front passed over
abbrev pub after_commas : List Spot → List Spot
after_commas [] = []
after_commas (spot ∷ spots) = if is_symbol 44 spot.token then after_commas spots else spot ∷ spots

-- what stands between an item and the next one, or the closing parenthesis: commas, but not before the parenthesis
unfoldable pub gap : Parser (Unit {0})
gap spots = if sees 44 spots && sees 41 (after_commas spots)
    then Err (fault_at Unexpected (after_commas spots)) else Ok (tt, after_commas spots)

-- what stands behind an item in braces
unfoldable pub ending : Parser (Unit {0})
ending spots = if sees 125 spots then Ok (tt, spots) else symbol 59 spots

module _ {A : Type 0} (item : Parser A) where
  -- items up to the closing parenthesis, behind those found
  unfoldable pub items_from : ℕ → List A → Parser (List A)
  items_from zero found spots = Err (fault_at Unexpected spots)
  items_from (suc n) found spots =
      if sees 41 spots then Ok (found, behind spots) else (do
        x ← item spots
        next ← gap x.1
        items_from n (found ++ x.0 ∷ []) next.1)

  unfoldable pub items : List A → Parser (List A)
  items found spots = items_from (length spots) found spots

  -- items in parentheses
  unfoldable pub many : Parser (List A)
  many spots = do
    opened ← symbol 40 spots
    items [] opened.1

  -- one item in parentheses
  unfoldable pub single : Parser (List A)
  single spots = do
    opened ← symbol 40 spots
    x ← item opened.1
    close ← symbol 41 x.1
    Ok (x.0 ∷ [], close.1)

  -- items up to the closing brace, each with a semicolon behind it that may miss at the last, and more semicolons anywhere
  unfoldable pub body_from : ℕ → List A → Parser (List A)
  body_from zero found spots = Err (fault_at Unexpected spots)
  body_from (suc n) found spots =
      if sees 125 spots then Ok (found, behind spots)
      else (if sees 59 spots then body_from n found (behind spots) else (do
        x ← item spots
        next ← ending x.1
        body_from n (found ++ x.0 ∷ []) next.1))

  -- items in braces
  unfoldable pub body : Parser (List A)
  body spots = do
    opened ← symbol 123 spots
    body_from (length opened.1) [] opened.1

  -- further items, each behind this word
  unfoldable pub chain_from : List ℕ → ℕ → List A → Parser (List A)
  chain_from word zero found spots = Ok (found, spots)
  chain_from word (suc n) found spots =
      if sees_word word spots then (do
        x ← item (behind spots)
        chain_from word n (found ++ x.0 ∷ []) x.1) else Ok (found, spots)

  -- one item or several, with this word between them
  unfoldable pub chain : List ℕ → Parser (List A)
  chain word spots = do
    x ← item spots
    chain_from word (length x.1) (x.0 ∷ []) x.1

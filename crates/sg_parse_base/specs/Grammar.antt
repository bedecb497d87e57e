-- The grammar of lists: what stands at the front of tokens, and what stands behind it.
use Rattle.std.specs.Prelude.{◌≡◌, ◌⊎◌, ℕ, Bool, true, List, [], ◌∷◌}
use Rattle.sg_lex.specs.declared.token.Token.{Token}
use Rattle.sg_parse_base.specs.declared.spot.Spot.{Spot}
use Rattle.sg_parse_base.specs.declared.skip.BracketEffect.TheVariants.{Neither}
use Rattle.sg_parse_base.specs.Tokens.{is_symbol, is_keyword}
use Rattle.sg_parse_base.specs.Skipping.{bracket}

-- From these tokens on stands a tree of a kind, and those behind it are left.
abbrev pub Stands : Type 0 → Type 1
Stands A = List Spot → A → List Spot → Type 0

-- a token that passes
abbrev pub TakesToken : (Token → Bool) → Stands Spot
TakesToken passes s spot r = (s ≡ spot ∷ r) × (passes spot.token ≡ true)

-- a symbol of one byte, and a keyword
abbrev pub Symbol : ℕ → List Spot → List Spot → Type 0
Symbol byte s r = (spot : Spot) × TakesToken (is_symbol byte) s spot r

abbrev pub Keyword : List ℕ → List Spot → List Spot → Type 0
Keyword word s r = (spot : Spot) × TakesToken (is_keyword word) s spot r

pub data Commas : List Spot → List Spot → Type 0 where
  none : (s : List Spot) → Commas s s
  comma : (s m r : List Spot) → Symbol 44 s m → Commas m r → Commas s r

module _ {A : Type 0} (One : Stands A) where
  -- "(" one ")"
  pub record Single (s : List Spot) (xs : List A) (r : List Spot) : Type 0 where
    pub inner : List Spot
    pub after : List Spot
    pub x : A
    pub opens : Symbol 40 s inner
    pub one : One inner x after
    pub closes : Symbol 41 after r
    pub is : xs ≡ x ∷ []

  -- { [commas] one } ")"
  pub data Rest : List Spot → List A → List Spot → Type 0 where
    closed : (s r : List Spot) → Symbol 41 s r → Rest s [] r
    more : (s m n r : List Spot) (x : A) (xs : List A) → Commas s m → One m x n → Rest n xs r
        → Rest s (x ∷ xs) r

  -- [ one { [commas] one } ] ")"
  abbrev pub Items : Stands (List A)
  Items s [] r = Symbol 41 s r
  Items s (x ∷ xs) r = (m : List Spot) × One s x m × Rest m xs r

  -- "(" [ one { [commas] one } ] ")"
  abbrev pub Many : Stands (List A)
  Many s xs r = (m : List Spot) × Symbol 40 s m × Items m xs r

  -- { one ";" } "}", with further semicolons anywhere, and none needed before the brace
  pub data Body : List Spot → List A → List Spot → Type 0 where
    closed : (s r : List Spot) → Symbol 125 s r → Body s [] r
    extra : (s m r : List Spot) (xs : List A) → Symbol 59 s m → Body m xs r → Body s xs r
    last : (s m r : List Spot) (x : A) → One s x m → Symbol 125 m r → Body s (x ∷ []) r
    more : (s m n r : List Spot) (x : A) (xs : List A) → One s x m → Symbol 59 m n → Body n xs r
        → Body s (x ∷ xs) r

  abbrev pub Braced : Stands (List A)
  Braced s xs r = (m : List Spot) × Symbol 123 s m × Body m xs r

  -- { word one }
  pub data Links (word : List ℕ) : List Spot → List A → List Spot → Type 0 where
    done : (s : List Spot) → Links word s [] s
    more : (s m n r : List Spot) (x : A) (xs : List A) → Keyword word s m → One m x n
        → Links word n xs r → Links word s (x ∷ xs) r

  -- one { word one }
  abbrev pub Chain : List ℕ → Stands (List A)
  Chain word s [] r = ⊥
  Chain word s (x ∷ xs) r = (m : List Spot) × One s x m × Links word m xs r

-- balanced = { token that is no bracket | "(" balanced ")" | "{" balanced "}" }
pub data Balanced : List Spot → List Spot → Type 0 where
  none : (s : List Spot) → Balanced s s
  plain : (spot : Spot) (s r : List Spot) → bracket spot.token ≡ Neither → Balanced s r
      → Balanced (spot ∷ s) r
  round : (s m n k r : List Spot) → Symbol 40 s m → Balanced m n → Symbol 41 n k → Balanced k r
      → Balanced s r
  braced : (s m n k r : List Spot) → Symbol 123 s m → Balanced m n → Symbol 125 n k → Balanced k r
      → Balanced s r

-- "(" balanced ")"
abbrev pub Skipped : List Spot → List Spot → Type 0
Skipped s r = (m : List Spot) × (n : List Spot) × Symbol 40 s m × Balanced m n × Symbol 41 n r

-- the semicolon behind an item, which may miss
abbrev pub Ending : List Spot → List Spot → Type 0
Ending s r = (s ≡ r) ⊎ Symbol 59 s r

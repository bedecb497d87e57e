-- What was refused first of patterns that were tried one after another, in the order of the text.
use Rattle.std.specs.Prelude.{◌≡◌, ◌⊎◌, ◌≤◌, [], ◌∷◌, ◌++◌, Option, Some, None, Result, Ok, Err}
use Rattle.std.specs.List.{AllByRecursion}
use Rattle.std.specs.List.Sorted.{IsPermutation}
use Rattle.sg_lex.specs.declared.place.Line.{Line}
use Rattle.sg_outside.specs.World.{WorldState, OnlyBuilds}
use Rattle.sg_pattern.specs.Builds.{BuilderCalls, MakesOne, RefusesLarge, RefusesNone}
use Rattle.sg_pattern.specs.Pattern.{pattern_of, IsNoPattern}
use Rattle.sg_pattern.specs.declared.text.PatternText.{PatternText}
use Rattle.sg_filter.specs.Patterns.{AreValid, IsLargeAt}
use Rattle.sg_tree.specs.declared.refusal.PathRefusal.{PathRefusal}
use Rattle.sg_tree.specs.declared.refusal.PathRefusal.TheVariants.{BadPattern, PatternTooLarge, TooManyOffers, NoMemory}
use Rattle.sg_table.specs.Patterns.{PatternTexts}

-- none stands in the text before one that is in front of it
abbrev pub LinesRise : PatternTexts → Type 0
LinesRise [] = Unit {0}
LinesRise (one ∷ more) = AllByRecursion (λ (next : PatternText). one.line.at ≤ next.line.at) more
    × LinesRise more

-- the same patterns, in the order in which they stand in the text
pub record IsTextOrder (patterns order : PatternTexts) : Type 0 where
  pub same : IsPermutation patterns order
  pub rises : LinesRise order

-- these were made one after another, from the first state to the second
abbrev pub MakesEach : {S : Type 0} → BuilderCalls S → S → PatternTexts → S → Type 0
MakesEach {S} step old [] new = new ≡ old
MakesEach {S} step old (one ∷ more) new = (mid : S) × (MakesOne step old one mid)
    × (MakesEach step mid more new)

-- Of these, tried one after another, those in front were made; then the builder refused that of the line for its size.
pub record IsRefusedIn {S : Type 0} (state : S → WorldState) (step : BuilderCalls S)
    (order : PatternTexts) (line : Line) (old new : S) : Type 0 where
  pub front : PatternTexts
  pub one : PatternText
  pub behind : PatternTexts
  pub is : order ≡ front ++ one ∷ behind
  pub at : one.line ≡ line
  pub between : S
  pub made : MakesEach step old front between
  pub after : S
  pub refused : RefusesLarge step between one after
  pub rest : OnlyBuilds (state after) (state new)

-- Of these the one of that line is the first that is no pattern.
pub record IsBadIn (order : PatternTexts) (line : Line) : Type 0 where
  pub front : PatternTexts
  pub one : PatternText
  pub behind : PatternTexts
  pub is : order ≡ front ++ one ∷ behind
  pub at : one.line ≡ line
  pub valid : AreValid front
  pub bad : IsNoPattern (pattern_of one)

-- the first of two
abbrev pub first_of : Option Line → Line → Option Line
first_of None line = Some line
first_of (Some first) line = Some first

module _ {S : Type 0} (state : S → WorldState) (step : BuilderCalls S) where
  -- ---- a list of patterns

  -- each was made, or that of the line is the first that was refused for its size
  abbrev pub HasLarge : S → S → PatternTexts → Option Line → Type 0
  HasLarge old new order None = MakesEach step old order new
  HasLarge old new order (Some line) = IsRefusedIn state step order line old new

  pub record HasTried (old new : S) (order : PatternTexts) (found : Option Line) : Type 0 where
    pub only : OnlyBuilds (state old) (state new)
    pub valid : AreValid order
    pub large : HasLarge old new order found

  -- more were tried
  abbrev pub Tries : S → S → PatternTexts → Option Line → Option Line → Type 0
  Tries old new more before after = (begun : S) (order : PatternTexts)
      → HasTried begun old order before → HasTried begun new (order ++ more) after

  -- all were tried, up to the first that is no pattern
  abbrev pub TriesList : S → S → PatternTexts → Result Unit PathRefusal → Type 0
  TriesList old new order (Ok done) = HasTried old new order None
  TriesList old new order (Err (BadPattern line)) = IsBadIn order line
  TriesList old new order (Err (PatternTooLarge line)) = HasTried old new order (Some line)
  TriesList old new order (Err (TooManyOffers line)) = ⊥
  TriesList old new order (Err NoMemory) = Unit {0}

  -- ---- the patterns of log paths

  -- each was made, in the order of the text, before anything else
  pub record AreTried (old new : S) (patterns : PatternTexts) : Type 0 where
    pub order : PatternTexts
    pub sorted : IsTextOrder patterns order
    pub reached : S
    pub made : MakesEach step old order reached
    pub rest : OnlyBuilds (state reached) (state new)

  -- that of the line is the first in the text that the builder refused for its size
  pub record IsRefusedFirst (old new : S) (patterns : PatternTexts) (line : Line) : Type 0 where
    pub order : PatternTexts
    pub sorted : IsTextOrder patterns order
    pub refused : IsRefusedIn state step order line old new

  -- each was made, and that of the line was refused when it was made once more
  pub record IsRefusedAgain (old new : S) (patterns : PatternTexts) (line : Line) : Type 0 where
    pub order : PatternTexts
    pub sorted : IsTextOrder patterns order
    pub reached : S
    pub made : MakesEach step old order reached
    pub large : IsLargeAt patterns line (state reached) (state new)

  -- by the calls of its builder: each was made, or the one of that line was refused
  abbrev pub TriesPatterns : {A : Type 0} → S → S → PatternTexts → Result A PathRefusal → Type 0
  TriesPatterns old new patterns (Ok made) = AreTried old new patterns
      × RefusesNone (state old) (state new)
  TriesPatterns old new patterns (Err (BadPattern line)) = Unit {0}
  TriesPatterns old new patterns (Err (PatternTooLarge line)) =
      IsRefusedFirst old new patterns line ⊎ IsRefusedAgain old new patterns line
  TriesPatterns old new patterns (Err (TooManyOffers line)) = AreTried old new patterns
  TriesPatterns old new patterns (Err NoMemory) = Unit {0}

-- this one is no pattern
abbrev pub IsBadOne : PatternText → PathRefusal → Type 0
IsBadOne p (BadPattern line) = (line ≡ p.line) × IsNoPattern (pattern_of p)
IsBadOne p (PatternTooLarge line) = ⊥
IsBadOne p (TooManyOffers line) = ⊥
IsBadOne p NoMemory = Unit {0}

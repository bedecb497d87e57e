-- Why no table was made.
use Rattle.std.specs.Prelude.{◌≡◌, ◌⊎◌, ◌<◌, ◌≤◌, ℕ, ◌+◌, List, ◌∷◌, ◌++◌, map, Result, Ok, Err}
use Rattle.std.specs.List.{AllByRecursion}
use Rattle.sg_lex.specs.declared.place.Line.{Line}
use Rattle.sg_outside.specs.World.{WorldState}
use Rattle.sg_pattern.specs.Builds.{BuilderCalls, RefusesNone, machine_calls}
use Rattle.sg_pattern.specs.Pattern.{pattern_of, IsNoPattern}
use Rattle.sg_pattern.specs.declared.text.PatternText.{PatternText}
use Rattle.sg_filter.specs.declared.expr.Expr.{Expr}
use Rattle.sg_filter.specs.Patterns.{AreValid, IsBadAt, IsLargeAt}
use Rattle.sg_tree.specs.Bounds.{reach, all_offers, AreMessagesFew}
use Rattle.sg_tree.specs.Offers.{TopStatement, top_view}
use Rattle.sg_tree.specs.declared.forest.Forest.{Forest}
use Rattle.sg_tree.specs.declared.refusal.PathRefusal.{PathRefusal}
use Rattle.sg_tree.specs.declared.refusal.PathRefusal.TheVariants.{BadPattern, PatternTooLarge, TooManyOffers, NoMemory}
use Rattle.sg_tree.specs.declared.tree.Path.{Path, out-Path}
use Rattle.sg_table.specs.Patterns.{PatternTexts, patterns_in}
use Rattle.sg_table.specs.Tried.{AreTried, IsRefusedFirst, IsRefusedIn, IsTextOrder}

-- a record has at most 1,024 offers, and no more messages reach a place
abbrev pub AreOffersBounded : List TopStatement → Type 0
AreOffersBounded tops = (all_offers tops ≤ 1024) × AreMessagesFew 1024 tops

-- behind statements with so many offers this one has too many, or too many messages reach a place in it
abbrev pub Exceeds : ℕ → TopStatement → Type 0
Exceeds offers top = (1024 < offers + (reach top.steps 1).offers)
    ⊎ (1024 < (reach top.steps 1).most)

-- the statement of this line is the first that is beyond the bounds
pub record IsFirstBeyond (named : List Expr) (paths : List Path) (line : Line) : Type 0 where
  pub before : List Path
  pub path : Path
  pub after : List Path
  pub is : paths ≡ before ++ path ∷ after
  pub at : (out-Path path).line ≡ line
  pub bounded : AreOffersBounded (map (top_view named) before)
  pub exceeds : Exceeds (all_offers (map (top_view named) before)) (top_view named path)

-- no pattern that is none stands in front of that line
abbrev pub NoneIsBefore : Line → PatternTexts → Type 0
NoneIsBefore line = AllByRecursion (λ one. IsNoPattern (pattern_of one) → line.at ≤ one.line.at)

-- the pattern of that line is the first that is none
pub record IsFirstBadPattern (patterns : PatternTexts) (line : Line) : Type 0 where
  pub bad : IsBadAt patterns line
  pub first : NoneIsBefore line patterns

-- Each is a pattern. In the order of the text those in front of that line were made one after another, from the state before the call
-- on, and no count rose; then the builder refused the pattern of that line, and its count rose.
pub record IsFirstLarge (patterns : PatternTexts) (line : Line)
    (old new : WorldState) : Type 0 where
  pub valid : AreValid patterns
  pub order : PatternTexts
  pub sorted : IsTextOrder patterns order
  pub refused : IsRefusedIn (λ (state : WorldState). state) machine_calls order line old new

-- The pattern of that line is the first that is none; each is one, and that of the line is the first that was refused for its size; or
-- none was refused, and the statement of that line is the first beyond the bounds.
abbrev pub RefusesForest : WorldState → WorldState → Forest → PathRefusal → Type 0
RefusesForest old new forest (BadPattern line) = IsFirstBadPattern (patterns_in forest) line
RefusesForest old new forest (PatternTooLarge line) = IsFirstLarge (patterns_in forest) line old new
RefusesForest old new forest (TooManyOffers line) = AreValid (patterns_in forest)
    × RefusesNone old new × IsFirstBeyond forest.filters.items forest.paths.items line
RefusesForest old new forest NoMemory = Unit {0}

-- why no table was made of log paths whose patterns were all made before
abbrev pub RefusesSome : WorldState → WorldState → Forest → PathRefusal → Type 0
RefusesSome old new forest (BadPattern line) = IsBadAt (patterns_in forest) line
RefusesSome old new forest (PatternTooLarge line) = IsLargeAt (patterns_in forest) line old new
RefusesSome old new forest (TooManyOffers line) = RefusesNone old new
    × IsFirstBeyond forest.filters.items forest.paths.items line
RefusesSome old new forest NoMemory = Unit {0}

-- what trying all of them comes to
abbrev pub TriesForest : {S : Type 0} → (S → WorldState) → BuilderCalls S → S → S → PatternTexts
    → Result Unit PathRefusal → Type 0
TriesForest state step old new patterns (Ok done) = AreTried state step old new patterns
    × RefusesNone (state old) (state new)
TriesForest state step old new patterns (Err (BadPattern line)) = IsFirstBadPattern patterns line
TriesForest state step old new patterns (Err (PatternTooLarge line)) = AreValid patterns
    × IsRefusedFirst state step old new patterns line
TriesForest state step old new patterns (Err (TooManyOffers line)) = ⊥
TriesForest state step old new patterns (Err NoMemory) = Unit {0}

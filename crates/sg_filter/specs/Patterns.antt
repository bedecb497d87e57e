-- The patterns of an expression, and why one of them refuses it.
use Rattle.std.specs.Prelude.{◌≡◌, ℕ, zero, suc, List, [], ◌∷◌, ◌++◌, length, slice_get}
use Rattle.std.specs.List.{AllByRecursion}
use Rattle.sg_device.specs.Faults.{Rose}
use Rattle.sg_outside.specs.World.{WorldState}
use Rattle.sg_pattern.specs.Pattern.{pattern_of, IsValidPattern, IsNoPattern}
use Rattle.sg_pattern.specs.declared.pattern.Kind.TheVariants.{Regex}
use Rattle.sg_pattern.specs.declared.text.PatternText.{PatternText}
use Rattle.sg_lex.specs.declared.place.Line.{Line}
use Rattle.sg_pattern.specs.declared.text.BuildRefusal.{BuildRefusal}
use Rattle.sg_pattern.specs.declared.text.BuildRefusal.TheVariants.{BadPattern, TooLarge, NoMemory}
use Rattle.sg_filter.specs.declared.expr.Expr.{Expr}
use Rattle.sg_filter.specs.declared.expr.Expr.TheOpen.{Expr-F}
use Rattle.sg_filter.specs.declared.expr.Expr.TheFolds.{fold-Expr}
use Rattle.sg_filter.specs.Names.{of_named}

abbrev pub joined : List (List PatternText) → List PatternText
joined [] = []
joined (ps ∷ rest) = ps ++ joined rest

abbrev pub patterns_step : (ℕ → List PatternText) → Expr-F (List PatternText) → List PatternText
patterns_step names (Expr-F.Facility ranges) = []
patterns_step names (Expr-F.Level ranges) = []
patterns_step names (Expr-F.Field name pattern) = pattern ∷ []
patterns_step names (Expr-F.Tags tags) = []
patterns_step names (Expr-F.Compare left cmp right) = []
patterns_step names (Expr-F.Named i) = names i
patterns_step names (Expr-F.And terms) = joined terms
patterns_step names (Expr-F.Or terms) = joined terms
patterns_step names (Expr-F.Not term) = term

abbrev pub name_patterns : ℕ → List Expr → ℕ → List PatternText
name_patterns zero named i = []
name_patterns (suc depth) named i = of_named []
    (fold-Expr (List PatternText) (patterns_step (name_patterns depth named))) (slice_get named i)

-- with its names replaced so many deep
unfoldable pub patterns_within : ℕ → List Expr → Expr → List PatternText
patterns_within depth named = fold-Expr (List PatternText)
    (patterns_step (name_patterns depth named))

-- the patterns that a filter searches for, those of its names too
abbrev pub patterns_of : List Expr → Expr → List PatternText
patterns_of named expr = patterns_within (length named) named expr

abbrev pub AreValid : List PatternText → Type 0
AreValid = AllByRecursion (λ p. IsValidPattern (pattern_of p))

-- the pattern is one of these
pub record IsPatternAmong (patterns : List PatternText) (one : PatternText) : Type 0 where
  pub before : List PatternText
  pub after : List PatternText
  pub is : patterns ≡ before ++ one ∷ after

-- the pattern of that line is no pattern; or the builder's count rose
pub record IsBadAt (patterns : List PatternText) (line : Line) : Type 0 where
  pub one : PatternText
  pub among : IsPatternAmong patterns one
  pub at : one.line ≡ line
  pub bad : IsNoPattern (pattern_of one)

pub record IsLargeAt (patterns : List PatternText) (line : Line)
    (old new : WorldState) : Type 0 where
  pub one : PatternText
  pub among : IsPatternAmong patterns one
  pub at : one.line ≡ line
  pub is_regex : one.kind ≡ Regex
  pub rose : Rose old.build_faults new.build_faults

-- why nothing was made of patterns
abbrev pub RefusesAny : WorldState → WorldState → List PatternText → BuildRefusal → Type 0
RefusesAny old new patterns (BadPattern line) = IsBadAt patterns line
RefusesAny old new patterns (TooLarge line) = IsLargeAt patterns line old new
RefusesAny old new patterns NoMemory = Unit {0}

abbrev pub RefusesExpr : WorldState → WorldState → List Expr → Expr → BuildRefusal → Type 0
RefusesExpr old new named expr refusal = RefusesAny old new (patterns_of named expr) refusal

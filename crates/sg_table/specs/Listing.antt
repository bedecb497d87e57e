-- The patterns of log paths, as a work list comes to them.
use Rattle.std.specs.Prelude.{◌≡◌, ℕ, List, [], ◌∷◌, ◌++◌, map}
use Rattle.sg_filter.specs.Patterns.{joined, patterns_within}
use Rattle.sg_filter.specs.declared.expr.Expr.{Expr}
use Rattle.sg_table.specs.Patterns.{PatternTexts, rules_patterns, list_patterns, choices_patterns, siblings_patterns}
use Rattle.sg_table.specs.declared.listing.PatternListing.{PatternListing}
use Rattle.sg_table.specs.declared.listing.ListingTask.{ListingTask}
use Rattle.sg_table.specs.declared.listing.ListingTask.TheVariants as waiting

module _ (named : List Expr) where
  abbrev pub waiting_patterns : ListingTask → PatternTexts
  waiting_patterns (waiting.Pattern pattern) = pattern.now ∷ []
  waiting_patterns (waiting.One expr depth) = patterns_within depth named expr.now
  waiting_patterns (waiting.Several exprs depth) =
      joined (map (patterns_within depth named) exprs.now)
  waiting_patterns (waiting.Rules rules) = rules_patterns named rules.now
  waiting_patterns (waiting.Elements elements) = list_patterns named elements.now
  waiting_patterns (waiting.Branches branches) = choices_patterns named branches.now
  waiting_patterns (waiting.Paths paths) = siblings_patterns named paths.now

  -- those of what waits, the first to be listed last
  abbrev pub stacked : List ListingTask → PatternTexts
  stacked [] = []
  stacked (one ∷ more) = stacked more ++ waiting_patterns one

abbrev pub listed_patterns : PatternListing → PatternTexts
listed_patterns listing = map (λ pattern. pattern.now) listing.found.items

-- those that were listed, and those of what waits
abbrev pub all_patterns : List Expr → PatternListing → PatternTexts
all_patterns named listing = listed_patterns listing ++ stacked named listing.waiting.items

-- these patterns wait in front of what waited
pub record PushesPatterns (named : List Expr) (patterns : PatternTexts)
    (old new : PatternListing) : Type 0 where
  pub more : List ListingTask
  pub is : new.waiting.items ≡ old.waiting.items ++ more
  pub same : new.found ≡ old.found
  pub means : stacked named more ≡ patterns

-- and are listed, or wait, in front of what waited
abbrev pub ListsPatterns : List Expr → PatternTexts → PatternListing → PatternListing → Type 0
ListsPatterns named patterns old new = all_patterns named new
    ≡ listed_patterns old ++ (patterns ++ stacked named old.waiting.items)

-- Log paths that can be compiled aren't refused, but for the size of a pattern.
use Rattle.std.proofs.Common.{◌≡◌, ◌∙◌, ◌≤◌, inl, inr, ℕ, ◌+◌, List, [], ◌∷◌, ◌++◌, map, IsSome, ap, subst, arith}
use Rattle.std.proofs.lemmas.List.{map-append}
use Rattle.sg_device.specs.Faults.{Rose}
use Rattle.sg_lex.specs.declared.fault.ConfigFault.{ConfigFault}
use Rattle.sg_lex.specs.declared.place.Line.{Line}
use Rattle.sg_outside.specs.World.{WorldState}
use Rattle.sg_pattern.specs.Pattern.{pattern_of, IsValidPattern}
use Rattle.sg_pattern.specs.declared.text.PatternText.{PatternText}
use Rattle.sg_filter.specs.Patterns.{AreValid, IsBadAt}
use Rattle.sg_filter.specs.declared.expr.Expr.{Expr}
use Rattle.sg_tree.specs.Bounds.{reach, all_offers, AreMessagesFew}
use Rattle.sg_tree.specs.Offers.{TopStatement, top_view}
use Rattle.sg_tree.specs.declared.refusal.PathRefusal.TheVariants.{BadPattern, PatternTooLarge, TooManyOffers, NoMemory as LacksMemory}
use Rattle.sg_tree.specs.declared.tree.Path.{Path}
use Rattle.sg_table.specs.Patterns.{patterns_in}
use Rattle.sg_table.specs.Refused.{AreOffersBounded, Exceeds, IsFirstBeyond}
use Rattle.sg_table.proofs.Whole.{large-rose}
use Rattle.sg_config.specs.Alike.{AreAlikeConfigs}
use Rattle.sg_config.specs.declared.config.Config.{Config}
use Rattle.sg_loaded.specs.Compiling.{CanBeCompiled, IsUncompiled}

among-valid : (before : List PatternText) (one : PatternText) (after : List PatternText) → AreValid (before ++ one ∷ after) → IsValidPattern (pattern_of one)
among-valid [] one after valid = valid.0
among-valid (p ∷ before) one after valid = among-valid before one after valid.1

not-bad : (patterns : List PatternText) (line : Line) → AreValid patterns → IsBadAt patterns line → ⊥
not-bad patterns line valid bad =
    let whole : AreValid (bad.among.before ++ bad.one ∷ bad.among.after) = subst AreValid bad.among.is valid in
    let fine : IsValidPattern (pattern_of bad.one) = among-valid bad.among.before bad.one bad.among.after whole in
    let (kind, none) = bad.bad in
    let wrong = subst (λ r. IsSome r) none (fine kind) in
    cc

offers-split : (tops more : List TopStatement) → all_offers (tops ++ more) ≡ all_offers tops + all_offers more
offers-split [] more = omega arith
offers-split (top ∷ tops) more = let rest = offers-split tops more in omega (arith, rest)

few-part : (most : ℕ) (before : List TopStatement) (top : TopStatement) (after : List TopStatement) → AreMessagesFew most (before ++ top ∷ after) → (reach top.steps 1).most ≤ most
few-part most [] top after few = few.0
few-part most (one ∷ before) top after few = few-part most before top after few.1

within-bounds : (before : List TopStatement) (top : TopStatement) (after : List TopStatement) → AreOffersBounded (before ++ top ∷ after) → Exceeds (all_offers before) top → ⊥
within-bounds before top after (few, places) (inl more) =
    let sum : all_offers (before ++ top ∷ after) ≡ all_offers before + ((reach top.steps 1).offers + all_offers after) = offers-split before (top ∷ after) in
    omega (arith, more, few, sum)
within-bounds before top after (few, places) (inr most) = omega (arith, most, few-part 1024 before top after places)

not-many : (named : List Expr) (paths : List Path) (line : Line) → AreOffersBounded (map (top_view named) paths) → IsFirstBeyond named paths line → ⊥
not-many named paths line bounded beyond =
    let parts : map (top_view named) paths ≡ map (top_view named) beyond.before ++ top_view named beyond.path ∷ map (top_view named) beyond.after =
    ap (map (top_view named)) beyond.is ∙ map-append (top_view named) beyond.before (beyond.path ∷ beyond.after) in
    within-bounds (map (top_view named) beyond.before) (top_view named beyond.path) (map (top_view named) beyond.after) (subst AreOffersBounded parts bounded) beyond.exceeds

pub not-refused : (read new : WorldState) (config other : Config) (fault : ConfigFault) → CanBeCompiled config → AreAlikeConfigs config other → ¬ Rose read.build_faults new.build_faults
    → IsUncompiled read new other fault → ⊥
not-refused read new config other fault can alike calm (BadPattern line, bad, is) = not-bad (patterns_in other.forest) line (subst AreValid alike.patterns can.patterns) bad.bad
not-refused read new config other fault can alike calm (PatternTooLarge line, large, is) = calm (large-rose (patterns_in other.forest) line read new large)
not-refused read new config other fault can alike calm (TooManyOffers line, (valid, none, beyond), is) =
    not-many other.forest.filters.items other.forest.paths.items line (subst (λ w. AreOffersBounded w.tops) alike.woods can.bounded) beyond
not-refused read new config other fault can alike calm (LacksMemory, free, is) = is

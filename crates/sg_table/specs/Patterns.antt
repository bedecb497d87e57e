-- The patterns of log paths, and why one of them refuses them.
use Rattle.std.specs.Prelude.{List, [], ◌∷◌, ◌++◌, map, Option, Some, None, option_map, Result, Ok, Err, Vec}
use Rattle.std.specs.declared.alloc.Global.{Global}
use Rattle.sg_outside.specs.World.{WorldState}
use Rattle.sg_pattern.specs.Builds.{RefusesNone}
use Rattle.sg_pattern.specs.declared.text.PatternText.{PatternText}
use Rattle.sg_filter.specs.declared.expr.Expr.{Expr}
use Rattle.sg_filter.specs.Patterns.{joined, patterns_of, AreValid, IsBadAt, IsLargeAt}
use Rattle.sg_rewrite.specs.declared.op.Op.{Op}
use Rattle.sg_rewrite.specs.declared.op.Op.TheVariants.{Set, Unset, Subst, GroupSet, GroupUnset, SetTag, ClearTag}
use Rattle.sg_tree.specs.declared.forest.Forest.{Forest}
use Rattle.sg_tree.specs.declared.refusal.PathRefusal.{PathRefusal}
use Rattle.sg_tree.specs.declared.refusal.PathRefusal.TheVariants.{BadPattern, PatternTooLarge, TooManyOffers, NoMemory}
use Rattle.sg_tree.specs.declared.sound.RewriteRule.{RewriteRule}
use Rattle.sg_tree.specs.declared.tree.Element.{Element, fold-Element}
use Rattle.sg_tree.specs.declared.tree.Element.TheOpen.{Element-F, Path-F}
use Rattle.sg_tree.specs.declared.tree.Path.{Path, out-Path, fold-Path}

abbrev pub PatternTexts : Type 0
PatternTexts = List PatternText

abbrev pub op_patterns : Op → PatternTexts
op_patterns (Set name text) = []
op_patterns (Unset name) = []
op_patterns (Subst name pattern text) = pattern ∷ []
op_patterns (GroupSet globs text) = []
op_patterns (GroupUnset globs) = []
op_patterns (SetTag tag) = []
op_patterns (ClearTag tag) = []

abbrev pub condition_patterns : List Expr → Option Expr → PatternTexts
condition_patterns named None = []
condition_patterns named (Some expr) = patterns_of named expr

abbrev pub rule_patterns : List Expr → RewriteRule → PatternTexts
rule_patterns named rule = condition_patterns named rule.condition ++ op_patterns rule.op

abbrev pub if_some : Option PatternTexts → PatternTexts
if_some None = []
if_some (Some patterns) = patterns

-- one element or statement, with the patterns of what stands inside it
abbrev pub element_patterns_step : List Expr → Element-F PatternTexts PatternTexts → PatternTexts
element_patterns_step named (Element-F.Filter expr) = patterns_of named expr
element_patterns_step named (Element-F.Rewrite rule) = rule_patterns named rule
element_patterns_step named (Element-F.Parse rule) = []
element_patterns_step named (Element-F.Deliver drivers) = []
element_patterns_step named (Element-F.Junction channels) = joined channels.items
element_patterns_step named (Element-F.If branches other) =
    joined (map (λ b. patterns_of named b.0 ++ joined b.1.items) branches.items)
    ++ if_some (option_map (λ o. joined o.items) other)

abbrev pub path_patterns_step : Path-F PatternTexts PatternTexts → PatternTexts
path_patterns_step path = joined path.elements.items ++ joined path.embedded.items

abbrev pub element_patterns : List Expr → Element → PatternTexts
element_patterns named = fold-Element PatternTexts PatternTexts (element_patterns_step named)
    path_patterns_step

abbrev pub path_patterns : List Expr → Path → PatternTexts
path_patterns named = fold-Path PatternTexts PatternTexts (element_patterns_step named)
    path_patterns_step

-- the patterns of lists of them
abbrev pub filters_patterns : List Expr → List Expr → PatternTexts
filters_patterns named filters = joined (map (patterns_of named) filters)

abbrev pub rules_patterns : List Expr → List RewriteRule → PatternTexts
rules_patterns named rules = joined (map (rule_patterns named) rules)

abbrev pub list_patterns : List Expr → List Element → PatternTexts
list_patterns named elements = joined (map (element_patterns named) elements)

abbrev pub siblings_patterns : List Expr → List Path → PatternTexts
siblings_patterns named paths = joined (map (path_patterns named) paths)

abbrev pub branch_patterns : List Expr → Expr × Vec Element Global → PatternTexts
branch_patterns named branch = patterns_of named branch.0 ++ list_patterns named branch.1.items

abbrev pub choices_patterns : List Expr → List (Expr × Vec Element Global) → PatternTexts
choices_patterns named branches = joined (map (branch_patterns named) branches)

abbrev pub other_patterns : List Expr → Option (Vec Element Global) → PatternTexts
other_patterns named None = []
other_patterns named (Some other) = list_patterns named other.items

abbrev pub own_patterns : List Expr → Path → PatternTexts
own_patterns named path = list_patterns named (out-Path path).elements.items
    ++ siblings_patterns named (out-Path path).embedded.items

-- all, those of filters and rewrites that nothing uses too
abbrev pub patterns_in : Forest → PatternTexts
patterns_in forest =
    filters_patterns forest.filters.items forest.filters.items
    ++ rules_patterns forest.filters.items forest.rewrites.items
    ++ siblings_patterns forest.filters.items forest.paths.items

-- the pattern of the line is no pattern, or it is too large for the builder, whose count rose
abbrev pub RefusesPatterns : WorldState → WorldState → PatternTexts → PathRefusal → Type 0
RefusesPatterns old new patterns (BadPattern line) = IsBadAt patterns line
RefusesPatterns old new patterns (PatternTooLarge line) = IsLargeAt patterns line old new
RefusesPatterns old new patterns (TooManyOffers line) = ⊥
RefusesPatterns old new patterns NoMemory = Unit {0}

-- each of these was made and none was refused for its size, or one was refused
abbrev pub MakesPatterns : {A : Type 0} → WorldState → WorldState → PatternTexts
    → Result A PathRefusal → Type 0
MakesPatterns old new patterns (Ok made) = AreValid patterns × RefusesNone old new
MakesPatterns old new patterns (Err why) = RefusesPatterns old new patterns why

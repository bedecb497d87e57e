-- The equations of what an expression means.
use Rattle.std.proofs.Common.{◌≡◌, ℕ, zero, suc, ◌-◌, List, [], ◌∷◌, map, Option, refl, sym, ap, ◌∙◌, subst, arith}
use Rattle.std.specs.Prelude.{slice_get}
use Rattle.sg_pattern.specs.Pattern.{pattern_of}
use Rattle.sg_pattern.specs.declared.text.PatternText.{PatternText}
use Rattle.sg_lex.specs.declared.place.Cmp.{Cmp}
use Rattle.sg_macro.specs.declared.part.TemplatePart.{TemplatePart}
use Rattle.sg_filter.specs.declared.check.Predicate.TheVariants as check
use Rattle.sg_filter.specs.declared.expr.Expr.{Expr}
use Rattle.sg_filter.specs.declared.expr.Expr.TheOpen.{Expr-F}
use Rattle.sg_filter.specs.declared.expr.Expr.TheFolds.{fold-roll-Expr}
use Rattle.sg_filter.specs.declared.expr.Expr.TheVariants as e
use Rattle.sg_filter.specs.declared.expr.Expr.TheVariants.{rolls-Facility, rolls-Level, rolls-Field, rolls-Tags, rolls-Compare, rolls-Named, rolls-And, rolls-Or, rolls-Not}
use Rattle.sg_filter.specs.Names.{of_named}
use Rattle.sg_filter.specs.Decisions.{Fork, ask, all_fork, any_fork, fork_step, no_fork, name_fork, forks}
use Rattle.sg_filter.specs.Patterns.{joined, patterns_step, name_patterns, patterns_within}

pub deeper : (depth : ℕ) → (depth ≡ 0 → ⊥) → suc (depth - 1) ≡ depth
deeper zero h = absurd (h refl)
deeper (suc depth) h = omega arith

module _ (depth : ℕ) (named : List Expr) where
  pub forks-Facility : (ranges : List (ℕ × ℕ)) → forks depth named (e.Facility ranges) ≡ ask (check.Facility ranges)
  unfolding forks
  forks-Facility ranges = ap (forks depth named) (sym (rolls-Facility ranges)) ∙ fold-roll-Expr Fork (fork_step (name_fork depth named)) (Expr-F.Facility ranges)

  pub forks-Field : (name : List ℕ) (pattern : PatternText) → forks depth named (e.Field name pattern) ≡ ask (check.Field (record { name = name; matcher = pattern_of pattern }))
  unfolding forks
  forks-Field name pattern = ap (forks depth named) (sym (rolls-Field name pattern)) ∙ fold-roll-Expr Fork (fork_step (name_fork depth named)) (Expr-F.Field name pattern)

  pub forks-Level : (ranges : List (ℕ × ℕ)) → forks depth named (e.Level ranges) ≡ ask (check.Level ranges)
  unfolding forks
  forks-Level ranges = ap (forks depth named) (sym (rolls-Level ranges)) ∙ fold-roll-Expr Fork (fork_step (name_fork depth named)) (Expr-F.Level ranges)

  pub patterns-Level : (ranges : List (ℕ × ℕ)) → patterns_within depth named (e.Level ranges) ≡ []
  unfolding patterns_within
  patterns-Level ranges = ap (patterns_within depth named) (sym (rolls-Level ranges)) ∙ fold-roll-Expr (List PatternText) (patterns_step (name_patterns depth named)) (Expr-F.Level ranges)

  pub forks-Tags : (tags : List (List ℕ)) → forks depth named (e.Tags tags) ≡ ask (check.Tags tags)
  unfolding forks
  forks-Tags tags = ap (forks depth named) (sym (rolls-Tags tags)) ∙ fold-roll-Expr Fork (fork_step (name_fork depth named)) (Expr-F.Tags tags)

  pub patterns-Tags : (tags : List (List ℕ)) → patterns_within depth named (e.Tags tags) ≡ []
  unfolding patterns_within
  patterns-Tags tags = ap (patterns_within depth named) (sym (rolls-Tags tags)) ∙ fold-roll-Expr (List PatternText) (patterns_step (name_patterns depth named)) (Expr-F.Tags tags)

  pub forks-Compare : (left : List TemplatePart) (cmp : Cmp) (right : List TemplatePart) → forks depth named (e.Compare left cmp right) ≡ ask (check.Compare left cmp right)
  unfolding forks
  forks-Compare left cmp right = ap (forks depth named) (sym (rolls-Compare left cmp right)) ∙ fold-roll-Expr Fork (fork_step (name_fork depth named)) (Expr-F.Compare left cmp right)

  pub patterns-Compare : (left : List TemplatePart) (cmp : Cmp) (right : List TemplatePart) → patterns_within depth named (e.Compare left cmp right) ≡ []
  unfolding patterns_within
  patterns-Compare left cmp right = ap (patterns_within depth named) (sym (rolls-Compare left cmp right)) ∙ fold-roll-Expr (List PatternText) (patterns_step (name_patterns depth named)) (Expr-F.Compare left cmp right)

  pub forks-And : (terms : List Expr) → forks depth named (e.And terms) ≡ all_fork (map (forks depth named) terms)
  unfolding forks
  forks-And terms = ap (forks depth named) (sym (rolls-And terms)) ∙ fold-roll-Expr Fork (fork_step (name_fork depth named)) (Expr-F.And terms)

  pub forks-Or : (terms : List Expr) → forks depth named (e.Or terms) ≡ any_fork (map (forks depth named) terms)
  unfolding forks
  forks-Or terms = ap (forks depth named) (sym (rolls-Or terms)) ∙ fold-roll-Expr Fork (fork_step (name_fork depth named)) (Expr-F.Or terms)

  pub forks-Not : (term : Expr) → forks depth named (e.Not term) ≡ (λ pass fail. forks depth named term fail pass)
  unfolding forks
  forks-Not term = ap (forks depth named) (sym (rolls-Not term)) ∙ fold-roll-Expr Fork (fork_step (name_fork depth named)) (Expr-F.Not term)

  pub patterns-Facility : (ranges : List (ℕ × ℕ)) → patterns_within depth named (e.Facility ranges) ≡ []
  unfolding patterns_within
  patterns-Facility ranges = ap (patterns_within depth named) (sym (rolls-Facility ranges)) ∙ fold-roll-Expr (List PatternText) (patterns_step (name_patterns depth named)) (Expr-F.Facility ranges)

  pub patterns-Field : (name : List ℕ) (pattern : PatternText) → patterns_within depth named (e.Field name pattern) ≡ pattern ∷ []
  unfolding patterns_within
  patterns-Field name pattern = ap (patterns_within depth named) (sym (rolls-Field name pattern)) ∙ fold-roll-Expr (List PatternText) (patterns_step (name_patterns depth named)) (Expr-F.Field name pattern)

  pub patterns-And : (terms : List Expr) → patterns_within depth named (e.And terms) ≡ joined (map (patterns_within depth named) terms)
  unfolding patterns_within
  patterns-And terms = ap (patterns_within depth named) (sym (rolls-And terms)) ∙ fold-roll-Expr (List PatternText) (patterns_step (name_patterns depth named)) (Expr-F.And terms)

  pub patterns-Or : (terms : List Expr) → patterns_within depth named (e.Or terms) ≡ joined (map (patterns_within depth named) terms)
  unfolding patterns_within
  patterns-Or terms = ap (patterns_within depth named) (sym (rolls-Or terms)) ∙ fold-roll-Expr (List PatternText) (patterns_step (name_patterns depth named)) (Expr-F.Or terms)

  pub patterns-Not : (term : Expr) → patterns_within depth named (e.Not term) ≡ patterns_within depth named term
  unfolding patterns_within
  patterns-Not term = ap (patterns_within depth named) (sym (rolls-Not term)) ∙ fold-roll-Expr (List PatternText) (patterns_step (name_patterns depth named)) (Expr-F.Not term)

  forks-name : (i : ℕ) → forks depth named (e.Named i) ≡ name_fork depth named i
  unfolding forks
  forks-name i = ap (forks depth named) (sym (rolls-Named i)) ∙ fold-roll-Expr Fork (fork_step (name_fork depth named)) (Expr-F.Named i)

  patterns-name : (i : ℕ) → patterns_within depth named (e.Named i) ≡ name_patterns depth named i
  unfolding patterns_within
  patterns-name i = ap (patterns_within depth named) (sym (rolls-Named i)) ∙ fold-roll-Expr (List PatternText) (patterns_step (name_patterns depth named)) (Expr-F.Named i)

name-below : (depth : ℕ) (named : List Expr) (i : ℕ) → name_fork (suc depth) named i ≡ of_named no_fork (forks depth named) (slice_get named i)
unfolding forks
name-below depth named i = refl

patterns-below : (depth : ℕ) (named : List Expr) (i : ℕ) → name_patterns (suc depth) named i ≡ of_named [] (patterns_within depth named) (slice_get named i)
unfolding patterns_within
patterns-below depth named i = refl

-- a name that is too deep, one that the list doesn't have, and one that it has
pub forks-deep : (depth : ℕ) (named : List Expr) (i : ℕ) → 0 ≡ depth → forks depth named (e.Named i) ≡ no_fork
forks-deep depth named i h = subst (λ (d : ℕ). forks d named (e.Named i) ≡ no_fork) h (forks-name 0 named i)

pub patterns-deep : (depth : ℕ) (named : List Expr) (i : ℕ) → 0 ≡ depth → patterns_within depth named (e.Named i) ≡ []
patterns-deep depth named i h = subst (λ (d : ℕ). patterns_within d named (e.Named i) ≡ []) h (patterns-name 0 named i)

pub forks-named : (depth next : ℕ) (named : List Expr) (i : ℕ) (found : Option Expr) → suc next ≡ depth → slice_get named i ≡ found
    → forks depth named (e.Named i) ≡ of_named no_fork (forks next named) found
forks-named depth next named i found h is =
    subst (λ (d : ℕ). forks d named (e.Named i) ≡ of_named no_fork (forks next named) found) h
    (forks-name (suc next) named i ∙ name-below next named i ∙ ap (of_named no_fork (forks next named)) is)

pub patterns-named : (depth next : ℕ) (named : List Expr) (i : ℕ) (found : Option Expr) → suc next ≡ depth → slice_get named i ≡ found
    → patterns_within depth named (e.Named i) ≡ of_named [] (patterns_within next named) found
patterns-named depth next named i found h is =
    subst (λ (d : ℕ). patterns_within d named (e.Named i) ≡ of_named [] (patterns_within next named) found) h
    (patterns-name (suc next) named i ∙ patterns-below next named i ∙ ap (of_named [] (patterns_within next named)) is)

-- What a decision answers.
use Rattle.std.proofs.Common.{◌≡◌, ℕ, zero, suc, Bool, true, false, List, [], ◌∷◌, map, length, Option, None, Some, refl, sym, ap, ◌∙◌, subst}
use Rattle.std.specs.Prelude.{cond, not, ◌&&◌, ◌||◌, slice_get}
use Rattle.std.specs.List.{list_all, list_any}
use Rattle.sg_msg.specs.Message.{Content}
use Rattle.sg_filter.specs.declared.expr.Expr.{Expr}
use Rattle.sg_filter.specs.declared.expr.Expr.TheOpen.{Expr-F}
use Rattle.sg_filter.specs.declared.expr.Expr.TheViews.{roll-Expr}
use Rattle.sg_filter.specs.declared.expr.Expr.TheFolds.{fold-Expr, fold-roll-Expr, map-Expr, ind-Expr}
use Rattle.sg_filter.specs.Names.{of_named}
use Rattle.sg_filter.specs.Holds.{holds_step, name_holds, holds_within}
use Rattle.sg_filter.specs.Decisions.{Decision, answer, decides, Fork, all_fork, any_fork, fork_step, no_fork, name_fork, forks}
use Rattle.sg_filter.specs.Laws.{FiltersHold}

-- the fork goes one way where that is true, and the other where it is false
abbrev SplitsTests : Content → Fork → Bool → Type 0
SplitsTests m f b = (pass fail : Decision) → decides (f pass fail) m ≡ cond b (decides pass m) (decides fail m)

module _ (m : Content) (forks_of : ℕ → Fork) (truths : ℕ → Bool) (names : (i : ℕ) → SplitsTests m (forks_of i) (truths i)) where
  abbrev fork : Expr → Fork
  fork = fold-Expr Fork (fork_step forks_of)

  abbrev truth : Expr → Bool
  truth = fold-Expr Bool (holds_step truths m)

  abbrev AgreesOnTruth : Expr → Type 0
  AgreesOnTruth e = SplitsTests m (fork e) (truth e)

  pub all-split : (ts : List ((e : Expr) × AgreesOnTruth e)) → SplitsTests m (all_fork (map fork (map (λ e. e.0) ts))) (list_all (λ b. b) (map truth (map (λ e. e.0) ts)))
  all-split [] pass fail = refl
  all-split (t ∷ ts) pass fail = t.1 (all_fork (map fork (map (λ e. e.0) ts)) pass fail) fail ∙ go (truth t.0) (list_all (λ b. b) (map truth (map (λ e. e.0) ts))) (all-split ts pass fail)
    where
      go : (a b : Bool) → decides (all_fork (map fork (map (λ e. e.0) ts)) pass fail) m ≡ cond b (decides pass m) (decides fail m)
          → cond a (decides (all_fork (map fork (map (λ e. e.0) ts)) pass fail) m) (decides fail m) ≡ cond (a && b) (decides pass m) (decides fail m)
      go true b h = h
      go false b h = refl

  pub any-split : (ts : List ((e : Expr) × AgreesOnTruth e)) → SplitsTests m (any_fork (map fork (map (λ e. e.0) ts))) (list_any (λ b. b) (map truth (map (λ e. e.0) ts)))
  any-split [] pass fail = refl
  any-split (t ∷ ts) pass fail = t.1 pass (any_fork (map fork (map (λ e. e.0) ts)) pass fail) ∙ go (truth t.0) (list_any (λ b. b) (map truth (map (λ e. e.0) ts))) (any-split ts pass fail)
    where
      go : (a b : Bool) → decides (any_fork (map fork (map (λ e. e.0) ts)) pass fail) m ≡ cond b (decides pass m) (decides fail m)
          → cond a (decides pass m) (decides (any_fork (map fork (map (λ e. e.0) ts)) pass fail) m) ≡ cond (a || b) (decides pass m) (decides fail m)
      go true b h = refl
      go false b h = h

  abbrev inside : Expr-F ((e : Expr) × AgreesOnTruth e) → Expr-F Expr
  inside = map-Expr ((e : Expr) × AgreesOnTruth e) Expr (λ e. e.0)

  layer : (y : Expr-F ((e : Expr) × AgreesOnTruth e)) → SplitsTests m (fork_step forks_of (map-Expr Expr Fork fork (inside y))) (holds_step truths m (map-Expr Expr Bool truth (inside y)))
  layer (Expr-F.Facility ranges) pass fail = refl
  layer (Expr-F.Level ranges) pass fail = refl
  layer (Expr-F.Field name pattern) pass fail = refl
  layer (Expr-F.Tags tags) pass fail = refl
  layer (Expr-F.Compare left cmp right) pass fail = refl
  layer (Expr-F.Named i) pass fail = names i pass fail
  layer (Expr-F.And terms) pass fail = all-split terms pass fail
  layer (Expr-F.Or terms) pass fail = any-split terms pass fail
  layer (Expr-F.Not term) pass fail = term.1 fail pass ∙ go (truth term.0)
    where
      go : (b : Bool) → cond b (decides fail m) (decides pass m) ≡ cond (not b) (decides pass m) (decides fail m)
      go true = refl
      go false = refl

  whole : (y : Expr-F ((e : Expr) × AgreesOnTruth e)) → AgreesOnTruth (roll-Expr (inside y))
  whole y pass fail =
      ap (λ (f : Fork). decides (f pass fail) m) (fold-roll-Expr Fork (fork_step forks_of) (inside y))
      ∙ layer y pass fail
      ∙ sym (ap (λ (b : Bool). cond b (decides pass m) (decides fail m)) (fold-roll-Expr Bool (holds_step truths m) (inside y)))

  pub all-agree : (e : Expr) → AgreesOnTruth e
  all-agree = ind-Expr AgreesOnTruth (λ x y is. subst (λ z. AgreesOnTruth (roll-Expr z)) is (whole y))

named-agree : (m : Content) (forks_of : ℕ → Fork) (truths : ℕ → Bool) (names : (i : ℕ) → SplitsTests m (forks_of i) (truths i)) (found : Option Expr)
    → SplitsTests m (of_named no_fork (fold-Expr Fork (fork_step forks_of)) found) (of_named false (fold-Expr Bool (holds_step truths m)) found)
named-agree m forks_of truths names None pass fail = refl
named-agree m forks_of truths names (Some e) pass fail = all-agree m forks_of truths names e pass fail

name-agree : (depth : ℕ) (named : List Expr) (m : Content) (i : ℕ) → SplitsTests m (name_fork depth named i) (name_holds depth named m i)
name-agree zero named m i pass fail = refl
name-agree (suc depth) named m i pass fail =
    named-agree m (name_fork depth named) (name_holds depth named m) (name-agree depth named m) (slice_get named i) pass fail

itself : (b : Bool) → cond b true false ≡ b
itself true = refl
itself false = refl

pub filters-hold : FiltersHold
unfolding forks holds_within
filters-hold named expr m =
    all-agree m (name_fork (length named) named) (name_holds (length named) named m) (name-agree (length named) named m) expr (answer true) (answer false)
    ∙ itself (fold-Expr Bool (holds_step (name_holds (length named) named m) m) expr)

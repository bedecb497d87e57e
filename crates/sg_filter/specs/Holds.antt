-- Whether an expression holds of a message (syslog-ng's administration guide, "Combining filters with boolean operators").
use Rattle.std.specs.Prelude.{ℕ, zero, suc, Bool, false, not, List, length, slice_get}
use Rattle.std.specs.List.{list_all, list_any}
use Rattle.sg_msg.specs.Message.{Content}
use Rattle.sg_pattern.specs.Pattern.{pattern_of}
use Rattle.sg_filter.specs.declared.check.Predicate.TheVariants as check
use Rattle.sg_filter.specs.declared.expr.Expr.{Expr}
use Rattle.sg_filter.specs.declared.expr.Expr.TheOpen.{Expr-F}
use Rattle.sg_filter.specs.declared.expr.Expr.TheFolds.{fold-Expr}
use Rattle.sg_filter.specs.Checks.{check_holds}
use Rattle.sg_filter.specs.Names.{of_named}

-- one layer, with what its names and its parts come to
abbrev pub holds_step : (ℕ → Bool) → Content → Expr-F Bool → Bool
holds_step names m (Expr-F.Facility ranges) = check_holds (check.Facility ranges) m
holds_step names m (Expr-F.Level ranges) = check_holds (check.Level ranges) m
holds_step names m (Expr-F.Field name pattern) =
    check_holds (check.Field (record { name = name; matcher = pattern_of pattern })) m
holds_step names m (Expr-F.Tags tags) = check_holds (check.Tags tags) m
holds_step names m (Expr-F.Compare left cmp right) = check_holds (check.Compare left cmp right) m
holds_step names m (Expr-F.Named i) = names i
holds_step names m (Expr-F.And terms) = list_all (λ b. b) terms
holds_step names m (Expr-F.Or terms) = list_any (λ b. b) terms
holds_step names m (Expr-F.Not term) = not term

abbrev pub name_holds : ℕ → List Expr → Content → ℕ → Bool
name_holds zero named m i = false
name_holds (suc depth) named m i = of_named false
    (fold-Expr Bool (holds_step (name_holds depth named m) m)) (slice_get named i)

-- with its names replaced so many deep
unfoldable pub holds_within : ℕ → List Expr → Content → Expr → Bool
holds_within depth named m = fold-Expr Bool (holds_step (name_holds depth named m) m)

-- A name means what the expression at its place of the list means. Expressions without a cycle go no deeper than there are names.
abbrev pub holds : List Expr → Expr → Content → Bool
holds named expr m = holds_within (length named) named m expr

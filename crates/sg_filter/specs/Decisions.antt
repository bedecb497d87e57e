-- What a filter asks of a message, one check after another, and what it answers.
use Rattle.std.specs.Prelude.{ℕ, zero, suc, Bool, true, false, if◌then◌else◌, List, [], ◌∷◌, length, slice_get}
use Rattle.sg_msg.specs.Message.{Content}
use Rattle.sg_pattern.specs.Pattern.{pattern_of}
use Rattle.sg_filter.specs.declared.check.Predicate.{Predicate}
use Rattle.sg_filter.specs.declared.check.Predicate.TheVariants as check
use Rattle.sg_filter.specs.declared.expr.Expr.{Expr}
use Rattle.sg_filter.specs.declared.expr.Expr.TheOpen.{Expr-F}
use Rattle.sg_filter.specs.declared.expr.Expr.TheFolds.{fold-Expr}
use Rattle.sg_filter.specs.Checks.{check_holds}
use Rattle.sg_filter.specs.Names.{of_named}

pub data Decision : Type 0 where
  answer : Bool → Decision
  -- a check, what follows where it holds, and what follows where it doesn't
  ask : Predicate → Decision → Decision → Decision

abbrev pub decides : Decision → Content → Bool
decides (answer b) m = b
decides (ask check pass fail) m = if check_holds check m then decides pass m else decides fail m

-- an expression, between what follows where it holds and what follows where it doesn't
abbrev pub Fork : Type 0
Fork = Decision → Decision → Decision

abbrev pub all_fork : List Fork → Fork
all_fork [] pass fail = pass
all_fork (f ∷ fs) pass fail = f (all_fork fs pass fail) fail

abbrev pub any_fork : List Fork → Fork
any_fork [] pass fail = fail
any_fork (f ∷ fs) pass fail = f pass (any_fork fs pass fail)

-- one layer, with what stands for its names
abbrev pub fork_step : (ℕ → Fork) → Expr-F Fork → Fork
fork_step names (Expr-F.Facility ranges) = ask (check.Facility ranges)
fork_step names (Expr-F.Level ranges) = ask (check.Level ranges)
fork_step names (Expr-F.Field name pattern) = ask
    (check.Field (record { name = name; matcher = pattern_of pattern }))
fork_step names (Expr-F.Tags tags) = ask (check.Tags tags)
fork_step names (Expr-F.Compare left cmp right) = ask (check.Compare left cmp right)
fork_step names (Expr-F.Named i) = names i
fork_step names (Expr-F.And terms) = all_fork terms
fork_step names (Expr-F.Or terms) = any_fork terms
fork_step names (Expr-F.Not term) = λ pass fail. term fail pass

abbrev pub no_fork : Fork
no_fork pass fail = fail

abbrev pub name_fork : ℕ → List Expr → ℕ → Fork
name_fork zero named i = no_fork
name_fork (suc depth) named i = of_named no_fork
    (fold-Expr Fork (fork_step (name_fork depth named))) (slice_get named i)

-- the expression, with its names replaced so many deep
unfoldable pub forks : ℕ → List Expr → Expr → Fork
forks depth named = fold-Expr Fork (fork_step (name_fork depth named))

-- a filter's decision: one without a cycle goes no deeper than there are names
abbrev pub decision_of : List Expr → Expr → Decision
decision_of named expr = forks (length named) named expr (answer true) (answer false)

-- What a table of pipes stands for.
use Rattle.std.specs.Prelude.{ℕ, suc, ◌<◌, List, [], ◌∷◌, ◌++◌, map, Option, Some, None, slice_index_or}
use mathlib.Core.HLevel.{×_prop, Unit-prop}
use native.Mathlib.Bridge.{le_prop}
use Rattle.std.specs.List.{AllByRecursion, AllByRecursion-prop}
use Rattle.sg_filter.specs.Decisions.{Decision}
use Rattle.sg_table.specs.declared.pipe.Branch.{Branch}
use Rattle.sg_table.specs.declared.pipe.Test.{Test}
use Rattle.sg_table.specs.declared.pipe.Pipe.{Pipe}
use Rattle.sg_table.specs.declared.pipe.Pipe.TheVariants as pipe
use Rattle.sg_tree.specs.Walk.{Marks, Steps, Siblings, Choice, none_left, filter, rewrite, parse, deliver, junction, choose, embedded, no_siblings, sibling, otherwise, test}

abbrev pub marks : Branch → Marks
marks branch = record {
  is_final = branch.is_final;
  fallback = branch.fallback;
  flow = branch.flow;
  drop_unmatched = branch.drop_unmatched;
}

-- what stands at each place
abbrev pub StepsByPlace : Type 0
StepsByPlace = ℕ → Steps

abbrev pub siblings_of : List (Marks × Steps) → Siblings
siblings_of [] = no_siblings
siblings_of (one ∷ more) = sibling one.0 one.1 (siblings_of more)

abbrev pub branches_at : StepsByPlace → List Branch → List (Marks × Steps)
branches_at at = map (λ branch. (marks branch, at branch.start))

abbrev pub choice_of : List (Decision × Steps) → Steps → Choice
choice_of [] other = otherwise other
choice_of (one ∷ more) other = test one.0 one.1 (choice_of more other)

abbrev pub tests_at : StepsByPlace → List Test → List (Decision × Steps)
tests_at at = map (λ test. (test.filter, at test.start))

-- a missing `else` is an empty branch
abbrev pub other_at : StepsByPlace → Option ℕ → Steps
other_at at (Some place) = at place
other_at at None = none_left

-- what a pipe stands for
abbrev pub steps_of : StepsByPlace → Pipe → Steps
steps_of at pipe.End = none_left
steps_of at (pipe.Filter decision next) = filter decision (at next)
steps_of at (pipe.Rewrite condition change next) =
    rewrite (record { condition = condition; change = change }) (at next)
steps_of at (pipe.Parse rule next) = parse rule (at next)
steps_of at (pipe.Deliver drivers next) = deliver drivers.items (at next)
steps_of at (pipe.Junction channels next) = junction (siblings_of (branches_at at channels.items))
    (at next)
steps_of at (pipe.If tests other next) =
    choose (choice_of (tests_at at tests.items) (other_at at other)) (at next)
steps_of at (pipe.Embedded logs) = embedded (siblings_of (branches_at at logs.items))

abbrev pub place : List Steps → StepsByPlace
place seen i = slice_index_or seen i none_left

-- The table is read from its front: a pipe refers to those before it.
abbrev pub read : List Steps → List Pipe → List Steps
read seen [] = seen
read seen (one ∷ more) = read (seen ++ steps_of (place seen) one ∷ []) more

abbrev pub steps_at : List Pipe → StepsByPlace
steps_at pipes = place (read [] pipes)

abbrev pub IsOtherBelow : ℕ → Option ℕ → Type 0
IsOtherBelow n (Some place) = place < n
IsOtherBelow n None = Unit {0}

-- each reference is below n
abbrev pub IsPipeBelow : ℕ → Pipe → Type 0
IsPipeBelow n pipe.End = Unit {0}
IsPipeBelow n (pipe.Filter decision next) = next < n
IsPipeBelow n (pipe.Rewrite condition change next) = next < n
IsPipeBelow n (pipe.Parse rule next) = next < n
IsPipeBelow n (pipe.Deliver drivers next) = next < n
IsPipeBelow n (pipe.Junction channels next) = (next < n)
    × AllByRecursion (λ branch. branch.start < n) channels.items
IsPipeBelow n (pipe.If tests other next) = (next < n)
    × (AllByRecursion (λ test. test.start < n) tests.items × IsOtherBelow n other)
IsPipeBelow n (pipe.Embedded logs) = AllByRecursion (λ branch. branch.start < n) logs.items

abbrev pub ArePipesBelow : ℕ → List Pipe → Type 0
ArePipesBelow n [] = Unit {0}
ArePipesBelow n (one ∷ more) = IsPipeBelow n one × ArePipesBelow (suc n) more

-- each reference of a pipe is below the pipe's own place
unfoldable pub IsPipeTable : List Pipe → Type 0
IsPipeTable = ArePipesBelow 0

-- these are facts
IsOtherBelow-prop : (n : ℕ) (other : Option ℕ) → IsProp (IsOtherBelow n other)
IsOtherBelow-prop n (Some place) = le_prop
IsOtherBelow-prop n None = Unit-prop

IsPipeBelow-prop : (n : ℕ) (one : Pipe) → IsProp (IsPipeBelow n one)
IsPipeBelow-prop n pipe.End = Unit-prop
IsPipeBelow-prop n (pipe.Filter decision next) = le_prop
IsPipeBelow-prop n (pipe.Rewrite condition change next) = le_prop
IsPipeBelow-prop n (pipe.Parse rule next) = le_prop
IsPipeBelow-prop n (pipe.Deliver drivers next) = le_prop
IsPipeBelow-prop n (pipe.Junction channels next) = ×_prop le_prop
    (AllByRecursion-prop (λ branch. branch.start < n) (λ branch. le_prop) channels.items)
IsPipeBelow-prop n (pipe.If tests other next) = ×_prop le_prop (
    ×_prop (AllByRecursion-prop (λ test. test.start < n) (λ test. le_prop) tests.items)
    (IsOtherBelow-prop n other))
IsPipeBelow-prop n (pipe.Embedded logs) = AllByRecursion-prop (λ branch. branch.start < n)
    (λ branch. le_prop) logs.items

ArePipesBelow-prop : (n : ℕ) (pipes : List Pipe) → IsProp (ArePipesBelow n pipes)
ArePipesBelow-prop n [] = Unit-prop
ArePipesBelow-prop n (one ∷ more) =
    ×_prop (IsPipeBelow-prop n one) (ArePipesBelow-prop (suc n) more)

pub IsPipeTable-prop : (pipes : List Pipe) → IsProp (IsPipeTable pipes)
unfolding IsPipeTable
IsPipeTable-prop pipes = ArePipesBelow-prop 0 pipes

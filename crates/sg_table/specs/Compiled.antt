-- What a part of the compilation adds to the table.
use Rattle.std.specs.Prelude.{◌≡◌, ℕ, ◌<◌, List, [], ◌++◌, length, map, Option, Some, None, Vec}
use Rattle.std.specs.List.{AllByRecursion}
use Rattle.std.specs.declared.alloc.Global.{Global}
use Rattle.sg_filter.specs.Decisions.{Decision, decision_of}
use Rattle.sg_filter.specs.declared.expr.Expr.{Expr}
use Rattle.sg_tree.specs.declared.tree.Element.{Element}
use Rattle.sg_tree.specs.declared.tree.Path.{Path, out-Path}
use Rattle.sg_tree.specs.Offers.{TopStatement as Statement}
use Rattle.sg_tree.specs.Plain.{marks as path_marks, own_steps, steps_view}
use Rattle.sg_tree.specs.Walk.{Marks, Steps, none_left}
use Rattle.sg_table.specs.declared.pipe.Branch.{Branch}
use Rattle.sg_table.specs.declared.pipe.Pipe.{Pipe}
use Rattle.sg_table.specs.declared.pipe.Test.{Test}
use Rattle.sg_table.specs.declared.pipe.Top.{Top}
use Rattle.sg_table.specs.Forest.{statement_at}
use Rattle.sg_table.specs.Table.{IsPipeTable, IsPipeBelow, IsOtherBelow, steps_of, steps_at, branches_at, tests_at, other_at, marks as branch_marks}

-- more pipes stand behind the old ones
pub record PipesGrow (old new : List Pipe) : Type 0 where
  pub more : List Pipe
  pub is : new ≡ old ++ more
  pub in_order : IsPipeTable old → IsPipeTable new

-- what stands at a place of the table now is this
pub record Compiled (old new : List Pipe) (at : ℕ) (steps : Steps) : Type 0 where
  pub grows : PipesGrow old new
  pub within : at < length new
  pub means : steps_at new at ≡ steps

-- the pipe that is to stand behind the table is this
pub record MadePipe (old new : List Pipe) (pipe : Pipe) (steps : Steps) : Type 0 where
  pub grows : PipesGrow old new
  pub below : IsPipeBelow (length new) pipe
  pub means : steps_of (steps_at new) pipe ≡ steps

abbrev pub own : List Expr → Path → Marks × Steps
own named path = (path_marks path, own_steps named path)

pub record CompiledBranches (old new : List Pipe) (branches : List Branch)
    (siblings : List (Marks × Steps)) : Type 0 where
  pub grows : PipesGrow old new
  pub within : AllByRecursion (λ branch. branch.start < length new) branches
  pub means : branches_at (steps_at new) branches ≡ siblings

-- the branches of an `if`
abbrev pub choices : List Expr → List (Expr × Vec Element Global) → List (Decision × Steps)
choices named = map (λ branch. (decision_of named branch.0, steps_view named branch.1.items []))

pub record CompiledTests (old new : List Pipe) (tests : List Test)
    (choice : List (Decision × Steps)) : Type 0 where
  pub grows : PipesGrow old new
  pub within : AllByRecursion (λ test. test.start < length new) tests
  pub means : tests_at (steps_at new) tests ≡ choice

abbrev pub other_steps : List Expr → Option (Vec Element Global) → Steps
other_steps named (Some elements) = steps_view named elements.items []
other_steps named None = none_left

pub record CompiledOther (named : List Expr) (old new : List Pipe) (start : Option ℕ)
    (other : Option (Vec Element Global)) : Type 0 where
  pub grows : PipesGrow old new
  pub within : IsOtherBelow (length new) start
  pub means : other_at (steps_at new) start ≡ other_steps named other

-- what the statement says of itself
pub record IsTopOf (path : Path) (top : Top) : Type 0 where
  pub sources : top.sources.items ≡ (out-Path path).sources.items
  pub catchall : top.catchall ≡ (out-Path path).catchall
  pub marks : branch_marks top.branch ≡ path_marks path

pub record CompiledTops (old new : List Pipe) (tops : List Top)
    (statements : List Statement) : Type 0 where
  pub grows : PipesGrow old new
  pub within : AllByRecursion (λ top. top.branch.start < length new) tops
  pub means : map (statement_at (steps_at new)) tops ≡ statements

-- Pipes that stand for the same.
use Rattle.std.specs.Prelude.{◌≡◌, ℕ, List, length}
use Rattle.sg_tree.specs.Walk.{Steps}
use Rattle.sg_table.specs.declared.pipe.Pipe.{Pipe}
use Rattle.sg_table.specs.Table.{StepsByPlace, ArePipesBelow, IsPipeBelow, read, steps_of}

pub record IsSame (pipe copy : Pipe) : Type 0 where
  pub means : (at : StepsByPlace) → steps_of at copy ≡ steps_of at pipe
  pub below : (n : ℕ) → IsPipeBelow n pipe → IsPipeBelow n copy

pub record AreSame (pipes copies : List Pipe) : Type 0 where
  pub long : length copies ≡ length pipes
  pub reads : (seen : List Steps) → read seen copies ≡ read seen pipes
  pub below : (n : ℕ) → ArePipesBelow n pipes → ArePipesBelow n copies

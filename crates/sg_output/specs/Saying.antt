-- What was said, and what is still to be said.
use Rattle.std.specs.Prelude.{◌≡◌, ◌≤◌, ℕ, List, ◌++◌}
use Rattle.std.specs.Option.{option_map}
use Rattle.sg_outside.specs.World.{WorldState}

-- the machine, but that something may have been said
pub record OnlySays (old new : WorldState) : Type 0 where
  pub same : new ≡ record old { say_faults = new.say_faults; said = new.said }
  pub later : old.say_faults ≤ new.say_faults

-- this was said, and nothing else
abbrev pub SaidText : WorldState → WorldState → List ℕ → Type 0
SaidText old new text = new.said ≡ option_map (λ said. said ++ text) old.said

-- the text was said, or is still to be said
abbrev pub SaidSome : WorldState → WorldState → (text text' : List ℕ) → Type 0
SaidSome old new text text' = (said : List ℕ) × (SaidText old new said × (said ++ text' ≡ text))

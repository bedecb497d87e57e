-- What is said on the way.
use Rattle.std.specs.Prelude.{◌≡◌, ℕ, List, [], Result, Ok, Err}
use Rattle.sg_device.specs.Faults.{Rose}
use Rattle.sg_outside.specs.World.{WorldState}
use Rattle.sg_output.specs.Saying.{SaidText, SaidSome}
use Rattle.sg_trace.specs.declared.untraced.Untraced.{Untraced}
use Rattle.sg_trace.specs.declared.untraced.Untraced.TheVariants.{NotOpened, InletFault, RoundsSpent, SayFault, NoMemory}

-- the text was said, and none is left; or saying failed, or memory ran out
abbrev pub SaysAllTraced : WorldState → WorldState → (text text' : List ℕ) → Result Unit Untraced
    → Type 0
SaysAllTraced old new text text' (Ok done) = SaidText old new text × (text' ≡ [])
SaysAllTraced old new text text' (Err SayFault) = Rose old.say_faults new.say_faults
SaysAllTraced old new text text' (Err NoMemory) = Unit {0}
SaysAllTraced old new text text' (Err NotOpened) = ⊥
SaysAllTraced old new text text' (Err InletFault) = ⊥
SaysAllTraced old new text text' (Err RoundsSpent) = ⊥

-- the same of a call that may say some of it
abbrev pub SaysSomeTraced : WorldState → WorldState → (text text' : List ℕ) → Result Unit Untraced
    → Type 0
SaysSomeTraced old new text text' (Ok done) = SaidSome old new text text'
SaysSomeTraced old new text text' (Err SayFault) = Rose old.say_faults new.say_faults
SaysSomeTraced old new text text' (Err NoMemory) = Unit {0}
SaysSomeTraced old new text text' (Err NotOpened) = ⊥
SaysSomeTraced old new text text' (Err InletFault) = ⊥
SaysSomeTraced old new text text' (Err RoundsSpent) = ⊥

-- What saying something counts.
use Rattle.std.specs.Prelude.{◌≡◌, ◌≤◌, ℕ, Result, Ok, Err}
use Rattle.sg_device.specs.Faults.{Rose}
use Rattle.sg_device.specs.declared.fault.SayRefusal.{SayRefusal}
use Rattle.sg_device.specs.declared.fault.SayRefusal.TheVariants.{Fault, NoMemory}

-- the count rises where the saying failed, and nowhere else
abbrev pub SaysOut : ℕ → ℕ → Result Unit SayRefusal → Type 0
SaysOut old new (Ok done) = new ≡ old
SaysOut old new (Err Fault) = (old ≤ new) × Rose old new
SaysOut old new (Err NoMemory) = ⊥

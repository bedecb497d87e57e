-- What a reading of a real file counts.
use Rattle.std.specs.Prelude.{◌≡◌, ◌≤◌, ℕ, length, Result, Ok, Err, Vec}
use Rattle.std.specs.declared.alloc.Global.{Global}
use Rattle.sg_device.specs.Faults.{Rose}
use Rattle.sg_device.specs.declared.fault.FileRefusal.{FileRefusal}
use Rattle.sg_device.specs.declared.fault.FileRefusal.TheVariants.{Failed, TooLong, NoMemory}

-- the bytes are within the limit, and the count rises where the reading failed, and nowhere else
abbrev pub FileReads : ℕ → ℕ → ℕ → Result (Vec ℕ Global) FileRefusal → Type 0
FileReads old new limit (Ok bytes) = (new ≡ old) × (length bytes.items ≤ limit)
FileReads old new limit (Err Failed) = (old ≤ new) × Rose old new
FileReads old new limit (Err TooLong) = new ≡ old
FileReads old new limit (Err NoMemory) = new ≡ old

-- What an opening does to the devices opened and closed, and to the number of openings that failed.
use Rattle.std.specs.Prelude.{◌≡◌, ◌≤◌, ℕ}
use Rattle.sg_device.specs.Faults.{Rose}
use Rattle.sg_outside.specs.World.{Ledger, with_opened}
use Rattle.sg_device.specs.declared.fault.OpenRefusal.{OpenRefusal}
use Rattle.sg_device.specs.declared.fault.OpenRefusal.TheVariants.{Failed, NoMemory}

-- a device was opened for what was asked, in this state
abbrev pub LedgerOpens : {P S : Type 0} → Ledger P S → Ledger P S → ℕ → ℕ → P → S → Type 0
LedgerOpens old new before now spec state = (new ≡ with_opened old spec state) × (now ≡ before)

-- none was, and a failure is counted
abbrev pub LedgerRefuses : {P S : Type 0} → Ledger P S → Ledger P S → ℕ → ℕ → OpenRefusal → Type 0
LedgerRefuses old new before now Failed = (new ≡ old) × (before ≤ now) × Rose before now
LedgerRefuses old new before now NoMemory = (new ≡ old) × (now ≡ before)

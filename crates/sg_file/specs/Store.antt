-- A real file that holds a store. It tells nothing of its bytes.
use Rattle.std.specs.Prelude.{◌≡◌, ◌≤◌, ◌-◌, ℕ, None, Result, Ok, Err, min, max}
use Rattle.sg_device.specs.Disk.{DiskState}
use Rattle.sg_device.specs.declared.fault.DiskFault.{DiskFault}
use Rattle.sg_file.specs.declared.store.FileDisk.{FileDisk}

-- a disk that tells nothing, with so many faults
abbrev pub disk_state : ℕ → DiskState
disk_state faults = record { told = None; faults = faults }

abbrev pub disk_of : FileDisk → DiskState
disk_of disk = disk_state disk.faults

abbrev pub new_disk : DiskState
new_disk = disk_state 0

-- A reading gives as many bytes as were asked for, or as there are up to this length, whichever is less. One that can't is a
-- fault.
abbrev pub ReadsWhole : ℕ → ℕ → ℕ → Result ℕ DiskFault → Type 0
ReadsWhole known at asked (Ok count) = min asked (known - at) ≤ count
ReadsWhole known at asked (Err e) = Unit {0}

-- a store is known to reach up to a write's end, once that has succeeded
abbrev pub Lengthens : ℕ → ℕ → ℕ → Result Unit DiskFault → Type 0
Lengthens before end now (Ok done) = now ≡ max before end
Lengthens before end now (Err e) = now ≡ before

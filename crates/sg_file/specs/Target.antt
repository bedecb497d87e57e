-- A real file that is appended to.
use Rattle.std.specs.Prelude.{◌≡◌, ◌<◌, ℕ, List, Result, Ok, Err}
use Rattle.std.specs.String.{string_bytes}
use Rattle.sg_device.specs.declared.outlet.Reopened.{Reopened}
use Rattle.sg_device.specs.declared.outlet.Reopened.TheVariants.{Ready, Later}
use Rattle.sg_device.specs.declared.fault.OutletFault.{OutletFault}
use Rattle.sg_file.specs.declared.target.Appending.{Appending}
use Rattle.sg_file.specs.declared.target.Target.{Target}

-- it stands for the file of this name, and is appended to and opened anew as was asked
abbrev pub IsFor : List ℕ → Appending → Target → Type 0
IsFor path how target = (string_bytes target.path ≡ path) × (target.how ≡ how)
    × (target.retry.every ≡ how.reopen)

-- it stands for the file that it stood for
abbrev pub KeepsTarget : Target → Target → Type 0
KeepsTarget old new = (new.path ≡ old.path) × (new.how ≡ old.how)
    × (new.retry.every ≡ old.retry.every)

-- it may be too early where there is a time between two tries, and the file stays open then
abbrev pub WaitsOnly : Target → Target → Result Reopened OutletFault → Type 0
WaitsOnly old new (Ok Ready) = Unit {0}
WaitsOnly old new (Ok Later) = (0 < old.retry.every) × (new.file ≡ old.file)
WaitsOnly old new (Err e) = new.file ≡ old.file

-- What `spool FILE` answers.
use Rattle.std.specs.Prelude.{◌≡◌, ℕ, List, Result, Ok, Err}
use Rattle.sg_outside.specs.World.{WorldState}
use Rattle.sg_serve.specs.declared.ending.Device.TheVariants.{Store}
use Rattle.sg_spooled.specs.Listing.{Spools}
use Rattle.sg_spooled.specs.declared.unlisted.Unlisted.{Unlisted}
use Rattle.sg_spooled.specs.declared.unlisted.Unlisted.TheVariants.{NotOpened, Damage, DiskFault, SayFault, NoMemory}
use Rattle.sg_run.specs.declared.end.End.TheVariants as end
use Rattle.sg_daemon.specs.declared.status.Status.{Status}
use Rattle.sg_daemon.specs.declared.status.Status.TheVariants.{Ended, SayFault as StatusUnsaid, NoMemory as StatusNoMemory}

-- the one store has the number 0
abbrev pub status_listed : Result Unit Unlisted → Status
status_listed (Ok done) = Ended end.Clean
status_listed (Err NotOpened) = Ended (end.OpenFault (Store 0))
status_listed (Err (Damage at)) = Ended (end.Damage 0 at)
status_listed (Err DiskFault) = Ended (end.DiskFault 0)
status_listed (Err SayFault) = StatusUnsaid
status_listed (Err NoMemory) = StatusNoMemory

-- the store of FILE was listed, and the status is that of how it ended
abbrev pub SpoolsFile : WorldState → WorldState → List ℕ → Status → Type 0
SpoolsFile old new file status = (listed : Result Unit Unlisted)
    × (Spools old new file listed × (status ≡ status_listed listed))

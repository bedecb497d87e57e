-- What is said where a configuration file isn't loaded.
use Rattle.std.specs.Prelude.{◌≡◌}
use Rattle.sg_outside.specs.World.{WorldState, OnlyReads}
use Rattle.sg_report.specs.Fault.{fault_text_of}
use Rattle.sg_loaded.specs.declared.loaded.Unloaded.{Unloaded}
use Rattle.sg_loaded.specs.declared.loaded.Unloaded.TheVariants.{Bad, Unread, NoMemory}
use Rattle.sg_daemon.specs.Said.{unread_text_of, ConcludesCommand}
use Rattle.sg_daemon.specs.declared.status.Status.{Status}
use Rattle.sg_daemon.specs.declared.status.Status.TheVariants.{BadConfig, ReadFault, NoMemory as StatusNoMemory}

-- the line of what is wrong with the file, or of the file that couldn't be read, behind which files are read for a hint; without memory
-- nothing
abbrev pub TellsUnloaded : WorldState → WorldState → Unloaded → Status → Type 0
TellsUnloaded loaded new (Bad fault names) status =
    (said : WorldState) × (
    ConcludesCommand loaded said (BadConfig fault) (fault_text_of fault names) status
    × OnlyReads said new)
TellsUnloaded loaded new (Unread name) status =
    (said : WorldState) × (
    ConcludesCommand loaded said ReadFault (unread_text_of name) status × OnlyReads said new)
TellsUnloaded loaded new NoMemory status = (new ≡ loaded) × (status ≡ StatusNoMemory)

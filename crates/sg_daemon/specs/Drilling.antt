-- What `drill N` answers.
use Rattle.std.specs.Prelude.{◌≡◌, ℕ, Result, Ok, Err}
use Rattle.std.specs.declared.alloc.AllocError.{AllocError}
use Rattle.sg_outside.specs.World.{WorldState}
use Rattle.sg_daemon.specs.Drilled.{Drills}
use Rattle.sg_run.specs.declared.end.Outcome.{Outcome}
use Rattle.sg_daemon.specs.Said.{ConcludesCommand}
use Rattle.sg_daemon.specs.declared.status.Status.{Status}
use Rattle.sg_daemon.specs.declared.status.Status.TheVariants.{Ended, NoMemory}

-- the status of what the drill came to, and what is said of that
abbrev pub EndsDrill : WorldState → WorldState → Result Outcome AllocError → Status → Type 0
EndsDrill old new (Ok outcome) status =
    ConcludesCommand old new (Ended outcome.end) outcome.text.items
    status
EndsDrill old new (Err e) status = (new ≡ old) × (status ≡ NoMemory)

-- so many records went through the fixed configuration, and from then on text was said, and nothing else
abbrev pub DrillsCommand : WorldState → WorldState → ℕ → Status → Type 0
DrillsCommand old new records status = (result : Result Outcome AllocError)
    × (Drills records result × EndsDrill old new result status)

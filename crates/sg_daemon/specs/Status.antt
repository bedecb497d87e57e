-- The exit status of the process.
use Rattle.std.specs.Prelude.{ℕ}
use Rattle.sg_run.specs.Ends.{code_of as code_of_end}
use Rattle.sg_daemon.specs.declared.status.Status.{Status}
use Rattle.sg_daemon.specs.declared.status.Status.TheVariants.{Ended, Usage, BadConfig, ReadFault, SayFault, NoMemory}

-- 0 and 4 to 9 where a command ended so
abbrev pub code_of : Status → ℕ
code_of (Ended end) = code_of_end end
code_of Usage = 1
code_of (BadConfig fault) = 2
code_of ReadFault = 3
code_of SayFault = 10
code_of NoMemory = 11

-- What is said at the end of a command.
use Rattle.std.specs.Prelude.{◌≡◌, ◌⊎◌, ℕ, List, ◌++◌, codes}
use Rattle.sg_device.specs.Faults.{Rose}
use Rattle.sg_outside.specs.World.{WorldState}
use Rattle.sg_output.specs.Saying.{OnlySays, SaidText}
use Rattle.sg_daemon.specs.declared.status.Status.{Status}
use Rattle.sg_daemon.specs.declared.status.Status.TheVariants.{SayFault, NoMemory}

abbrev pub usage_text : List ℕ
usage_text = codes "usage: syslogr check FILE | trace FILE SOURCE INPUT | run FILE [--once] [--rounds N] | spool FILE | drill N\n"

abbrev pub version_text : List ℕ
version_text = codes "syslogr 0.1.0\n"

-- the text where the file of this name couldn't be read
abbrev pub unread_text_of : List ℕ → List ℕ
unread_text_of name = codes "cannot read " ++ (name ++ codes "\n")

-- This text was said, which gives this status; or it couldn't be said, or memory ran out.
pub record ConcludesCommand (old new : WorldState) (status : Status) (text : List ℕ)
    (result : Status) : Type 0 where
  pub says : OnlySays old new
  pub said : ((result ≡ status) × SaidText old new text)
      ⊎ (((result ≡ SayFault) × Rose old.say_faults new.say_faults) ⊎ (result ≡ NoMemory))

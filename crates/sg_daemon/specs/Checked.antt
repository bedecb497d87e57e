-- Whether a file is found to be a configuration.
use Rattle.std.specs.Prelude.{◌≡◌, ◌≤◌, ℕ, List, ◌++◌, codes, Result, Ok, Err}
use Rattle.sg_device.specs.Faults.{Rose}
use Rattle.sg_outside.specs.World.{WorldState}
use Rattle.sg_loaded.specs.declared.loaded.Loaded.{Loaded}
use Rattle.sg_loaded.specs.Loading.{IsConfigured, IsFaultOf, IsUnread}
use Rattle.sg_output.specs.Saying.{SaidText}
use Rattle.sg_daemon.specs.declared.unchecked.Unchecked.{Unchecked}
use Rattle.sg_daemon.specs.declared.unchecked.Unchecked.TheVariants.{Bad, Unread, SayFault, NoMemory}

abbrev pub ok_line : List ℕ → List ℕ
ok_line file = file ++ codes ": ok\n"

-- the state but for what was said and the counts of faults of saying, of reading and of patterns refused as too large, which don't
-- fall, and the name of the file that couldn't be read last
pub record OnlyChecks (old new : WorldState) : Type 0 where
  pub state : new ≡ record old {
    read_faults = new.read_faults;
    unread = new.unread;
    build_faults = new.build_faults;
    say_faults = new.say_faults;
    said = new.said;
  }
  pub read : old.read_faults ≤ new.read_faults
  pub build : old.build_faults ≤ new.build_faults
  pub say : old.say_faults ≤ new.say_faults

-- the file is a configuration, which was said; or it isn't, and nothing was said; or it couldn't be said, or memory ran out
abbrev pub Checks : WorldState → WorldState → List ℕ → Result Unit Unchecked → Type 0
Checks old new file (Ok done) = ((loaded : Loaded) × IsConfigured old file loaded)
    × SaidText old new (ok_line file)
Checks old new file (Err (Bad fault names)) = IsFaultOf old new file fault names
    × (new.said ≡ old.said)
Checks old new file (Err (Unread name)) = IsUnread old new file name × (new.said ≡ old.said)
Checks old new file (Err SayFault) = Rose old.say_faults new.say_faults
Checks old new file (Err NoMemory) = Unit {0}

-- no reading and no saying failed, and no pattern was too large
pub record ChecksUntroubled (old new : WorldState) : Type 0 where
  pub read : ¬ Rose old.read_faults new.read_faults
  pub build : ¬ Rose old.build_faults new.build_faults
  pub say : ¬ Rose old.say_faults new.say_faults

-- it was said, or memory ran out
abbrev pub WasChecked : Result Unit Unchecked → Type 0
WasChecked (Ok done) = Unit {0}
WasChecked (Err (Bad fault names)) = ⊥
WasChecked (Err (Unread name)) = ⊥
WasChecked (Err SayFault) = ⊥
WasChecked (Err NoMemory) = Unit {0}

-- ---- the part that says it

abbrev pub HasSaid : WorldState → WorldState → List ℕ → Result Unit Unchecked → Type 0
HasSaid old new file (Ok done) = SaidText old new (ok_line file)
HasSaid old new file (Err (Bad fault names)) = ⊥
HasSaid old new file (Err (Unread name)) = ⊥
HasSaid old new file (Err SayFault) = Rose old.say_faults new.say_faults
HasSaid old new file (Err NoMemory) = Unit {0}

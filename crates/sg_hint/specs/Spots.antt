-- Where the token of a fault stands in its line, and what may have been meant by it.
use Rattle.std.specs.Prelude.{◌≡◌, ◌⊎◌, ℕ, List, Option, Some, None, Result, Ok, Err, Vec, option_map}
use Rattle.std.specs.declared.alloc.Global.{Global}
use Rattle.sg_device.specs.declared.fault.FileRefusal.TheVariants.{Failed, TooLong}
use Rattle.sg_outside.specs.World.{WorldState, OnlyReads, IsContent, ReadsFile}
use Rattle.sg_lex.specs.Tokens.{tokens_of}
use Rattle.sg_lex.specs.declared.fault.ConfigFault.{ConfigFault}
use Rattle.sg_expand.specs.Expansion.{IsExpanded}
use Rattle.sg_expand.specs.declared.fault.Expanded.{Expanded}
use Rattle.sg_expand.specs.declared.fault.ExpandRefusal.{ExpandRefusal}
use Rattle.sg_expand.specs.declared.fault.ExpandRefusal.TheVariants.{Bad, ReadFault, NoMemory}
use Rattle.sg_report.specs.Fault.{name_at}
use Rattle.sg_hint.specs.Expansions.{column_by}
use Rattle.sg_hint.specs.Listed.{IsListed}
use Rattle.sg_hint.specs.declared.written.Spotted.{Spotted}

-- The file isn't read: its reading fails, or it is too long.
abbrev pub FailsToRead : WorldState → WorldState → List ℕ → Type 0
FailsToRead old new name = ReadsFile old new name 1048576 (Err Failed)
    ⊎ ReadsFile old new name 1048576 (Err TooLong)

-- what a file holds, if it is read
abbrev pub IsFileReading : WorldState → WorldState → List ℕ → Option (Vec ℕ Global) → Type 0
IsFileReading old new name None = FailsToRead old new name
IsFileReading old new name (Some text) = IsContent old.files name text.items

-- a token by which nothing may have been meant
abbrev pub plain_spot : ℕ → Spotted
plain_spot column = record { column = column; meant = None }

-- the token in that text of the fault's file, where the same fault stops the expansion
abbrev pub IsStoppedExpansion : ConfigFault → ConfigFault → List ℕ → Option Spotted → Type 0
IsStoppedExpansion fault again text spotted = ((again ≡ fault)
    × (spotted ≡ option_map plain_spot (column_by fault text (tokens_of fault.file text))))
    ⊎ ((again ≡ fault → ⊥) × (spotted ≡ None))

-- the token by what the configuration is expanded to now
abbrev pub SpotsBy : ConfigFault → List ℕ → Result Expanded ExpandRefusal → Option Spotted → Type 0
SpotsBy fault text (Ok expanded) spotted = IsListed expanded.tokens fault spotted
SpotsBy fault text (Err (Bad again names)) spotted = IsStoppedExpansion fault again text spotted
SpotsBy fault text (Err (ReadFault name)) spotted = spotted ≡ None
SpotsBy fault text (Err NoMemory) spotted = ⊥

pub record SpotsAgain (old new : WorldState) (name main : List ℕ) (fault : ConfigFault)
    (text : List ℕ) (spotted : Option Spotted) : Type 0 where
  pub answer : Result Expanded ExpandRefusal
  pub expands : IsExpanded old new name main answer
  pub spots : SpotsBy fault text answer spotted

-- The main file is read again and expanded.
pub record Spots (read new : WorldState) (fault : ConfigFault) (names : List (List ℕ))
    (text : List ℕ) (spotted : Option Spotted) : Type 0 where
  pub main : List ℕ
  pub start : WorldState
  pub content : IsContent read.files (name_at names 0) main
  pub reads : OnlyReads read start
  pub again : SpotsAgain start new (name_at names 0) main fault text spotted

-- the token of the fault, with that text of its file; none where the main file can't be read again
abbrev pub IsSpot : WorldState → WorldState → ConfigFault → List (List ℕ) → List ℕ
    → Option Spotted → Type 0
IsSpot read new fault names text spotted = (FailsToRead read new (name_at names 0)
    × (spotted ≡ None)) ⊎ Spots read new fault names text spotted

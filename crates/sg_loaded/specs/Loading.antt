-- What a configuration file comes to, and why it isn't loaded.
use Rattle.std.specs.Prelude.{◌≡◌, ◌≤◌, ◌⊎◌, ℕ, List, [], ◌∷◌, Some, Result, Ok, Err}
use Rattle.sg_device.specs.Faults.{Rose}
use Rattle.sg_lex.specs.declared.fault.ConfigFault.{ConfigFault}
use Rattle.sg_lex.specs.declared.fault.ConfigKind.TheVariants.{TooLong}
use Rattle.sg_lex.specs.declared.token.Token.{Token}
use Rattle.sg_outside.specs.World.{WorldState}
use Rattle.sg_config.specs.declared.config.Config.{Config}
use Rattle.sg_config.specs.Means.{Means, IsFaultOfTokens}
use Rattle.sg_loaded.specs.declared.loaded.Loaded.{Loaded}
use Rattle.sg_loaded.specs.declared.loaded.Unloaded.{Unloaded}
use Rattle.sg_loaded.specs.declared.loaded.Unloaded.TheVariants.{Bad, Unread, NoMemory}
use Rattle.sg_loaded.specs.Reading.{Expands, at_main, IsTooLong, IsFaulty, IsUnreadFile}
use Rattle.sg_loaded.specs.Compiling.{Compiles, IsUncompiled}

-- the state but for the counts of failed readings and of patterns refused as too large, which don't fall, and the name at the last of
-- the failed readings
abbrev pub OnlyLoads : WorldState → WorldState → Type 0
OnlyLoads old new =
    (new ≡ record old
    { read_faults = new.read_faults; unread = new.unread; build_faults = new.build_faults })
    × (old.read_faults ≤ new.read_faults) × (old.build_faults ≤ new.build_faults)

-- the file is expanded to tokens that mean this configuration
pub record Configures (world : WorldState) (file : List ℕ) (config : Config) : Type 0 where
  pub tokens : List Token
  pub names : List (List ℕ)
  pub read : WorldState
  pub expands : Expands world file tokens names read
  pub means : Means tokens config

-- and the table is that of its log paths
pub record IsConfigured (world : WorldState) (file : List ℕ) (loaded : Loaded) : Type 0 where
  pub configures : Configures world file loaded.config
  pub compiles : Compiles loaded.config loaded.table

-- the file is expanded to tokens that mean no configuration
pub record IsMeaningless (world : WorldState) (file : List ℕ) (fault : ConfigFault)
    (names : List (List ℕ)) : Type 0 where
  pub tokens : List Token
  pub read : WorldState
  pub expands : Expands world file tokens names read
  pub is : IsFaultOfTokens tokens fault

-- it is expanded to a configuration whose log paths are refused, as the machine comes to be
pub record IsLoadRefused (world new : WorldState) (file : List ℕ) (fault : ConfigFault)
    (names : List (List ℕ)) : Type 0 where
  pub tokens : List Token
  pub read : WorldState
  pub config : Config
  pub expands : Expands world file tokens names read
  pub means : Means tokens config
  pub is : IsUncompiled read new config fault

-- what is wrong with a file, and the names of its files by number
abbrev pub IsFaultOf : WorldState → WorldState → List ℕ → ConfigFault → List (List ℕ) → Type 0
IsFaultOf world new file fault names =
    IsTooLong world file fault names ⊎ (IsFaulty world file fault names
    ⊎ (IsMeaningless world file fault names ⊎ IsLoadRefused world new file fault names))

-- the file that couldn't be read: the main one, or one that was asked for by `@include`
abbrev pub IsUnread : WorldState → WorldState → List ℕ → List ℕ → Type 0
IsUnread world new file name = Rose world.read_faults new.read_faults × (new.unread ≡ Some name)
    × ((name ≡ file) ⊎ IsUnreadFile world file name)

-- the configuration of a file, or why there is none, unless memory runs out
abbrev pub LoadsFile : WorldState → WorldState → List ℕ → Result Loaded Unloaded → Type 0
LoadsFile world new file (Ok loaded) = IsConfigured world file loaded
LoadsFile world new file (Err (Bad fault names)) = IsFaultOf world new file fault names
LoadsFile world new file (Err (Unread name)) = IsUnread world new file name
LoadsFile world new file (Err NoMemory) = Unit {0}

-- ---- its parts

-- the configuration of tokens, compiled, or what is wrong, in the files of these names
abbrev pub LoadsTokens : WorldState → WorldState → List Token → List (List ℕ)
    → Result Loaded Unloaded → Type 0
LoadsTokens old new tokens names (Ok loaded) = Means tokens loaded.config
    × Compiles loaded.config loaded.table
LoadsTokens old new tokens names (Err (Bad fault files)) =
    (files ≡ names) × (IsFaultOfTokens tokens fault
    ⊎ ((config : Config) × Means tokens config × IsUncompiled old new config fault))
LoadsTokens old new tokens names (Err (Unread name)) = ⊥
LoadsTokens old new tokens names (Err NoMemory) = Unit {0}

abbrev pub IsLeftTooLong : List ℕ → Unloaded → Type 0
IsLeftTooLong file (Bad fault names) = (fault ≡ at_main TooLong) × (names ≡ file ∷ [])
IsLeftTooLong file (Unread name) = ⊥
IsLeftTooLong file NoMemory = Unit {0}

abbrev pub IsLeftUnread : List ℕ → Unloaded → Type 0
IsLeftUnread file (Bad fault names) = ⊥
IsLeftUnread file (Unread name) = name ≡ file
IsLeftUnread file NoMemory = Unit {0}

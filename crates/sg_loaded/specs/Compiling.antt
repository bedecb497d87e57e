-- The log paths of a configuration, compiled, or what is wrong with them.
use Rattle.std.specs.Prelude.{◌≡◌, ℕ, List, Result, Ok, Err}
use Rattle.sg_lex.specs.declared.fault.ConfigFault.{ConfigFault}
use Rattle.sg_lex.specs.declared.fault.ConfigKind.{ConfigKind}
use Rattle.sg_lex.specs.declared.fault.ConfigKind.TheVariants as kind
use Rattle.sg_lex.specs.declared.place.Line.{Line}
use Rattle.sg_outside.specs.World.{WorldState}
use Rattle.sg_fault.specs.Faults.{fault_at}
use Rattle.sg_filter.specs.Patterns.{AreValid}
use Rattle.sg_table.specs.Forest.{forest_of}
use Rattle.sg_table.specs.Patterns.{patterns_in}
use Rattle.sg_table.specs.Refused.{AreOffersBounded, RefusesForest}
use Rattle.sg_table.specs.declared.table.Table.{Table}
use Rattle.sg_tree.specs.Offers.{woods_of}
use Rattle.sg_tree.specs.declared.refusal.PathRefusal.{PathRefusal}
use Rattle.sg_tree.specs.declared.refusal.PathRefusal.TheVariants.{BadPattern, PatternTooLarge, TooManyOffers, NoMemory as LacksMemory}
use Rattle.sg_config.specs.declared.config.Config.{Config}
use Rattle.sg_loaded.specs.declared.loaded.Loaded.{Loaded}
use Rattle.sg_loaded.specs.declared.loaded.Unloaded.{Unloaded}
use Rattle.sg_loaded.specs.declared.loaded.Unloaded.TheVariants.{Bad, Unread, NoMemory}

-- each pattern is one, and a record has no more offers than it may
pub record CanBeCompiled (config : Config) : Type 0 where
  pub patterns : AreValid (patterns_in config.forest)
  pub bounded : AreOffersBounded (woods_of config.forest).tops

-- the table is that of the log paths
pub record Compiles (config : Config) (table : Table) : Type 0 where
  pub paths : forest_of table ≡ woods_of config.forest
  pub can : CanBeCompiled config

abbrev pub path_fault : ConfigKind → Line → ConfigFault
path_fault kind line = fault_at (record { kind = kind; line = line })

-- the fault that a refusal of log paths is
abbrev pub IsPathFault : PathRefusal → ConfigFault → Type 0
IsPathFault (BadPattern line) fault = fault ≡ path_fault kind.BadPattern line
IsPathFault (PatternTooLarge line) fault = fault ≡ path_fault kind.PatternTooLarge line
IsPathFault (TooManyOffers line) fault = fault ≡ path_fault kind.TooManyOffers line
IsPathFault LacksMemory fault = ⊥

-- what is wrong with its log paths
abbrev pub IsUncompiled : WorldState → WorldState → Config → ConfigFault → Type 0
IsUncompiled old new config fault = (refusal : PathRefusal)
    × RefusesForest old new config.forest refusal × IsPathFault refusal fault

-- the configuration with its table, or what is wrong, in the files of these names
abbrev pub BuildsTable : WorldState → WorldState → Config → List (List ℕ) → Result Loaded Unloaded
    → Type 0
BuildsTable old new config names (Ok loaded) = (loaded.config ≡ config)
    × Compiles config loaded.table
BuildsTable old new config names (Err (Bad fault files)) = (files ≡ names)
    × IsUncompiled old new config fault
BuildsTable old new config names (Err (Unread name)) = ⊥
BuildsTable old new config names (Err NoMemory) = Unit {0}

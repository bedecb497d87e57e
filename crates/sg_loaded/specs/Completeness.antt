-- When a file is loaded.
use Rattle.std.specs.Prelude.{Result, Ok, Err}
use Rattle.sg_device.specs.Faults.{Rose}
use Rattle.sg_outside.specs.World.{WorldState}
use Rattle.sg_loaded.specs.declared.loaded.Loaded.{Loaded}
use Rattle.sg_loaded.specs.declared.loaded.Unloaded.{Unloaded}
use Rattle.sg_loaded.specs.declared.loaded.Unloaded.TheVariants.{Bad, Unread, NoMemory}

-- no reading failed, and no pattern was too large
pub record LoadsUntroubled (old new : WorldState) : Type 0 where
  pub read : ¬ Rose old.read_faults new.read_faults
  pub build : ¬ Rose old.build_faults new.build_faults

-- it was loaded, or memory ran out
abbrev pub WasLoaded : Result Loaded Unloaded → Type 0
WasLoaded (Ok loaded) = Unit {0}
WasLoaded (Err (Bad fault names)) = ⊥
WasLoaded (Err (Unread name)) = ⊥
WasLoaded (Err NoMemory) = Unit {0}

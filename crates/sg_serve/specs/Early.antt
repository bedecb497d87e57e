-- Why the rounds of a plan don't begin. Lack of memory is free.
use Rattle.std.specs.Prelude.{◌≡◌, ℕ, true, false, Option, Some, None, List, [], ◌∷◌, ◌++◌, length}
use Rattle.sg_device.specs.Faults.{Rose}
use Rattle.sg_device.specs.Inlet.{InletState}
use Rattle.sg_device.specs.declared.fault.OpenRefusal.{OpenRefusal}
use Rattle.sg_device.specs.declared.fault.OpenRefusal.TheVariants.{Failed as OpenFailed, NoMemory as OpenNoMemory}
use Rattle.sg_outside.specs.World.{WorldState}
use Rattle.sg_machine.specs.declared.setup.SourceSetup.{SourceSetup}
use Rattle.sg_counter.specs.Bringing.{store_in}
use Rattle.sg_standing.specs.States.{CoreState}
use Rattle.sg_serve.specs.Exits.{OneRose}
use Rattle.sg_serve.specs.Rewinds.{position_at, rewinds_from, places_of, BeginsSource, HasBegun, FailsBehind}
use Rattle.sg_serve.specs.declared.ending.Device.TheVariants.{Store, Inlet, Dest}
use Rattle.sg_serve.specs.declared.ending.Early.{Early}
use Rattle.sg_serve.specs.declared.ending.Early.TheVariants.{OpenFault, DiskFault, NoMemory}

-- the store behind so many couldn't be opened
abbrev pub StoresFail : WorldState → WorldState → ℕ → Early → Type 0
StoresFail old new count (OpenFault (Store n)) = (n ≡ count)
    × Rose old.store_faults new.store_faults
StoresFail old new count NoMemory = Unit {0}
StoresFail old new count early = ⊥

-- the outlet behind so many couldn't be opened
abbrev pub OutletsFail : WorldState → WorldState → ℕ → Early → Type 0
OutletsFail old new count (OpenFault (Dest n)) = (n ≡ count) × OneRose old new
OutletsFail old new count NoMemory = Unit {0}
OutletsFail old new count early = ⊥

abbrev pub store_refusal : ℕ → OpenRefusal → Early
store_refusal s OpenFailed = OpenFault (Store s)
store_refusal s OpenNoMemory = NoMemory

abbrev pub outlet_refusal : ℕ → OpenRefusal → Early
outlet_refusal d OpenFailed = OpenFault (Dest d)
outlet_refusal d OpenNoMemory = NoMemory

-- the inlet behind so many couldn't be opened
abbrev pub InletsFail : WorldState → WorldState → ℕ → Early → Type 0
InletsFail old new count (OpenFault (Inlet n)) = (n ≡ count)
    × Rose old.inlet_faults new.inlet_faults
InletsFail old new count NoMemory = Unit {0}
InletsFail old new count early = ⊥

abbrev pub inlet_refusal : ℕ → OpenRefusal → Early
inlet_refusal i OpenFailed = OpenFault (Inlet i)
inlet_refusal i OpenNoMemory = NoMemory

-- Why a source isn't ready, with its inlet where that was opened: it couldn't be, or the store failed as the source was to begin anew.
abbrev pub SourceFailsToOpen : WorldState → WorldState → CoreState → CoreState → ℕ → Option ℕ
    → Option InletState → Early → Type 0
SourceFailsToOpen old new core core' i store None early =
    (core' ≡ core) × InletsFail old new i early
SourceFailsToOpen old new core core' i store (Some feed) NoMemory = BeginsSource core core' i
    (position_at core i) feed.place true
SourceFailsToOpen old new core core' i store (Some feed) (DiskFault s) = (store ≡ Some s)
    × BeginsSource core core' i (position_at core i) feed.place false
SourceFailsToOpen old new core core' i store (Some feed) early = ⊥

-- So many sources are ready, from the first on, and the next isn't, with its inlet where that was opened.
abbrev pub SourcesFail : WorldState → WorldState → CoreState → CoreState → List SourceSetup
    → List InletState → Option InletState → Early → Type 0
SourcesFail old new first now setups feeds None early =
    HasBegun first now (rewinds_from (position_at first) 0 (places_of feeds))
    × InletsFail old new (length feeds) early
SourcesFail old new first now setups feeds (Some feed) NoMemory = HasBegun first now
    (rewinds_from (position_at first) 0 (places_of (feeds ++ feed ∷ [])))
SourcesFail old new first now setups feeds (Some feed) (DiskFault s) =
    FailsBehind first now (places_of feeds) s × (store_in setups (length feeds) ≡ Some s)
SourcesFail old new first now setups feeds (Some feed) early = ⊥

-- The devices of a plan: what is asked for, and how they are opened and closed.
use Rattle.std.specs.Prelude.{◌≡◌, ◌≤◌, ◌<◌, ℕ, Bool, true, false, Option, Some, None, List, [], ◌∷◌, ◌++◌, length, map}
use Rattle.sg_device.specs.Disk.{DiskState}
use Rattle.sg_device.specs.Inlet.{InletState}
use Rattle.sg_device.specs.Outlet.{OutletState, IsUnusedOutlet}
use Rattle.sg_outside.specs.World.{WorldState, Opened, Ledger, StandsNamed}
use Rattle.sg_outside.specs.declared.request.InletSpec.{InletSpec}
use Rattle.sg_outside.specs.declared.request.InletSpec.TheVariants.{File as FileFrom, Slot}
use Rattle.sg_outside.specs.declared.request.OutletSpec.{OutletSpec}
use Rattle.sg_outside.specs.declared.request.OutletSpec.TheVariants.{File as FileTo, Tcp, ByPath}
use Rattle.sg_outside.specs.declared.request.StoreSpec.{StoreSpec}
use Rattle.sg_run_plan.specs.declared.inlet.InletPlan.{InletPlan}
use Rattle.sg_run_plan.specs.declared.outlet.OutletPlan.{OutletPlan}
use Rattle.sg_serve.specs.Exits.{Out, inners_in, openers_in, stores_in, singles, by_paths, present, AreLeft, AreAsked, AreFreshOuts}

-- What is asked for.

-- With `--once` a file ends at its end, and a slot after its first connection; without it neither does.
abbrev pub inlet_asked : Bool → InletSpec → InletSpec
inlet_asked once (FileFrom path end limit) = FileFrom path once limit
inlet_asked once (Slot ip port slot end) = Slot ip port slot once

abbrev pub reopen_asked : Bool → ℕ → ℕ
reopen_asked true reopen = 0
reopen_asked false reopen = reopen

-- With `--once` an outlet is tried again at once.
abbrev pub outlet_asked : Bool → OutletSpec → OutletSpec
outlet_asked once (FileTo path fsync mode folders reopen) = FileTo path fsync mode folders
    (reopen_asked once reopen)
outlet_asked once (Tcp host port reopen) = Tcp host port (reopen_asked once reopen)
outlet_asked once (ByPath fsync mode folders reopen reap) = ByPath fsync mode folders
    (reopen_asked once reopen) reap

abbrev pub inlets_asked : Bool → List InletPlan → List InletSpec
inlets_asked once plans = map (λ (plan : InletPlan). inlet_asked once plan.spec) plans

abbrev pub outlets_asked : Bool → List OutletPlan → List OutletSpec
outlets_asked once plans = map (λ (plan : OutletPlan). outlet_asked once plan.spec) plans

-- a turn takes 1 to 1,000 records, whose texts may have a byte at least
pub record IsFetching (plan : InletPlan) : Type 0 where
  pub limit : 0 < plan.limit
  pub some : 0 < plan.fetch
  pub most : plan.fetch ≤ 1000

abbrev pub AreFetching : List InletPlan → Type 0
AreFetching [] = Unit {0}
AreFetching (plan ∷ plans) = IsFetching plan × AreFetching plans

-- What a ledger has of it.

-- the first of these requests, each with the state of its device as it was opened
abbrev pub opened_for : {P S : Type 0} → List P → List S → List (Opened P S)
opened_for specs [] = []
opened_for [] (state ∷ states) = []
opened_for (spec ∷ specs) (state ∷ states) = (record { spec = spec; state = state })
    ∷ opened_for specs states

-- the ledger with more devices opened, or closed, in this order
abbrev pub with_all_opened : {P S : Type 0} → Ledger P S → List (Opened P S) → Ledger P S
with_all_opened ledger more = record ledger { opened = ledger.opened ++ more }

abbrev pub with_all_closed : {P S : Type 0} → Ledger P S → List S → Ledger P S
with_all_closed ledger states = record ledger { closed = ledger.closed ++ states }

-- Stores.

-- each store was there, or it was made, one after another
abbrev pub AreStoresNamed : Option (List (List ℕ)) → List (Opened StoreSpec DiskState)
    → Option (List (List ℕ)) → Type 0
AreStoresNamed before [] after = after ≡ before
AreStoresNamed before (o ∷ os) after = (between : Option (List (List ℕ)))
    × StandsNamed before o.spec o.state between × AreStoresNamed between os after

-- these were opened on the first of the requests, in order, and nothing else changed but the count of faults
pub record OpensStores (old new : WorldState) (specs : List StoreSpec)
    (disks : List DiskState) : Type 0 where
  pub count : length disks ≤ length specs
  pub state : new ≡ record old {
    store_faults = new.store_faults;
    store_names = new.store_names;
    stores = with_all_opened old.stores (opened_for specs disks);
  }
  pub faults : old.store_faults ≤ new.store_faults
  pub named : AreStoresNamed old.store_names (opened_for specs disks) new.store_names

abbrev pub ClosesStores : WorldState → WorldState → List DiskState → Type 0
ClosesStores old new disks = new ≡ record old { stores = with_all_closed old.stores disks }

-- Inlets.

pub record OpensInlets (old new : WorldState) (specs : List InletSpec)
    (feeds : List InletState) : Type 0 where
  pub count : length feeds ≤ length specs
  pub state : new ≡ record old {
    inlet_faults = new.inlet_faults;
    inlets = with_all_opened old.inlets (opened_for specs feeds);
  }
  pub faults : old.inlet_faults ≤ new.inlet_faults

abbrev pub ClosesInlets : WorldState → WorldState → List InletState → Type 0
ClosesInlets old new feeds = new ≡ record old { inlets = with_all_closed old.inlets feeds }

-- Outlets.

-- nothing was taken yet
abbrev pub AllAreNew : List OutletState → Type 0
AllAreNew [] = Unit {0}
AllAreNew (drain ∷ drains) = IsUnusedOutlet drain × AllAreNew drains

-- of these requests for stores, those that were opened
abbrev pub stores_opened : List (Option StoreSpec) → List (Option DiskState) → List StoreSpec
stores_opened [] disks = []
stores_opened (spec ∷ specs) [] = []
stores_opened (None ∷ specs) (disk ∷ disks) = stores_opened specs disks
stores_opened (Some spec ∷ specs) (None ∷ disks) = stores_opened specs disks
stores_opened (Some spec ∷ specs) (Some disk ∷ disks) = spec ∷ stores_opened specs disks

-- the same, each with its state
abbrev pub opened_stores : List (Option StoreSpec) → List Out → List (Opened StoreSpec DiskState)
opened_stores specs outs = opened_for (stores_opened specs (map (λ (out : Out). out.store) outs))
    (stores_in outs)

-- a store is open only where one is asked for
abbrev pub IsStoreAsked : Option StoreSpec → Option DiskState → Type 0
IsStoreAsked None store = store ≡ None
IsStoreAsked (Some spec) store = Unit {0}

abbrev pub AreStoresAsked : List (Option StoreSpec) → List Out → Type 0
AreStoresAsked specs [] = Unit {0}
AreStoresAsked [] (out ∷ outs) = ⊥
AreStoresAsked (spec ∷ specs) (out ∷ outs) = IsStoreAsked spec out.store
    × AreStoresAsked specs outs

-- Each by its ledger, as the machine handed it over: one file or one connection, or an opener of files by their paths; and the stores of the frames that are held back.
pub record OpensOuts (old new : WorldState) (specs : List OutletSpec)
    (stores : List (Option StoreSpec)) (outs : List Out) : Type 0 where
  pub count : length outs ≤ length specs
  pub asked : AreAsked specs (openers_in outs)
  pub stores_asked : AreStoresAsked stores outs
  pub fresh : AreFreshOuts outs
  pub state : new ≡ record old {
    outlet_faults = new.outlet_faults;
    paths_faults = new.paths_faults;
    store_faults = new.store_faults;
    store_names = new.store_names;
    outlets = with_all_opened old.outlets
        (opened_for (singles specs (openers_in outs)) (singles (inners_in outs) (openers_in outs)));
    paths = with_all_opened old.paths
        (opened_for (by_paths specs (openers_in outs)) (present (openers_in outs)));
    stores = with_all_opened old.stores (opened_stores stores outs);
  }
  pub named : AreStoresNamed old.store_names (opened_stores stores outs) new.store_names
  pub faults : old.outlet_faults ≤ new.outlet_faults
  pub paths_faults : old.paths_faults ≤ new.paths_faults
  pub store_faults : old.store_faults ≤ new.store_faults

-- these outlets were closed, each by its ledger: those without an opener, the openers, and the stores
abbrev pub ClosesOuts : WorldState → WorldState → List Out → Type 0
ClosesOuts old new outs = new ≡ record old {
  outlets = with_all_closed old.outlets (singles (inners_in outs) (openers_in outs));
  paths = with_all_closed old.paths (present (openers_in outs));
  stores = with_all_closed old.stores (stores_in outs);
}

abbrev pub ClosesOutlets : WorldState → WorldState → List Out → Type 0
ClosesOutlets old new outs = (closed : List Out) × AreLeft outs closed × ClosesOuts old new closed

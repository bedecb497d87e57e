-- The stores that a machine in memory opens and closes.
use Rattle.std.specs.Prelude.{◌≡◌, ◌≤◌, ℕ, List, [], ◌∷◌, ◌++◌, map, replicate, Option, Some, None, Box, Bool, true, false, not, ◌||◌, ◌&&◌, is_none, if◌then◌else◌, unwrap_or, Result, Ok, Err}
use Rattle.std.specs.List.{list_any}
use Rattle.std.specs.Str.{bytes_eq}
use Rattle.std.specs.declared.alloc.AllocError.{AllocError}
use Rattle.std.specs.declared.alloc.Global.{Global}
use Rattle.sg_device.specs.Disk.{DiskState}
use Rattle.sg_device.specs.Faults.{Rose}
use Rattle.sg_outside.specs.World.{Ledger, Opened, with_opened}
use Rattle.sg_device.specs.declared.fault.OpenRefusal.{OpenRefusal}
use Rattle.sg_device.specs.declared.fault.OpenRefusal.TheVariants.{Failed, NoMemory}
use Rattle.sg_outside.specs.declared.request.StoreSpec.{StoreSpec}
use Rattle.sg_memory_disk.specs.MemoryDisk.{disk_of, fresh_disk}
use Rattle.sg_memory_disk.specs.Plan.{fails_now, IsFaultless}
use Rattle.sg_memory_disk.specs.DiskPlan.{AreDisksQuiet}
use Rattle.sg_memory_disk.specs.declared.stores.ClosedStore.{ClosedStore}
use Rattle.sg_memory_disk.specs.declared.stores.MemoryStore.{MemoryStore}
use Rattle.sg_memory_disk.specs.declared.stores.MemoryStores.{MemoryStores}
use Rattle.sg_memory_disk.specs.declared.stores.MemoryOpenedStore.{MemoryOpenedStore}
use Rattle.sg_memory_disk.specs.declared.stores.MemoryStoreCell.{MemoryStoreCell, MemoryStoreCell', Held-MemoryStoreCell-before, None', Some'}

abbrev pub store_of : MemoryStore → DiskState
store_of store = disk_of store.disk

abbrev pub listed_disk : Option ClosedStore → List DiskState
listed_disk None = []
listed_disk (Some store) = disk_of store.disk ∷ []

-- this disk, where the store has this name, else another
abbrev pub named_disk : Option ClosedStore → List ℕ → Option DiskState → Option DiskState
named_disk None name other = other
named_disk (Some store) name other =
    if bytes_eq store.name name then Some (disk_of store.disk) else other

abbrev pub starved_disk : Option ClosedStore → Bool
starved_disk None = false
starved_disk (Some store) = store.disk.calls.starved

-- the states in which stores were closed, in order
abbrev mutual
  pub store_cells : MemoryStoreCell → List DiskState
  store_cells (MemoryStoreCell' closed before) = store_cells_before before ++ listed_disk closed

  pub store_cells_before : Held-MemoryStoreCell-before → List DiskState
  store_cells_before None' = []
  store_cells_before (Some' p cell) = store_cells cell

-- the state in which the store of a name was closed last
abbrev mutual
  pub latest : MemoryStoreCell → List ℕ → Option DiskState
  latest (MemoryStoreCell' closed before) name = named_disk closed name (latest_before before name)

  pub latest_before : Held-MemoryStoreCell-before → List ℕ → Option DiskState
  latest_before None' name = None
  latest_before (Some' p cell) name = latest cell name

-- a disk has found no memory
abbrev mutual
  pub some_starved : MemoryStoreCell → Bool
  some_starved (MemoryStoreCell' closed before) = starved_disk closed || starved_before before

  pub starved_before : Held-MemoryStoreCell-before → Bool
  starved_before None' = false
  starved_before (Some' p cell) = some_starved cell

-- the same of the cells of which this is the last
abbrev pub store_states : Option (Box MemoryStoreCell Global) → List DiskState
store_states None = []
store_states (Some cell) = store_cells cell.value

abbrev pub latest_state : Option (Box MemoryStoreCell Global) → List ℕ → Option DiskState
latest_state None name = None
latest_state (Some cell) name = latest cell.value name

abbrev pub any_starved : Option (Box MemoryStoreCell Global) → Bool
any_starved None = false
any_starved (Some cell) = some_starved cell.value

abbrev pub opened_store : MemoryOpenedStore → Opened StoreSpec DiskState
opened_store opened = record { spec = opened.spec; state = disk_of opened.disk }

-- those opened and those closed
abbrev pub stores_of : MemoryStores → Ledger StoreSpec DiskState
stores_of stores = record {
  opened = map opened_store stores.opened.items;
  closed = store_states stores.closed;
}

-- a store of this name is there
abbrev pub is_named : List (List ℕ) → List ℕ → Bool
is_named names name = list_any (λ listed. bytes_eq listed name) names

-- how the store that is opened was closed, where it is there and was closed
abbrev pub found : MemoryStores → StoreSpec → Option DiskState
found stores spec = if is_named stores.names.items spec.name
    then latest_state stores.closed spec.name else None

-- the state of a store at its opening: as it was closed last, else of 128 zero bytes
abbrev pub at_opening : MemoryStores → StoreSpec → DiskState
at_opening stores spec = unwrap_or (found stores spec) (fresh_disk (replicate 128 0))

-- no opening fails, and no call of the disks that will be opened
abbrev pub AreStoresQuiet : MemoryStores → Type 0
AreStoresQuiet stores = IsFaultless stores.opens × AreDisksQuiet stores.plans.items

abbrev pub MemoryStoresOpen : MemoryStores → MemoryStores → StoreSpec → DiskState → Type 0
MemoryStoresOpen old new spec store = (stores_of new ≡ with_opened (stores_of old) spec store)
    × (new.faults ≡ old.faults) × (store ≡ at_opening old spec)

-- a failure is counted
abbrev pub MemoryStoresRefuse : MemoryStores → MemoryStores → OpenRefusal → Type 0
MemoryStoresRefuse old new Failed =
    (stores_of new ≡ stores_of old) × (new.names.items ≡ old.names.items)
    × (old.faults ≤ new.faults) × Rose old.faults new.faults
MemoryStoresRefuse old new NoMemory = (stores_of new ≡ stores_of old)
    × (new.names.items ≡ old.names.items) × (new.faults ≡ old.faults)

-- A store is opened over a disk of this state, and is there from then on.
abbrev pub BeginsStore : MemoryStores → MemoryStores → StoreSpec → Bool → DiskState
    → Result MemoryStore AllocError → Type 0
BeginsStore old new spec there disk (Ok store) =
    (stores_of new ≡ with_opened (stores_of old) spec disk)
    × (new.faults ≡ old.faults) × (new.opens ≡ old.opens) × (store_of store ≡ disk)
    × (new.names.items ≡ (if there then old.names.items else spec.name ∷ old.names.items))
BeginsStore old new spec there disk (Err e) =
    (stores_of new ≡ stores_of old) × (new.faults ≡ old.faults)
    × (new.opens ≡ old.opens) × (new.names.items ≡ old.names.items)

-- An opening fails where the plan says so, where a store is missing that isn't to be made, and where one is open.
abbrev pub is_refused : MemoryStores → StoreSpec → Bool
is_refused stores spec = fails_now stores.opens
    || (is_none (found stores spec) && (is_named stores.names.items spec.name || not spec.create))

abbrev pub OpensAsPlanned : MemoryStores → StoreSpec → Result MemoryStore OpenRefusal → Type 0
OpensAsPlanned old spec (Ok store) = is_refused old spec ≡ false
OpensAsPlanned old spec (Err Failed) = is_refused old spec ≡ true
OpensAsPlanned old spec (Err NoMemory) = is_refused old spec ≡ false

-- The stores that a real machine opens and closes.
use Rattle.std.specs.Prelude.{map}
use Rattle.sg_device.specs.Disk.{DiskState}
use Rattle.sg_outside.specs.World.{Ledger, Opened}
use Rattle.sg_device.specs.declared.fault.OpenRefusal.{OpenRefusal}
use Rattle.sg_outside.specs.declared.request.StoreSpec.{StoreSpec}
use Rattle.sg_host.specs.Ledgers.{LedgerOpens, LedgerRefuses}
use Rattle.sg_host.specs.Cells.{store_states}
use Rattle.sg_file.specs.Store.{disk_of, new_disk}
use Rattle.sg_host.specs.declared.stores.HostStore.{HostStore}
use Rattle.sg_host.specs.declared.stores.HostStores.{HostStores}

abbrev pub store_of : HostStore → DiskState
store_of store = disk_of store.opened.disk

-- a store at its opening
abbrev pub opened_store : StoreSpec → Opened StoreSpec DiskState
opened_store spec = record { spec = spec; state = new_disk }

-- those opened and those closed
abbrev pub stores_of : HostStores → Ledger StoreSpec DiskState
stores_of stores = record {
  opened = map opened_store stores.opened.items;
  closed = store_states stores.closed;
}

abbrev pub HostStoresOpen : HostStores → HostStores → StoreSpec → DiskState → Type 0
HostStoresOpen old new spec store =
    LedgerOpens (stores_of old) (stores_of new) old.faults new.faults
    spec store

abbrev pub HostStoresRefuse : HostStores → HostStores → OpenRefusal → Type 0
HostStoresRefuse old new refusal =
    LedgerRefuses (stores_of old) (stores_of new) old.faults new.faults
    refusal

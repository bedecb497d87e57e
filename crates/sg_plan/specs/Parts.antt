-- What a plan holds, one driver after another (syslog-ng's administration guide, "Flow-control" and "Using disk-based and memory buffering").
use Rattle.std.specs.Prelude.{ℕ, ◌+◌, ◌-◌, ◌*◌, ◌^◌, min, Bool, true, false, List, [], ◌∷◌, ◌++◌, length, map, replicate, Option, Some, None}
use Rattle.std.specs.List.{range_with_len}
use Rattle.sg_outside.specs.declared.request.StoreSpec.{StoreSpec}
use Rattle.sg_machine.specs.declared.setup.SourceSetup.{SourceSetup}
use Rattle.sg_machine.specs.declared.setup.BufferSetup.{BufferSetup}
use Rattle.sg_machine.specs.declared.setup.DestSetup.{DestSetup}
use Rattle.sg_source.specs.declared.inlet.SourceDriver.{SourceDriver}
use Rattle.sg_run_plan.specs.declared.inlet.InletPlan.{InletPlan}
use Rattle.sg_source.specs.Inlets.{plan_of, slots_at, store_at}
use Rattle.sg_run_plan.specs.declared.outlet.OutletPlan.{OutletPlan}
use Rattle.sg_destination.specs.declared.outlet.DestinationDriver.{DestinationDriver}
use Rattle.sg_destination.specs.declared.buffers.DiskBuffer.{DiskBuffer}
use Rattle.sg_plan.specs.declared.owner.Owner.{Owner}
use Rattle.sg_plan.specs.declared.owner.Owner.TheVariants.{Named, Inline}
use Rattle.sg_plan.specs.declared.driver.Driver.{Driver}
use Rattle.sg_plan.specs.declared.driver.Driver.TheVariants as driver
use Rattle.sg_plan.specs.declared.driver.OwnedDriver.{OwnedDriver}
use Rattle.sg_plan.specs.declared.plan.Plan.{Plan}

pub record PlanParts : Type 0 where
  pub inlet_owners : List Owner
  pub outlet_owners : List Owner
  pub sources : List SourceDriver
  pub inlet_setups : List SourceSetup
  pub outlet_setups : List DestSetup
  pub inlets : List InletPlan
  pub outlets : List OutletPlan
  pub stores : List StoreSpec

abbrev pub parts_of : Plan → PlanParts
parts_of plan = record {
  inlet_owners = plan.ends.inlets;
  outlet_owners = plan.ends.outlets;
  sources = plan.sources.items;
  inlet_setups = plan.setup.sources;
  outlet_setups = plan.setup.dests;
  inlets = plan.inlets.items;
  outlets = plan.outlets.items;
  stores = plan.stores.items;
}

abbrev pub no_parts : PlanParts
no_parts = record {
  inlet_owners = [];
  outlet_owners = [];
  sources = [];
  inlet_setups = [];
  outlet_setups = [];
  inlets = [];
  outlets = [];
  stores = [];
}

-- the name of a source statement, none of what stands in the place of a name
abbrev pub name_in : Owner → Option (List ℕ)
name_in (Named name) = Some name
name_in (Inline at) = None

-- a store is made where it is missing
abbrev pub stores_by : Option (List ℕ) → List StoreSpec
stores_by None = []
stores_by (Some name) = record { name = name; create = true; size = 128 } ∷ []

-- the most bytes that the file of a disk-buffer of this capacity comes to have, or those of one without entries
abbrev pub size_by : Bool → ℕ → ℕ
size_by true capacity = min (2 * capacity + 68) (2 ^ 64 - 1)
size_by false capacity = 128

abbrev pub buffer_stores : Option DiskBuffer → List StoreSpec
buffer_stores None = []
buffer_stores (Some buffer) = record {
  name = buffer.store;
  create = true;
  size = size_by buffer.whole buffer.capacity;
} ∷ []

-- behind so many stores a further one has that number
abbrev pub number_by : ℕ → Option (List ℕ) → Option ℕ
number_by count None = None
number_by count (Some name) = Some count

abbrev pub buffer_by : ℕ → Option DiskBuffer → Option BufferSetup
buffer_by count None = None
buffer_by count (Some buffer) = Some (record { store = count; capacity = buffer.capacity })

-- each inlet of a driver has its window
abbrev pub setup_of : ℕ → SourceDriver → SourceSetup
setup_of count source = record {
  window = source.window;
  store = number_by count (store_at source.place);
}

-- the inlets of the driver of this number, one for each slot
abbrev pub inlets_of : ℕ → Owner → SourceDriver → List InletPlan
inlets_of number owner source = map (λ slot. plan_of source slot number (name_in owner))
    (range_with_len 0 (slots_at source.place))

abbrev pub with_source : PlanParts → Owner → SourceDriver → PlanParts
with_source parts owner source = record {
  inlet_owners = parts.inlet_owners ++ replicate (slots_at source.place) owner;
  outlet_owners = parts.outlet_owners;
  sources = parts.sources ++ source ∷ [];
  inlet_setups = parts.inlet_setups
      ++ replicate (slots_at source.place) (setup_of (length parts.stores) source);
  outlet_setups = parts.outlet_setups;
  inlets = parts.inlets ++ inlets_of (length parts.sources) owner source;
  outlets = parts.outlets;
  stores = parts.stores ++ stores_by (store_at source.place);
}

abbrev pub dest_setup_of : ℕ → DestinationDriver → DestSetup
dest_setup_of count dest = record { fifo = dest.fifo; buffer = buffer_by count dest.buffer }

abbrev pub with_destination : PlanParts → Owner → DestinationDriver → PlanParts
with_destination parts owner dest = record {
  inlet_owners = parts.inlet_owners;
  outlet_owners = parts.outlet_owners ++ owner ∷ [];
  sources = parts.sources;
  inlet_setups = parts.inlet_setups;
  outlet_setups = parts.outlet_setups ++ dest_setup_of (length parts.stores) dest ∷ [];
  inlets = parts.inlets;
  outlets = parts.outlets ++ dest.plan ∷ [];
  stores = parts.stores ++ buffer_stores dest.buffer;
}

abbrev pub with_one : PlanParts → Owner → Driver → PlanParts
with_one parts owner (driver.Source source) = with_source parts owner source
with_one parts owner (driver.Destination dest) = with_destination parts owner dest

-- with a driver more
abbrev pub with_driver : PlanParts → OwnedDriver → PlanParts
with_driver parts owned = with_one parts owned.owner owned.driver

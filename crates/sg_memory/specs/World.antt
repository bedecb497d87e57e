-- A machine in memory.
use Rattle.std.specs.Prelude.{◌≡◌, ℕ, List, [], map, drop, is_none, Option, Some, None, Bool, true, false, Result, Ok, Err, Vec}
use Rattle.std.specs.declared.alloc.Global.{Global}
use Rattle.sg_device.specs.Inlet.{InletState}
use Rattle.sg_device.specs.Outlet.{OutletState}
use Rattle.sg_device.specs.Paths.{PathsState}
use Rattle.sg_device.specs.declared.fault.FileRefusal.{FileRefusal}
use Rattle.sg_device.specs.declared.fault.FileRefusal.TheVariants.{Failed, TooLong, NoMemory}
use Rattle.sg_device.specs.declared.fault.OpenRefusal.{OpenRefusal}
use Rattle.sg_device.specs.declared.fault.OpenRefusal.TheVariants.{Failed as OpenFailed, NoMemory as OpenNoMemory}
use Rattle.sg_device.specs.declared.fault.SayRefusal.{SayRefusal}
use Rattle.sg_device.specs.declared.fault.SayRefusal.TheVariants.{Fault, NoMemory as SayNoMemory}
use Rattle.sg_outside.specs.World.{WorldState, Opened, place_in, with_opened}
use Rattle.sg_outside.specs.declared.request.InletSpec.{InletSpec}
use Rattle.sg_outside.specs.declared.request.InletSpec.TheVariants.{File, Slot}
use Rattle.sg_outside.specs.declared.request.OutletSpec.{OutletSpec}
use Rattle.sg_memory_disk.specs.Stores.{stores_of}
use Rattle.sg_memory.specs.Cells.{inlet_states, outlet_states, paths_states}
use Rattle.sg_memory.specs.Files.{file_of}
use Rattle.sg_memory.specs.Inlet.{file_start, slot_start}
use Rattle.sg_memory.specs.Outlet.{new_outlet}
use Rattle.sg_memory.specs.Paths.{new_paths}
use Rattle.sg_memory.specs.declared.files.MemoryFile.{MemoryFile}
use Rattle.sg_memory.specs.declared.opening.MemoryOpenedInlet.{MemoryOpenedInlet}
use Rattle.sg_memory.specs.declared.world.MemoryWorld.{MemoryWorld}

-- an inlet at its opening
abbrev pub start_of : InletSpec → ℕ → List ℕ → InletState
start_of (File path once limit) from left = file_start from left
start_of (Slot ip port slot once) from left = slot_start

abbrev pub opened_state : MemoryOpenedInlet → InletState
opened_state opened = start_of opened.spec opened.from opened.left.items

abbrev pub opened_inlet : MemoryOpenedInlet → Opened InletSpec InletState
opened_inlet opened = record { spec = opened.spec; state = opened_state opened }

-- an outlet at its opening
abbrev pub opened_outlet : OutletSpec → Opened OutletSpec OutletState
opened_outlet spec = record { spec = spec; state = new_outlet }

-- an opener at its opening
abbrev pub opened_paths : OutletSpec → Opened OutletSpec PathsState
opened_paths spec = record { spec = spec; state = new_paths }

-- what the machine tells
abbrev pub world_of : MemoryWorld → WorldState
world_of world = record {
  files = Some (file_of world.files.items);
  unread = world.unread;
  inlets = record {
    opened = map opened_inlet world.opened_inlets.items;
    closed = inlet_states world.closed_inlets;
  };
  outlets = record {
    opened = map opened_outlet world.opened_outlets.items;
    closed = outlet_states world.closed_outlets;
  };
  stores = stores_of world.stores;
  paths = record {
    opened = map opened_paths world.opened_paths.items;
    closed = paths_states world.closed_paths;
  };
  store_names = Some world.stores.names.items;
  said = Some world.said.items;
  read_faults = world.read_faults;
  inlet_faults = world.inlet_faults;
  outlet_faults = world.outlet_faults;
  store_faults = world.stores.faults;
  paths_faults = world.paths_faults;
  say_faults = world.say_faults;
  build_faults = world.build_faults;
}

-- a machine over these files of which nothing was asked yet
abbrev pub new_world : List MemoryFile → WorldState
new_world files = record {
  files = Some (file_of files);
  unread = None;
  inlets = record { opened = []; closed = [] };
  outlets = record { opened = []; closed = [] };
  stores = record { opened = []; closed = [] };
  paths = record { opened = []; closed = [] };
  store_names = Some [];
  said = Some [];
  read_faults = 0;
  inlet_faults = 0;
  outlet_faults = 0;
  store_faults = 0;
  paths_faults = 0;
  say_faults = 0;
  build_faults = 0;
}

-- a file is asked for that isn't there
abbrev pub lacks_file : List MemoryFile → InletSpec → Bool
lacks_file files (File path once limit) = is_none (file_of files path)
lacks_file files (Slot ip port slot once) = false

-- where the file is there, the place at which it is read and what is left of it behind that
abbrev pub IsFileRest : Option (List ℕ) → ℕ → ℕ → MemoryOpenedInlet → Type 0
IsFileRest None limit from opened = Unit {0}
IsFileRest (Some bytes) limit from opened = (opened.from ≡ place_in limit bytes from)
    × (opened.left.items ≡ drop (place_in limit bytes from) bytes)

-- what an inlet is opened for
abbrev pub IsInletSource : List MemoryFile → InletSpec → ℕ → MemoryOpenedInlet → Type 0
IsInletSource files (File path once limit) from opened =
    IsFileRest (file_of files path) limit from opened
IsInletSource files (Slot ip port slot once) from opened = opened.from ≡ 0

abbrev pub IsMemoryOpenedFor : List MemoryFile → InletSpec → ℕ → MemoryOpenedInlet → Type 0
IsMemoryOpenedFor files spec from opened =
    (opened.spec ≡ spec) × IsInletSource files spec from opened

-- an inlet ends behind its file or its first connection
abbrev pub once_of : InletSpec → Bool
once_of (File path once limit) = once
once_of (Slot ip port slot once) = once

-- an inlet more was opened
abbrev pub with_inlet : WorldState → MemoryOpenedInlet → WorldState
with_inlet world opened = record world
    { inlets = with_opened world.inlets opened.spec (opened_state opened) }

-- a file can't be read exactly where this says so, but for lack of memory
abbrev pub ReadFails : Bool → Result (Vec ℕ Global) FileRefusal → Type 0
ReadFails fails (Ok bytes) = fails ≡ false
ReadFails fails (Err Failed) = fails ≡ true
ReadFails fails (Err TooLong) = fails ≡ false
ReadFails fails (Err NoMemory) = Unit {0}

-- a device can't be opened exactly where this says so
abbrev pub OpenFails : {T : Type 0} → Bool → Result T OpenRefusal → Type 0
OpenFails fails (Ok device) = fails ≡ false
OpenFails fails (Err OpenFailed) = fails ≡ true
OpenFails fails (Err OpenNoMemory) = fails ≡ false

-- bytes can't be said exactly where this says so
abbrev pub SayFails : Bool → Result Unit SayRefusal → Type 0
SayFails fails (Ok done) = fails ≡ false
SayFails fails (Err Fault) = fails ≡ true
SayFails fails (Err SayNoMemory) = fails ≡ false

-- A file or a connection in memory that takes frames.
use Rattle.std.specs.Prelude.{[], Some, length}
use Rattle.sg_device.specs.Outlet.{OutletState}
use Rattle.sg_memory.specs.declared.outlet.MemoryOutlet.{MemoryOutlet}

-- what the outlet tells
abbrev pub outlet_of : MemoryOutlet → OutletState
outlet_of outlet = record {
  taken = Some outlet.frames;
  count = length outlet.frames;
  faults = outlet.faults;
  failing = outlet.failing;
  laters = outlet.laters;
}

-- what an outlet tells that took nothing yet
abbrev pub new_outlet : OutletState
new_outlet = record { taken = Some []; count = 0; faults = 0; failing = 0; laters = 0 }

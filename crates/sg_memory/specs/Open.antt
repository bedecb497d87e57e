-- Open devices in memory.
use Rattle.sg_device.specs.Inlet.{InletState}
use Rattle.sg_device.specs.Outlet.{OutletState}
use Rattle.sg_device.specs.Paths.{PathsState}
use Rattle.sg_memory.specs.Inlet.{inlet_of}
use Rattle.sg_memory.specs.Outlet.{outlet_of}
use Rattle.sg_memory.specs.Paths.{paths_of}
use Rattle.sg_memory.specs.declared.open.MemoryDrain.{MemoryDrain}
use Rattle.sg_memory.specs.declared.open.MemoryFeed.{MemoryFeed}
use Rattle.sg_memory.specs.declared.open.MemoryOpener.{MemoryOpener}

abbrev pub feed_of : MemoryFeed → InletState
feed_of feed = inlet_of feed.inlet

abbrev pub drain_of : MemoryDrain → OutletState
drain_of drain = outlet_of drain.outlet

abbrev pub opener_of : MemoryOpener → PathsState
opener_of opener = paths_of opener.paths

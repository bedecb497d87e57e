-- Closed real devices.
use Rattle.std.specs.Prelude.{List, [], ◌∷◌, ◌++◌, Option, Some, None, Box}
use Rattle.std.specs.declared.alloc.Global.{Global}
use Rattle.sg_device.specs.Disk.{DiskState}
use Rattle.sg_device.specs.Inlet.{InletState}
use Rattle.sg_device.specs.Outlet.{OutletState}
use Rattle.sg_device.specs.Paths.{PathsState}
use Rattle.sg_file.specs.Counts.{inlet_state, outlet_state}
use Rattle.sg_file.specs.Store.{disk_state}
use Rattle.sg_host.specs.Counts.{paths_state}
use Rattle.sg_host.specs.declared.cells.HostInletCell.{HostInletCell, HostInletCell', Held-HostInletCell-before, None', Some'}
use Rattle.sg_host.specs.declared.cells.HostOutletCell.{HostOutletCell, HostOutletCell', Held-HostOutletCell-before, None' as NoOutlet, Some' as SomeOutlet}
use Rattle.sg_host.specs.declared.cells.HostStoreCell.{HostStoreCell, HostStoreCell', Held-HostStoreCell-before, None' as NoStore, Some' as SomeStore}
use Rattle.sg_host.specs.declared.cells.HostPathsCell.{HostPathsCell, HostPathsCell', Held-HostPathsCell-before, None' as NoPaths, Some' as SomePaths}

abbrev mutual
  pub inlet_cells : HostInletCell → List InletState
  inlet_cells (HostInletCell' counts before) = inlet_cells_before before ++ inlet_state counts ∷ []

  pub inlet_cells_before : Held-HostInletCell-before → List InletState
  inlet_cells_before None' = []
  inlet_cells_before (Some' p cell) = inlet_cells cell

abbrev mutual
  pub outlet_cells : HostOutletCell → List OutletState
  outlet_cells (HostOutletCell' counts before) =
      outlet_cells_before before ++ outlet_state counts ∷ []

  pub outlet_cells_before : Held-HostOutletCell-before → List OutletState
  outlet_cells_before NoOutlet = []
  outlet_cells_before (SomeOutlet p cell) = outlet_cells cell

abbrev mutual
  pub store_cells : HostStoreCell → List DiskState
  store_cells (HostStoreCell' faults before) = store_cells_before before ++ disk_state faults ∷ []

  pub store_cells_before : Held-HostStoreCell-before → List DiskState
  store_cells_before NoStore = []
  store_cells_before (SomeStore p cell) = store_cells cell

abbrev mutual
  pub paths_cells : HostPathsCell → List PathsState
  paths_cells (HostPathsCell' counts before) = paths_cells_before before ++ paths_state counts ∷ []

  pub paths_cells_before : Held-HostPathsCell-before → List PathsState
  paths_cells_before NoPaths = []
  paths_cells_before (SomePaths p cell) = paths_cells cell

-- the states in which the inlets were closed, in order, of which this is the last
abbrev pub inlet_states : Option (Box HostInletCell Global) → List InletState
inlet_states None = []
inlet_states (Some cell) = inlet_cells cell.value

abbrev pub outlet_states : Option (Box HostOutletCell Global) → List OutletState
outlet_states None = []
outlet_states (Some cell) = outlet_cells cell.value

abbrev pub store_states : Option (Box HostStoreCell Global) → List DiskState
store_states None = []
store_states (Some cell) = store_cells cell.value

abbrev pub paths_states : Option (Box HostPathsCell Global) → List PathsState
paths_states None = []
paths_states (Some cell) = paths_cells cell.value

-- Closed devices in memory.
use Rattle.std.specs.Prelude.{List, [], ◌∷◌, ◌++◌, Option, Some, None, Box}
use Rattle.std.specs.declared.alloc.Global.{Global}
use Rattle.sg_device.specs.Inlet.{InletState}
use Rattle.sg_device.specs.Outlet.{OutletState}
use Rattle.sg_device.specs.Paths.{PathsState}
use Rattle.sg_memory.specs.Inlet.{inlet_of}
use Rattle.sg_memory.specs.Outlet.{outlet_of}
use Rattle.sg_memory.specs.Paths.{paths_of}
use Rattle.sg_memory.specs.declared.cells.MemoryInletCell.{MemoryInletCell, MemoryInletCell', Held-MemoryInletCell-before, None', Some'}
use Rattle.sg_memory.specs.declared.cells.MemoryOutletCell.{MemoryOutletCell, MemoryOutletCell', Held-MemoryOutletCell-before, None' as NoOutlet, Some' as SomeOutlet}
use Rattle.sg_memory.specs.declared.cells.MemoryPathsCell.{MemoryPathsCell, MemoryPathsCell', Held-MemoryPathsCell-before, None' as NoPaths, Some' as SomePaths}

abbrev pub listed : {A B : Type 0} → (A → B) → Option A → List B
listed f None = []
listed f (Some x) = f x ∷ []

abbrev mutual
  pub inlet_cells : MemoryInletCell → List InletState
  inlet_cells (MemoryInletCell' closed before) = inlet_cells_before before ++ listed inlet_of closed

  pub inlet_cells_before : Held-MemoryInletCell-before → List InletState
  inlet_cells_before None' = []
  inlet_cells_before (Some' p cell) = inlet_cells cell

abbrev mutual
  pub outlet_cells : MemoryOutletCell → List OutletState
  outlet_cells (MemoryOutletCell' closed before) =
      outlet_cells_before before ++ listed outlet_of closed

  pub outlet_cells_before : Held-MemoryOutletCell-before → List OutletState
  outlet_cells_before NoOutlet = []
  outlet_cells_before (SomeOutlet p cell) = outlet_cells cell

abbrev mutual
  pub paths_cells : MemoryPathsCell → List PathsState
  paths_cells (MemoryPathsCell' closed before) = paths_cells_before before ++ listed paths_of closed

  pub paths_cells_before : Held-MemoryPathsCell-before → List PathsState
  paths_cells_before NoPaths = []
  paths_cells_before (SomePaths p cell) = paths_cells cell

-- the states in which the inlets were closed, in order, of which this is the last
abbrev pub inlet_states : Option (Box MemoryInletCell Global) → List InletState
inlet_states None = []
inlet_states (Some cell) = inlet_cells cell.value

abbrev pub outlet_states : Option (Box MemoryOutletCell Global) → List OutletState
outlet_states None = []
outlet_states (Some cell) = outlet_cells cell.value

abbrev pub paths_states : Option (Box MemoryPathsCell Global) → List PathsState
paths_states None = []
paths_states (Some cell) = paths_cells cell.value

-- How much a plan holds, and which numbers stand in it.
use Rattle.std.specs.Prelude.{◌≡◌, ◌⊎◌, ℕ, ◌<◌, ◌≤◌, ◌^◌, List, length, slice_get, Option, Some, None, option_and_then}
use Rattle.std.specs.Option.{option_map_or}
use Rattle.sg_machine.specs.declared.setup.SourceSetup.{SourceSetup}
use Rattle.sg_machine.specs.declared.setup.BufferSetup.{BufferSetup}
use Rattle.sg_machine.specs.declared.setup.DestSetup.{DestSetup}
use Rattle.sg_run_plan.specs.declared.inlet.InletPlan.{InletPlan}
use Rattle.sg_run_plan.specs.declared.outlet.OutletPlan.{OutletPlan}
use Rattle.sg_run_plan.specs.declared.overflow.OverflowPlan.{OverflowPlan}
use Rattle.sg_plan.specs.declared.plan.Plan.{Plan}
use Rattle.sg_plan.specs.Parts.{PlanParts, parts_of}

-- the number of an inlet's store
abbrev pub inlet_store : List SourceSetup → ℕ → Option ℕ
inlet_store setups i = option_and_then (λ setup. setup.store) (slice_get setups i)

-- the number of the store of a destination's disk-buffer
abbrev pub outlet_store : List DestSetup → ℕ → Option ℕ
outlet_store setups d = option_and_then
    (λ setup. option_map_or (λ (buffer : BufferSetup). Some buffer.store) setup.buffer None)
    (slice_get setups d)

-- an inlet or a destination has the store of this number
abbrev pub IsStoreUsed : List SourceSetup → List DestSetup → ℕ → Type 0
IsStoreUsed inlets outlets s = ((i : ℕ) × (inlet_store inlets i ≡ Some s))
    ⊎ ((d : ℕ) × (outlet_store outlets d ≡ Some s))

-- the stores are so many, each is used, and none is that of two inlets, of two destinations, or of one of each
pub record NumbersStores (inlets : List SourceSetup) (outlets : List DestSetup)
    (count : ℕ) : Type 0 where
  pub positions : (i s : ℕ) → inlet_store inlets i ≡ Some s → s < count
  pub buffers : (d s : ℕ) → outlet_store outlets d ≡ Some s → s < count
  pub inlets_apart : (i j s : ℕ) → inlet_store inlets i ≡ Some s → inlet_store inlets j ≡ Some s
      → i ≡ j
  pub dests_apart : (d e s : ℕ) → outlet_store outlets d ≡ Some s → outlet_store outlets e ≡ Some s
      → d ≡ e
  pub apart : (i d s : ℕ) → inlet_store inlets i ≡ Some s → outlet_store outlets d ≡ Some s → ⊥
  pub used : (s : ℕ) → s < count → IsStoreUsed inlets outlets s

-- 100 to 100,000 records
abbrev pub HasWindow : SourceSetup → Type 0
HasWindow setup = (100 ≤ setup.window) × (setup.window ≤ 100000)

-- a queue of 1 to 1,000,000 entries, and a disk-buffer of 1 MiB to 1 GiB
pub record HasPlannedRoom (setup : DestSetup) : Type 0 where
  pub some : 1 ≤ setup.fifo
  pub most : setup.fifo ≤ 1000000
  pub least_capacity : (buffer : BufferSetup) → setup.buffer ≡ Some buffer
      → 2 ^ 20 ≤ buffer.capacity
  pub most_capacity : (buffer : BufferSetup) → setup.buffer ≡ Some buffer → buffer.capacity ≤ 2 ^ 30

-- an inlet of one of so many drivers: 1 to 1,048,576 bytes a record, 1 to 1,000 records a turn
pub record IsInlet (drivers : ℕ) (inlet : InletPlan) : Type 0 where
  pub driver : inlet.driver < drivers
  pub some_bytes : 1 ≤ inlet.limit
  pub most_bytes : inlet.limit ≤ 1048576
  pub some_records : 1 ≤ inlet.fetch
  pub most_records : inlet.fetch ≤ 1000

-- the store of the frames that a destination holds back takes 1 GiB at most
abbrev pub AreHeldWithin : List OutletPlan → Type 0
AreHeldWithin outlets = (d : ℕ) (outlet : OutletPlan) (overflow : OverflowPlan)
    → slice_get outlets d ≡ Some outlet → outlet.overflow ≡ Some overflow
    → overflow.capacity ≤ 2 ^ 30

pub record ArePartsWithin (parts : PlanParts) : Type 0 where
  pub inlets : length parts.inlets ≤ 128
  pub outlets : length parts.outlets ≤ 64
  pub stores : length parts.stores ≤ 192
  pub inlet_setups : length parts.inlet_setups ≡ length parts.inlets
  pub outlet_setups : length parts.outlet_setups ≡ length parts.outlets
  pub inlet_owners : length parts.inlet_owners ≡ length parts.inlets
  pub outlet_owners : length parts.outlet_owners ≡ length parts.outlets
  pub numbers : NumbersStores parts.inlet_setups parts.outlet_setups (length parts.stores)
  pub windows : (i : ℕ) (setup : SourceSetup) → slice_get parts.inlet_setups i ≡ Some setup
      → HasWindow setup
  pub rooms : (d : ℕ) (setup : DestSetup) → slice_get parts.outlet_setups d ≡ Some setup
      → HasPlannedRoom setup
  pub each : (i : ℕ) (inlet : InletPlan) → slice_get parts.inlets i ≡ Some inlet
      → IsInlet (length parts.sources) inlet
  pub held : AreHeldWithin parts.outlets

abbrev pub IsPlanWithin : Plan → Type 0
IsPlanWithin plan = ArePartsWithin (parts_of plan)

-- The destinations of a plan with their ways out, as far as those could be opened.
use Rattle.std.specs.Prelude.{◌≡◌, ℕ, ◌+◌, Bool, List, length, map, slice_get, Option, Some, None}
use Rattle.std.specs.Option.{option_map}
use Rattle.sg_device.specs.Disk.{DiskState}
use Rattle.sg_device.specs.Outlet.{OutletState}
use Rattle.sg_device.specs.Paths.{PathsState}
use Rattle.sg_outside.specs.World.{WorldState}
use Rattle.sg_actor.specs.declared.dest.DestActor.{DestActor}
use Rattle.sg_overflow.specs.declared.buffered.Buffered.{Buffered}
use Rattle.sg_run_plan.specs.declared.outlet.OutletPlan.{OutletPlan}
use Rattle.sg_serve.specs.Actors.{dest_view, AreDestsFor}
use Rattle.sg_serve.specs.Devices.{outlet_asked, outlets_asked, OpensOuts}
use Rattle.sg_serve.specs.Exits.{Out, AreReadied, way_of, out_of, parts_out, stores_in}
use Rattle.sg_serve.specs.Overflows.{overflow_specs, AreHeldAsked, MissesWay}
use Rattle.sg_serve.specs.declared.ending.Early.{Early}
use Rattle.sg_serve.specs.declared.ending.Early.TheVariants.{NoMemory}
use Rattle.sg_serve.specs.declared.exit.Exit.{Exit}
use Rattle.sg_serve.specs.declared.outlets.OpenDests.{OpenDests}

-- The next destination's way out couldn't be opened, behind so many stores.
pub record MissesNext (old new : WorldState) (once : Bool) (plans : List OutletPlan) (opened : ℕ)
    (number : ℕ) (last : Option Out) (early : Early) : Type 0 where
  pub plan : OutletPlan
  pub there : slice_get plans opened ≡ Some plan
  pub misses : MissesWay old new (outlet_asked once plan.spec) plan.overflow opened number last
      early

-- all are open, as the plan asks for it; or one isn't, or there was no memory at first
abbrev pub DestsOpen : WorldState → WorldState → Bool → List OutletPlan → ℕ → List Out → List Out
    → Option Out → Option Early → Type 0
DestsOpen between new once plans stores opened outs last None = AreHeldAsked plans outs
    × (last ≡ None) × (new ≡ between)
DestsOpen between new once plans stores opened outs None (Some NoMemory) = new ≡ between
DestsOpen between new once plans stores opened outs last (Some early) =
    MissesNext between new once plans (length outs) (stores + length (stores_in opened)) last early

-- This is how the machine handed over all that is open; the destinations' ways out were made ready.
pub record OpensDests {D P S : Type 0} (drain : D → OutletState) (paths : P → PathsState)
    (disk : S → DiskState) (old new : WorldState) (once : Bool) (plans : List OutletPlan)
    (stores : ℕ) (result : OpenDests D P S) : Type 0 where
  pub between : WorldState
  pub opened : List Out
  pub opens : OpensOuts old between (outlets_asked once plans) (overflow_specs plans) opened
  pub readied : AreReadied opened
      (map (λ (a : DestActor (Buffered (Exit D P) S)). out_of drain paths disk a.outlet)
      result.dests.items)
  pub dests : AreDestsFor once plans
      (map (λ (a : DestActor (Buffered (Exit D P) S)). dest_view a.spec a.outage
      (way_of drain paths disk a.outlet)) result.dests.items)
  pub all : DestsOpen between new once plans stores opened
      (map (λ (a : DestActor (Buffered (Exit D P) S)). out_of drain paths disk a.outlet)
      result.dests.items) (option_map (parts_out drain paths disk) result.last) result.early

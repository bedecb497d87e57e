-- Why a run ended so.
use Rattle.std.specs.Prelude.{◌≡◌, ◌≤◌, ◌⊎◌, ℕ, ◌+◌, true, Some, None, List, length, map, take, slice_get}
use Rattle.sg_device.specs.Disk.{DiskState}
use Rattle.sg_device.specs.Faults.{Rose}
use Rattle.sg_device.specs.Inlet.{InletState}
use Rattle.sg_device.specs.Outlet.{OutletState}
use Rattle.sg_serve.specs.Run.{Reached, RoseAt}
use Rattle.sg_overflow.specs.Buffered.{HeldState}
use Rattle.sg_serve.specs.Exits.{Out, present}
use Rattle.sg_serve.specs.declared.counts.Counts.{Counts}
use Rattle.sg_serve.specs.declared.overflows.OutletRests.{OutletRests}
use Rattle.sg_serve.specs.declared.ending.PlanEnded.{PlanEnded}
use Rattle.sg_serve.specs.declared.ending.PlanEnded.TheVariants.{Before, Ran}
use Rattle.sg_run_plan.specs.declared.plan.RunPlan.{RunPlan}

-- With `--once` three sends or reopenings of the outlet failed, and no frame was taken since. So its count of faults rose.
pub record FailsThrice (plan : RunPlan) (opened closed : List OutletState) (d : ℕ) : Type 0 where
  pub once : plan.once ≡ true
  pub old : OutletState
  pub new : OutletState
  pub was : slice_get opened d ≡ Some old
  pub is : slice_get closed d ≡ Some new
  pub failing : 3 ≤ new.failing
  pub rose : Rose old.faults new.faults

-- The inlet's count of faults rose.
pub record RoseIn (opened closed : List InletState) (i : ℕ) : Type 0 where
  pub old : InletState
  pub new : InletState
  pub was : slice_get opened i ≡ Some old
  pub is : slice_get closed i ≡ Some new
  pub rose : Rose old.faults new.faults

-- each destination that is told to have been given up, each store and each inlet that is told to have failed
pub record FaultsAreDue (plan : RunPlan) (reached : Reached) (counts : Counts) : Type 0 where
  pub sinks : (k d : ℕ) → slice_get counts.sinks k ≡ Some d
      → FailsThrice plan reached.outlets reached.outlets_closed d
  pub stores : (k s : ℕ) → slice_get counts.stores k ≡ Some s
      → RoseAt reached.stores reached.stores_closed s
  pub inlets : (k i : ℕ) → slice_get counts.inlets k ≡ Some i
      → RoseIn reached.inlets reached.inlets_closed i

-- With an end of the run, frames are held for a destination whose outlet didn't take them: calls of it failed or came too early, three at
-- least.
pub record IsHeldFor (plan : RunPlan) (reached : Reached) (rows : List (ℕ × ℕ))
    (d : ℕ) : Type 0 where
  pub once : plan.once ≡ true
  pub frames : ℕ
  pub some : 1 ≤ frames
  pub place : ℕ
  pub there : slice_get rows place ≡ Some (d, frames)
  pub out : Out
  pub is : slice_get reached.outs_closed d ≡ Some out
  pub held : HeldState
  pub has : out.held ≡ Some held
  pub refused : 3 ≤ out.inner.faults + out.inner.laters

-- The store of held frames that has this number, behind the others and those of the destinations before, has counted a fault.
pub record HasFailedBehind (plan : RunPlan) (reached : Reached) (s : ℕ) : Type 0 where
  pub d : ℕ
  pub number : s ≡ length plan.stores.items
      + length (present (map (λ (out : Out). out.held) (take d reached.outs_closed)))
  pub out : Out
  pub is : slice_get reached.outs_closed d ≡ Some out
  pub store : DiskState
  pub has : out.store ≡ Some store
  pub failed : 1 ≤ store.faults

-- the same with the disk-buffers that aren't reliable
pub record RestsAreDue (plan : RunPlan) (reached : Reached) (rests : OutletRests) : Type 0 where
  pub sinks : (k d : ℕ) → slice_get rests.sinks k ≡ Some d
      → FailsThrice plan reached.outlets reached.outlets_closed d ⊎ IsHeldFor plan reached rests.held d
  pub stores : (k s : ℕ) → slice_get rests.stores k ≡ Some s
      → RoseAt reached.stores reached.stores_closed s ⊎ HasFailedBehind plan reached s

abbrev pub AreCausesDue : RunPlan → Reached → PlanEnded → Type 0
AreCausesDue plan reached (Before early) = Unit {0}
AreCausesDue plan reached (Ran ended None) = Unit {0}
AreCausesDue plan reached (Ran ended (Some counts)) = FaultsAreDue plan reached counts
    × RestsAreDue plan reached counts.rests

-- Which stores have failed, and what tells it.
use Rattle.std.specs.Prelude.{◌≡◌, ◌⊎◌, ◌<◌, ℕ, true, Ok, Some, List, length, slice_get}
use Rattle.sg_device.specs.Disk.{DiskState}
use Rattle.sg_device.specs.Inlet.{InletState}
use Rattle.sg_device.specs.Outlet.{OutletState}
use Rattle.sg_outside.specs.World.{WorldState}
use Rattle.sg_msg.specs.declared.offer.Offer.{Offer}
use Rattle.sg_frame.specs.Records.{Record}
use Rattle.sg_machine.specs.declared.event.Admission.{Admission}
use Rattle.sg_machine.specs.declared.event.Verdict.{Verdict}
use Rattle.sg_machine.specs.declared.event.Verdict.TheVariants.{DroppedDisk}
use Rattle.sg_machine.specs.declared.setup.Setup.{Setup}
use Rattle.sg_machine.specs.Verdicts.{Claim, claims_of}
use Rattle.sg_counter.specs.Bringing.{store_in}
use Rattle.sg_counter.specs.Exchanges.{Exchange, Makes}
use Rattle.sg_counter.specs.declared.calls.CoreCall.{CoreCall}
use Rattle.sg_counter.specs.declared.calls.CoreCall.TheVariants.{Admit}
use Rattle.sg_counter.specs.declared.calls.CoreReply.{CoreReply}
use Rattle.sg_counter.specs.declared.calls.CoreReply.TheVariants.{Admitted}
use Rattle.sg_stores.specs.Opening.{FailsByFaults, AllFailByFaults}
use Rattle.sg_stores.specs.Stores.{StoreState}
use Rattle.sg_standing.specs.States.{CoreState, setup_of}
use Rattle.sg_core.specs.Calls.{Serves}
use Rattle.sg_core.specs.Failing.{FailsAt, TellsFaults}
use Rattle.sg_core.specs.Opening.{buffer_store_in}
use Rattle.sg_turns.specs.declared.ended.Ended.{Ended}
use Rattle.sg_serve.specs.Plan.{IsRunnable}
use Rattle.sg_serve.specs.Run.{CoreRun, Reached, RoseAt, RunsWith}
use Rattle.sg_serve.specs.declared.counts.Counts.{Counts}
use Rattle.sg_serve.specs.declared.ending.PlanEnded.TheVariants.{Ran}
use Rattle.sg_run_plan.specs.declared.plan.RunPlan.{RunPlan}

-- these verdicts drop an offer to the destination of that number as the store of its disk-buffer has failed
pub record DropsAsFailed (records : List Admission) (verdicts : List Verdict) (d : ℕ) : Type 0 where
  pub place : ℕ
  pub claim : Claim
  pub claimed : slice_get (claims_of records) place ≡ Some claim
  pub dest : claim.offer.dest ≡ d
  pub dropped : slice_get verdicts place ≡ Some DroppedDisk

-- there is such a store, and a call on its disk has answered a fault since that was as it is here
abbrev pub DropsByFaults : List DiskState → CoreState → List Admission → List Verdict → CoreState
    → Type 0
DropsByFaults disks old records verdicts new = (d : ℕ) → DropsAsFailed records verdicts d
    → (s : ℕ) × (buffer_store_in (setup_of old).dests d ≡ Some s) × FailsAt disks new.stores s true

-- Whatever calls the core serves from where the rounds began, and so behind any of those that it served, each store has failed exactly
-- where a call on its disk has answered a fault since it was opened, and the next call tells nothing else.
pub record ShowsFaults (reached : Reached) (run : CoreRun) : Type 0 where
  pub flags : (made : List Exchange) (core : CoreState) → Makes Serves run.begun made core
      → AllFailByFaults reached.stores core.stores
  pub replies : (made : List Exchange) (old new : CoreState) (call : CoreCall) (reply : CoreReply)
      → Makes Serves run.begun made old → Serves old call reply new
      → TellsFaults reached.stores old call reply new
  pub drops : (made : List Exchange) (old new : CoreState) (i : ℕ) (records : List Admission)
      (verdicts : List Verdict) → Makes Serves run.begun made old
      → Serves old (Admit i records) (Admitted (Ok verdicts)) new
      → DropsByFaults reached.stores old records verdicts new
  -- at the end: as the stores were opened, and as they are closed
  pub closed : (s : ℕ) (store : StoreState) (opened closed : DiskState)
      → slice_get run.last.stores s ≡ Some store → slice_get reached.stores s ≡ Some opened
      → slice_get reached.stores_closed s ≡ Some closed → FailsByFaults store.failed opened closed

-- a source or a disk-buffer has the store of this number
abbrev pub IsUsed : Setup → ℕ → Type 0
IsUsed setup s = ((i : ℕ) × (store_in setup.sources i ≡ Some s))
    ⊎ ((d : ℕ) × (buffer_store_in setup.dests d ≡ Some s))

-- each store of the plan is used
abbrev pub AreUsed : RunPlan → Type 0
AreUsed plan = (s : ℕ) → s < length plan.stores.items → IsUsed plan.setup s

-- Where the rounds ended with counts, the count of faults of each store that is told to have failed rose in the run.
abbrev pub FailedStoresCount : {R I O : Type 0} → (I → InletState) → (O → OutletState)
    → (R → ℕ → Record → List Offer → Type 0) → (R → ℕ) → (R → ℕ) → Type 0
FailedStoresCount {R} {I} {O} feed drain offers inlets dests =
    (old new : WorldState) (plan : RunPlan) (routers : List R) (rounds : ℕ) (ended : Ended)
    (counts : Counts) (reached : Reached) → IsRunnable plan → AreUsed plan
    → RunsWith feed drain offers inlets dests old new plan routers rounds (Ran ended (Some counts))
    reached → (k s : ℕ) → slice_get counts.stores k ≡ Some s
    → RoseAt reached.stores reached.stores_closed s

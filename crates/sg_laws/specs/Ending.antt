-- What a run comes to that ends quietly, with nothing failed.
use Rattle.std.specs.Prelude.{◌≡◌, ℕ, true, Some, None, List, [], slice_get}
use Rattle.sg_device.specs.Disk.{DiskState, EachNow}
use Rattle.sg_device.specs.Inlet.{InletState}
use Rattle.sg_device.specs.Outlet.{OutletState}
use Rattle.sg_outside.specs.World.{WorldState}
use Rattle.sg_msg.specs.declared.offer.Offer.{Offer}
use Rattle.sg_frame.specs.Records.{Record}
use Rattle.sg_frame.specs.declared.kind.FrameKind.TheVariants.{Lines}
use Rattle.sg_stable.specs.Position.{IsPosition}
use Rattle.sg_buffer.specs.Entries.{IsListOf}
use Rattle.sg_machine.specs.declared.setup.BufferSetup.{BufferSetup}
use Rattle.sg_machine.specs.declared.setup.DestSetup.{DestSetup}
use Rattle.sg_machine.specs.declared.setup.SourceSetup.{SourceSetup}
use Rattle.sg_machine.specs.declared.state.Dest.{Dest}
use Rattle.sg_machine.specs.declared.state.State.{State}
use Rattle.sg_counter.specs.Exchanges.{Exchange, Makes}
use Rattle.sg_standing.specs.Standing.{IsAt}
use Rattle.sg_core.specs.Calls.{Serves}
use Rattle.sg_actor.specs.Bringing.{last_end}
use Rattle.sg_actor.specs.Sources.{HasNothingLeft}
use Rattle.sg_run_plan.specs.declared.inlet.InletPlan.{InletPlan}
use Rattle.sg_turns.specs.declared.ended.Ended.TheVariants.{Quiet}
use Rattle.sg_serve.specs.Counts.{first_fault}
use Rattle.sg_serve.specs.Plan.{IsRunnable}
use Rattle.sg_serve.specs.Rewinds.{position_at}
use Rattle.sg_serve.specs.Run.{CoreRun, Reached, RunsWith}
use Rattle.sg_serve.specs.declared.counts.Counts.{Counts}
use Rattle.sg_serve.specs.declared.ending.PlanEnded.TheVariants.{Ran}
use Rattle.sg_run_plan.specs.declared.plan.RunPlan.{RunPlan}
use Rattle.sg_laws.specs.Resting.{brought_by, AreRecordsWhole}

-- The inlet has ended, and all its whole items came in; where it is read by lines and tells what is left, nothing is.
pub record IsEnded (offers : ℕ → Record → List Offer → Type 0) (plan : InletPlan)
    (setup : SourceSetup) (i : ℕ) (closed : InletState) (made : List Exchange) : Type 0 where
  pub ended : closed.ended ≡ true
  pub whole : AreRecordsWhole offers plan setup.store i closed (brought_by i made)
  pub nothing_left : plan.kind ≡ Lines → HasNothingLeft closed

-- these calls were made in the rounds, and leave this
pub record EndsRounds {R : Type 0} (offers : R → ℕ → Record → List Offer → Type 0) (plan : RunPlan)
    (routers : List R) (reached : Reached) (run : CoreRun) (made : List Exchange) : Type 0 where
  pub makes : Makes Serves run.begun made run.last
  pub inlets : (i : ℕ) (inlet : InletPlan) (setup : SourceSetup) (router : R) (closed : InletState)
      → slice_get plan.inlets.items i ≡ Some inlet → slice_get plan.setup.sources i ≡ Some setup
      → slice_get routers i ≡ Some router
      → slice_get reached.inlets_closed i ≡ Some closed
      → IsEnded (offers router) inlet setup i closed made
  -- all that is kept is settled
  pub dests : (d : ℕ) (state : State) (dest : Dest) → IsAt run.last state
      → slice_get state.dests d ≡ Some dest → dest.left ≡ []
  -- each image of a disk-buffer has no entry
  pub lists : (d : ℕ) (setup : DestSetup) (buffer : BufferSetup) (disk : DiskState)
      → slice_get plan.setup.dests d ≡ Some setup → setup.buffer ≡ Some buffer
      → slice_get reached.stores_closed buffer.store ≡ Some disk → EachNow disk (IsListOf [])
  -- each image of a position store has the end of the last record that came in, the position at which reading began where none did
  pub positions : (i : ℕ) (setup : SourceSetup) (s : ℕ) (disk : DiskState)
      → slice_get plan.setup.sources i ≡ Some setup → setup.store ≡ Some s
      → slice_get reached.stores_closed s ≡ Some disk
      → EachNow disk (IsPosition (last_end (position_at run.begun i) (brought_by i made)))

-- so it is where the rounds ended quietly and nothing is counted as failed
abbrev pub CleanRunsEnd : {R I O : Type 0} → (I → InletState) → (O → OutletState)
    → (R → ℕ → Record → List Offer → Type 0) → (R → ℕ) → (R → ℕ) → Type 0
CleanRunsEnd {R} {I} {O} feed drain offers inlets dests =
    (old new : WorldState) (plan : RunPlan) (routers : List R) (rounds : ℕ) (counts : Counts)
    (reached : Reached) (run : CoreRun) → IsRunnable plan → reached.core ≡ Some run
    → first_fault counts.sinks counts.stores counts.inlets ≡ None
    → RunsWith feed drain offers inlets dests old new plan routers rounds (Ran Quiet (Some counts))
    reached → EndsRounds offers plan routers reached run run.made

-- That a run in which all goes well ends clean.
use Rattle.std.specs.Prelude.{◌≡◌, ◌≤◌, ℕ, ◌*◌, Some, List, slice_get, Result, Ok, Err}
use Rattle.sg_device.specs.Disk.{DiskState, content}
use Rattle.sg_device.specs.Faults.{Rose}
use Rattle.sg_outside.specs.World.{WorldState}
use Rattle.sg_loaded.specs.declared.loaded.Unloaded.{Unloaded}
use Rattle.sg_loaded.specs.declared.loaded.Unloaded.TheVariants.{Bad, Unread, NoMemory}
use Rattle.sg_machine.specs.declared.setup.DestSetup.{DestSetup}
use Rattle.sg_stores.specs.Opening.{IsStore}
use Rattle.sg_core.specs.Opening.{kind_of}
use Rattle.sg_overflow.specs.Buffered.{HeldState}
use Rattle.sg_overflow.specs.Line.{AreStored}
use Rattle.sg_serve.specs.Exits.{Out, stores_in}
use Rattle.sg_serve.specs.Run.{Reached, RoseAt}
use Rattle.sg_run_plan.specs.declared.plan.RunPlan.{RunPlan}
use Rattle.sg_laws.specs.Bounds.{given_rounds, RunsUntroubled}
use Rattle.sg_run.specs.declared.end.End.TheVariants.{Clean}
use Rattle.sg_run.specs.declared.end.Outcome.{Outcome}

-- each store tells its bytes, which are a position, or at a disk-buffer a list of entries
abbrev pub AreStoresSpelled : List DestSetup → List DiskState → Type 0
AreStoresSpelled dests disks = (s : ℕ) (disk : DiskState) → slice_get disks s ≡ Some disk
    → (bytes : List ℕ) × ((content disk ≡ Some bytes) × IsStore (kind_of dests s) bytes)

-- No call on what stands behind frames that are held back has failed, and none came too early; and each store of theirs tells its bytes as
-- it is opened, which are a list of frames.
pub record HoldsBackWell (reached : Reached) : Type 0 where
  pub inner : (d : ℕ) (out : Out) (held : HeldState) → slice_get reached.outs_closed d ≡ Some out
      → out.held ≡ Some held → (out.inner.faults ≡ 0) × (out.inner.laters ≡ 0)
  pub stores : (k : ℕ) (store : DiskState) → slice_get (stores_in reached.outs_closed) k ≡ Some store
      → store.faults ≡ 0
  pub spelled : (k : ℕ) (store : DiskState) → slice_get (stores_in reached.outs) k ≡ Some store
      → (bytes : List ℕ) × ((frames : List (List ℕ))
      × ((content store ≡ Some bytes) × AreStored frames bytes))

-- The stores are spellings, and no count of faults rose: of the openings of each kind, and of each store, inlet and outlet that was opened.
-- No inlet was idle, and it was never too early to reopen an outlet or to send to it.
pub record GoesWell (old new : WorldState) (plan : RunPlan) (reached : Reached) : Type 0 where
  pub opens_stores : Rose old.store_faults new.store_faults → ⊥
  pub opens_inlets : Rose old.inlet_faults new.inlet_faults → ⊥
  pub opens_outlets : Rose old.outlet_faults new.outlet_faults → ⊥
  pub opens_paths : Rose old.paths_faults new.paths_faults → ⊥
  pub spelled : AreStoresSpelled plan.setup.dests reached.stores
  pub stores : (s : ℕ) → RoseAt reached.stores reached.stores_closed s → ⊥
  pub untroubled : RunsUntroubled reached
  pub held : HoldsBackWell reached

-- the end is the clean one, but for lack of memory
abbrev pub IsCleanOutcome : Result Outcome Unloaded → Type 0
IsCleanOutcome (Ok outcome) = outcome.end ≡ Clean
IsCleanOutcome (Err (Bad fault names)) = ⊥
IsCleanOutcome (Err (Unread name)) = ⊥
IsCleanOutcome (Err NoMemory) = Unit {0}

-- With four rounds for each byte, part, inlet, offer and recovered entry, and four more, a run in which all goes well ends clean.
abbrev pub Completes : WorldState → WorldState → RunPlan → (recovered offered rounds : ℕ) → Reached
    → Result Outcome Unloaded → Type 0
Completes old new plan recovered offered rounds reached result = GoesWell old new plan reached
    → 4 * given_rounds recovered offered reached ≤ rounds → IsCleanOutcome result

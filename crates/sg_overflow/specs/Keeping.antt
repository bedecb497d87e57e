-- New frames that are kept.
use Rattle.std.specs.Prelude.{◌≡◌, ◌≤◌, ◌<◌, ◌⊎◌, ℕ, Bool, true, ◌-◌, List, ◌++◌, length, take, drop}
use Rattle.sg_device.specs.Disk.{DiskState}
use Rattle.sg_overflow.specs.View.{Held}
use Rattle.sg_overflow.specs.declared.step.Stop.{Stop}
use Rattle.sg_overflow.specs.declared.step.Stop.TheVariants.{Store, NoMemory}

-- the frames from one of them up to another are behind those in memory
pub record PushesFrom {D : Type 0} (disk : D → DiskState) (frames : List (List ℕ)) (first : ℕ)
    (old new : Held D) (count : ℕ) : Type 0 where
  pub from : first ≤ count
  pub within : count ≤ length frames
  pub pushed : new ≡ record old { memory = old.memory ++ take (count - first) (drop first frames) }

-- all are pushed, or there is no room, and it goes on as before, or no memory
abbrev pub IsPushedAs : Stop → ℕ → ℕ → Stop → Type 0
IsPushedAs before count length stop = (stop ≡ before) ⊎ ((stop ≡ NoMemory) × (count < length))

-- all are kept, or there is no room, or no memory, or the store has failed
abbrev pub KeepCause : Stop → (closed : Bool) → (count length : ℕ) → Stop → Type 0
KeepCause before closed count length stop = (stop ≡ before)
    ⊎ ((count < length) × ((stop ≡ NoMemory) ⊎ ((stop ≡ Store) × (closed ≡ true))))

-- What a put answers, what a crash in it leaves, and what outlives it.
use Rattle.std.specs.Prelude.{◌≡◌, ◌⊎◌, ◌+◌, ◌%◌, ◌≤◌, ℕ, Bool, true, false, Result, OnOk, OnErr, is_err}
use Rattle.sg_device.specs.Disk.{DiskState, Moves, Within, EachNow}
use Rattle.sg_device.specs.Faults.{Rose}
use Rattle.sg_stable.specs.Position.{IsPosition}
use Rattle.sg_stable.specs.declared.cell.Pair.{Pair}

-- Ok: the cell has the number, under the next selector. A fault keeps the old number, and closes the cell.
pub record IsPut {T E : Type 0} (old new : Pair) (value : ℕ) (result : Result T E) : Type 0 where
  pub ok : OnOk result (new.value ≡ value)
  pub err : OnErr result (new.value ≡ old.value)
  pub closed : new.closed ≡ is_err result
  pub selector : OnOk result (new.selector ≡ (old.selector + 1) % 256)

-- what is closed refuses, and stays as it is
pub record StaysClosed {S T E : Type 0} (old new : S) (result : Result T E) : Type 0 where
  pub refuses : is_err result ≡ true
  pub untouched : new ≡ old

-- What a crash leaves: within the call a store of the old position or of the new one, and after it of the new one.
pub record LeavesEither {T E : Type 0} (old new : DiskState) (closed : Bool) (one other : ℕ)
    (result : Result T E) : Type 0 where
  pub within : closed ≡ false
      → Within old new (λ bytes. IsPosition one bytes ⊎ IsPosition other bytes)
  pub position : OnOk result (EachNow new (IsPosition other))

-- What outlives a put: the images of past moments. The count of faults never falls, and a store that isn't closed left it as it
-- was; one that is closed has its cause, which is that the count rose since any moment at which it was open.
pub record DiskLasts (old new : DiskState) (was_closed is_closed : Bool) : Type 0 where
  pub moves : Moves old new
  pub later : old.faults ≤ new.faults
  pub works : is_closed ≡ false → new.faults ≡ old.faults
  pub blames : (f : ℕ) → f ≤ old.faults → (was_closed ≡ true → Rose f old.faults)
      → is_closed ≡ true → Rose f new.faults

-- What a call leaves that takes the first entries off a disk-buffer.
use Rattle.std.specs.Prelude.{◌≡◌, ◌⊎◌, ◌≤◌, ℕ, Bool, true, false, not, Option, Some, None, List, [], length, map, take, drop, slice_get}
use Rattle.sg_list.specs.Lists.{change}
use Rattle.sg_device.specs.Disk.{Within}
use Rattle.sg_device.specs.Faults.{Rose}
use Rattle.sg_buffer.specs.Entries.{IsListOf}
use Rattle.sg_machine.specs.Runs.{BufferedEntry}
use Rattle.sg_sinks.specs.Fitting.{space}
use Rattle.sg_stores.specs.Stores.{StoreState, StoreGoesOn, HoldsEntries, HasBufferSize, coded, length_of}

-- the disk-buffer has n entries or more, of which the first n take so many bytes
pub record HasFirst (store : StoreState) (n size : ℕ) : Type 0 where
  pub capacity : ℕ
  pub list : List BufferedEntry
  pub sized : HasBufferSize capacity (map length_of list) store.buffer
  pub holds : HoldsEntries store list []
  pub some : 1 ≤ n
  pub enough : n ≤ length list
  pub spaced : size ≡ space (take n (map length_of list))

-- there is a store; while it works, these can be taken off
abbrev pub CanAdvance : Option StoreState → ℕ → ℕ → Type 0
CanAdvance None n size = ⊥
CanAdvance (Some store) n size = store.failed ≡ false → HasFirst store n size

-- the bytes have the list, or it without the first n
abbrev pub IsListOrRest : ℕ → List BufferedEntry → List ℕ → Type 0
IsListOrRest n list bytes = IsListOf (map coded list) bytes
    ⊎ IsListOf (map coded (drop n list)) bytes

-- The first n entries are off the list, where the store works. One that has failed stays as it is.
pub record AdvancesStore (old new : StoreState) (n size : ℕ) : Type 0 where
  pub position : new.position ≡ old.position
  pub goes : StoreGoesOn old new
  pub before : old.failed ≡ true → new ≡ old
  pub cause : old.failed ≡ false → new.failed ≡ true → Rose old.disk.faults new.disk.faults
  pub within : (list : List BufferedEntry) → HoldsEntries old list []
      → Within old.disk new.disk (IsListOrRest n list)
  pub holds : new.failed ≡ false → (list : List BufferedEntry) → HoldsEntries old list []
      → HoldsEntries new (drop n list) []
  pub sized : new.failed ≡ false → (capacity : ℕ) (lengths : List ℕ)
      → HasBufferSize capacity lengths old.buffer → size ≡ space (take n lengths)
      → HasBufferSize capacity (drop n lengths) new.buffer

-- the same of the store of that number, and whether it works; the others stay as they are
pub record AdvancesAt (olds news : List StoreState) (s n size : ℕ) (works : Bool) : Type 0 where
  pub old : StoreState
  pub new : StoreState
  pub was : slice_get olds s ≡ Some old
  pub others : news ≡ change olds s (λ _. new)
  pub answer : works ≡ not new.failed
  pub advances : AdvancesStore old new n size

-- What a call leaves that appends entries to a disk-buffer: it stages them one after another, and then commits them.
use Rattle.std.specs.Prelude.{◌≡◌, ℕ, Bool, true, false, not, Some, None, List, [], ◌∷◌, ◌++◌, map, take, drop, slice_get}
use Rattle.sg_list.specs.Lists.{change}
use Rattle.sg_device.specs.Disk.{Within}
use Rattle.sg_device.specs.Faults.{Rose}
use Rattle.sg_codec.specs.Spelling.{IsSpellable, spelling2}
use Rattle.sg_buffer.specs.Entries.{IsListOf}
use Rattle.sg_machine.specs.Runs.{BufferedEntry}
use Rattle.sg_sinks.specs.Fitting.{space, has_space}
use Rattle.sg_stores.specs.Stores.{StoreState, StoreGoesOn, HoldsEntries, HasBufferSize, HasAhead, coded, length_of}

-- the bytes have the list, with the first of what was tried behind it, or none of that
pub record IsListWithSome (list tried : List BufferedEntry) (bytes : List ℕ) : Type 0 where
  pub taken : ℕ
  pub entries : IsListOf (map coded (list ++ take taken tried)) bytes

-- the first of what was tried are in the list, and the others are staged
pub record HoldsSome (store : StoreState) (list tried : List BufferedEntry) : Type 0 where
  pub taken : ℕ
  pub entries : HoldsEntries store (list ++ take taken tried) (drop taken tried)

-- What a call has staged so far, at a store that worked when it began.
pub record IsAppending (start now : StoreState) (tried : List BufferedEntry) : Type 0 where
  pub position : now.position ≡ start.position
  pub worked : start.failed ≡ false
  pub cause : now.failed ≡ true → Rose start.disk.faults now.disk.faults
  pub goes : StoreGoesOn start now
  pub within : (list : List BufferedEntry) → HoldsEntries start list []
      → Within start.disk now.disk (IsListWithSome list tried)
  pub holds : now.failed ≡ false → (list : List BufferedEntry) → HoldsEntries start list []
      → HoldsSome now list tried
  pub sized : now.failed ≡ false → (capacity : ℕ) (lengths : List ℕ)
      → HasBufferSize capacity lengths start.buffer
      → HasAhead capacity (lengths ++ map length_of tried) now.buffer

-- The same once it is committed: where the store works, all of it is in the list.
pub record IsAppended (start now : StoreState) (tried : List BufferedEntry) : Type 0 where
  pub position : now.position ≡ start.position
  pub worked : start.failed ≡ false
  pub cause : now.failed ≡ true → Rose start.disk.faults now.disk.faults
  pub goes : StoreGoesOn start now
  pub within : (list : List BufferedEntry) → HoldsEntries start list []
      → Within start.disk now.disk (IsListWithSome list tried)
  pub holds : now.failed ≡ false → (list : List BufferedEntry) → HoldsEntries start list []
      → HoldsEntries now (list ++ tried) []
  pub sized : now.failed ≡ false → (capacity : ℕ) (lengths : List ℕ)
      → HasBufferSize capacity lengths start.buffer
      → HasBufferSize capacity (lengths ++ map length_of tried) now.buffer

-- the payload spells this entry, which fits behind all that the call has tried before
pub record IsNextPayload (start : StoreState) (tried : List BufferedEntry) (payload : List ℕ)
    (kept : BufferedEntry) : Type 0 where
  pub spelled : payload ≡ spelling2 (coded kept)
  pub has_spelling : IsSpellable (coded kept)
  pub capacity : ℕ
  pub lengths : List ℕ
  pub size : HasBufferSize capacity lengths start.buffer
  pub fits : has_space capacity (space (lengths ++ map length_of tried)) (length_of kept) ≡ true

-- a payload is staged; a store that has failed, or is no disk-buffer, stays as it is
pub record StagesStore (old new : StoreState) (payload : List ℕ) : Type 0 where
  pub goes : StoreGoesOn old new
  pub before : old.failed ≡ true → new ≡ old
  pub none : old.buffer ≡ None → new ≡ old
  pub stages : (start : StoreState) (tried : List BufferedEntry) (kept : BufferedEntry)
      → IsNextPayload start tried payload kept → IsAppending start old tried
      → IsAppending start new (tried ++ kept ∷ [])

-- what was staged is committed; a store that has failed, or is no disk-buffer, stays as it is
pub record CommitsStore (old new : StoreState) : Type 0 where
  pub goes : StoreGoesOn old new
  pub before : old.failed ≡ true → new ≡ old
  pub none : old.buffer ≡ None → new ≡ old
  pub commits : (start : StoreState) (tried : List BufferedEntry) → IsAppending start old tried
      → IsAppended start new tried

-- the same of the store of that number, and whether it works; the others stay as they are
pub record StagesAt (olds news : List StoreState) (s : ℕ) (payload : List ℕ)
    (works : Bool) : Type 0 where
  pub old : StoreState
  pub new : StoreState
  pub was : slice_get olds s ≡ Some old
  pub others : news ≡ change olds s (λ _. new)
  pub answer : works ≡ not new.failed
  pub stages : StagesStore old new payload

pub record CommitsAt (olds news : List StoreState) (s : ℕ) (works : Bool) : Type 0 where
  pub old : StoreState
  pub new : StoreState
  pub was : slice_get olds s ≡ Some old
  pub others : news ≡ change olds s (λ _. new)
  pub answer : works ≡ not new.failed
  pub commits : CommitsStore old new

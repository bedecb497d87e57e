-- A store of the core: a position store or a disk-buffer.
use Rattle.std.specs.Prelude.{◌≡◌, ◌≤◌, ℕ, ◌+◌, Bool, true, false, Option, Some, None, is_some, List, ◌++◌, length, map, slice_get}
use Rattle.sg_msg.specs.Length.{encoded_len}
use Rattle.sg_device.specs.Disk.{DiskState, Moves}
use Rattle.sg_device.specs.Faults.{Rose}
use Rattle.sg_codec.specs.declared.kept.Kept.{Kept as Coded}
use Rattle.sg_spool.specs.Places.{live}
use Rattle.sg_spool.specs.View.{View, HoldsAt}
use Rattle.sg_spool.specs.declared.rows.Rows.{Rows}
use Rattle.sg_buffer.specs.Entries.{AreKept, spelled}
use Rattle.sg_machine.specs.Runs.{BufferedEntry}
use Rattle.sg_sinks.specs.Fitting.{space}

-- of a disk-buffer: its capacity, and the places and numbers of its entries
pub record BufferState : Type 0 where
  pub capacity : ℕ
  pub rows : Rows

-- the position that was written last, or found at opening, 0 in a disk-buffer; the disk-buffer, where it is one; whether a call
-- on it has failed since; its disk
pub record StoreState : Type 0 where
  pub position : ℕ
  pub buffer : Option BufferState
  pub failed : Bool
  pub disk : DiskState

-- what is seen of a spool on which a call has failed or not
abbrev pub buffer_state : {D : Type 0} → (D → DiskState) → Bool → View D → StoreState
buffer_state state failed view = record {
  position = 0;
  buffer = Some (record { capacity = view.capacity; rows = view.rows });
  failed = failed;
  disk = state view.disk;
}

-- it is a disk-buffer
pub record IsBufferStore (store : StoreState) : Type 0 where
  pub position : store.position ≡ 0
  pub there : is_some store.buffer ≡ true

-- the entry as it is spelled, and its length
abbrev pub coded : BufferedEntry → Coded
coded kept = record {
  source = kept.inlet;
  end = kept.end;
  flow = kept.flow;
  message = kept.message;
}

abbrev pub length_of : BufferedEntry → ℕ
length_of kept = encoded_len kept.message

-- each image has these entries, and those are staged behind them
abbrev pub HoldsIn : Option BufferState → DiskState → List BufferedEntry → List BufferedEntry
    → Type 0
HoldsIn None disk list staged = ⊥
HoldsIn (Some buffer) disk list staged = HoldsAt disk buffer.rows (spelled (map coded list))
    (spelled (map coded staged))

pub record HoldsEntries (store : StoreState) (list staged : List BufferedEntry) : Type 0 where
  pub holds : HoldsIn store.buffer store.disk list staged
  -- each has a spelling
  pub kept : AreKept (map coded (list ++ staged))

-- Its places are those of entries of these lengths, with nothing staged. This holds whatever the disk tells.
pub record IsBufferSized (capacity : ℕ) (lengths : List ℕ) (buffer : BufferState) : Type 0 where
  pub limit : buffer.capacity ≡ capacity
  pub count : buffer.rows.count ≡ length lengths
  pub listed : live buffer.rows.list ≡ space lengths
  pub ahead : live buffer.rows.ahead ≡ space lengths
  pub unstaged : buffer.rows.staged ≡ 0

abbrev pub HasBufferSize : ℕ → List ℕ → Option BufferState → Type 0
HasBufferSize capacity lengths None = ⊥
HasBufferSize capacity lengths (Some buffer) = IsBufferSized capacity lengths buffer

-- the same of the entries with those that are staged
pub record IsAheadBy (capacity : ℕ) (lengths : List ℕ) (buffer : BufferState) : Type 0 where
  pub limit : buffer.capacity ≡ capacity
  pub count : buffer.rows.count + buffer.rows.staged ≡ length lengths
  pub ahead : live buffer.rows.ahead ≡ space lengths

abbrev pub HasAhead : ℕ → List ℕ → Option BufferState → Type 0
HasAhead capacity lengths None = ⊥
HasAhead capacity lengths (Some buffer) = IsAheadBy capacity lengths buffer

-- Time goes on for a disk, and its count of faults doesn't fall. A store that works has counted none, one that fails has its
-- cause, which is that the count rose, and one that has failed stays so: from an opening on those have failed whose count rose.
pub record StoreGoesOn (old new : StoreState) : Type 0 where
  pub moves : Moves old.disk new.disk
  pub later : old.disk.faults ≤ new.disk.faults
  pub stays : old.failed ≡ true → new.failed ≡ true
  pub works : new.failed ≡ false → new.disk.faults ≡ old.disk.faults
  pub broke : old.failed ≡ false → new.failed ≡ true → Rose old.disk.faults new.disk.faults

-- the stores are as many, and time goes on for each
pub record AllGo (olds news : List StoreState) : Type 0 where
  pub count : length news ≡ length olds
  pub each : (s : ℕ) (old new : StoreState) → slice_get olds s ≡ Some old
      → slice_get news s ≡ Some new → StoreGoesOn old new

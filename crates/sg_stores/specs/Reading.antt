-- What a call leaves that reads the first entries of a disk-buffer.
use Rattle.std.specs.Prelude.{◌≡◌, ◌≤◌, ℕ, true, false, Option, Some, None, List, [], length, map, take, slice_get, Result, Ok, Err}
use Rattle.sg_list.specs.Lists.{change}
use Rattle.sg_msg.specs.Message.{Content}
use Rattle.sg_device.specs.Disk.{WhereTold, content}
use Rattle.sg_device.specs.Faults.{Rose}
use Rattle.sg_spool.specs.declared.answers.RewriteRefusal.{RewriteRefusal}
use Rattle.sg_spool.specs.declared.answers.RewriteRefusal.TheVariants.{DiskFault, NoMemory}
use Rattle.sg_machine.specs.Runs.{BufferedEntry}
use Rattle.sg_stores.specs.Stores.{StoreState, StoreGoesOn, HoldsEntries, HasBufferSize}

-- the disk-buffer works, and has n entries or more
pub record HasBufferEntries (store : StoreState) (n : ℕ) : Type 0 where
  pub works : store.failed ≡ false
  pub capacity : ℕ
  pub lengths : List ℕ
  pub sized : HasBufferSize capacity lengths store.buffer
  pub enough : n ≤ length lengths

abbrev pub CanRead : Option StoreState → ℕ → Type 0
CanRead None n = ⊥
CanRead (Some store) n = HasBufferEntries store n

-- all stays but that the store may fail
pub record StoreStays (old new : StoreState) : Type 0 where
  pub position : new.position ≡ old.position
  pub buffer : new.buffer ≡ old.buffer
  pub told : new.disk.told ≡ old.disk.told
  pub goes : StoreGoesOn old new

-- Ok: so many messages; where the disk tells its bytes they are those of the first entries. DiskFault: the store fails now.
-- Lack of memory is free.
abbrev pub ReadsMessages : StoreState → StoreState → ℕ → Result (List Content) RewriteRefusal
    → Type 0
ReadsMessages old new n (Ok messages) = (new.failed ≡ false) × (length messages ≡ n)
    × WhereTold (content old.disk) (λ bytes. (list : List BufferedEntry) → HoldsEntries old list []
    → messages ≡ map (λ (kept : BufferedEntry). kept.message) (take n list))
ReadsMessages old new n (Err DiskFault) = (new.failed ≡ true) × Rose old.disk.faults new.disk.faults
ReadsMessages old new n (Err NoMemory) = new.failed ≡ false

-- the same of the store of that number; the others stay as they are
pub record ReadsAt (olds news : List StoreState) (s n : ℕ)
    (result : Result (List Content) RewriteRefusal) : Type 0 where
  pub old : StoreState
  pub new : StoreState
  pub was : slice_get olds s ≡ Some old
  pub others : news ≡ change olds s (λ _. new)
  pub stays : StoreStays old new
  pub reads : ReadsMessages old new n result

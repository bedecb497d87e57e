-- What a crash may leave on the disks of a core.
use Rattle.std.specs.Prelude.{◌≡◌, ◌≤◌, ℕ, Option, Some, None, List, length, map, slice_get}
use Rattle.std.specs.Option.{option_map_or}
use Rattle.sg_device.specs.Disk.{clock, IsImage, IsImageAt}
use Rattle.sg_stable.specs.Cell.{cell_value}
use Rattle.sg_stable.specs.Position.{IsPosition}
use Rattle.sg_buffer.specs.Entries.{IsListOf}
use Rattle.sg_machine.specs.declared.setup.BufferSetup.{BufferSetup}
use Rattle.sg_machine.specs.Runs.{BufferedEntry}
use Rattle.sg_sinks.specs.States.{SinkState}
use Rattle.sg_stores.specs.Stores.{StoreState, coded}
use Rattle.sg_standing.specs.States.{CoreState}
use Rattle.sg_standing.specs.declared.source.Source.{Source}

-- the position in the image of a source's store
abbrev pub position_in : List (List ℕ) → Option ℕ → ℕ
position_in images None = 0
position_in images (Some s) = option_map_or cell_value (slice_get images s) 0

abbrev pub positions_in : List Source → List (List ℕ) → List ℕ
positions_in sources images = map (λ (source : Source). position_in images source.setup.store)
    sources

-- these are the lists that the images of the disk-buffers stand for; of other destinations they may be any
pub record AreListsIn (sinks : List SinkState) (images : List (List ℕ))
    (lists : List (List BufferedEntry)) : Type 0 where
  pub every : length lists ≡ length sinks
  pub each : (d : ℕ) (sink : SinkState) (buffer : BufferSetup) (list : List BufferedEntry)
      (bytes : List ℕ)
      → slice_get sinks d ≡ Some sink → sink.setup.buffer ≡ Some buffer
      → slice_get lists d ≡ Some list → slice_get images buffer.store ≡ Some bytes
      → IsListOf (map coded list) bytes

-- an image of each disk now
abbrev pub AreImages : List StoreState → List (List ℕ) → Type 0
AreImages stores images =
    (s : ℕ) (store : StoreState) → slice_get stores s ≡ Some store
    → (bytes : List ℕ) × (slice_get images s ≡ Some bytes) × IsImage store.disk bytes

-- one of the store of that number at some moment between these
pub record HasImageBetween (store : StoreState) (from until : ℕ) (images : List (List ℕ))
    (s : ℕ) : Type 0 where
  pub bytes : List ℕ
  pub chosen : slice_get images s ≡ Some bytes
  pub moment : ℕ
  pub since : from ≤ moment
  pub before : moment ≤ until
  pub image : IsImageAt store.disk moment bytes

-- one of each disk, each at its own moment between two rows
abbrev pub AreImagesBetween : List StoreState → (ℕ → ℕ) → (ℕ → ℕ) → List (List ℕ) → Type 0
AreImagesBetween stores from until images = (s : ℕ) (store : StoreState)
    → slice_get stores s ≡ Some store → HasImageBetween store (from s) (until s) images s

-- one of each disk, each at its own moment since a call began
abbrev pub AreImagesWithin : List StoreState → List StoreState → List (List ℕ) → Type 0
AreImagesWithin olds news images =
    (s : ℕ) (old new : StoreState) → slice_get olds s ≡ Some old → slice_get news s ≡ Some new
    → HasImageBetween new (clock old.disk) (clock new.disk) images s

-- the image of each source's store is a position store, and that of each disk-buffer has a list of entries
pub record AreStores (core : CoreState) (images : List (List ℕ)) : Type 0 where
  pub positions : (i : ℕ) (source : Source) (s : ℕ) (bytes : List ℕ)
      → slice_get core.sources i ≡ Some source → source.setup.store ≡ Some s
      → slice_get images s ≡ Some bytes
      → (position : ℕ) × IsPosition position bytes
  pub lists : (d : ℕ) (sink : SinkState) (buffer : BufferSetup) (bytes : List ℕ)
      → slice_get core.sinks d ≡ Some sink → sink.setup.buffer ≡ Some buffer
      → slice_get images buffer.store ≡ Some bytes
      → (list : List BufferedEntry) × IsListOf (map coded list) bytes

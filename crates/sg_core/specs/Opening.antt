-- The opening of a core.
use Rattle.std.specs.Prelude.{◌≡◌, ◌≤◌, ◌<◌, ◌^◌, ℕ, Option, Some, None, option_and_then, List, [], ◌∷◌, length, map, slice_get, ◌==◌, if◌then◌else◌}
use Rattle.std.specs.Option.{option_map_or}
use Rattle.sg_device.specs.Disk.{DiskState, content, WhereTold}
use Rattle.sg_buffer.specs.Entries.{IsListOf}
use Rattle.sg_buffer.specs.declared.found.BufferEntries.{BufferEntries}
use Rattle.sg_buffer.specs.declared.found.EntryHead.{EntryHead}
use Rattle.sg_window.specs.Window.{window_of}
use Rattle.sg_machine.specs.declared.setup.BufferSetup.{BufferSetup}
use Rattle.sg_machine.specs.declared.setup.SourceSetup.{SourceSetup}
use Rattle.sg_machine.specs.declared.setup.DestSetup.{DestSetup}
use Rattle.sg_machine.specs.declared.setup.Setup.{Setup}
use Rattle.sg_machine.specs.Runs.{BufferedEntry, Opening, opened}
use Rattle.sg_counter.specs.Bringing.{store_in}
use Rattle.sg_sinks.specs.Fitting.{space}
use Rattle.sg_sinks.specs.States.{SinkState, fresh_sink, recovered}
use Rattle.sg_stores.specs.Stores.{StoreState, coded}
use Rattle.sg_stores.specs.Positions.{IsStoreThere, stored_in}
use Rattle.sg_stores.specs.Opening.{AreOpened, AreStoresRefused}
use Rattle.sg_stores.specs.declared.answers.CoreRefusal.{CoreRefusal}
use Rattle.sg_stores.specs.declared.kind.StoreKind.{StoreKind}
use Rattle.sg_stores.specs.declared.kind.StoreKind.TheVariants.{Position, Buffer}
use Rattle.sg_standing.specs.Sources.{begun_in}
use Rattle.sg_standing.specs.States.{CoreState, setup_of}
use Rattle.sg_standing.specs.Standing.{StandsFor}
use Rattle.sg_standing.specs.declared.source.Source.{Source}

-- the number of the store of a destination's disk-buffer
abbrev pub buffer_store_in : List DestSetup → ℕ → Option ℕ
buffer_store_in setups d = option_and_then
    (λ setup. option_map_or (λ (buffer : BufferSetup). Some buffer.store) setup.buffer None)
    (slice_get setups d)

-- they are among so many
abbrev pub HaveStores : List DestSetup → ℕ → Type 0
HaveStores setups count = (d s : ℕ) → buffer_store_in setups d ≡ Some s → s < count

-- the stores are among so many, and none is that of two inlets, of two destinations, or of one of each
pub record NumberStores (setup : Setup) (count : ℕ) : Type 0 where
  pub positions : (i s : ℕ) → store_in setup.sources i ≡ Some s → s < count
  pub buffers : HaveStores setup.dests count
  pub inlets_apart : (i j s : ℕ) → store_in setup.sources i ≡ Some s
      → store_in setup.sources j ≡ Some s → i ≡ j
  pub dests_apart : (d e s : ℕ) → buffer_store_in setup.dests d ≡ Some s
      → buffer_store_in setup.dests e ≡ Some s → d ≡ e
  pub apart : (i d s : ℕ) → store_in setup.sources i ≡ Some s
      → buffer_store_in setup.dests d ≡ Some s → ⊥

abbrev pub HaveWindows : List SourceSetup → Type 0
HaveWindows [] = Unit {0}
HaveWindows (s ∷ ss) = (0 < s.window) × HaveWindows ss

-- no disk-buffer has a capacity above 2^30
abbrev pub HaveCapacities : List DestSetup → Type 0
HaveCapacities setups = (d : ℕ) (setup : DestSetup) (buffer : BufferSetup)
    → slice_get setups d ≡ Some setup → setup.buffer ≡ Some buffer → buffer.capacity ≤ 2 ^ 30

-- the disk-buffer's, where it has this store
abbrev pub kind_by : Option BufferSetup → ℕ → StoreKind → StoreKind
kind_by None s kind = kind
kind_by (Some buffer) s kind = if buffer.store == s then Buffer buffer.capacity else kind

-- the kinds of so many stores: those of disk-buffers, and position stores
abbrev pub kind_of : List DestSetup → ℕ → StoreKind
kind_of [] s = Position
kind_of (setup ∷ setups) s = kind_by setup.buffer s (kind_of setups s)

pub record AreKinds (dests : List DestSetup) (count : ℕ) (kinds : List StoreKind) : Type 0 where
  pub many : length kinds ≡ count
  pub each : (s : ℕ) (kind : StoreKind) → slice_get kinds s ≡ Some kind → kind ≡ kind_of dests s

-- a source of no records, which begins at the position in its store
abbrev pub opened_source : List StoreState → SourceSetup → Source
opened_source stores setup = record {
  setup = setup;
  opening = stored_in stores setup.store;
  tracker = window_of setup.window 0 0 [];
}

-- a destination with these entries on its disk
abbrev pub recovers : SinkState → List EntryHead → SinkState
recovers sink [] = sink
recovers sink (h ∷ hs) = recovers (recovered h.length sink) hs

-- the lengths of these entries
abbrev pub lengths_in : List EntryHead → List ℕ
lengths_in heads = map (λ (h : EntryHead). h.length) heads

-- what was found at a destination's disk-buffer
abbrev pub found_at : List BufferEntries → Option BufferSetup → List EntryHead
found_at founds None = []
found_at founds (Some buffer) = option_map_or (λ (found : BufferEntries). found.heads.items)
    (slice_get founds buffer.store) []

abbrev pub opened_sink : List BufferEntries → DestSetup → SinkState
opened_sink founds setup = recovers (fresh_sink setup) (found_at founds setup.buffer)

-- entries were found in the disk-buffer's store, whose sizes add up
abbrev pub CanRecover : List BufferEntries → Option BufferSetup → Type 0
CanRecover founds None = Unit {0}
CanRecover founds (Some buffer) = (buffer.store < length founds)
    × ((found : BufferEntries) → slice_get founds buffer.store ≡ Some found
    → space (lengths_in found.heads.items) < 2 ^ 64)

abbrev pub AreRecoverable : List BufferEntries → List DestSetup → Type 0
AreRecoverable founds [] = Unit {0}
AreRecoverable founds (setup ∷ setups) = CanRecover founds setup.buffer
    × AreRecoverable founds setups

abbrev pub AreThere : List StoreState → List SourceSetup → Type 0
AreThere stores [] = Unit {0}
AreThere stores (setup ∷ setups) = IsStoreThere stores setup.store × AreThere stores setups

-- The core was opened over these disks: it is at its beginning, each source at the position in its store, and each destination with
-- the entries of its disk-buffer.
pub record IsOpen (setup : Setup) (disks : List DiskState) (core : CoreState) : Type 0 where
  pub kinds : List StoreKind
  pub kinds_are : AreKinds setup.dests (length disks) kinds
  pub founds : List BufferEntries
  pub stores : AreOpened kinds disks founds core.stores
  pub sources : core.sources ≡ map (opened_source core.stores) setup.sources
  pub sinks : core.sinks ≡ map (opened_sink founds) setup.dests
  pub opening : Opening
  pub places : opening.places
      ≡ map (λ (s : SourceSetup). stored_in core.stores s.store) setup.sources
  pub every_list : length opening.entries ≡ length setup.dests
  pub lists :
      (d : ℕ) (dest : DestSetup) (buffer : BufferSetup) (disk : DiskState)
      (list : List BufferedEntry)
      → slice_get setup.dests d ≡ Some dest → dest.buffer ≡ Some buffer
      → slice_get disks buffer.store ≡ Some disk → slice_get opening.entries d ≡ Some list
      → WhereTold (content disk) (IsListOf (map coded list))
  pub stands : StandsFor core (opened setup opening) []
  pub unbegun : (i : ℕ) → begun_in core.sources i ≡ 0
  pub calls : core.calls ≡ 0
  pub setups : setup_of core ≡ setup

-- the core wasn't opened
pub record IsUnopened (setup : Setup) (olds news : List DiskState)
    (refusal : CoreRefusal) : Type 0 where
  pub kinds : List StoreKind
  pub kinds_are : AreKinds setup.dests (length olds) kinds
  pub refused : AreStoresRefused kinds olds news refusal

-- What a core keeps of the machine's state, and which events it stands for.
use Rattle.std.specs.Prelude.{◌≡◌, ◌≤◌, ◌<◌, ℕ, ◌+◌, Bool, true, false, IsSome, Option, Some, None, option_and_then, option_to_list, List, [], ◌∷◌, ◌++◌, length, map, take, slice_get}
use Rattle.sg_device.specs.Disk.{EachNow, Within, clock, IsImageAt}
use Rattle.sg_device.specs.Faults.{Rose}
use Rattle.sg_stable.specs.Position.{IsPosition}
use Rattle.sg_window.specs.Window.{window_of}
use Rattle.sg_buffer.specs.Entries.{IsListOf}
use Rattle.sg_machine.specs.declared.event.Act.{Act}
use Rattle.sg_machine.specs.declared.event.Act.TheVariants.{Look}
use Rattle.sg_machine.specs.declared.event.Event.{Event}
use Rattle.sg_machine.specs.declared.setup.BufferSetup.{BufferSetup}
use Rattle.sg_machine.specs.declared.setup.SourceSetup.{SourceSetup}
use Rattle.sg_machine.specs.declared.state.Dest.{Dest}
use Rattle.sg_machine.specs.declared.state.DestEntry.{DestEntry}
use Rattle.sg_machine.specs.declared.state.InletRecords.{InletRecords}
use Rattle.sg_machine.specs.declared.state.State.{State}
use Rattle.sg_machine.specs.Effects.{after_act}
use Rattle.sg_machine.specs.Legal.{is_legal_act, store_of}
use Rattle.sg_machine.specs.Running.{IsSoundReplay as IsReplayed, records_from}
use Rattle.sg_machine.specs.Runs.{BufferedEntry, after_all, are_legal}
use Rattle.sg_machine.specs.Safe.{IsSafeList, failed_position, failed_entries, running_position, spooled_of}
use Rattle.sg_machine.specs.Verdicts.{is_listed}
use Rattle.sg_codec.specs.Spelling.{IsSpellable}
use Rattle.sg_counter.specs.Bringing.{store_in}
use Rattle.sg_sinks.specs.Laws.{is_listed_in}
use Rattle.sg_sinks.specs.Blocks.{block_of}
use Rattle.sg_sinks.specs.Standing.{IsSplit, kept_of, lengths_of, sink_of}
use Rattle.sg_sinks.specs.States.{SinkState}
use Rattle.sg_stores.specs.Stores.{StoreState, AllGo, HasBufferSize, HoldsEntries, coded}
use Rattle.sg_standing.specs.States.{CoreState, setup_of}
use Rattle.sg_standing.specs.declared.source.Source.{Source}

-- What a core keeps of a state.

abbrev pub source_of : List Dest → ℕ → InletRecords → Source
source_of dests i inlet = record {
  setup = inlet.setup;
  opening = inlet.opening;
  tracker = window_of inlet.setup.window (length inlet.ends) 0 (records_from dests i 0 inlet.ends);
}

abbrev pub sources_from : List Dest → ℕ → List InletRecords → List Source
sources_from dests i [] = []
sources_from dests i (inlet ∷ inlets) = source_of dests i inlet ∷ sources_from dests (i + 1) inlets

-- whether the store of its disk-buffer has failed
abbrev pub is_broken : List ℕ → Dest → Bool
is_broken failed dest = is_listed_in dest.setup.buffer failed

abbrev pub sinks_of : State → List SinkState
sinks_of state = map (λ dest. sink_of (is_broken state.failed dest) dest) state.dests

-- a position store, which has failed or works; while it works it has this position, and so has each image
pub record IsPositionAt (store : StoreState) (place : ℕ) (broken : Bool) : Type 0 where
  pub kind : store.buffer ≡ None
  pub position_is : store.position ≡ place
  pub failed_is : store.failed ≡ broken
  pub works : store.failed ≡ false → EachNow store.disk (IsPosition place)

abbrev pub HoldsPosition : Option StoreState → ℕ → Bool → Type 0
HoldsPosition None place broken = ⊥
HoldsPosition (Some store) place broken = IsPositionAt store place broken

-- the store of an inlet has its stored position, and has failed where it is listed
abbrev pub IsStoredPosition : List StoreState → List ℕ → Option ℕ → ℕ → Type 0
IsStoredPosition stores failed None place = place ≡ 0
IsStoredPosition stores failed (Some s) place = HoldsPosition (slice_get stores s) place
    (is_listed s failed)

abbrev pub ArePositionsStored : List StoreState → List ℕ → List InletRecords → Type 0
ArePositionsStored stores failed inlets =
    (i : ℕ) (inlet : InletRecords) → slice_get inlets i ≡ Some inlet
    → IsStoredPosition stores failed inlet.setup.store inlet.stored

-- a disk-buffer, which has failed or works; while it works its places are those of the spooled entries that are left, and each image
-- has these
pub record IsBufferOf (store : StoreState) (buffer : BufferSetup) (dest : Dest)
    (broken : Bool) : Type 0 where
  pub failed_is : store.failed ≡ broken
  pub sized : store.failed ≡ false
      → HasBufferSize buffer.capacity (lengths_of dest.left) store.buffer
  pub works : store.failed ≡ false → HoldsEntries store (spooled_of dest.left) []

-- the store of a destination's disk-buffer
pub record IsBacked (stores : List StoreState) (failed : List ℕ) (buffer : BufferSetup)
    (dest : Dest) : Type 0 where
  pub store : StoreState
  pub there : slice_get stores buffer.store ≡ Some store
  pub is : IsBufferOf store buffer dest (is_listed buffer.store failed)

abbrev pub AreBacked : List StoreState → List ℕ → List Dest → Type 0
AreBacked stores failed dests =
    (d : ℕ) (dest : Dest) (buffer : BufferSetup) → slice_get dests d ≡ Some dest
    → dest.setup.buffer ≡ Some buffer → IsBacked stores failed buffer dest

-- What holds of each state that a core comes to.

abbrev pub setups_of : List InletRecords → List SourceSetup
setups_of inlets = map (λ (inlet : InletRecords). inlet.setup) inlets

-- the number of the store of a destination's disk-buffer
abbrev pub buffer_in : List Dest → ℕ → Option ℕ
buffer_in dests d = option_and_then store_of (slice_get dests d)

-- no store is that of two inlets, of two destinations, or of one of each
pub record AreApart (state : State) : Type 0 where
  pub inlets : (i j s : ℕ) → store_in (setups_of state.inlets) i ≡ Some s
      → store_in (setups_of state.inlets) j ≡ Some s → i ≡ j
  pub dests : (d e s : ℕ) → buffer_in state.dests d ≡ Some s → buffer_in state.dests e ≡ Some s
      → d ≡ e
  pub both : (i d s : ℕ) → store_in (setups_of state.inlets) i ≡ Some s
      → buffer_in state.dests d ≡ Some s → ⊥

-- each of these entries that has a block can be spelled
abbrev pub AreSpellable : Option BufferSetup → List DestEntry → Type 0
AreSpellable buffer [] = Unit {0}
AreSpellable buffer (e ∷ es) = (IsSome (block_of buffer (kept_of e)) → IsSpellable (kept_of e))
    × AreSpellable buffer es

pub record IsSoundState (state : State) : Type 0 where
  pub replayed : IsReplayed state
  pub split : (d : ℕ) (dest : Dest) → slice_get state.dests d ≡ Some dest → IsSplit dest
  pub spellable : (d : ℕ) (dest : Dest) → slice_get state.dests d ≡ Some dest
      → AreSpellable dest.setup.buffer dest.left
  -- before its first record the stored position of an inlet is its opening place
  pub unmoved : (i : ℕ) (inlet : InletRecords) → slice_get state.inlets i ≡ Some inlet
      → inlet.ends ≡ []
      → inlet.stored ≡ inlet.opening
  pub apart : AreApart state

-- the core keeps this of the state
pub record IsAt (core : CoreState) (state : State) : Type 0 where
  pub sound : IsSoundState state
  pub sources : core.sources ≡ sources_from state.dests 0 state.inlets
  pub sinks : core.sinks ≡ sinks_of state
  pub stores : ArePositionsStored core.stores state.failed state.inlets
  pub buffers : AreBacked core.stores state.failed state.dests

-- Images.

-- a store of one of these positions
pub record IsPositionOf (positions : List ℕ) (bytes : List ℕ) : Type 0 where
  pub position : ℕ
  pub is_position : IsPosition position bytes
  pub listed : is_listed position positions ≡ true

-- the positions that may stand in the store of an inlet after these events: its stored one, and one whose write has failed
abbrev pub positions_now : State → List Event → ℕ → InletRecords → List ℕ
positions_now start events i inlet = inlet.stored ∷ option_to_list (failed_position start events i)

-- the same within the event that follows: also the one that it writes
abbrev pub positions_within : State → List Event → Event → ℕ → InletRecords → List ℕ
positions_within start events event i inlet =
    inlet.stored ∷ option_to_list (running_position event.act i)
    ++ option_to_list (failed_position start (events ++ event ∷ []) i)

-- each image now of an inlet's store that has failed has one of its positions
abbrev pub HavePositions : List StoreState → State → List Event → Type 0
HavePositions stores start events =
    (i : ℕ) (inlet : InletRecords) (s : ℕ) (store : StoreState)
    → slice_get (after_all start events).inlets i ≡ Some inlet → inlet.setup.store ≡ Some s
    → slice_get stores s ≡ Some store → store.failed ≡ true
    → EachNow store.disk (IsPositionOf (positions_now start events i inlet))

-- each image of an inlet's store since the event began has one of its positions
abbrev pub HavePositionsWithin : List StoreState → List StoreState → State → List Event → Event
    → Type 0
HavePositionsWithin olds news start events event =
    (i : ℕ) (inlet : InletRecords) (s : ℕ) (old new : StoreState)
    → slice_get (after_all start events).inlets i ≡ Some inlet → inlet.setup.store ≡ Some s
    → slice_get olds s ≡ Some old → slice_get news s ≡ Some new
    → Within old.disk new.disk (IsPositionOf (positions_within start events event i inlet))

-- the bytes stand for a list that is safe within the act
pub record IsSafeStore (dest : Dest) (d : ℕ) (act : Act) (failed : List ℕ)
    (tried : List BufferedEntry) (bytes : List ℕ) : Type 0 where
  pub list : List BufferedEntry
  pub entries : IsListOf (map coded list) bytes
  pub safe : IsSafeList dest d act failed tried list

-- the stores that have failed once the event is over
abbrev pub failed_then : State → List Event → Event → List ℕ
failed_then start events event = (after_all start events).failed ++ event.failed

-- each image now of a disk-buffer that has failed has a safe list
abbrev pub HaveLists : List StoreState → State → List Event → Type 0
HaveLists stores start events =
    (d : ℕ) (dest : Dest) (buffer : BufferSetup) (store : StoreState)
    → slice_get (after_all start events).dests d ≡ Some dest → dest.setup.buffer ≡ Some buffer
    → slice_get stores buffer.store ≡ Some store → store.failed ≡ true
    → EachNow store.disk
    (IsSafeStore dest d Look (after_all start events).failed (failed_entries start events d))

-- each image of a disk-buffer since the event began has a safe list
abbrev pub HaveListsWithin : List StoreState → List StoreState → State → List Event → Event → Type 0
HaveListsWithin olds news start events event =
    (d : ℕ) (dest : Dest) (buffer : BufferSetup) (old new : StoreState)
    → slice_get (after_all start events).dests d ≡ Some dest → dest.setup.buffer ≡ Some buffer
    → slice_get olds buffer.store ≡ Some old → slice_get news buffer.store ≡ Some new
    → Within old.disk new.disk (IsSafeStore dest d event.act (failed_then start events event)
    (failed_entries start (events ++ event ∷ []) d))

-- Moments.

-- one of each inlet's store between these moments has one of its positions
abbrev pub PositionsBetween : List StoreState → (ℕ → ℕ) → (ℕ → ℕ) → State → List Event → Event
    → Type 0
PositionsBetween stores from until start events event =
    (i : ℕ) (inlet : InletRecords) (s : ℕ) (store : StoreState) (moment : ℕ) (bytes : List ℕ)
    → slice_get (after_all start events).inlets i ≡ Some inlet → inlet.setup.store ≡ Some s
    → slice_get stores s ≡ Some store → from s ≤ moment → moment ≤ until s
    → IsImageAt store.disk moment bytes
    → IsPositionOf (positions_within start events event i inlet) bytes

-- one of each disk-buffer has a safe list
abbrev pub ListsBetween : List StoreState → (ℕ → ℕ) → (ℕ → ℕ) → State → List Event → Event → Type 0
ListsBetween stores from until start events event =
    (d : ℕ) (dest : Dest) (buffer : BufferSetup) (store : StoreState) (moment : ℕ) (bytes : List ℕ)
    → slice_get (after_all start events).dests d ≡ Some dest
    → dest.setup.buffer ≡ Some buffer → slice_get stores buffer.store ≡ Some store
    → from buffer.store ≤ moment → moment ≤ until buffer.store → IsImageAt store.disk moment bytes
    → IsSafeStore dest d event.act (failed_then start events event)
    (failed_entries start (events ++ event ∷ []) d) bytes

-- A timetable of the events: one row more than events, a row a moment of each store. No moment falls from a row to the next, and
-- the last row is now. Images between two rows are safe for the events before the first and the one between.
pub record IsTimetable (stores : List StoreState) (start : State)
    (events : List Event) : Type 0 where
  pub rows : ℕ → ℕ → ℕ
  pub ascend : (k s : ℕ) (store : StoreState) → slice_get stores s ≡ Some store → k < length events
      → rows k s ≤ rows (k + 1) s
  pub last : (s : ℕ) (store : StoreState) → slice_get stores s ≡ Some store
      → rows (length events) s ≡ clock store.disk
  pub positions : (k : ℕ) (event : Event) → slice_get events k ≡ Some event
      → PositionsBetween stores (rows k) (rows (k + 1)) start (take k events) event
  pub lists : (k : ℕ) (event : Event) → slice_get events k ≡ Some event
      → ListsBetween stores (rows k) (rows (k + 1)) start (take k events) event

-- the rows up to that of this number stay
abbrev pub KeepsRows : ℕ → (ℕ → ℕ → ℕ) → (ℕ → ℕ → ℕ) → Type 0
KeepsRows n rows rows' = (k s : ℕ) → k ≤ n → rows' k s ≡ rows k s

-- The core stands for these events from that state on: they are legal, it keeps what the state after them has, the images of its
-- stores are what they may leave, and so were those of each moment since.
pub record StandsFor (core : CoreState) (start : State) (events : List Event) : Type 0 where
  pub legal : are_legal start events ≡ true
  pub at : IsAt core (after_all start events)
  pub positions : HavePositions core.stores start events
  pub lists : HaveLists core.stores start events
  pub moments : IsTimetable core.stores start events

-- it stands for these events and more, by a timetable that keeps the rows of these
pub record StandsOn (core : CoreState) (start : State) (events more : List Event)
    (rows : ℕ → ℕ → ℕ) : Type 0 where
  pub stands : StandsFor core start (events ++ more)
  pub keeps : KeepsRows (length events) rows stands.moments.rows

-- Calls.

-- the stores that failed are those whose count of faults rose
abbrev pub HaveRisen : List StoreState → List StoreState → List ℕ → Type 0
HaveRisen olds news failed =
    (s : ℕ) (old new : StoreState) → is_listed s failed ≡ true → slice_get olds s ≡ Some old
    → slice_get news s ≡ Some new
    → Rose old.disk.faults new.disk.faults

-- what a core that stands for the events before it needs to stand for one more
pub record AddsEvent (old new : CoreState) (start : State) (events : List Event)
    (event : Event) : Type 0 where
  pub legal : is_legal_act (after_all start events) event.act event.failed ≡ true
  pub at : IsAt new (after_act (after_all start events) event.act event.failed)
  pub goes : AllGo old.stores new.stores
  pub positions : HavePositionsWithin old.stores new.stores start events event
  pub lists : HaveListsWithin old.stores new.stores start events event

-- The call is one event with this act.
pub record DoesAct (old new : CoreState) (act : Act) : Type 0 where
  -- the stores that failed in it
  pub failed : List ℕ
  pub risen : HaveRisen old.stores new.stores failed
  pub goes : AllGo old.stores new.stores
  pub calls : new.calls ≡ old.calls + 1
  pub setup : setup_of new ≡ setup_of old
  -- from each state that the core may be at
  pub step : (state : State) → IsAt old state
      → (is_legal_act state act failed ≡ true) × IsAt new (after_act state act failed)
  -- within it each image is safe
  pub positions : (start : State) (events : List Event) → StandsFor old start events
      → HavePositionsWithin old.stores new.stores start events
      (record { act = act; failed = failed })
  pub lists : (start : State) (events : List Event) → StandsFor old start events
      → HaveListsWithin old.stores new.stores start events (record { act = act; failed = failed })
  -- so it stands for one event more
  pub stands : (start : State) (events : List Event) → StandsFor old start events
      → StandsFor new start (events ++ record { act = act; failed = failed } ∷ [])
  -- and each row that there was stays
  pub keeps : (start : State) (events : List Event) (stood : StandsFor old start events)
      → KeepsRows (length events) stood.moments.rows (stands start events stood).moments.rows

-- What the stores may hold where a run is cut off, after the events and within the one that follows.
use Rattle.std.specs.Prelude.{◌≡◌, ◌≤◌, ℕ, ◌==◌, nat_lt, nat_le, Bool, true, false, ◌&&◌, not, if◌then◌else◌, Option, Some, None, is_some, option_to_list, option_and_then, List, [], ◌∷◌, ◌++◌, length, map, filter, take, drop, slice_get, Contains}
use Rattle.std.specs.Option.{option_map_or}
use Rattle.sg_machine.specs.declared.event.Verdict.{Verdict}
use Rattle.sg_machine.specs.declared.event.Verdict.TheVariants.{Spooled}
use Rattle.sg_machine.specs.declared.event.Act.{Act}
use Rattle.sg_machine.specs.declared.event.Act.TheVariants.{Admit, Settle, Refill, Store, Rewind, Look}
use Rattle.sg_machine.specs.declared.event.Event.{Event}
use Rattle.sg_machine.specs.declared.setup.BufferSetup.{BufferSetup}
use Rattle.sg_machine.specs.declared.state.DestEntry.{DestEntry}
use Rattle.sg_machine.specs.declared.state.InletRecords.{InletRecords}
use Rattle.sg_machine.specs.declared.state.Dest.{Dest}
use Rattle.sg_machine.specs.declared.state.State.{State}
use Rattle.sg_machine.specs.Verdicts.{Claim, claims_of, origin_of, is_listed, disk_verdict, same_verdict, take_offer}
use Rattle.sg_machine.specs.Marks.{mark_of}
use Rattle.sg_machine.specs.Legal.{store_of, is_nil}
use Rattle.sg_machine.specs.Effects.{next_of, after}
use Rattle.sg_machine.specs.Runs.{BufferedEntry, after_all}
use Rattle.sg_machine.specs.Counts.{as_kept, is_spooled}

-- what the stores hold: a position for each inlet, and a list for each destination; of one without a
-- store it says nothing
pub record Images : Type 0 where
  pub positions : List ℕ
  pub lists : List (List BufferedEntry)

-- one of these stores is that one
abbrev pub has_failed : List ℕ → Option ℕ → Bool
has_failed failed store = option_map_or (λ s. is_listed s failed) store false

-- the first, or the second where there is none
abbrev pub first_of : {A : Type 0} → Option A → Option A → Option A
first_of None second = second
first_of (Some x) second = Some x

-- Positions.

-- the position that an event in which the inlet's store fails may have written: the mark, or 0 where
-- no record was admitted before
abbrev pub failing_position : State → Event → ℕ → InletRecords → Option ℕ
failing_position state event i inlet =
    if has_failed event.failed inlet.setup.store
    then Some (if is_nil inlet.ends then 0 else mark_of state.dests i inlet) else None

-- the same of the first such event
abbrev pub failed_position : State → List Event → ℕ → Option ℕ
failed_position state [] i = None
failed_position state (e ∷ es) i =
    first_of (option_and_then (failing_position state e i) (slice_get state.inlets i))
    (failed_position (after state e) es i)

-- the position that the act is writing
abbrev pub running_position : Act → ℕ → Option ℕ
running_position (Store j w) i = if j == i then Some w else None
running_position (Rewind j) i = if j == i then Some 0 else None
running_position _ i = None

-- Lists.

-- the entries of Spooled(d), in order
abbrev pub spooled_of : List DestEntry → List BufferedEntry
spooled_of entries = map as_kept (filter is_spooled entries)

abbrev pub kept_from : ℕ → Claim → BufferedEntry
kept_from i c = record { inlet = i; end = c.end; flow = c.offer.flow; message = c.offer.message }

-- the offers to d that an Admit spools, in order
abbrev pub spooled_offers : ℕ → ℕ → List Claim → List Verdict → List BufferedEntry
spooled_offers d i [] vs = []
spooled_offers d i (c ∷ cs) [] = []
spooled_offers d i (c ∷ cs) (v ∷ vs) =
    if c.offer.dest == d && same_verdict Spooled v then kept_from i c ∷ spooled_offers d i cs vs
    else spooled_offers d i cs vs

-- the entries that wait, in order
abbrev pub waiting : List DestEntry → List BufferedEntry
waiting left = map as_kept (filter (λ e. not e.spooled) left)

-- what an act appends at d
abbrev pub appends : Act → ℕ → Dest → List BufferedEntry
appends (Admit i records verdicts) d dest = spooled_offers d i (claims_of records) verdicts
appends (Refill e n) d dest = if e == d then take n (waiting dest.left) else []
appends _ d dest = []

-- The offers to d, which is this, that would be spooled if its store worked, in order: each is judged
-- after the ones before, as they would then have been.
abbrev pub would_spool : ℕ → ℕ → ℕ → BufferSetup → Dest → List Claim → List BufferedEntry
would_spool d i next buffer dest [] = []
would_spool d i next buffer dest (c ∷ cs) =
    if c.offer.dest == d
    then (let v = disk_verdict buffer dest.left false c.offer in
    let rest = would_spool d i next buffer (take_offer (origin_of i next c) c.offer v dest) cs in
    if same_verdict Spooled v then kept_from i c ∷ rest else rest)
    else would_spool d i next buffer dest cs

-- the entries that an act in which the store of d fails tried to append: an Admit's offers that would
-- be spooled if it worked, and at a Look all that waited
abbrev pub tried_by : State → Act → ℕ → Dest → List BufferedEntry
tried_by state (Admit i records verdicts) d dest =
    option_map_or (λ buffer. would_spool d i (next_of state i) buffer dest (claims_of records))
    dest.setup.buffer []
tried_by state Look d dest = waiting dest.left
tried_by state _ d dest = []

abbrev pub failing_entries : State → Event → ℕ → Dest → Option (List BufferedEntry)
failing_entries state event d dest =
    if has_failed event.failed (store_of dest) then Some (tried_by state event.act d dest) else None

-- the same of the first event in which the store of d fails
abbrev pub failed_append : State → List Event → ℕ → Option (List BufferedEntry)
failed_append state [] d = None
failed_append state (e ∷ es) d =
    first_of (option_and_then (failing_entries state e d) (slice_get state.dests d))
    (failed_append (after state e) es d)

abbrev pub failed_entries : State → List Event → ℕ → List BufferedEntry
failed_entries state events d = option_map_or (λ ks. ks) (failed_append state events d) []

-- the settled entries, those of a Settle(d, n) included
abbrev pub settled_by : Act → ℕ → Dest → List DestEntry
settled_by (Settle e n) d dest = if e == d then dest.settled ++ take n dest.left else dest.settled
settled_by _ d dest = dest.settled

-- the entries that are left then
abbrev pub left_by : Act → ℕ → Dest → List DestEntry
left_by (Settle e n) d dest = if e == d then drop n dest.left else dest.left
left_by _ d dest = dest.left

abbrev pub is_settle : Act → ℕ → Bool
is_settle (Settle e n) d = e == d
is_settle _ d = false

-- The list is Spooled(d) less its first entries, and behind them the first of what the act appends, or
-- of what the append that failed tried to. Those taken away are settled, and they are all the settled
-- ones where the store works and no Settle(d, n) is on.
pub record IsSafeList (dest : Dest) (d : ℕ) (act : Act) (failed : List ℕ)
    (tried : List BufferedEntry) (list : List BufferedEntry) : Type 0 where
  pub gone : ℕ
  pub added : ℕ
  pub parts : list ≡ drop gone (spooled_of (dest.settled ++ dest.left))
      ++ take added (if has_failed failed (store_of dest) then tried else appends act d dest)
  pub settled : gone ≤ length (spooled_of (settled_by act d dest))
  pub all_settled : has_failed failed (store_of dest) ≡ false → is_settle act d ≡ false
      → gone ≡ length (spooled_of dest.settled)

-- Records.

-- each end is above the one before, and the first above `from`
abbrev pub rises : ℕ → List ℕ → Bool
rises from [] = true
rises from (end ∷ ends) = nat_lt from end && rises end ends

-- the entry is of an offer with flow-control of a record of i, which ends at or below the position
abbrev pub is_below : ℕ → ℕ → DestEntry → Bool
is_below i position e = e.inlet == i && is_some e.number && e.flow && nat_le e.end position

-- each such entry that is left is in the list
abbrev pub AreEntriesHeld : ℕ → ℕ → List DestEntry → List BufferedEntry → Type 0
AreEntriesHeld i position [] list = Unit {0}
AreEntriesHeld i position (e ∷ es) list = (is_below i position e ≡ true → Contains list (as_kept e))
    × AreEntriesHeld i position es list

-- what a list holds of a destination: nothing where there is no disk-buffer
abbrev pub held_in : List BufferedEntry → Dest → List BufferedEntry
held_in list dest = if is_some dest.setup.buffer then list else []

-- The images are of these stores: an inlet's has its stored position, the one that the act is
-- writing or one that failed, and a disk-buffer's is a safe list.
pub record AreSafeImages (state : State) (event : Event) (tried_positions : ℕ → Option ℕ)
    (tried_entries : ℕ → List BufferedEntry) (images : Images) : Type 0 where
  pub every_position : length images.positions ≡ length state.inlets
  pub every_list : length images.lists ≡ length state.dests
  pub stored : (i : ℕ) (inlet : InletRecords) (position : ℕ) → slice_get state.inlets i ≡ Some inlet
      → is_some inlet.setup.store ≡ true → slice_get images.positions i ≡ Some position
      → is_listed position (inlet.stored ∷ option_to_list (running_position event.act i)
      ++ option_to_list (tried_positions i)) ≡ true
  pub safe_lists : (d : ℕ) (dest : Dest) (list : List BufferedEntry)
      → slice_get state.dests d ≡ Some dest
      → is_some dest.setup.buffer ≡ true → slice_get images.lists d ≡ Some list
      → IsSafeList dest d event.act (state.failed ++ event.failed) (tried_entries d) list

-- of each inlet with a store whose ends rise from its opening place, the offers with flow-control of
-- records that end at or below the image's position are settled, or stand in the images
abbrev pub CoversRecords : State → Event → Images → Type 0
CoversRecords state event images =
    (i : ℕ) (inlet : InletRecords) (position d : ℕ) (dest : Dest) (list : List BufferedEntry)
    → slice_get state.inlets i ≡ Some inlet → is_some inlet.setup.store ≡ true
    → rises inlet.opening inlet.ends ≡ true
    → slice_get images.positions i ≡ Some position → slice_get state.dests d ≡ Some dest
    → slice_get images.lists d ≡ Some list
    → AreEntriesHeld i position (left_by event.act d dest) (held_in list dest)

-- the images after these events, with the one that follows on
abbrev pub ImagesAt : State → List Event → Event → Images → Type 0
ImagesAt start events event images =
    AreSafeImages (after_all start events) event (failed_position start (events ++ event ∷ []))
    (failed_entries start (events ++ event ∷ [])) images

-- they are safe
pub record Safe (start : State) (events : List Event) (event : Event)
    (images : Images) : Type 0 where
  pub images_at : ImagesAt start events event images
  pub covers : CoversRecords (after_all start events) event images

-- the event that stands for none that follows
abbrev pub nothing : Event
nothing = record { act = Look; failed = [] }

-- What a plan's run leaves in its stores is covered, where what it found in them was.
use Rattle.std.specs.Prelude.{◌≡◌, ℕ, ◌+◌, true, is_some, Option, Some, IfSome, List, [], ◌++◌, length, map, take, slice_get}
use Rattle.std.specs.Option.{option_map_or}
use Rattle.sg_device.specs.Disk.{DiskState, content, clock, IsImage}
use Rattle.sg_device.specs.Inlet.{InletState}
use Rattle.sg_device.specs.Outlet.{OutletState}
use Rattle.sg_outside.specs.World.{WorldState, Files}
use Rattle.sg_outside.specs.declared.request.InletSpec.{InletSpec}
use Rattle.sg_outside.specs.declared.request.InletSpec.TheVariants.{File, Slot}
use Rattle.sg_msg.specs.declared.offer.Offer.{Offer}
use Rattle.sg_frame.specs.Records.{Record}
use Rattle.sg_buffer.specs.Entries.{IsListOf}
use Rattle.sg_machine.specs.declared.event.Event.{Event}
use Rattle.sg_machine.specs.declared.setup.BufferSetup.{BufferSetup}
use Rattle.sg_machine.specs.declared.setup.DestSetup.{DestSetup}
use Rattle.sg_machine.specs.declared.setup.Setup.{Setup}
use Rattle.sg_machine.specs.declared.setup.SourceSetup.{SourceSetup}
use Rattle.sg_machine.specs.declared.state.InletRecords.{InletRecords}
use Rattle.sg_machine.specs.Runs.{BufferedEntry, Opening, opened, after_all}
use Rattle.sg_machine.specs.Safe.{Images, nothing}
use Rattle.sg_stores.specs.Stores.{StoreState, coded}
use Rattle.sg_standing.specs.Images.{position_in, AreImagesBetween}
use Rattle.sg_core.specs.Opening.{IsOpen}
use Rattle.sg_run_plan.specs.declared.inlet.InletPlan.{InletPlan}
use Rattle.sg_laws.specs.Calls.{Ran}
use Rattle.sg_serve.specs.declared.ending.PlanEnded.{PlanEnded}
use Rattle.sg_run_plan.specs.declared.plan.RunPlan.{RunPlan}
use Rattle.sg_serve.specs.Plan.{IsRunnable}
use Rattle.sg_serve.specs.Run.{CoreRun, Reached, RunsWith}
use Rattle.sg_laws.specs.Headline.{TakesThese}
use Rattle.sg_laws.specs.Resuming.{IsReadingBegun}
use Rattle.sg_laws.specs.Pieces.{Piece, pieces, behind}
use Rattle.sg_laws.specs.Covered.{Pass, Delivery, Offers, IsFile, Covered}
use Rattle.sg_laws.specs.Passes.{AreAdmitted, pieces_of, Stopped, taken_in, IsStoppedRun}
use Rattle.sg_laws.specs.Adding.{offers_in}

-- Stores.

-- an image of each of these disks, as a stop may leave it now
abbrev pub AreImagesOf : List DiskState → List (List ℕ) → Type 0
AreImagesOf disks images = (s : ℕ) (disk : DiskState) → slice_get disks s ≡ Some disk
    → (bytes : List ℕ) × ((slice_get images s ≡ Some bytes) × IsImage disk bytes)

-- the positions in the images of the inlets' stores, 0 where an inlet has none
abbrev pub positions_by : List SourceSetup → List (List ℕ) → List ℕ
positions_by sources images = map (λ (source : SourceSetup). position_in images source.store)
    sources

-- these are the lists that the images of the disk-buffers stand for; of other destinations they may be any
pub record AreListsBy (dests : List DestSetup) (images : List (List ℕ))
    (lists : List (List BufferedEntry)) : Type 0 where
  pub every : length lists ≡ length dests
  pub each : (d : ℕ) (dest : DestSetup) (buffer : BufferSetup) (list : List BufferedEntry)
      (bytes : List ℕ)
      → slice_get dests d ≡ Some dest → dest.buffer ≡ Some buffer
      → slice_get lists d ≡ Some list → slice_get images buffer.store ≡ Some bytes
      → IsListOf (map coded list) bytes

-- what these images and lists stand for
abbrev pub held_by : Setup → List (List ℕ) → List (List BufferedEntry) → Images
held_by setup images lists = record { positions = positions_by setup.sources images; lists = lists }

-- whatever images of these disks are chosen, this holds of what they stand for
abbrev pub EachChoice : Setup → List DiskState → (Images → Type 0) → Type 0
EachChoice setup disks P = (images : List (List ℕ)) (lists : List (List BufferedEntry))
    → AreImagesOf disks images → AreListsBy setup.dests images lists
    → P (held_by setup images lists)

-- each of these disks tells its bytes
abbrev pub AllTell : List DiskState → Type 0
AllTell disks = (s : ℕ) (disk : DiskState) → slice_get disks s ≡ Some disk
    → (bytes : List ℕ) × (content disk ≡ Some bytes)

-- Files.

abbrev pub IsOfFile : InletSpec → Type 0
IsOfFile (File path once limit) = Unit {0}
IsOfFile (Slot ip port slot once) = ⊥

-- each inlet with a position store is one of a file
abbrev pub AreOfFiles : RunPlan → Type 0
AreOfFiles plan = (i : ℕ) (inlet : InletPlan) → IsFile plan.setup i
    → slice_get plan.inlets.items i ≡ Some inlet → IsOfFile inlet.spec

-- these are the bytes of the inlet's file, where that is there
abbrev pub AreBytesOf : Files → InletSpec → List ℕ → Type 0
AreBytesOf files (File path once limit) bytes = IfSome (files path) (λ held. held ≡ bytes)
AreBytesOf files (Slot ip port slot once) bytes = Unit {0}

-- The machine tells its files, of which those of inlets with a position store have these bytes; and of these inlets each that was opened tells
-- what it gives.
pub record TellFiles (told : Option Files) (plan : RunPlan) (feeds : List InletState)
    (bytes : ℕ → List ℕ) : Type 0 where
  pub files : Files
  pub told_are : told ≡ Some files
  pub bytes_are : (i : ℕ) (inlet : InletPlan) → IsFile plan.setup i
      → slice_get plan.inlets.items i ≡ Some inlet → AreBytesOf files inlet.spec (bytes i)
  pub gives : (i : ℕ) (feed : InletState) → IsFile plan.setup i → slice_get feeds i ≡ Some feed
      → is_some feed.told ≡ true

-- the items of the file of each inlet
abbrev pub files_of : List InletPlan → (ℕ → List ℕ) → ℕ → List Piece
files_of plans bytes i = option_map_or (λ (plan : InletPlan). pieces plan.kind plan.limit (bytes i))
    (slice_get plans i) []

-- The run.

-- What happened at the core of a plan's run: it was opened over the stores, and these events followed, in which the outlets took the frames of
-- the entries that are settled at the end, and these records came in.
pub record Happened (offers : Offers) (files : Option Files) (plan : RunPlan) (reached : Reached)
    (run : CoreRun) : Type 0 where
  pub opens : IsOpen plan.setup reached.stores run.first
  pub later : List Event
  -- these are those of the calls of the rounds
  pub ran : Ran run.begun run.last run.made (opened plan.setup opens.opening) run.prelude later
  -- the first row of its timetable are the moments at which the core was open
  pub begins : (s : ℕ) (store : StoreState) → slice_get run.first.stores s ≡ Some store
      → ran.stands.moments.rows 0 s ≡ clock store.disk
  pub took : TakesThese plan reached run (opened plan.setup opens.opening) (run.prelude ++ later)
  pub came : List Pass
  pub admits : AreAdmitted offers (run.prelude ++ later) came
  -- those of a file whose reading began at its start or behind an item are the first of its items from there on
  pub reads : (bytes : ℕ → List ℕ) (i : ℕ) (source : InletPlan) (inlet : InletRecords)
      → TellFiles files plan reached.inlets bytes → IsFile plan.setup i
      → slice_get plan.inlets.items i ≡ Some source
      → slice_get (after_all (opened plan.setup opens.opening) (run.prelude ++ later)).inlets i
      ≡ Some inlet → IsReadingBegun source.kind source.limit (bytes i) inlet.opening
      → (rest : List Piece) × (behind inlet.opening (files_of plan.inlets.items bytes i)
      ≡ pieces_of i came ++ rest)

-- so it is in each run of a plan whose core was opened
abbrev pub PlanRunsHappen : {R I O : Type 0} → (I → InletState) → (O → OutletState)
    → (R → ℕ → Record → List Offer → Type 0) → (R → ℕ) → (R → ℕ) → Type 0
PlanRunsHappen {R} {I} {O} feed drain offers inlets dests =
    (old new : WorldState) (plan : RunPlan) (routers : List R) (rounds : ℕ) (ending : PlanEnded)
    (reached : Reached) (run : CoreRun)
    → IsRunnable plan → AreOfFiles plan
    → RunsWith feed drain offers inlets dests old new plan routers rounds ending reached
    → reached.core ≡ Some run → Happened (offers_in offers routers) old.files plan reached run

-- the run, stopped behind these events with this one on, once these records had come in, at these images
abbrev pub stopped_with : RunPlan → (ℕ → List ℕ) → Opening → List Event → Event → List Pass → Images
    → Stopped
stopped_with plan bytes opening events event came images = record {
  opening = opening;
  events = events;
  event = event;
  passes = came;
  files = files_of plan.inlets.items bytes;
  images = images;
}

-- So stopped it is a run that began with what those images before it hold, and what it leaves is covered, with the entries settled and the
-- passes of the records that had come in.
pub record CoversStop (setup : Setup) (offers : Offers) (before : Images) (taken : List Delivery)
    (passes : List Pass) (old : ℕ → ℕ) (run : Stopped) : Type 0 where
  pub stopped : IsStoppedRun setup offers before run
  pub covered : Covered setup offers run.files (taken ++ taken_in setup run) (passes ++ run.passes)
      old run.images

-- what the run leaves, over the contents of the stores, which are `first`
pub record LeavesCovered {offers : Offers} {files : Option Files} {plan : RunPlan}
    {reached : Reached} {run : CoreRun} (happened : Happened offers files plan reached run)
    (bytes : ℕ → List ℕ) (taken : List Delivery) (passes : List Pass) (old : ℕ → ℕ) : Type 0 where
  pub first : List (List ℕ)
  pub first_are : AreImagesOf reached.stores first
  pub first_lists : AreListsBy plan.setup.dests first ((happened.opens).opening).entries
  -- whatever images of the stores are chosen at the return, they are covered
  pub returns : EachChoice plan.setup reached.stores_closed
      (λ images. CoversStop plan.setup offers
      (held_by plan.setup first ((happened.opens).opening).entries) taken passes old
      (stopped_with plan bytes (happened.opens).opening (run.prelude ++ happened.later) nothing
      happened.came images))
  -- and so are whatever images of moments within one event, with the first of these records
  pub stops : (k : ℕ) (event : Event) (images : List (List ℕ)) (lists : List (List BufferedEntry))
      → slice_get (run.prelude ++ happened.later) k ≡ Some event
      → AreImagesBetween run.last.stores (((happened.ran).stands).moments.rows k)
      (((happened.ran).stands).moments.rows (k + 1)) images
      → AreListsBy plan.setup.dests images lists
      → (came : List Pass) × ((rest : List Pass) × ((happened.came ≡ came ++ rest)
      × CoversStop plan.setup offers
      (held_by plan.setup first ((happened.opens).opening).entries) taken passes old
      (stopped_with plan bytes (happened.opens).opening (take k (run.prelude ++ happened.later))
      event came (held_by plan.setup images lists))))

-- Where the stores tell their bytes, and the machine its files, a run whose core was opened leaves covered what it found covered, at its return
-- and at every moment before it, whatever routers it is covered by that give what its own do.
abbrev pub PlanRunsCover : {R I O : Type 0} → (I → InletState) → (O → OutletState)
    → (R → ℕ → Record → List Offer → Type 0) → (R → ℕ) → (R → ℕ) → Type 0
PlanRunsCover {R} {I} {O} feed drain offers inlets dests =
    (old new : WorldState) (plan : RunPlan) (routers by : List R) (rounds : ℕ) (ending : PlanEnded)
    (reached : Reached) (run : CoreRun)
    (happened : Happened (offers_in offers by) old.files plan reached run) (bytes : ℕ → List ℕ)
    (taken : List Delivery) (passes : List Pass) (places : ℕ → ℕ)
    → IsRunnable plan
    → RunsWith feed drain offers inlets dests old new plan routers rounds ending reached
    → reached.core ≡ Some run → AllTell reached.stores
    → TellFiles old.files plan reached.inlets bytes
    → EachChoice plan.setup reached.stores (Covered plan.setup (offers_in offers by)
    (files_of plan.inlets.items bytes) taken passes places)
    → LeavesCovered happened bytes taken passes places

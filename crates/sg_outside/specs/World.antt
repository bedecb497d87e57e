-- What the machine around the daemon holds, and what its calls do to that.
use Rattle.std.specs.Prelude.{◌≡◌, ◌⊎◌, ◌<◌, ◌≤◌, ℕ, ◌-◌, ◌==◌, List, [], ◌∷◌, ◌++◌, length, Option, Some, None, Result, Ok, Err, Vec, ◌^◌, nat_le, nat_lt, Bool, true, false, ◌&&◌, ◌||◌, not, if◌then◌else◌, drop, replicate, slice_index, IfSome}
use Rattle.std.specs.List.{Contains, list_all}
use Rattle.std.specs.Option.{option_map}
use Rattle.std.specs.declared.alloc.Global.{Global}
use Rattle.sg_device.specs.Disk.{DiskState, fresh_log}
use Rattle.sg_device.specs.DiskBytes.{part}
use Rattle.sg_device.specs.Faults.{Rose}
use Rattle.sg_device.specs.Inlet.{InletState, IsFresh}
use Rattle.sg_device.specs.Outlet.{OutletState, IsUnusedOutlet}
use Rattle.sg_device.specs.Paths.{PathsState, IsNewOpener}
use Rattle.sg_device.specs.declared.fault.FileRefusal.{FileRefusal}
use Rattle.sg_device.specs.declared.fault.FileRefusal.TheVariants.{Failed, TooLong, NoMemory}
use Rattle.sg_device.specs.declared.fault.OpenRefusal.{OpenRefusal}
use Rattle.sg_device.specs.declared.fault.OpenRefusal.TheVariants.{Failed as OpenFailed, NoMemory as OpenNoMemory}
use Rattle.sg_device.specs.declared.fault.SayRefusal.{SayRefusal}
use Rattle.sg_device.specs.declared.fault.SayRefusal.TheVariants.{Fault, NoMemory as SayNoMemory}
use Rattle.sg_outside.specs.declared.request.InletSpec.{InletSpec}
use Rattle.sg_outside.specs.declared.request.InletSpec.TheVariants.{File, Slot}
use Rattle.sg_outside.specs.declared.request.OutletSpec.{OutletSpec}
use Rattle.sg_outside.specs.declared.request.OutletSpec.TheVariants.{File as OutletFile, Tcp, ByPath}
use Rattle.sg_outside.specs.declared.request.StoreSpec.{StoreSpec}

-- a device that was opened: what was asked for, and its state then
pub record Opened (P S : Type 0) : Type 0 where
  pub spec : P
  pub state : S

-- the devices of a kind that were opened, and the states in which they were closed, both in order
pub record Ledger (P S : Type 0) : Type 0 where
  pub opened : List (Opened P S)
  pub closed : List S

-- what the file of a name holds, if there is one
abbrev pub Files : Type 0
Files = List ℕ → Option (List ℕ)

pub record WorldState : Type 0 where
  -- the files by name, where the machine tells them
  pub files : Option Files
  -- the name of the file that couldn't be read, the last time that a reading failed
  pub unread : Option (List ℕ)
  pub inlets : Ledger InletSpec InletState
  pub outlets : Ledger OutletSpec OutletState
  pub stores : Ledger StoreSpec DiskState
  -- openers of files by paths
  pub paths : Ledger OutletSpec PathsState
  -- the names of the stores that are there, where the machine tells them
  pub store_names : Option (List (List ℕ))
  -- the bytes said, where the machine tells them
  pub said : Option (List ℕ)
  -- the counts of faults: of readings, of openings by kind, of saying, and of patterns refused as too large
  pub read_faults : ℕ
  pub inlet_faults : ℕ
  pub outlet_faults : ℕ
  pub store_faults : ℕ
  pub paths_faults : ℕ
  pub say_faults : ℕ
  pub build_faults : ℕ

-- what a file holds, where the machine tells it and the file is there
abbrev pub content : Option Files → List ℕ → Option (List ℕ)
content None name = None
content (Some files) name = files name

-- These are the bytes of the file. A file that isn't there has none, where the machine tells its files.
abbrev pub IsContent : Option Files → List ℕ → List ℕ → Type 0
IsContent None name bytes = Unit {0}
IsContent (Some files) name bytes = files name ≡ Some bytes

-- the file has more bytes than this
abbrev pub IsBeyond : Option Files → List ℕ → ℕ → Type 0
IsBeyond None name limit = Unit {0}
IsBeyond (Some files) name limit = (bytes : List ℕ)
    × ((files name ≡ Some bytes) × (limit < length bytes))

-- readings: the state but for the count of those that failed, which doesn't fall, and the name at the last of them
abbrev pub OnlyReads : WorldState → WorldState → Type 0
OnlyReads old new = (new ≡ record old { read_faults = new.read_faults; unread = new.unread })
    × (old.read_faults ≤ new.read_faults)

-- in a reading that didn't fail no name is noted: the last one that failed stays
abbrev pub KeepsUnread : WorldState → WorldState → Type 0
KeepsUnread old new = new.unread ≡ old.unread

-- a reading gives the whole file
abbrev pub ReadsFile : WorldState → WorldState → List ℕ → ℕ → Result (Vec ℕ Global) FileRefusal
    → Type 0
ReadsFile old new name limit (Ok bytes) = OnlyReads old new × IsContent old.files name bytes.items
    × (length bytes.items ≤ limit) × KeepsUnread old new
ReadsFile old new name limit (Err Failed) = OnlyReads old new × Rose old.read_faults new.read_faults
    × (new.unread ≡ Some name)
ReadsFile old new name limit (Err TooLong) = OnlyReads old new × IsBeyond old.files name limit
    × KeepsUnread old new
ReadsFile old new name limit (Err NoMemory) = OnlyReads old new × KeepsUnread old new

-- the state but for the count of patterns refused as too large, which doesn't fall
abbrev pub OnlyBuilds : WorldState → WorldState → Type 0
OnlyBuilds old new = (new ≡ record old { build_faults = new.build_faults })
    × (old.build_faults ≤ new.build_faults)

-- the ledger with one more device opened, or closed
abbrev pub with_opened : {P S : Type 0} → Ledger P S → P → S → Ledger P S
with_opened ledger spec state =
    record ledger { opened = ledger.opened ++ (record { spec = spec; state = state }) ∷ [] }

abbrev pub with_closed : {P S : Type 0} → Ledger P S → S → Ledger P S
with_closed ledger state = record ledger { closed = ledger.closed ++ state ∷ [] }

-- A record of a file may end here: at its beginning, behind an LF, or behind a piece of a line that was cut, which is of so
-- many bytes that hold no LF.
abbrev pub is_record_end : ℕ → List ℕ → ℕ → Bool
is_record_end limit bytes place =
    (place == 0) || ((slice_index bytes (place - 1) == 10) ||
    (nat_le limit place && list_all (λ byte. not (byte == 10)) (part (place - limit) limit bytes)))

-- The place at which a file is read, for the place that was asked for. It is the file's beginning where no record can have
-- ended there, as when another file stands in its place by now.
abbrev pub place_in : ℕ → List ℕ → ℕ → ℕ
place_in limit bytes from = if nat_le from (length bytes)
    && (nat_lt from (2 ^ 63) && is_record_end limit bytes from) then from else 0

-- the place and the bytes left of an inlet over a file, where the machine tells its files
abbrev pub LeavesFile : Option Files → List ℕ → ℕ → ℕ → InletState → Type 0
LeavesFile None path limit from feed = (feed.place ≡ from) ⊎ (feed.place ≡ 0)
LeavesFile (Some files) path limit from feed = (bytes : List ℕ)
    × ((files path ≡ Some bytes) × ((feed.place ≡ place_in limit bytes from)
    × (feed.left ≡ Some (drop (place_in limit bytes from) bytes))))

-- a file is one part, which is there from the start; a slot has none before its first Next
abbrev pub StandsIn : Option Files → InletSpec → ℕ → InletState → Type 0
StandsIn files (File path once limit) from feed = LeavesFile files path limit from feed
    × (feed.parts ≡ 1) × (feed.single ≡ true)
StandsIn files (Slot ip port slot once) from feed = (feed.place ≡ 0) × (feed.parts ≡ 0)
    × (feed.single ≡ false)

-- the inlet stands at its place, and nothing was given yet
abbrev pub InletOpens : WorldState → WorldState → InletSpec → ℕ → InletState → ℕ → Type 0
InletOpens old new spec from feed place = (new
    ≡ record old { inlet_faults = new.inlet_faults; inlets = with_opened old.inlets spec feed })
    × (old.inlet_faults ≤ new.inlet_faults) × IsFresh feed × (feed.place ≡ place)
    × StandsIn old.files spec from feed

abbrev pub InletRefused : WorldState → WorldState → OpenRefusal → Type 0
InletRefused old new OpenFailed = (new ≡ record old { inlet_faults = new.inlet_faults })
    × (old.inlet_faults ≤ new.inlet_faults) × Rose old.inlet_faults new.inlet_faults
InletRefused old new OpenNoMemory = (new ≡ record old { inlet_faults = new.inlet_faults })
    × (old.inlet_faults ≤ new.inlet_faults)

abbrev pub OutletOpens : WorldState → WorldState → OutletSpec → OutletState → Type 0
OutletOpens old new spec drain = (new ≡ record old
    { outlet_faults = new.outlet_faults; outlets = with_opened old.outlets spec drain })
    × (old.outlet_faults ≤ new.outlet_faults) × IsUnusedOutlet drain

abbrev pub OutletRefused : WorldState → WorldState → OpenRefusal → Type 0
OutletRefused old new OpenFailed = (new ≡ record old { outlet_faults = new.outlet_faults })
    × (old.outlet_faults ≤ new.outlet_faults) × Rose old.outlet_faults new.outlet_faults
OutletRefused old new OpenNoMemory = (new ≡ record old { outlet_faults = new.outlet_faults })
    × (old.outlet_faults ≤ new.outlet_faults)

-- A store of this name is there; or it was made, as 128 stable zero bytes.
abbrev pub IsStoreNamed : List (List ℕ) → StoreSpec → DiskState → List (List ℕ) → Type 0
IsStoreNamed names spec store after =
    (Contains names spec.name × (after ≡ names))
    ⊎ ((spec.create ≡ true) × IfSome store.told (λ log. log ≡ fresh_log (replicate 128 0))
    × (after ≡ spec.name ∷ names))

-- the same, where the machine tells its stores
abbrev pub StandsNamed : Option (List (List ℕ)) → StoreSpec → DiskState → Option (List (List ℕ))
    → Type 0
StandsNamed None spec store after = after ≡ None
StandsNamed (Some names) spec store None = ⊥
StandsNamed (Some names) spec store (Some after) = IsStoreNamed names spec store after

abbrev pub StoreOpens : WorldState → WorldState → StoreSpec → DiskState → Type 0
StoreOpens old new spec store = (new ≡ record old {
  store_faults = new.store_faults;
  store_names = new.store_names;
  stores = with_opened old.stores spec store;
})
    × (old.store_faults ≤ new.store_faults) × StandsNamed old.store_names spec store new.store_names

abbrev pub StoreRefused : WorldState → WorldState → OpenRefusal → Type 0
StoreRefused old new OpenFailed = (new ≡ record old { store_faults = new.store_faults })
    × (old.store_faults ≤ new.store_faults) × Rose old.store_faults new.store_faults
StoreRefused old new OpenNoMemory = (new ≡ record old { store_faults = new.store_faults })
    × (old.store_faults ≤ new.store_faults)

-- the paths of the files come with their texts
abbrev pub IsByPath : OutletSpec → Type 0
IsByPath (OutletFile path fsync mode folders reopen) = ⊥
IsByPath (Tcp host port reopen) = ⊥
IsByPath (ByPath fsync mode folders reopen reap) = Unit {0}

abbrev pub PathsOpen : WorldState → WorldState → OutletSpec → PathsState → Type 0
PathsOpen old new spec opener = (new
    ≡ record old { paths_faults = new.paths_faults; paths = with_opened old.paths spec opener })
    × (old.paths_faults ≤ new.paths_faults) × IsNewOpener opener

abbrev pub PathsRefused : WorldState → WorldState → OpenRefusal → Type 0
PathsRefused old new OpenFailed = (new ≡ record old { paths_faults = new.paths_faults })
    × (old.paths_faults ≤ new.paths_faults) × Rose old.paths_faults new.paths_faults
PathsRefused old new OpenNoMemory = (new ≡ record old { paths_faults = new.paths_faults })
    × (old.paths_faults ≤ new.paths_faults)

abbrev pub ClosesInlet : WorldState → WorldState → InletState → Type 0
ClosesInlet old new feed = new ≡ record old { inlets = with_closed old.inlets feed }

abbrev pub ClosesOutlet : WorldState → WorldState → OutletState → Type 0
ClosesOutlet old new drain = new ≡ record old { outlets = with_closed old.outlets drain }

abbrev pub ClosesStore : WorldState → WorldState → DiskState → Type 0
ClosesStore old new store = new ≡ record old { stores = with_closed old.stores store }

abbrev pub ClosesPaths : WorldState → WorldState → PathsState → Type 0
ClosesPaths old new opener = new ≡ record old { paths = with_closed old.paths opener }

-- all bytes were said, or nothing that is claimed
abbrev pub Says : WorldState → WorldState → List ℕ → Result Unit SayRefusal → Type 0
Says old new bytes (Ok done) = (new ≡ record old
    { say_faults = new.say_faults; said = option_map (λ said. said ++ bytes) old.said })
    × (old.say_faults ≤ new.say_faults)
Says old new bytes (Err Fault) = (new ≡ record old { say_faults = new.say_faults; said = new.said })
    × (old.say_faults ≤ new.say_faults) × Rose old.say_faults new.say_faults
Says old new bytes (Err SayNoMemory) =
    (new ≡ record old { say_faults = new.say_faults; said = new.said })
    × (old.say_faults ≤ new.say_faults)

-- What a disk holds: its bytes at first, and all that happened to them since.
--
-- Between two syncs each range that was written, and the part past the old end, may hold any bytes after a crash; all other
-- bytes stay. After a sync that succeeded a crash leaves what a read gives. A write that fails may leave any bytes in its
-- range. After a sync that failed a read may give any of the images: Linux marks the pages as clean and may drop them (fsync(2),
-- Errors). POSIX.1-2017 (pwrite, fsync) promises no more; a gap before a write's place reads as zeros (lseek).
use Rattle.std.specs.Prelude.{◌≡◌, ◌⊎◌, ℕ, ◌-◌, ◌<◌, ◌≤◌, ◌^◌, List, [], ◌∷◌, length, take, drop, Option, Some, None, is_some, Result, Ok, Err, OnOk, OnErr, IfOk}
use Rattle.std.specs.Option.{option_map}
use Rattle.sg_device.specs.DiskBytes.{overwritten, Torn, AreBytesRead, Same}
use Rattle.sg_device.specs.Faults.{Rose}
use Rattle.sg_device.specs.declared.fault.DiskFault.{DiskFault}

-- What happened: bytes were written at a place; a write of so many bytes at a place failed, and these bytes, or as many of
-- them as there was to write, stand there since; a sync succeeded; a sync failed, and a read gives these bytes since.
pub data DiskEvent : Type 0 where
  Wrote : ℕ → List ℕ → DiskEvent
  Tore : ℕ → ℕ → List ℕ → DiskEvent
  Synced : DiskEvent
  Lost : List ℕ → DiskEvent

pub record DiskLog : Type 0 where
  -- the bytes at first, all of them stable
  pub first : List ℕ
  -- the newest first
  pub events : List DiskEvent

pub record DiskState : Type 0 where
  -- where the disk tells it
  pub told : Option DiskLog
  pub faults : ℕ

-- a disk of which nothing happened yet
abbrev pub fresh_log : List ℕ → DiskLog
fresh_log bytes = record { first = bytes; events = [] }

-- one event more
abbrev pub with_event : DiskEvent → DiskLog → DiskLog
with_event event log = record log { events = event ∷ log.events }

-- what a read gives after these events
abbrev pub bytes_after : List ℕ → List DiskEvent → List ℕ
bytes_after first [] = first
bytes_after first (Wrote at bytes ∷ earlier) = overwritten at bytes (bytes_after first earlier)
bytes_after first (Tore at n bytes ∷ earlier) = overwritten at (take n bytes)
    (bytes_after first earlier)
bytes_after first (Synced ∷ earlier) = bytes_after first earlier
bytes_after first (Lost left ∷ earlier) = left

-- What a crash may leave after these events. What a failed sync leaves to be read is one of the images before it (Syncs), so
-- none is added by it.
abbrev pub IsLeftByCrash : List ℕ → List DiskEvent → List ℕ → Type 0
IsLeftByCrash first [] bytes = bytes ≡ first
IsLeftByCrash first (Wrote at written ∷ earlier) bytes =
    (before : List ℕ) × IsLeftByCrash first earlier before
    × Torn at (length written) before bytes
IsLeftByCrash first (Tore at n written ∷ earlier) bytes =
    (before : List ℕ) × IsLeftByCrash first earlier before
    × Torn at n before bytes
IsLeftByCrash first (Synced ∷ earlier) bytes = bytes ≡ bytes_after first earlier
IsLeftByCrash first (Lost left ∷ earlier) bytes = IsLeftByCrash first earlier bytes ⊎ (bytes ≡ left)

-- the same at a moment: after so many of the events
abbrev pub IsLeftAt : Option DiskLog → ℕ → List ℕ → Type 0
IsLeftAt None moment bytes = ⊥
IsLeftAt (Some log) moment bytes =
    IsLeftByCrash log.first (drop (length log.events - moment) log.events)
    bytes

-- the number of events, 0 where they aren't told
abbrev pub event_count : Option DiskLog → ℕ
event_count None = 0
event_count (Some log) = length log.events

-- what a read gives, where the disk tells it
abbrev pub content : DiskState → Option (List ℕ)
content disk = option_map (λ log. bytes_after log.first log.events) disk.told

-- the present moment: it never falls
abbrev pub clock : DiskState → ℕ
clock disk = event_count disk.told

-- a crash at this moment may leave these bytes, or might have left them; nothing is an image of a disk that tells nothing
abbrev pub IsImageAt : DiskState → ℕ → List ℕ → Type 0
IsImageAt disk moment bytes = IsLeftAt disk.told moment bytes

-- a crash now may leave these bytes
abbrev pub IsImage : DiskState → List ℕ → Type 0
IsImage disk bytes = IsImageAt disk (clock disk) bytes

-- the bytes have P, where they are told
abbrev pub WhereTold : Option (List ℕ) → (List ℕ → Type 0) → Type 0
WhereTold content P = (bytes : List ℕ) → content ≡ Some bytes → P bytes

-- each image now has P
abbrev pub EachNow : DiskState → (List ℕ → Type 0) → Type 0
EachNow disk P = (bytes : List ℕ) → IsImage disk bytes → P bytes

-- each image now is what a read gives
abbrev pub Durable : DiskState → Type 0
Durable disk = (bytes : List ℕ) → IsImage disk bytes → content disk ≡ Some bytes

-- a length is below 2 ^ 63
abbrev pub IsShort : DiskState → Type 0
IsShort disk = WhereTold (content disk) (λ bytes. length bytes < 2 ^ 63)

-- a fault has its cause, which is that the count rose; a call that answers Ok leaves the count as it was
pub record HasCause {T E : Type 0} (before now : ℕ) (result : Result T E) : Type 0 where
  pub later : before ≤ now
  pub well : OnOk result (now ≡ before)
  pub failed : OnErr result (Rose before now)

-- the length, where the bytes are told
abbrev pub Measures : DiskState → Result ℕ DiskFault → Type 0
Measures disk result = IfOk result
    (λ count. WhereTold (content disk) (λ bytes. count ≡ length bytes))

-- the bytes from this place on, where they are told
abbrev pub ReadsDisk : DiskState → ℕ → List ℕ → List ℕ → Result ℕ DiskFault → Type 0
ReadsDisk disk at before after result = IfOk result
    (λ count. WhereTold (content disk) (λ bytes. AreBytesRead at bytes before after count))

-- A write that succeeds is an event. One that fails is none, or a torn write.
abbrev pub Writes : DiskState → DiskState → ℕ → List ℕ → Result Unit DiskFault → Type 0
Writes old new at bytes (Ok done) = new.told ≡ option_map (with_event (Wrote at bytes)) old.told
Writes old new at bytes (Err e) = (new.told ≡ old.told) ⊎
    ((left : List ℕ) × (new.told ≡ option_map (with_event (Tore at (length bytes) left)) old.told))

-- A sync that succeeds is an event. One that fails is none, or a read gives one of the images since.
abbrev pub Syncs : DiskState → DiskState → Result Unit DiskFault → Type 0
Syncs old new (Ok done) = new.told ≡ option_map (with_event Synced) old.told
Syncs old new (Err e) = (new.told ≡ old.told) ⊎
    ((left : List ℕ) × IsImage old left × (new.told ≡ option_map (with_event (Lost left)) old.told))

-- Where a disk tells its bytes after a call, it told them before it, and the step leads from those to these.
-- A disk that tells its bytes goes on to.
pub record Changes (step : List ℕ → List ℕ → Type 0) (old new : Option (List ℕ)) : Type 0 where
  pub back : (b : List ℕ) → new ≡ Some b → (a : List ℕ) × (old ≡ Some a) × step a b
  pub tells : is_some new ≡ is_some old

-- Time goes on: the past stays as it was, and each later moment's images come by the step from those before.
pub record Elapses (step : List ℕ → List ℕ → Type 0) (old new : DiskState) : Type 0 where
  pub later : clock old ≤ clock new
  pub past : (t : ℕ) (c : List ℕ) → t ≤ clock old → IsImageAt new t c → IsImageAt old t c
  pub kept : (t : ℕ) (c : List ℕ) → t ≤ clock old → IsImageAt old t c → IsImageAt new t c
  pub since : (t : ℕ) (c : List ℕ) → clock old < t → t ≤ clock new → IsImageAt new t c
      → (d : List ℕ) × IsImage old d × step d c

-- The bytes stay, and so do the images, but that a sync may take some away.
pub record Preserves (old new : DiskState) : Type 0 where
  pub told : Changes Same (content old) (content new)
  pub still : Elapses Same old new

-- No image is added, and what was told is told on; but a read may give another of the images.
pub record Rests (old new : DiskState) : Type 0 where
  pub tells : is_some (content new) ≡ is_some (content old)
  pub still : Elapses Same old new

-- from old to new time goes on, and the past stays as it was
pub record Moves (old new : DiskState) : Type 0 where
  pub later : clock old ≤ clock new
  pub past : (t : ℕ) (c : List ℕ) → t ≤ clock old → IsImageAt new t c → IsImageAt old t c
  pub kept : (t : ℕ) (c : List ℕ) → t ≤ clock old → IsImageAt old t c → IsImageAt new t c

-- Each image at a moment from old to new, both included, has P; and the past stays as it was.
pub record Within (old new : DiskState) (P : List ℕ → Type 0) : Type 0 where
  pub later : clock old ≤ clock new
  pub past : (t : ℕ) (c : List ℕ) → t ≤ clock old → IsImageAt new t c → IsImageAt old t c
  pub kept : (t : ℕ) (c : List ℕ) → t ≤ clock old → IsImageAt old t c → IsImageAt new t c
  pub each : (t : ℕ) (c : List ℕ) → clock old ≤ t → t ≤ clock new → IsImageAt new t c → P c

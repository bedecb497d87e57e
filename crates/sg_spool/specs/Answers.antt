-- Which answer each call gives, and when.
use Rattle.std.specs.Prelude.{◌≡◌, ◌⊎◌, ℕ, ◌+◌, ◌-◌, ◌≤◌, ◌^◌, min, List, [], ◌∷◌, ◌++◌, length, drop, map, Option, Some, None, Bool, true, false, Result, Ok, Err, IfErr, OnOk}
use Rattle.sg_device.specs.Disk.{DiskState, content, WhereTold}
use Rattle.sg_device.specs.Faults.{Rose}
use Rattle.sg_spool.specs.Places.{FitsRing, Remains, gate_past, live}
use Rattle.sg_spool.specs.Ring.{Entries, IsList, IsPayload}
use Rattle.sg_spool.specs.Rows.{listed, committed, total}
use Rattle.sg_spool.specs.View.{View, RingHolds}
use Rattle.sg_spool.specs.declared.answers.Appended.{Appended}
use Rattle.sg_spool.specs.declared.answers.Appended.TheVariants.{Done, NoRoom, DiskFailed}
use Rattle.sg_spool.specs.declared.answers.Front.{Front}
use Rattle.sg_spool.specs.declared.answers.Front.TheVariants.{Item, Empty, DiskFailed as FrontFailed}
use Rattle.sg_spool.specs.declared.answers.Walked.{Walked}
use Rattle.sg_spool.specs.declared.answers.Walked.TheVariants.{Item as WalkedItem, Empty as WalkedEmpty, DiskFailed as WalkedFailed}
use Rattle.sg_spool.specs.declared.answers.RewriteRefusal.{RewriteRefusal}
use Rattle.sg_spool.specs.declared.answers.RewriteRefusal.TheVariants.{DiskFault, NoMemory}
use Rattle.sg_device.specs.declared.fault.DiskFault.{DiskFault as DeviceFault}

-- a disk-buffer answers that its disk failed where a fault closed it earlier, or where the count of faults rose
abbrev pub HasDiskFailed : Bool → ℕ → ℕ → Type 0
HasDiskFailed closed before now = (closed ≡ true) ⊎ Rose before now

-- a payload fits the capacity, beside the entries that stand and those staged
abbrev pub FitsBehind : {D : Type 0} → View D → List ℕ → Type 0
FitsBehind view payload = FitsRing view.capacity view.rows.ahead (length payload)

-- it was open, the payload doesn't fit, and nothing changed
abbrev pub RefusesPayload : {D : Type 0} → View D → View D → List ℕ → Type 0
RefusesPayload old new payload = (old.closed ≡ false) × (FitsBehind old payload → ⊥) × (new ≡ old)

-- the disk failed earlier, or the payload fits and the disk failed now; it is closed, and nothing is staged
abbrev pub Drops : {D : Type 0} → (D → DiskState) → View D → View D → List ℕ → Type 0
Drops state old new payload = ((old.closed ≡ true)
    ⊎ (FitsBehind old payload × Rose (state old.disk).faults (state new.disk).faults))
    × (new.closed ≡ true) × (new.rows.staged ≡ 0)

-- Done: it was open, and the payload fits; it is staged, and where there was no room behind the others, the list has taken
-- those.
abbrev pub Stages : {D : Type 0} → (D → DiskState) → View D → View D → List ℕ → Appended → Type 0
Stages state old new payload Done = (old.closed ≡ false) × FitsBehind old payload
    × (new.closed ≡ false)
    × (live new.rows.ahead ≡ live old.rows.ahead + 5 + length payload)
    × (total new.rows ≡ min (total old.rows + 1) (2 ^ 64 - 1))
    × ((list staged : Entries) → RingHolds state old list staged
    → (RingHolds state new list (staged ++ payload ∷ []) × (new.rows.count ≡ old.rows.count))
    ⊎ (RingHolds state new (list ++ staged) (payload ∷ []) × (new.rows.count ≡ total old.rows)))
Stages state old new payload NoRoom = RefusesPayload old new payload
Stages state old new payload DiskFailed = Drops state old new payload

-- the same of staging and committing, where nothing was staged
abbrev pub Appends : {D : Type 0} → (D → DiskState) → View D → View D → List ℕ → Appended → Type 0
Appends state old new payload Done = (old.closed ≡ false) × FitsBehind old payload
    × (new.closed ≡ false)
    × (live new.rows.list ≡ live old.rows.ahead + 5 + length payload)
    × (new.rows ≡ listed new.rows.list (min (old.rows.count + 1) (2 ^ 64 - 1)))
    × ((list : Entries) → RingHolds state old list []
    → RingHolds state new (list ++ payload ∷ []) [])
Appends state old new payload NoRoom = RefusesPayload old new payload
Appends state old new payload DiskFailed = Drops state old new payload

-- Ok: it was open, and the list has taken what was staged. A fault: the disk failed, it is closed, and nothing is staged.
abbrev pub Commits : {D : Type 0} → (D → DiskState) → View D → View D → Result Unit DeviceFault
    → Type 0
Commits state old new (Ok done) = (old.closed ≡ false) × (new.closed ≡ false)
    × (new.rows ≡ committed old.rows)
    × ((list staged : Entries) → RingHolds state old list staged
    → RingHolds state new (list ++ staged) [])
Commits state old new (Err e) =
    HasDiskFailed old.closed (state old.disk).faults (state new.disk).faults
    × (new.closed ≡ true) × (new.rows.staged ≡ 0)

-- Ok: it was open, and the list is without its first entries. A fault: the disk failed, and it is closed.
abbrev pub AdvancesSpool : {D : Type 0} → (D → DiskState) → View D → View D → ℕ
    → Result Unit DeviceFault
    → Type 0
AdvancesSpool state old new n (Ok done) = (old.closed ≡ false) × (new.closed ≡ false)
    × (new.rows ≡ listed new.rows.list (old.rows.count - n)) × (new.front ≡ None)
    × ((list : Entries) → RingHolds state old list [] → RingHolds state new (drop n list) [])
AdvancesSpool state old new n (Err e) = HasDiskFailed old.closed (state old.disk).faults
    (state new.disk).faults
    × (new.closed ≡ true) × (new.rows ≡ old.rows)

-- Ok: it was open, and each entry is spelled anew. DiskFault: the disk failed, and it is closed. NoMemory: it is open, and has
-- the same list.
abbrev pub Respells : {D : Type 0} → (D → DiskState) → View D → View D → (List ℕ → List ℕ)
    → Result Unit RewriteRefusal → Type 0
Respells state old new meaning (Ok done) = (old.closed ≡ false) × (new.closed ≡ false)
    × (new.rows ≡ listed new.rows.list old.rows.count)
    × ((list : Entries) → RingHolds state old list [] → RingHolds state new (map meaning list) [])
Respells state old new meaning (Err DiskFault) = HasDiskFailed old.closed (state old.disk).faults
    (state new.disk).faults
    × (new.closed ≡ true) × (new.rows ≡ old.rows)
Respells state old new meaning (Err NoMemory) = (old.closed ≡ false) × (new.closed ≡ false)
    × (new.rows ≡ old.rows) × (new.front ≡ old.front)
    × ((list : Entries) → RingHolds state old list [] → RingHolds state new list [])

-- Item: it is open, has an entry, and keeps the payload. Empty: it is open and has no entry. DiskFailed: the disk failed, and
-- it is closed.
abbrev pub IsFronted : {D : Type 0} → View D → View D → ℕ → ℕ → Front → Type 0
IsFronted old new before now (Item payload) = (old.closed ≡ false) × (1 ≤ old.rows.count)
    × (new.closed ≡ false) × (new.front ≡ Some payload.items)
IsFronted old new before now Empty = (old.closed ≡ false) × (old.rows.count ≡ 0)
    × (new.closed ≡ false) × (new.front ≡ old.front)
IsFronted old new before now FrontFailed = HasDiskFailed old.closed before now × (new.closed ≡ true)

-- the payload is that of the first entry, where the disk tells its bytes
abbrev pub IsFirstPayload : DiskState → Front → Type 0
IsFirstPayload disk (Item payload) = WhereTold (content disk) (λ bytes. (entries : Entries)
    → IsList entries bytes → (rest : Entries) × (entries ≡ payload.items ∷ rest))
IsFirstPayload disk Empty = Unit {0}
IsFirstPayload disk FrontFailed = Unit {0}

-- Item: it is open, and this is no end. Empty: it is open, and this is the end. DiskFailed: the disk failed, and it is closed.
abbrev pub IsWalked : {D : Type 0} → View D → View D → ℕ → ℕ → ℕ → Walked → Type 0
IsWalked old new gate before now (WalkedItem payload next) = (old.closed ≡ false)
    × (gate ≡ old.rows.list.end → ⊥) × (new.closed ≡ false)
IsWalked old new gate before now WalkedEmpty = (old.closed ≡ false) × (gate ≡ old.rows.list.end)
    × (new.closed ≡ false)
IsWalked old new gate before now WalkedFailed = HasDiskFailed old.closed before now
    × (new.closed ≡ true)

-- of the entries that are left from the gate on, an item is the first, and the others are left from the next gate on
abbrev pub IsNextEntry : {D : Type 0} → View D → List ℕ → Entries → Walked → Type 0
IsNextEntry old bytes entries (WalkedItem payload next) = (rest : Entries)
    × (entries ≡ payload.items ∷ rest)
    × Remains bytes old.rows.list.jump next rest old.rows.list.end
IsNextEntry old bytes entries WalkedEmpty = entries ≡ []
IsNextEntry old bytes entries WalkedFailed = Unit {0}

-- behind an item the next gate is the one behind its payload, over the jump
abbrev pub IsGateBehind : Option ℕ → ℕ → Walked → Type 0
IsGateBehind jump gate (WalkedItem payload next) = next
    ≡ gate_past jump (gate + 5 + length payload.items)
IsGateBehind jump gate WalkedEmpty = Unit {0}
IsGateBehind jump gate WalkedFailed = Unit {0}

-- the entries that are left from the gate on, where a walk goes on
pub record IsNextOf {D : Type 0} (old : View D) (gate : ℕ) (bytes : List ℕ) (entries : Entries)
    (walked : Walked) : Type 0 where
  pub next : IsNextEntry old bytes entries walked
  pub behind : IsGateBehind old.rows.list.jump gate walked

-- what was read has the length of a payload
abbrev pub IsWholeItem : Walked → Type 0
IsWholeItem (WalkedItem payload next) = IsPayload payload.items
IsWholeItem WalkedEmpty = Unit {0}
IsWholeItem WalkedFailed = Unit {0}

-- the disk failed now; where memory ran out it didn't
abbrev pub HasReadCause : ℕ → ℕ → RewriteRefusal → Type 0
HasReadCause before now DiskFault = Rose before now
HasReadCause before now NoMemory = now ≡ before

-- a refusal has its cause; the count of faults never falls, and stays where there is none
pub record HasRefusalCause {T : Type 0} (before now : ℕ)
    (result : Result T RewriteRefusal) : Type 0 where
  pub later : before ≤ now
  pub well : OnOk result (now ≡ before)
  pub failed : IfErr result (HasReadCause before now)

-- what holds where memory ran out
abbrev pub WhereNoMemory : Type 0 → RewriteRefusal → Type 0
WhereNoMemory P DiskFault = Unit {0}
WhereNoMemory P NoMemory = P

-- The walk over a store's entries, and what is said on the way.
use Rattle.std.specs.Prelude.{◌≡◌, ◌⊎◌, ◌≤◌, ℕ, ◌+◌, Bool, true, false, Option, Some, None, List, [], ◌∷◌, ◌++◌, length, codes, Result, Ok, Err}
use Rattle.sg_codec.specs.declared.kept.Kept.{Kept}
use Rattle.sg_device.specs.Disk.{DiskState, content, WhereTold}
use Rattle.sg_device.specs.Faults.{Rose}
use Rattle.sg_outside.specs.World.{WorldState}
use Rattle.sg_output.specs.Saying.{OnlySays, SaidText, SaidSome}
use Rattle.sg_report.specs.Entry.{entries_line}
use Rattle.sg_report.specs.Store.{unopened_line, damaged_line, failed_line}
use Rattle.sg_spool.specs.Places.{Remains, gate_past}
use Rattle.sg_spool.specs.Ring.{Entries, IsList}
use Rattle.sg_spool.specs.View.{View}
use Rattle.sg_spool.specs.declared.places.Places.{Places}
use Rattle.sg_spooled.specs.Entries.{SpooledRow, IsPayloadRow, IsNoEntry, AreRowsStored, payloads_of, row_line, row_lines, IsListBegun, IsFirstBadEntry}
use Rattle.sg_spooled.specs.declared.payload.SpooledPayload.{SpooledPayload}
use Rattle.sg_spooled.specs.declared.payload.SpooledPayload.TheVariants.{Entry, Frame, Other}
use Rattle.sg_spooled.specs.declared.unlisted.Unlisted.{Unlisted}
use Rattle.sg_spooled.specs.declared.unlisted.Unlisted.TheVariants.{NotOpened, Damage, DiskFault, SayFault, NoMemory}

-- what the payload is
abbrev pub IsRead : List ℕ → SpooledPayload → Type 0
IsRead payload (Entry kept) = IsPayloadRow (Some kept) payload
IsRead payload Frame = IsPayloadRow None payload
IsRead payload Other = IsNoEntry payload

-- a line was appended where the payload is an entry, and else nothing
abbrev pub AppendsRow : ℕ → List ℕ → (text text' : List ℕ) → Bool → Type 0
AppendsRow number payload text text' true = (kept : Option Kept) × (IsPayloadRow kept payload
    × (text' ≡ text ++ row_line number (record { kept = kept; payload = payload })))
AppendsRow number payload text text' false = IsNoEntry payload × (text' ≡ text)

-- the entry at a gate of a list at these places: of the entries that are left from the gate on it is the first, and the others are left
-- from the next gate on, which is the one behind it
abbrev pub IsHere : Places → List ℕ → ℕ → SpooledRow → ℕ → Type 0
IsHere list bytes gate row next = (entries : Entries)
    → Remains bytes list.jump gate entries list.end
    → (rest : Entries) × ((entries ≡ row.payload ∷ rest) × (
    (next ≡ gate_past list.jump (gate + 5 + length row.payload))
    × Remains bytes list.jump next rest list.end))

-- none is left, or the first of them is no entry
abbrev pub IsNoneHere : Places → List ℕ → ℕ → Type 0
IsNoneHere list bytes gate = (entries : Entries) → Remains bytes list.jump gate entries list.end
    → (entries ≡ [])
    ⊎ ((payload : List ℕ) × ((rest : Entries) × ((entries ≡ payload ∷ rest) × IsNoEntry payload)))

-- the entry at this gate was listed, and the next gate is answered; or why not
abbrev pub ListsEntry : {D : Type 0} → (D → DiskState) → View D → View D → (gate number : ℕ)
    → (text text' : List ℕ) → Result ℕ Unlisted → Type 0
ListsEntry state old new gate number text text' (Ok next) =
    (row : SpooledRow) × (IsPayloadRow row.kept row.payload × ((text' ≡ text ++ row_line number row)
    × ((new.closed ≡ false)
    × WhereTold (content (state old.disk)) (λ bytes. IsHere old.rows.list bytes gate row next))))
ListsEntry state old new gate number text text' (Err (Damage at)) =
    (at ≡ gate) × (text' ≡ text)
    × WhereTold (content (state old.disk)) (λ bytes. IsNoneHere old.rows.list bytes gate)
ListsEntry state old new gate number text text' (Err DiskFault) = (text' ≡ text)
    × Rose (state old.disk).faults (state new.disk).faults
ListsEntry state old new gate number text text' (Err NoMemory) = Unit {0}
ListsEntry state old new gate number text text' (Err NotOpened) = ⊥
ListsEntry state old new gate number text text' (Err SayFault) = ⊥

-- it is so, but where saying failed or memory ran out
abbrev pub UnlessUnsaid : {T : Type 0} → Result T Unlisted → Type 0 → Type 0
UnlessUnsaid (Ok done) P = P
UnlessUnsaid (Err NotOpened) P = P
UnlessUnsaid (Err (Damage at)) P = P
UnlessUnsaid (Err DiskFault) P = P
UnlessUnsaid (Err SayFault) P = Unit {0}
UnlessUnsaid (Err NoMemory) P = Unit {0}

-- the text was said, and none is left; or saying failed, or memory ran out
abbrev pub SaysAll : WorldState → WorldState → (text text' : List ℕ) → Result Unit Unlisted → Type 0
SaysAll old new text text' (Ok done) = SaidText old new text × (text' ≡ [])
SaysAll old new text text' (Err SayFault) = Rose old.say_faults new.say_faults
SaysAll old new text text' (Err NoMemory) = Unit {0}
SaysAll old new text text' (Err NotOpened) = ⊥
SaysAll old new text text' (Err (Damage at)) = ⊥
SaysAll old new text text' (Err DiskFault) = ⊥

-- the same of a call that may say some of it
abbrev pub SaysSome : WorldState → WorldState → (text text' : List ℕ) → Result Unit Unlisted
    → Type 0
SaysSome old new text text' (Ok done) = SaidSome old new text text'
SaysSome old new text text' (Err SayFault) = Rose old.say_faults new.say_faults
SaysSome old new text text' (Err NoMemory) = Unit {0}
SaysSome old new text text' (Err NotOpened) = ⊥
SaysSome old new text text' (Err (Damage at)) = ⊥
SaysSome old new text text' (Err DiskFault) = ⊥

-- why a walk ended, behind these entries: the list is these, or it begins with them
abbrev pub WalkEnds : {D : Type 0} → (D → DiskState) → View D → View D → WorldState → WorldState
    → List SpooledRow → Result ℕ Unlisted → Type 0
WalkEnds state old new world world' rows (Ok count) = (count ≡ length rows)
    × WhereTold (content (state old.disk)) (IsList (payloads_of rows))
WalkEnds state old new world world' rows (Err (Damage at)) = WhereTold (content (state old.disk))
    (IsFirstBadEntry at rows)
WalkEnds state old new world world' rows (Err DiskFault) =
    Rose (state old.disk).faults (state new.disk).faults
    × WhereTold (content (state old.disk)) (IsListBegun rows)
WalkEnds state old new world world' rows (Err SayFault) = Rose world.say_faults world'.say_faults
WalkEnds state old new world world' rows (Err NoMemory) = Unit {0}
WalkEnds state old new world world' rows (Err NotOpened) = ⊥

-- a walk over the entries of a disk-buffer: the lines of these were said, or are the text
pub record WalksBy {D : Type 0} (state : D → DiskState) (old new : View D)
    (world world' : WorldState) (text : List ℕ) (result : Result ℕ Unlisted)
    (rows : List SpooledRow) : Type 0 where
  pub stored : AreRowsStored rows
  pub told : (state new.disk).told ≡ (state old.disk).told
  pub later : (state old.disk).faults ≤ (state new.disk).faults
  pub says : OnlySays world world'
  pub said : UnlessUnsaid result (SaidSome world world' (row_lines 0 rows) text)
  pub ends : WalkEnds state old new world world' rows result

abbrev pub Walks : {D : Type 0} → (D → DiskState) → View D → View D → WorldState → WorldState
    → List ℕ → Result ℕ Unlisted → Type 0
Walks state old new world world' text result = (rows : List SpooledRow)
    × WalksBy state old new world world' text result rows

-- what is said at the end
abbrev pub end_text : Result ℕ Unlisted → List ℕ
end_text (Ok count) = entries_line count
end_text (Err NotOpened) = unopened_line (codes "store") 0
end_text (Err (Damage at)) = damaged_line 0 at
end_text (Err DiskFault) = failed_line 0
end_text (Err SayFault) = []
end_text (Err NoMemory) = []

abbrev pub answer_of : Result ℕ Unlisted → Result Unit Unlisted
answer_of (Ok count) = Ok tt
answer_of (Err unlisted) = Err unlisted

-- The text and the end were said, but where saying had failed before; or saying failed now, or memory ran out.
pub record EndsListing (old new : WorldState) (text : List ℕ) (walked : Result ℕ Unlisted)
    (result : Result Unit Unlisted) : Type 0 where
  pub says : OnlySays old new
  pub ends : ((result ≡ answer_of walked)
      × UnlessUnsaid walked (SaidText old new (text ++ end_text walked)))
      ⊎ (((result ≡ Err SayFault) × Rose old.say_faults new.say_faults) ⊎ (result ≡ Err NoMemory))

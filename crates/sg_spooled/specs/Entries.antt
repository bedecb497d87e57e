-- The entries of a store, and the lines that list them.
use Rattle.std.specs.Prelude.{◌≡◌, ◌⊎◌, ◌≤◌, ◌^◌, ℕ, ◌+◌, zero, suc, Bool, true, false, ◌&&◌, ◌==◌, ◌-◌, nat_lt, Option, Some, None, List, [], ◌∷◌, ◌++◌, length, map}
use Rattle.sg_codec.specs.Spelling.{Spells1, Spells2}
use Rattle.sg_codec.specs.declared.kept.Kept.{Kept}
use Rattle.sg_report.specs.Entry.{entry_line, frame_line}
use Rattle.sg_spool.specs.Places.{Remains, gate_past}
use Rattle.sg_spool.specs.Ring.{Entries, IsLaid, IsList}

-- an entry of a flow core, or a frame that is held back, and the payload that spells it
pub record SpooledRow : Type 0 where
  pub kept : Option Kept
  pub payload : List ℕ

-- in a store an entry is spelled in format 2, or in format 1 with at most 2 ^ 30 bytes
abbrev pub IsStoredEntry : Kept → List ℕ → Type 0
IsStoredEntry kept payload = Spells2 kept payload
    ⊎ (Spells1 kept payload × (length payload ≤ 2 ^ 30))

-- a frame is spelled behind the byte 3
abbrev pub is_frame : List ℕ → Bool
is_frame [] = false
is_frame (tag ∷ frame) = tag == 3

abbrev pub IsPayloadRow : Option Kept → List ℕ → Type 0
IsPayloadRow (Some kept) payload = IsStoredEntry kept payload
IsPayloadRow None payload = is_frame payload ≡ true

-- the payload is neither
abbrev pub IsNoEntry : List ℕ → Type 0
IsNoEntry payload = ((kept : Kept) → IsStoredEntry kept payload → ⊥) × (is_frame payload ≡ false)

-- the first byte tells the format
abbrev pub is_older : List ℕ → Bool
is_older [] = false
is_older (zero ∷ rest) = false
is_older (suc zero ∷ rest) = true
is_older (suc (suc other) ∷ rest) = false

-- it begins as an entry of format 1, and is longer than one in a store
abbrev pub is_beyond : List ℕ → Bool
is_beyond payload = is_older payload && nat_lt (2 ^ 30) (length payload)

abbrev pub AreRowsStored : List SpooledRow → Type 0
AreRowsStored [] = Unit {0}
AreRowsStored (row ∷ rows) = IsPayloadRow row.kept row.payload × AreRowsStored rows

abbrev pub payload_in : SpooledRow → List ℕ
payload_in row = row.payload

abbrev pub payloads_of : List SpooledRow → Entries
payloads_of rows = map payload_in rows

-- the line of an entry of this number
abbrev pub line_for : ℕ → ℕ → Option Kept → List ℕ
line_for number length (Some kept) = entry_line number kept.source kept.end kept.flow length
line_for number length None = frame_line number (length - 1)

abbrev pub row_line : ℕ → SpooledRow → List ℕ
row_line number row = line_for number (length row.payload) row.kept

-- the lines of entries from this number on
abbrev pub row_lines : ℕ → List SpooledRow → List ℕ
row_lines number [] = []
row_lines number (row ∷ rows) = row_line number row ++ row_lines (number + 1) rows

-- the bytes' list begins with these entries, or there are none
abbrev pub IsListBegun : List SpooledRow → List ℕ → Type 0
IsListBegun rows bytes = (rows ≡ []) ⊎ ((rest : Entries) × IsList (payloads_of rows ++ rest) bytes)

-- Behind these entries of the bytes' list a payload stands at this gate that is no entry.
pub record IsFirstBadEntry (at : ℕ) (rows : List SpooledRow) (bytes : List ℕ) : Type 0 where
  pub jump : Option ℕ
  pub head : ℕ
  pub end : ℕ
  pub payload : List ℕ
  pub rest : Entries
  pub laid : IsLaid jump head end (payloads_of rows ++ payload ∷ rest) bytes
  pub gate : Remains bytes jump (gate_past jump head) (payloads_of rows) at
  pub bad : IsNoEntry payload

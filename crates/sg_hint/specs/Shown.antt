-- How bytes are shown.
use Rattle.std.specs.Prelude.{◌≡◌, ◌≤◌, ◌||◌, ◌&&◌, ◌==◌, nat_le, if◌then◌else◌, Bool, true, ℕ, List, length}
use Rattle.std.specs.List.{list_all}

-- printable ASCII
abbrev pub is_printable : ℕ → Bool
is_printable byte = nat_le 32 byte && nat_le byte 126

-- A byte as it is shown: printable ASCII as it is, a tab as a blank, others as `.`.
abbrev pub shown_byte : ℕ → ℕ
shown_byte byte = if byte == 9 then 32 else (if is_printable byte then byte else 46)

-- printable, or the end of a line
abbrev pub is_told : ℕ → Bool
is_told byte = (byte == 10) || is_printable byte

-- all of a text may be told, and it has at most so many bytes
abbrev pub IsTellable : ℕ → List ℕ → Type 0
IsTellable most text = (list_all is_told text ≡ true) × (length text ≤ most)

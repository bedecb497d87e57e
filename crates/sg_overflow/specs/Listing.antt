-- The list that a store's bytes stand for, as a function of the bytes.
use Rattle.std.specs.Prelude.{ℕ, zero, suc, ◌+◌, ◌*◌, ◌==◌, List, [], ◌∷◌, length, slice_index, if◌then◌else◌}
use Rattle.sg_device.specs.DiskBytes.{part}
use Rattle.sg_stable.specs.Cell.{cell_value}
use Rattle.sg_spool.specs.Ring.{Entries, size_at}

-- the entries from this gate on, where so many gates are looked at; a length of 0 is that of a jump to the gate at 64
abbrev pub entries_from : ℕ → List ℕ → ℕ → Entries
entries_from zero bytes gate = []
entries_from (suc gates) bytes gate = if slice_index bytes gate == 0 then []
    else (if size_at (gate + 1) bytes == 0 then entries_from gates bytes 64
    else part (gate + 5) (size_at (gate + 1) bytes) bytes
    ∷ entries_from gates bytes (gate + 5 + size_at (gate + 1) bytes))

-- No list has more gates, since behind each stands a byte at least, and a walk passes the file twice at most.
unfoldable pub entries_in : List ℕ → Entries
entries_in bytes = entries_from (2 * length bytes + 2) bytes (64 + cell_value bytes)

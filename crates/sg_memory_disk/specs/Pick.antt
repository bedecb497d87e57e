-- The images of a disk in memory that can be made.
use Rattle.std.specs.Prelude.{ℕ, ◌+◌, ◌-◌, min, List, [], ◌∷◌, length, take, replicate, slice_get, unwrap_or}
use Rattle.sg_device.specs.Disk.{DiskEvent, Wrote, Tore, Synced, Lost, bytes_after}
use Rattle.sg_device.specs.DiskBytes.{overlaid, overwritten}
use Rattle.sg_memory_disk.specs.declared.pick.Pick.{Pick}
use Rattle.sg_memory_disk.specs.declared.pick.Pick.TheVariants.{Old, New, Ones, Zeros, Bytes}

-- the pick for a write of this number since the last sync: the last pick counts for those behind it too
abbrev pub pick_at : List Pick → ℕ → Pick
pick_at picks number = unwrap_or (slice_get picks (min number (length picks - 1))) Old

-- these bytes in the range of a write of n bytes, and in the gap before it
abbrev pub spliced : ℕ → ℕ → List ℕ → List ℕ → List ℕ
spliced at n torn old = overlaid 0 (min at (length old)) (take (at + n - min at (length old)) torn)
    old

-- what a write of n bytes, or as many as there are, leaves by a pick
abbrev pub laid : Pick → ℕ → ℕ → List ℕ → List ℕ → List ℕ
laid Old at n bytes old = old
laid New at n bytes old = overwritten at bytes old
laid Ones at n bytes old = overlaid 255 at (replicate n 255) old
laid Zeros at n bytes old = overlaid 0 at (replicate n 0) old
laid (Bytes torn) at n bytes old = spliced at n torn.items old

-- the number of the writes since the last sync
abbrev pub unsynced : List DiskEvent → ℕ
unsynced [] = 0
unsynced (Wrote at bytes ∷ earlier) = unsynced earlier + 1
unsynced (Tore at n bytes ∷ earlier) = unsynced earlier + 1
unsynced (Synced ∷ earlier) = 0
unsynced (Lost left ∷ earlier) = unsynced earlier

-- what these events leave, by picks
abbrev pub picked : List Pick → List ℕ → List DiskEvent → List ℕ
picked picks first [] = first
picked picks first (Wrote at bytes ∷ earlier) = laid (pick_at picks (unsynced earlier)) at
    (length bytes) bytes (picked picks first earlier)
picked picks first (Tore at n bytes ∷ earlier) = laid (pick_at picks (unsynced earlier)) at n
    (take n bytes) (picked picks first earlier)
picked picks first (Synced ∷ earlier) = bytes_after first earlier
picked picks first (Lost left ∷ earlier) = picked picks first earlier

-- the image after one event more, where the bytes read so
abbrev pub replayed : Pick → DiskEvent → List ℕ → List ℕ → List ℕ
replayed pick (Wrote at written) bytes image = laid pick at (length written) written image
replayed pick (Tore at n written) bytes image = laid pick at n (take n written) image
replayed pick Synced bytes image = bytes
replayed pick (Lost left) bytes image = image

-- the bytes as a read gives them, after one event more
abbrev pub reread : DiskEvent → List ℕ → List ℕ
reread (Wrote at written) bytes = overwritten at written bytes
reread (Tore at n written) bytes = overwritten at (take n written) bytes
reread Synced bytes = bytes
reread (Lost left) bytes = left

-- the number of the writes since the last sync, after one event more
abbrev pub unsynced_after : DiskEvent → ℕ → ℕ
unsynced_after (Wrote at written) count = count + 1
unsynced_after (Tore at n written) count = count + 1
unsynced_after Synced count = 0
unsynced_after (Lost left) count = count

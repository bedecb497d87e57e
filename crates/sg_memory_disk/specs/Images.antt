-- Each image of a disk in memory can be made.
use Rattle.std.specs.Prelude.{◌≡◌, ℕ, ◌<◌, List, [], ◌∷◌}
use Rattle.sg_device.specs.Disk.{DiskEvent, Wrote, Tore, Synced, Lost, IsLeftByCrash}
use Rattle.sg_memory_disk.specs.Pick.{pick_at, picked, unsynced}
use Rattle.sg_memory_disk.specs.declared.pick.Pick.{Pick}
use Rattle.sg_memory_disk.specs.declared.pick.Pick.TheVariants.{Old, New, Ones, Zeros, Bytes}

-- the pick is of these bytes
abbrev pub PicksBytes : Pick → List ℕ → Type 0
PicksBytes Old bytes = ⊥
PicksBytes New bytes = ⊥
PicksBytes Ones bytes = ⊥
PicksBytes Zeros bytes = ⊥
PicksBytes (Bytes torn) bytes = torn.items ≡ bytes

-- so many writes have picks of these bytes, each of its own
abbrev pub PutAll : List Pick → ℕ → (ℕ → List ℕ) → Type 0
PutAll picks count put = (k : ℕ) → k < count → PicksBytes (pick_at picks k) (put k)

-- no sync failed since the last one that was done
abbrev pub NoneLost : List DiskEvent → Type 0
NoneLost [] = Unit {0}
NoneLost (Wrote at bytes ∷ earlier) = NoneLost earlier
NoneLost (Tore at n bytes ∷ earlier) = NoneLost earlier
NoneLost (Synced ∷ earlier) = Unit {0}
NoneLost (Lost left ∷ earlier) = ⊥

-- there are bytes for each write since the last sync, whose picks give this image
abbrev pub IsPicked : List ℕ → List DiskEvent → List ℕ → Type 0
IsPicked first events image = (put : ℕ → List ℕ)
    × ((picks : List Pick) → PutAll picks (unsynced events) put → picked picks first events ≡ image)

-- each image can be picked
abbrev pub AllPicked : Type 0
AllPicked = (first image : List ℕ) (events : List DiskEvent) → NoneLost events
    → IsLeftByCrash first events image → IsPicked first events image

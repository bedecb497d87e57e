-- The paths that are open at an opener.
use Rattle.std.specs.Prelude.{◌≡◌, ◌≤◌, ◌<◌, ℕ, ◌+◌, List, [], ◌++◌, length, take, drop, slice_index_or, Result, Ok, Err}
use Rattle.sg_device.specs.Outlet.{Refuses}
use Rattle.sg_device.specs.Paths.{PathsState, counts_of, without_path}
use Rattle.sg_device.specs.declared.fault.SendRefusal.{SendRefusal}
use Rattle.sg_dynfile.specs.declared.open_paths.OpenPaths.{OpenPaths}

-- the first place of this path in the list
pub record IsPlaceOf (path : List ℕ) (names : List (List ℕ)) (place : ℕ) : Type 0 where
  pub inside : place < length names
  pub here : slice_index_or names place path ≡ path
  pub without : without_path path names ≡ take place names ++ drop (place + 1) names

-- this path stands at this place of the list
abbrev pub StandsAt : List ℕ → List (List ℕ) → ℕ → Type 0
StandsAt path names place = (place < length names) × (slice_index_or names place [] ≡ path)

-- the list names the open paths, and no more of them than are held
pub record Tracks (opener : PathsState) (open_paths : OpenPaths) : Type 0 where
  pub opened : opener.opened ≡ open_paths.names.items
  pub most : length open_paths.names.items ≤ open_paths.held
  pub some : 0 < open_paths.held

-- files were opened and closed, and nothing else happened
abbrev pub OnlyOpens : PathsState → PathsState → Type 0
OnlyOpens old new = new ≡ record old { opened = new.opened }

-- the opener with all its files closed
abbrev pub IsClosed : PathsState → PathsState → Type 0
IsClosed old new = new ≡ record old { opened = [] }

-- the file of this path is open, and its path stands at this place
abbrev pub MakesOpen : PathsState → PathsState → List ℕ → Result ℕ SendRefusal → Type 0
MakesOpen old new path (Ok place) = OnlyOpens old new × StandsAt path new.opened place
MakesOpen old new path (Err refusal) = (new.taken ≡ old.taken)
    × Refuses (counts_of old) (counts_of new) refusal

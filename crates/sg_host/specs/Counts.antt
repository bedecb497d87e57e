-- What an opener of real files tells by its counts.
use Rattle.std.specs.Prelude.{◌≡◌, ℕ, List, [], ◌∷◌, ◌++◌, None}
use Rattle.sg_device.specs.Paths.{PathsState}
use Rattle.sg_host.specs.declared.paths.PathCounts.{PathCounts}

abbrev pub paths_state : PathCounts → PathsState
paths_state counts = record {
  opened = counts.opened.items;
  taken = None;
  count = counts.calls.taken;
  faults = counts.calls.faults;
  failing = counts.calls.failing;
  laters = counts.calls.laters;
}

-- an opener that has opened nothing yet
abbrev pub new_paths : PathsState
new_paths = record { opened = []; taken = None; count = 0; faults = 0; failing = 0; laters = 0 }

-- this path is open too, behind the others
abbrev pub OpensToo : PathCounts → PathCounts → List ℕ → Type 0
OpensToo old new path = paths_state new
    ≡ record (paths_state old) { opened = old.opened.items ++ path ∷ [] }

-- the same paths are open, and nothing was counted
abbrev pub SameCounts : PathCounts → PathCounts → Type 0
SameCounts old new = (new.opened.items ≡ old.opened.items) × (new.calls ≡ old.calls)

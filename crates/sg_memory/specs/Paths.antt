-- An opener of files in memory by their paths.
use Rattle.std.specs.Prelude.{◌≡◌, ℕ, ◌+◌, ◌-◌, List, [], ◌++◌, length, take, drop, map, Some}
use Rattle.std.specs.Option.{option_map}
use Rattle.sg_device.specs.Outlet.{failing_after}
use Rattle.sg_device.specs.Paths.{PathsState, PathText, under_path}
use Rattle.sg_by_path.specs.Each.{under_places}
use Rattle.sg_memory.specs.declared.paths.MemoryPaths.{MemoryPaths}
use Rattle.sg_memory.specs.declared.paths.TakenText.{TakenText}

abbrev pub text_of : TakenText → PathText
text_of taken = record { path = taken.path; text = taken.text.items }

-- what the opener tells
abbrev pub paths_of : MemoryPaths → PathsState
paths_of opener = record {
  opened = opener.opened.items;
  taken = Some (map text_of opener.taken.items);
  count = length opener.taken.items;
  faults = opener.faults;
  failing = opener.failing;
  laters = opener.laters;
}

-- what an opener tells that has opened nothing yet
abbrev pub new_paths : PathsState
new_paths = record { opened = []; taken = Some []; count = 0; faults = 0; failing = 0; laters = 0 }

-- the first so many of the texts were taken under the path, and nothing failed or was too early
pub record TakesUnder (path : List ℕ) (texts : List (List ℕ)) (k : ℕ)
    (old new : PathsState) : Type 0 where
  pub taken : new.taken
      ≡ option_map (λ before. before
      ++ under_path path (take (new.count - old.count) texts)) old.taken
  pub count : new.count ≡ old.count + k
  pub failing : new.failing ≡ failing_after k old.failing
  pub opened : new.opened ≡ old.opened
  pub faults : new.faults ≡ old.faults
  pub laters : new.laters ≡ old.laters

-- the first so many of the texts were taken, each under the path at its place, and nothing failed or was too early
pub record TakesEach (places : List ℕ) (texts : List (List ℕ)) (k : ℕ)
    (old new : PathsState) : Type 0 where
  pub taken : new.taken
      ≡ option_map (λ before. before
      ++ take (new.count - old.count) (under_places old.opened places texts)) old.taken
  pub count : new.count ≡ old.count + k
  pub failing : new.failing ≡ failing_after k old.failing
  pub opened : new.opened ≡ old.opened
  pub faults : new.faults ≡ old.faults
  pub laters : new.laters ≡ old.laters

-- the names but for the one at this place
abbrev pub without_at : ℕ → List (List ℕ) → List (List ℕ)
without_at place names = take place names ++ drop (place + 1) names

-- Sends of texts for several open files at once.
use Rattle.std.specs.Prelude.{◌≡◌, ℕ, ◌-◌, List, [], ◌∷◌, ◌++◌, take, get_or, Result, OnOk}
use Rattle.std.specs.Option.{option_map}
use Rattle.sg_device.specs.Outlet.{Sends}
use Rattle.sg_device.specs.Paths.{PathsState, PathText, counts_of}
use Rattle.sg_device.specs.declared.fault.SendRefusal.{SendRefusal}

-- the texts, each with the path that stands at its place in the list
abbrev pub under_places : List (List ℕ) → List ℕ → List (List ℕ) → List PathText
under_places paths [] texts = []
under_places paths (place ∷ places) [] = []
under_places paths (place ∷ places) (text ∷ texts) =
    record { path = get_or paths place []; text = text } ∷ under_places paths places texts

-- A send is counted and answered as that of an outlet, and what it took are the first of the texts, each under its path. One that
-- took all counts no fault.
pub record SendsEach (places : List ℕ) (texts : List (List ℕ)) (old new : PathsState)
    (result : Result Unit SendRefusal) : Type 0 where
  pub sends : Sends (counts_of old) (counts_of new) texts result
  pub taken : new.taken
      ≡ option_map (λ before. before
      ++ take (new.count - old.count) (under_places old.opened places texts)) old.taken
  pub well : OnOk result (new.faults ≡ old.faults)
  pub opened : new.opened ≡ old.opened

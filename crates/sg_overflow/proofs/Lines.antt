-- What was loaded and taken is what was forwarded and is held.
use Rattle.std.proofs.Common.{◌≡◌, ℕ, List, ◌++◌, take, drop, sym, ◌∙◌, ap, Some, None, Option}
use Rattle.std.proofs.lemmas.List.{take-append-drop}
use Rattle.std.specs.Option.{option_map}
use Rattle.sg_device.specs.Disk.{DiskState}
use Rattle.sg_device.specs.Outlet.{OutletState}
use Rattle.sg_overflow.specs.View.{OverflowView, both, line_of, loaded_of, taken_of, held_of}

abbrev or_else : {A : Type 0} → A → Option A → A
or_else d None = d
or_else d (Some a) = a

-- the first and the rest of a line that is told
parts_of : (n : ℕ) (line : Option (List (List ℕ))) (all loaded taken : List (List ℕ)) → line ≡ Some all
    → option_map (take n) line ≡ Some loaded → option_map (drop n) line ≡ Some taken → loaded ++ taken ≡ all
parts_of n line all loaded taken is front rest =
    let a : loaded ≡ take n all = sym (ap (or_else loaded) front) ∙ ap (λ (l : Option (List (List ℕ))). or_else loaded (option_map (take n) l)) is in
    let b : taken ≡ drop n all = sym (ap (or_else taken) rest) ∙ ap (λ (l : Option (List (List ℕ))). or_else taken (option_map (drop n) l)) is in
    (λ i. a i ++ b i) ∙ take-append-drop n all

pub add_up : {O D : Type 0} (outlet : O → OutletState) (disk : D → DiskState) (view : OverflowView O D) (loaded taken forwarded held : List (List ℕ))
    → loaded_of outlet disk view ≡ Some loaded → taken_of outlet disk view ≡ Some taken
    → (outlet view.inner).taken ≡ Some forwarded → held_of disk view.held ≡ Some held
    → loaded ++ taken ≡ forwarded ++ held
add_up outlet disk view loaded taken forwarded held front rest sent kept =
    parts_of view.tally.loaded (line_of outlet disk view) (forwarded ++ held) loaded taken
    (λ i. both (λ (a b : List (List ℕ)). a ++ b) (sent i) (kept i)) front rest

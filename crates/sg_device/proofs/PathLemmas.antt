-- Paths but for one.
use Rattle.std.specs.Prelude.{Bool, false, true, if◌then◌else◌, bytes_eq}
use Rattle.std.proofs.Common.{refl, ◌≡◌, List, ap, arith, drop, get_or, length, suc, take, zero, ℕ, ◌<◌, ◌+◌, ◌∷◌, ◌++◌, []}
use Rattle.sg_device.specs.Paths.{without_path}

pub if_then : {A : Type 0} (b : Bool) (x y : A) → b ≡ true → (if b then x else y) ≡ x
if_then true x y is = refl
if_then false x y is = let wrong : false ≡ true = is in cc

pub if_else : {A : Type 0} (b : Bool) (x y : A) → b ≡ false → (if b then x else y) ≡ y
if_else false x y is = refl
if_else true x y is = let wrong : true ≡ false = is in cc

-- another path stays
pub without-other : (path : List ℕ) (names : List (List ℕ)) (i : ℕ) → i < length names → bytes_eq (get_or names i []) path ≡ false → take i names ++ without_path path (drop i names) ≡ take (i + 1) names ++ without_path path (drop (i + 1) names)
without-other path [] i lt is = grind (arith, lt)
without-other path (name ∷ names) zero lt is = if_else (bytes_eq name path) names (name ∷ without_path path names) is
without-other path (name ∷ names) (suc i) lt is = let next : suc i + 1 ≡ suc (i + 1) = omega arith in rw next (ap (λ (l : List (List ℕ)). name ∷ l) (without-other path names i (omega (arith, lt)) is))

-- this one goes
pub without-here : (path : List ℕ) (names : List (List ℕ)) (i : ℕ) → i < length names → bytes_eq (get_or names i []) path ≡ true → without_path path (drop i names) ≡ drop (i + 1) names
without-here path [] i lt is = grind (arith, lt)
without-here path (name ∷ names) zero lt is = if_then (bytes_eq name path) names (name ∷ without_path path names) is
without-here path (name ∷ names) (suc i) lt is = let next : suc i + 1 ≡ suc (i + 1) = omega arith in rw next (without-here path names i (omega (arith, lt)) is)

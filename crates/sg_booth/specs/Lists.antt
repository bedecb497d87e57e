-- Sums over views, and lists of places.
use Rattle.std.specs.Prelude.{◌≡◌, ℕ, ◌+◌, ◌≤◌, ◌<◌, ◌==◌, if◌then◌else◌, List, [], ◌∷◌, ◌++◌, slice_get}
use Rattle.std.specs.Option.{option_to_list}

-- f of each, added up
abbrev pub total : {A : Type 0} → (A → ℕ) → List A → ℕ
total f [] = 0
total f (x ∷ xs) = f x + total f xs

-- how often x stands in the list
abbrev pub times : ℕ → List ℕ → ℕ
times x [] = 0
times x (y ∷ ys) = (if x == y then 1 else 0) + times x ys

-- the lists behind one another
abbrev pub joined_up : {A : Type 0} → List (List A) → List A
joined_up [] = []
joined_up (xs ∷ xss) = xs ++ joined_up xss

-- each number from low on and below high is counted once, and no other
abbrev pub CountsOnce : ℕ → ℕ → (ℕ → ℕ) → Type 0
CountsOnce low high f = (x : ℕ)
    → (x < low → f x ≡ 0) × (low ≤ x → x < high → f x ≡ 1) × (high ≤ x → f x ≡ 0)

-- each number that is counted is below high, and is counted once
abbrev pub CountsSome : ℕ → (ℕ → ℕ) → Type 0
CountsSome high f = (x : ℕ) → (f x ≤ 1) × (high ≤ x → f x ≡ 0)

-- the numbers rise, from low on and below high
abbrev pub Rises : ℕ → List ℕ → ℕ → Type 0
Rises low [] high = low ≤ high
Rises low (x ∷ xs) high = (low ≤ x) × Rises (x + 1) xs high

abbrev pub AllRise : List (List ℕ) → ℕ → Type 0
AllRise [] high = Unit {0}
AllRise (xs ∷ xss) high = Rises 0 xs high × AllRise xss high

-- the second list goes on from the first
abbrev pub StartsWith : {A : Type 0} → List A → List A → Type 0
StartsWith {A} whole start = (rest : List A) × (whole ≡ start ++ rest)

-- what stands at these places
abbrev pub entries_at : {E : Type 0} → List E → List ℕ → List E
entries_at history [] = []
entries_at history (p ∷ ps) = option_to_list (slice_get history p) ++ entries_at history ps

-- The items of a file behind a place.
use Rattle.std.proofs.Common.{◌≡◌, ℕ, ◌<◌, ◌≤◌, List, [], ◌∷◌, ◌++◌, map, Bool, true, false, refl, ap, subst, arith, inl, inr, if◌then◌else◌}
use Rattle.std.specs.Prelude.{Contains, nat_lt, nat_le}
use Rattle.std.proofs.lemmas.List.{map-append}
use Rattle.std.proofs.lemmas.List.Elements.{Contains-append_right}
use Rattle.sg_machine.specs.Safe.{rises}
use Rattle.sg_machine.proofs.RunLemmas.{both-true}
use Rattle.sg_laws.specs.Pieces.{Piece, Rise, behind}
use Rattle.sg_laws.proofs.HasLemmas.{has-nil, has-here, has-there, has-cons}
use Rattle.sg_machine.proofs.PositionLemmas.{lt-true}

abbrev pub ends : List Piece → List ℕ
ends xs = map (λ (x : Piece). x.end) xs

-- the last end, `from` where there is none
abbrev pub last_of : ℕ → List ℕ → ℕ
last_of from [] = from
last_of from (x ∷ ends) = last_of x ends

pub true-lt : (a b : ℕ) → a < b → nat_lt a b ≡ true
true-lt a b h = grind (arith, h)

le-true : (a b : ℕ) → nat_le a b ≡ true → a ≤ b
le-true a b h = grind (arith, h)

le-false : (a b : ℕ) → nat_le a b ≡ false → b < a
le-false a b h = grind (arith, h)

rises-tail : (from x : ℕ) (es : List ℕ) → rises from (x ∷ es) ≡ true → (from < x) × (rises x es ≡ true)
rises-tail from x es h = let p = both-true (nat_lt from x) (rises x es) h in (lt-true from x p.0, p.1)

pub rising : (from : ℕ) (xs : List Piece) → Rise from xs → rises from (ends xs) ≡ true
rising from [] r = refl
rising from (x ∷ xs) r = let first = true-lt from x.end r.0 in let rest = rising x.end xs r.1 in rw (first, rest) refl

-- an item behind the place is behind it
behind-has-if : (place : ℕ) (y : Piece) (xs : List Piece) (x : Piece) (b : Bool) → nat_le y.end place ≡ b → place < x.end → Contains (y ∷ xs) x → (Contains xs x → Contains (behind place xs) x)
    → Contains (if b then behind place xs else y ∷ xs) x
behind-has-if place y xs x true q l h rest =
    elim (has-cons y xs x h) [
      | inl e ↦ (let same : y.end ≡ x.end = ap (λ (z : Piece). z.end) e in let low = le-true y.end place q in absurd (omega (arith, same, low, l)))
      | inr r ↦ rest r
    ]
behind-has-if place y xs x false q l h rest = h

pub behind-has : (place : ℕ) (xs : List Piece) (x : Piece) → place < x.end → Contains xs x → Contains (behind place xs) x
behind-has place [] x l h = h
behind-has place (y ∷ xs) x l h = behind-has-if place y xs x (nat_le y.end place) refl l h (behind-has place xs x l)

behind-in-if : (place : ℕ) (y : Piece) (xs : List Piece) (x : Piece) (b : Bool) → Contains (if b then behind place xs else y ∷ xs) x → (Contains (behind place xs) x → Contains xs x) → Contains (y ∷ xs) x
behind-in-if place y xs x true h rest = has-there y xs x (rest h)
behind-in-if place y xs x false h rest = h

pub behind-in : (place : ℕ) (xs : List Piece) (x : Piece) → Contains (behind place xs) x → Contains xs x
behind-in place [] x h = h
behind-in place (y ∷ xs) x h = behind-in-if place y xs x (nat_le y.end place) h (behind-in place xs x)

-- and their ends rise from it on
behind-rises-if : (place : ℕ) (y : Piece) (xs : List Piece) (b : Bool) → nat_le y.end place ≡ b → rises y.end (ends xs) ≡ true → rises place (ends (behind place xs)) ≡ true
    → rises place (ends (if b then behind place xs else y ∷ xs)) ≡ true
behind-rises-if place y xs true q r rest = rest
behind-rises-if place y xs false q r rest = let first = true-lt place y.end (le-false y.end place q) in rw (first, r) refl

pub behind-rises : (place from : ℕ) (xs : List Piece) → rises from (ends xs) ≡ true → rises place (ends (behind place xs)) ≡ true
behind-rises place from [] r = refl
behind-rises place from (y ∷ xs) r =
    let p = rises-tail from y.end (ends xs) r in
    behind-rises-if place y xs (nat_le y.end place) refl p.1 (behind-rises place y.end xs p.1)

pub rises-first : (from : ℕ) (xs ys : List ℕ) → rises from (xs ++ ys) ≡ true → rises from xs ≡ true
rises-first from [] ys r = refl
rises-first from (x ∷ xs) ys r =
    let p = both-true (nat_lt from x) (rises x (xs ++ ys)) r in
    let q = rises-first x xs ys p.1 in
    rw (p.0, q) refl

pub rises-above : (from : ℕ) (xs : List Piece) (x : Piece) → rises from (ends xs) ≡ true → Contains xs x → from < x.end
rises-above from [] x r h = absurd (has-nil x h)
rises-above from (y ∷ xs) x r h =
    let p = rises-tail from y.end (ends xs) r in
    elim (has-cons y xs x h) [
      | inl e ↦ (let same : y.end ≡ x.end = ap (λ (z : Piece). z.end) e in let low = p.0 in omega (arith, same, low))
      | inr t ↦ (let low = p.0 in let high = rises-above y.end xs x p.1 t in omega (arith, low, high))
    ]

pub above-zero : (xs : List Piece) (x : Piece) → rises 0 (ends xs) ≡ true → Contains xs x → 0 < x.end
above-zero xs x r h = rises-above 0 xs x r h

-- of items whose ends rise, those that end no later than the last of the first ones are among these
pub among-first : (from : ℕ) (ps ys : List Piece) (x : Piece) → rises from (ends (ps ++ ys)) ≡ true → Contains (ps ++ ys) x → x.end ≤ last_of from (ends ps) → Contains ps x
among-first from [] ys x r h l = let above = rises-above from ys x r h in absurd (omega (arith, above, l))
among-first from (p ∷ ps) ys x r h l =
    let q = rises-tail from p.end (ends (ps ++ ys)) r in
    elim (has-cons p (ps ++ ys) x h) [
      | inl e ↦ (let P : Piece → Type 0 = λ z. Contains (p ∷ ps) z in subst P e (has-here p ps))
      | inr t ↦ has-there p ps x (among-first p.end ps ys x q.1 t l)
    ]

pub ends-append : (xs ys : List Piece) → ends (xs ++ ys) ≡ ends xs ++ ends ys
ends-append xs ys = map-append (λ (x : Piece). x.end) xs ys

-- with more items behind them, an item that ends no later than one of the first is one of these
pub among-old : (from : ℕ) (ps ys : List Piece) (x y : Piece) → rises from (ends (ps ++ ys)) ≡ true → Contains (ps ++ ys) x → Contains ps y → x.end ≤ y.end → Contains ps x
among-old from [] ys x y r h a l = absurd (has-nil y a)
among-old from (p ∷ ps) ys x y r h a l =
    let q = rises-tail from p.end (ends (ps ++ ys)) r in
    elim (has-cons p (ps ++ ys) x h) [
      | inl e ↦ (let P : Piece → Type 0 = λ z. Contains (p ∷ ps) z in subst P e (has-here p ps))
      | inr t ↦ elim (has-cons p ps y a) [
        | inl e ↦ (
            let same : p.end ≡ y.end = ap (λ (z : Piece). z.end) e in
            let above = rises-above p.end (ps ++ ys) x q.1 t in
            absurd (omega (arith, same, above, l)))
        | inr b ↦ has-there p ps x (among-old p.end ps ys x y q.1 t b l)
      ]
    ]

-- of items whose ends rise, each of the first ones ends before each of the later ones
pub rises-apart : (from : ℕ) (ps ys : List Piece) (a b : Piece) → rises from (ends (ps ++ ys)) ≡ true → Contains ps a → Contains ys b → a.end < b.end
rises-apart from [] ys a b r h k = absurd (has-nil a h)
rises-apart from (p ∷ ps) ys a b r h k =
    let q = rises-tail from p.end (ends (ps ++ ys)) r in
    elim (has-cons p ps a h) [
      | inl e ↦ (
          let same : p.end ≡ a.end = ap (λ (z : Piece). z.end) e in
          let above = rises-above p.end (ps ++ ys) b q.1 (Contains-append_right ps ys b k) in
          omega (arith, same, above))
      | inr t ↦ rises-apart p.end ps ys a b q.1 t k
    ]

behind-first-if : (place : ℕ) (y : Piece) (ys : List Piece) (b : Bool) → nat_le y.end place ≡ b → place < y.end → (if b then behind place ys else y ∷ ys) ≡ y ∷ ys
behind-first-if place y ys true q l = absurd (let low = le-true y.end place q in omega (arith, low, l))
behind-first-if place y ys false q l = refl

behind-later : (place : ℕ) (ys : List Piece) → ((y : Piece) → Contains ys y → place < y.end) → behind place ys ≡ ys
behind-later place [] h = refl
behind-later place (y ∷ ys) h = behind-first-if place y ys (nat_le y.end place) refl (h y (has-here y ys))

behind-over-if : (place : ℕ) (x : Piece) (xs ys : List Piece) (b : Bool) → nat_le x.end place ≡ b → x.end ≤ place → behind place xs ≡ ys → (if b then behind place xs else x ∷ xs) ≡ ys
behind-over-if place x xs ys true q l e = e
behind-over-if place x xs ys false q l e = absurd (let high = le-false x.end place q in omega (arith, high, l))

-- a place that the first ones end at or below, and the later ones above, has just the later ones behind it
pub behind-rest : (place : ℕ) (xs ys : List Piece) → ((x : Piece) → Contains xs x → x.end ≤ place) → ((y : Piece) → Contains ys y → place < y.end) → behind place (xs ++ ys) ≡ ys
behind-rest place [] ys low high = behind-later place ys high
behind-rest place (x ∷ xs) ys low high =
    behind-over-if place x (xs ++ ys) ys (nat_le x.end place) refl (low x (has-here x xs)) (behind-rest place xs ys (λ z c. low z (has-there x xs z c)) high)

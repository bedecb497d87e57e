-- Lists, and changes of their items.
use Rattle.std.proofs.Common.{arith, ◌≡◌, ◌≤◌, ◌<◌, ◌+◌, ℕ, zero, suc, Bool, true, false, List, [], ◌∷◌, ◌++◌, length, map, set, take, get_or, refl, ap, sym, ◌∙◌, subst, slice_get, Some, None, ◌⊎◌, inl, inr}
use Rattle.std.proofs.lemmas.Bool.{or_cases, or_parts}
use Rattle.std.proofs.lemmas.Option.{slice_get-get_or}
use Rattle.std.specs.Prelude.{◌||◌}
use Rattle.sg_list.proofs.ListLemmas.{change-set, length-change, get-change-same, get-change-other, slice_get-below, some-same}
use Rattle.sg_list.specs.Lists.{change}
use Rattle.sg_booth.specs.Lists.{total}
use Rattle.sg_crew.specs.Crews.{any, AllChanged}
use Rattle.sg_turns.proofs.PartLemmas.{last-or}

module _ {X : Type 0} (passes : X → Bool) where
  pub any-push : (xs : List X) (x : X) → any passes (xs ++ x ∷ []) ≡ (any passes xs || passes x)
  any-push [] x = or-false (passes x)
    where
      or-false : (b : Bool) → (b || false) ≡ b
      or-false true = refl
      or-false false = refl
  any-push (y ∷ xs) x = ap (λ b. passes y || b) (any-push xs x) ∙ or-assoc (passes y) (any passes xs) (passes x)
    where
      or-assoc : (a b c : Bool) → (a || (b || c)) ≡ ((a || b) || c)
      or-assoc true b c = refl
      or-assoc false b c = refl

  pub any-some : (xs : List X) → any passes xs ≡ true → (j : ℕ) × ((x : X) × ((slice_get xs j ≡ Some x) × (passes x ≡ true)))
  any-some [] h = absurd (let wrong : false ≡ true = h in cc)
  any-some (y ∷ xs) h = elim (or_cases (passes y) (any passes xs) h) [
    | inl e ↦ (0, (y, (refl, e)))
    | inr e ↦ (let k = any-some xs e in (suc k.0, (k.1.0, (k.1.1.0, k.1.1.1))))
  ]

  pub any-none : (xs : List X) → any passes xs ≡ false → (j : ℕ) (x : X) → slice_get xs j ≡ Some x → passes x ≡ false
  any-none [] h j x e = absurd (let wrong : None ≡ Some x = e in cc)
  any-none (y ∷ xs) h zero x e = ap passes (some-same x y (sym e)) ∙ (or_parts (passes y) (any passes xs) h).0
  any-none (y ∷ xs) h (suc j) x e = any-none xs (or_parts (passes y) (any passes xs) h).1 j x e

-- an item behind others
pub get-push : {X : Type 0} (xs : List X) (y : X) (j : ℕ) (x : X) → slice_get (xs ++ y ∷ []) j ≡ Some x → (slice_get xs j ≡ Some x) ⊎ (x ≡ y)
get-push [] y zero x e = inr (some-same x y (sym e))
get-push [] y (suc j) x e = absurd (let wrong : None ≡ Some x = e in cc)
get-push (z ∷ xs) y zero x e = inl e
get-push (z ∷ xs) y (suc j) x e = get-push xs y j x e

-- what an item of a mapped list comes from
pub unmapped : {X Y : Type 0} (g : X → Y) (xs : List X) (j : ℕ) (y : Y) → slice_get (map g xs) j ≡ Some y → (x : X) × ((slice_get xs j ≡ Some x) × (g x ≡ y))
unmapped g [] j y e = absurd (let wrong : None ≡ Some y = e in cc)
unmapped g (x ∷ xs) zero y e = (x, (refl, some-same (g x) y e))
unmapped g (x ∷ xs) (suc j) y e = unmapped g xs j y e

pub length-map : {X Y : Type 0} (g : X → Y) (xs : List X) → length (map g xs) ≡ length xs
length-map g [] = refl
length-map g (x ∷ xs) = ap suc (length-map g xs)

-- items that keep a part of theirs
pub part-stays : {X Y : Type 0} (changed : X → X → Type 0) (g : X → Y) → ((x y : X) → changed x y → g y ≡ g x) → (xs ys : List X) → AllChanged changed xs ys → map g ys ≡ map g xs
part-stays changed g same [] [] h = refl
part-stays changed g same [] (y ∷ ys) h = absurd (let e = h.all in omega (arith, e))
part-stays changed g same (x ∷ xs) [] h = absurd (let e = h.all in omega (arith, e))
part-stays changed g same (x ∷ xs) (y ∷ ys) h =
    let rest : AllChanged changed xs ys = record { all = (let e = h.all in omega (arith, e)); each = λ j a b before after. h.each (suc j) a b before after } in
    λ i. same x y (h.each 0 x y refl refl) i ∷ part-stays changed g same xs ys rest i

-- The first n items changed, and the others didn't.
pub record ChangedFirst {X : Type 0} (changed : X → X → Type 0) (old new : List X) (n : ℕ) : Type 0 where
  pub all : length new ≡ length old
  pub each : (j : ℕ) (x y : X) → j < n → slice_get old j ≡ Some x → slice_get new j ≡ Some y → changed x y
  pub rest : (j : ℕ) → n ≤ j → slice_get new j ≡ slice_get old j

pub changed-none : {X : Type 0} (changed : X → X → Type 0) (old : List X) → ChangedFirst changed old old 0
changed-none changed old = record { all = refl; each = λ j x y below. absurd (omega (arith, below)); rest = λ j above. refl }

pub item-there : {X : Type 0} (xs : List X) (i : ℕ) (x : X) → i < length xs → x ≡ get_or xs i x → slice_get xs i ≡ Some x
item-there xs i x below is = slice_get-get_or xs i x below ∙ ap Some (sym is)

-- the item that is next, as it was
pub next-is : {X : Type 0} (changed : X → X → Type 0) (old mid : List X) (n : ℕ) (x : X) → ChangedFirst changed old mid n → n < length mid → x ≡ get_or mid n x → slice_get old n ≡ Some x
next-is changed old mid n x h below is = sym (h.rest n (omega arith)) ∙ item-there mid n x below is

pub changed-more : {X : Type 0} (changed : X → X → Type 0) (old mid : List X) (n : ℕ) (x y : X) → ChangedFirst changed old mid n → n < length mid → x ≡ get_or mid n x → changed x y
    → ChangedFirst changed old (set mid n y) (n + 1)
changed-more changed old mid n x y h below is change-is =
    let there = item-there mid n x below is in
    let same : change mid n (λ z. y) ≡ set mid n y = change-set mid n (λ z. y) x there in
    record {
      all = ap length (sym same) ∙ (length-change mid n (λ z. y) ∙ h.all);
      each = (λ j a b under before after. elim (last-or j n under) [
        | inl e ↦ (
            let a-is : a ≡ x = some-same a x (sym before ∙ (ap (λ k. slice_get old k) e ∙ (sym (h.rest n (omega arith)) ∙ there))) in
            let b-is : b ≡ y = some-same b y (sym after ∙ (ap (λ k. slice_get (set mid n y) k) e ∙ (ap (λ l. slice_get l n) (sym same) ∙ get-change-same mid n (λ z. y) x there))) in
            subst (λ v. changed a v) (sym b-is) (subst (λ u. changed u y) (sym a-is) change-is))
        | inr p ↦ (
            let kept : slice_get mid j ≡ Some b = sym (get-change-other mid n j (λ z. y) p.1) ∙ (ap (λ l. slice_get l j) same ∙ after) in
            h.each j a b p.0 before kept)
      ]);
      rest = (λ j above. ap (λ l. slice_get l j) (sym same) ∙ (get-change-other mid n j (λ z. y) (λ e. omega (arith, above, e)) ∙ h.rest j (omega (arith, above))));
    }

pub changed-all : {X : Type 0} (changed : X → X → Type 0) (old new : List X) (n : ℕ) → ChangedFirst changed old new n → n ≡ length old → AllChanged changed old new
changed-all changed old new n h is = record {
  all = h.all;
  each = λ j x y before after. h.each j x y (let below = slice_get-below old j x before in omega (arith, below, is)) before after;
}

-- A function of places from what there is at each.
abbrev cons-at : {T : Type 0} → T → (ℕ → T) → ℕ → T
cons-at t f zero = t
cons-at t f (suc j) = f j

pub choose : {T : Type 0} (d : T) (n : ℕ) (P : ℕ → T → Type 0) → ((j : ℕ) → j < n → (t : T) × P j t) → (f : ℕ → T) × ((j : ℕ) → j < n → P j (f j))
choose d zero P h = ((λ j. d), (λ j below. absurd (omega (arith, below))))
choose {T} d (suc n) P h =
    let rest = choose d n (λ j. P (suc j)) (λ j below. h (suc j) (omega (arith, below))) in
    let first = h 0 (omega arith) in
    (cons-at first.0 rest.0, at first.0 first.1 rest.0 rest.1)
  where
    at : (t : T) → P 0 t → (f : ℕ → T) → ((j : ℕ) → j < n → P (suc j) (f j)) → (j : ℕ) → j < suc n → P j (cons-at t f j)
    at t p f q zero below = p
    at t p f q (suc j) below = q j (omega (arith, below))

-- The first items of a list, one more each time.
pub part-more : {X Y : Type 0} (g : X → Y) (xs : List X) (i : ℕ) (x : X) → slice_get xs i ≡ Some x → map g (take (i + 1) xs) ≡ map g (take i xs) ++ g x ∷ []
part-more {X} {Y} g xs i x e = let k : i + 1 ≡ suc i = omega arith in ap (λ n. map g (take n xs)) k ∙ next xs i e
  where
    next : (ys : List X) (n : ℕ) → slice_get ys n ≡ Some x → map g (take (suc n) ys) ≡ map g (take n ys) ++ g x ∷ []
    next [] n e = absurd (let wrong : None ≡ Some x = e in cc)
    next (y ∷ ys) zero e = ap (λ z. g z ∷ []) (some-same y x e)
    next (y ∷ ys) (suc n) e = ap (λ l. g y ∷ l) (next ys n e)

pub total-more : {X : Type 0} (g : X → ℕ) (xs : List X) (i : ℕ) (x : X) → slice_get xs i ≡ Some x → total g (take (i + 1) xs) ≡ total g (take i xs) + g x
total-more {X} g xs i x e = let k : i + 1 ≡ suc i = omega arith in ap (λ n. total g (take n xs)) k ∙ next xs i e
  where
    next : (ys : List X) (n : ℕ) → slice_get ys n ≡ Some x → total g (take (suc n) ys) ≡ total g (take n ys) + g x
    next [] n e = absurd (let wrong : None ≡ Some x = e in cc)
    next (y ∷ ys) zero e = let same = ap g (some-same y x e) in omega (arith, same)
    next (y ∷ ys) (suc n) e = let rest = next ys n e in omega (arith, rest)

pub take-whole : {X : Type 0} (xs : List X) (n : ℕ) → n ≡ length xs → take n xs ≡ xs
take-whole {X} xs n e = ap (λ k. take k xs) e ∙ whole xs
  where
    whole : (ys : List X) → take (length ys) ys ≡ ys
    whole [] = refl
    whole (y ∷ ys) = ap (λ l. y ∷ l) (whole ys)

-- what stands at a place, read with a default
pub read-or : {X : Type 0} (xs : List X) (i : ℕ) (d x : X) → slice_get xs i ≡ Some x → get_or xs i d ≡ x
read-or xs i d x e = some-same (get_or xs i d) x (sym (slice_get-get_or xs i d (slice_get-below xs i x e)) ∙ e)

pub all-changed : {X : Type 0} (changed : X → X → Type 0) (old new : List X) → length new ≡ length old
    → ((i : ℕ) (d : X) → i < length old → changed (get_or old i d) (get_or new i d)) → AllChanged changed old new
all-changed changed old new all each = record {
  all = all;
  each = (λ j x y before after.
      subst (λ v. changed x v) (read-or new j x y after) (subst (λ u. changed u (get_or new j x)) (read-or old j x x before) (each j x (slice_get-below old j x before))));
}

-- a list that is lent and written back
pub back-is : {X : Type 0} (new rest : List X) (n : ℕ) → length new ≡ n → take n (new ++ rest) ≡ new
back-is {X} new rest n e = ap (λ k. take k (new ++ rest)) (sym e) ∙ first new
  where
    take-none : (ys : List X) → take 0 ys ≡ []
    take-none [] = refl
    take-none (y ∷ ys) = refl

    first : (xs : List X) → take (length xs) (xs ++ rest) ≡ xs
    first [] = take-none rest
    first (x ∷ xs) = ap (λ l. x ∷ l) (first xs)

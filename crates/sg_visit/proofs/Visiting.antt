-- Leaves told one after another.
use Rattle.std.proofs.Common.{◌≡◌, ◌∙◌, ℕ, ◌+◌, ◌<◌, ◌≤◌, List, [], ◌∷◌, ◌++◌, length, get_or, take, refl, sym, ap, subst}
use Rattle.std.specs.List.{flat_map}
use Rattle.std.proofs.lemmas.List.{take_more, take_all, flat_map_more}
use Rattle.sg_visit.specs.Leaves.{Leaf, Leaves}
use Rattle.sg_visit.specs.Visits.{Visits}

module _ {S : Type 0} (step : S → Leaf → S → Type 0) where
  pub visits-one : (leaf : Leaf) (zs : Leaves) (a b : S) → step a leaf b → leaf ∷ [] ≡ zs → Visits step zs a b
  visits-one leaf zs a b h whole = subst (λ ls. Visits step ls a b) whole (b, (h, refl))

  visits-append : (xs ys : Leaves) (a b c : S) → Visits step xs a b → Visits step ys b c → Visits step (xs ++ ys) a c
  visits-append [] ys a b c h k = subst (λ s. Visits step ys s c) h k
  visits-append (x ∷ xs) ys a b c h k = (h.0, (h.1.0, visits-append xs ys h.0 b c h.1.1 k))

  -- two parts, one behind the other
  pub visits-join : (xs ys zs : Leaves) (a b c : S) → Visits step xs a b → Visits step ys b c → xs ++ ys ≡ zs → Visits step zs a c
  visits-join xs ys zs a b c h k whole = subst (λ ls. Visits step ls a c) whole (visits-append xs ys a b c h k)

  pub visits-same : (xs zs : Leaves) (a b : S) → Visits step xs a b → xs ≡ zs → Visits step zs a b
  visits-same xs zs a b h whole = subst (λ ls. Visits step ls a b) whole h

  -- one more of several things that each have some
  pub visits-more : {X : Type 0} (leaves : X → Leaves) (xs : List X) (i : ℕ) (x : X) (a b c : S) → i < length xs → x ≡ get_or xs i x
      → Visits step (flat_map leaves (take i xs)) a b → Visits step (leaves x) b c → Visits step (flat_map leaves (take (i + 1) xs)) a c
  visits-more leaves xs i x a b c within item before here =
      visits-join (flat_map leaves (take i xs)) (leaves x) (flat_map leaves (take (i + 1) xs)) a b c before here
      (ap (λ y. flat_map leaves (take i xs) ++ leaves y) item ∙ flat_map_more leaves [] (take i xs) (get_or xs i x) ∙ ap (flat_map leaves) (sym (take_more xs i x within)))

  pub visits-all : {X : Type 0} (leaves : X → Leaves) (xs : List X) (i : ℕ) (a b : S) → length xs ≤ i → Visits step (flat_map leaves (take i xs)) a b → Visits step (flat_map leaves xs) a b
  visits-all leaves xs i a b past before = subst (λ ys. Visits step (flat_map leaves ys) a b) (take_all i xs past) before

-- what each leaf brings, joined
pub visits-joined : {S A : Type 0} (parts : Leaf → List A) (R : List A → S → S → Type 0)
    → ((a : S) → R [] a a) → ((xs ys : List A) (a b c : S) → R xs a b → R ys b c → R (xs ++ ys) a c)
    → (leaves : Leaves) (a b : S) → Visits (λ old leaf new. R (parts leaf) old new) leaves a b → R (flat_map parts leaves) a b
visits-joined parts R none join [] a b h = subst (λ s. R [] a s) (sym h) (none a)
visits-joined parts R none join (leaf ∷ leaves) a b h = join (parts leaf) (flat_map parts leaves) a h.0 b h.1.0 (visits-joined parts R none join leaves h.0 b h.1.1)

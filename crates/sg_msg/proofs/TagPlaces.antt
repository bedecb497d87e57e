-- Where a tag is taken out.
use Rattle.std.proofs.Common.{◌≡◌, ℕ, suc, ◌+◌, ◌<◌, Bool, true, false, List, [], ◌∷◌, length, remove, Option, Some, None, position, bytes_eq, refl, ap, subst, arith}
use Rattle.std.specs.List.{position_from}
use Rattle.std.proofs.lemmas.Iterator.Adapters.{position_from-zero}
use Rattle.sg_msg.specs.Message.{without_tag}

-- the tag stands at this place, and without it the others are left
pub record IsTakenAt (tag : List ℕ) (tags : List (List ℕ)) (place : ℕ) : Type 0 where
  pub in_range : place < length tags
  pub rest : without_tag tag tags ≡ remove tags place

-- what a place counted from i says, or that there is none
abbrev pub Located : ℕ → List ℕ → List (List ℕ) → Option ℕ → Type 0
Located i tag tags None = without_tag tag tags ≡ tags
Located i tag tags (Some k) = (j : ℕ) × ((k ≡ i + j) × IsTakenAt tag tags j)

module _ (tag : List ℕ) where
  later : (i : ℕ) (first : List ℕ) (tags : List (List ℕ)) (o : Option ℕ) → bytes_eq first tag ≡ false → Located (i + 1) tag tags o → Located i tag (first ∷ tags) o
  later i first tags None is h = rw is (ap (λ (rest : List (List ℕ)). first ∷ rest) h)
  later i first tags (Some k) is h = (suc h.0, (omega (arith, h.1.0), record { in_range = omega (arith, h.1.1.in_range); rest = rw is (ap (λ (rest : List (List ℕ)). first ∷ rest) h.1.1.rest) }))

  located_from : (i : ℕ) (tags : List (List ℕ)) → Located i tag tags (position_from (λ set. bytes_eq set tag) i tags)
  located_from i [] = refl
  located_from i (first ∷ tags) = by (located_from (i + 1) tags) (bytes_eq first tag) refl
    where
      by : Located (i + 1) tag tags (position_from (λ set. bytes_eq set tag) (i + 1) tags) → (b : Bool) → bytes_eq first tag ≡ b → Located i tag (first ∷ tags) (position_from (λ set. bytes_eq set tag) i (first ∷ tags))
      by rest true is = rw is (0, (omega arith, record { in_range = omega arith; rest = rw is refl }))
      by rest false is = rw is (later i first tags _ is rest)

  located : (tags : List (List ℕ)) → Located 0 tag tags (position (λ set. bytes_eq set tag) tags)
  located tags = rw (position_from-zero (λ set. bytes_eq set tag) tags) (located_from 0 tags)

  pub taken-at : (tags : List (List ℕ)) (place : ℕ) → position (λ set. bytes_eq set tag) tags ≡ Some place → IsTakenAt tag tags place
  taken-at tags place e = let h = subst (Located 0 tag tags) e (located tags) in let same : h.0 ≡ place = omega (arith, h.1.0) in subst (IsTakenAt tag tags) same h.1.1

  pub not_taken : (tags : List (List ℕ)) → position (λ set. bytes_eq set tag) tags ≡ None → without_tag tag tags ≡ tags
  not_taken tags e = subst (Located 0 tag tags) e (located tags)

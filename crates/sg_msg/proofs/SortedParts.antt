-- Sorting pairs by their places sorts what they say.
use Rattle.std.proofs.Common.{◌≡◌, ◌<◌, ℕ, ◌+◌, Bool, true, false, ◌⊎◌, inl, inr, List, [], ◌∷◌, length, is_lt, true≢false, refl, sym, ap, subst, ◌∙◌, arith}
use Rattle.std.specs.List.{filter}
use Rattle.std.specs.List.Sorted.{ties, IsSortedBy, IsStableBy}
use Rattle.std.proofs.lemmas.List.{length-map, get_or-map}
use Rattle.std.specs.declared.cmp.Ordering.{Ordering}
use Rattle.std.specs.declared.cmp.Ordering.TheVariants.{Less, Equal, Greater}
use Rattle.sg_msg.specs.Message.{NameValue, byte_order}
use Rattle.sg_msg.specs.Sorting.{is_before, IsInOrder, KeepsEachName}
use Rattle.sg_msg.specs.Parts.{name_in, pair_in, pairs_in}
use Rattle.sg_msg.specs.declared.pair.Name.TheVariants.{Host}
use Rattle.sg_msg.specs.declared.pair.Text.TheVariants.{Own}
use Rattle.sg_msg.specs.declared.pair.Pair.{Pair}
use Rattle.sg_msg.proofs.ByteOrder.{same-from_equal, less-back}

module _ (item : List ℕ) (own : List (List ℕ)) where
  abbrev says : Pair → NameValue
  says = pair_in item own

  abbrev pub before_in : Pair → Pair → Bool
  before_in a b = is_lt (byte_order (name_in own a.name) (name_in own b.name))

  some : Pair
  some = record { name = Host; value = Own 0 }

  pub sorted-in : (pairs : List Pair) → IsSortedBy before_in pairs → IsInOrder (pairs_in item own pairs)
  sorted-in pairs sorted k d low below =
      let within : k + 1 < length pairs = omega (arith, length-map pairs says, below) in
      let first = get_or-map says pairs k some d (omega (arith, within)) in
      let second = get_or-map says pairs (k + 1) some d within in
      rw (first, second) (sorted k some low within)

  -- a pair of this name, or none
  tie-name : (x y : NameValue) → ties is_before x y ≡ true → y.name ≡ x.name
  tie-name x y e = by (byte_order x.name y.name) refl
    where
      by : (o : Ordering) → byte_order x.name y.name ≡ o → y.name ≡ x.name
      by Equal is = sym (same-from_equal x.name y.name is)
      by Less is = absurd (true≢false (sym e ∙ rw is refl))
      by Greater is = absurd (true≢false (sym e ∙ rw (is, less-back x.name y.name is) refl))

  found-or-none : (x : NameValue) (pairs : List Pair) → ((pair : Pair) × (name_in own pair.name ≡ x.name)) ⊎ (filter (ties is_before x) (pairs_in item own pairs) ≡ [])
  found-or-none x [] = inr refl
  found-or-none x (pair ∷ pairs) = by (ties is_before x (says pair)) refl (found-or-none x pairs)
    where
      by : (b : Bool) → ties is_before x (says pair) ≡ b → ((p : Pair) × (name_in own p.name ≡ x.name)) ⊎ (filter (ties is_before x) (pairs_in item own pairs) ≡ []) → ((p : Pair) × (name_in own p.name ≡ x.name)) ⊎ (filter (ties is_before x) (pairs_in item own (pair ∷ pairs)) ≡ [])
      by true is rest = inl (pair, tie-name x (says pair) is)
      by false is (inl found) = inl found
      by false is (inr none) = inr (rw is none)

  filter-says : (pair : Pair) (value : List ℕ) (pairs : List Pair) → filter (ties is_before (record { name = name_in own pair.name; value = value })) (pairs_in item own pairs) ≡ pairs_in item own (filter (ties before_in pair) pairs)
  filter-says pair value [] = refl
  filter-says pair value (first ∷ pairs) = by (filter-says pair value pairs) (ties before_in pair first) refl
    where
      by : filter (ties is_before (record { name = name_in own pair.name; value = value })) (pairs_in item own pairs) ≡ pairs_in item own (filter (ties before_in pair) pairs) → (b : Bool) → ties before_in pair first ≡ b → filter (ties is_before (record { name = name_in own pair.name; value = value })) (pairs_in item own (first ∷ pairs)) ≡ pairs_in item own (filter (ties before_in pair) (first ∷ pairs))
      by rest true is = rw is (ap (λ (ps : List NameValue). says first ∷ ps) rest)
      by rest false is = rw is rest

  pub stable-in : (old new : List Pair) → IsStableBy before_in old new → KeepsEachName (pairs_in item own old) (pairs_in item own new)
  stable-in old new stable x = by (found-or-none x old) (found-or-none x new)
    where
      at : (pair : Pair) → name_in own pair.name ≡ x.name → filter (ties is_before x) (pairs_in item own new) ≡ filter (ties is_before x) (pairs_in item own old)
      at pair named =
          subst (λ (n : List ℕ). filter (ties is_before (record { name = n; value = x.value })) (pairs_in item own new) ≡ filter (ties is_before (record { name = n; value = x.value })) (pairs_in item own old)) named
          (filter-says pair x.value new ∙ ap (pairs_in item own) (stable pair) ∙ sym (filter-says pair x.value old))

      by : ((p : Pair) × (name_in own p.name ≡ x.name)) ⊎ (filter (ties is_before x) (pairs_in item own old) ≡ []) → ((p : Pair) × (name_in own p.name ≡ x.name)) ⊎ (filter (ties is_before x) (pairs_in item own new) ≡ []) → filter (ties is_before x) (pairs_in item own new) ≡ filter (ties is_before x) (pairs_in item own old)
      by (inl found) none = at found.0 found.1
      by (inr none) (inl found) = at found.0 found.1
      by (inr none) (inr also) = also ∙ sym none

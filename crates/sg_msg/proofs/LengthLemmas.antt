-- Lengths, one item on.
use Rattle.std.proofs.Common.{◌≡◌, ℕ, ◌+◌, ◌*◌, ◌≤◌, List, [], ◌∷◌, length, drop, Some, None, refl, arith, slice_get}
use Rattle.sg_list.proofs.ListLemmas.{drop-get, slice_get-all}
use Rattle.sg_msg.specs.Message.{NameValue}
use Rattle.sg_msg.specs.Length.{tag_lengths, pair_lengths}

pub tag_lengths-step : (tags : List (List ℕ)) (k : ℕ) (tag : List ℕ) → Some tag ≡ slice_get tags k → tag_lengths (drop k tags) ≡ 4 + length tag + tag_lengths (drop (k + 1) tags)
tag_lengths-step tags k tag e = rw (drop-get tags k tag (let r : slice_get tags k ≡ Some tag = cc in r)) refl

pub tag_lengths-end : (tags : List (List ℕ)) (k : ℕ) → None ≡ slice_get tags k → tag_lengths (drop k tags) ≡ 0
tag_lengths-end tags k e = rw (slice_get-all tags k (let r : slice_get tags k ≡ None = cc in r)) refl

pub pair_lengths-step : (pairs : List NameValue) (k : ℕ) (name value : List ℕ) → Some (record { name = name; value = value }) ≡ slice_get pairs k
    → pair_lengths (drop k pairs) ≡ 8 + length name + length value + pair_lengths (drop (k + 1) pairs)
pair_lengths-step pairs k name value e =
    let pair : NameValue = record { name = name; value = value } in
    let found : slice_get pairs k ≡ Some pair = cc in
    rw (drop-get pairs k pair found) refl

pub pair_lengths-end : (pairs : List NameValue) (k : ℕ) → None ≡ slice_get pairs k → pair_lengths (drop k pairs) ≡ 0
pair_lengths-end pairs k e = rw (slice_get-all pairs k (let r : slice_get pairs k ≡ None = cc in r)) refl

-- each item takes some
pub tag_count-bound : (tags : List (List ℕ)) → 4 * length tags ≤ tag_lengths tags
tag_count-bound [] = omega arith
tag_count-bound (tag ∷ tags) = omega (arith, tag_count-bound tags)

pub pair_count-bound : (pairs : List NameValue) → 8 * length pairs ≤ pair_lengths pairs
pair_count-bound [] = omega arith
pair_count-bound (pair ∷ pairs) = omega (arith, pair_count-bound pairs)

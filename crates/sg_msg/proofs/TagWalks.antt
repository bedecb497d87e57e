-- Walks over the tags of a message, one tag on.
use Rattle.std.proofs.Common.{Bool, List, bytes_eq, false, refl, true, ℕ, ◌≡◌, ◌∷◌, ◌++◌, [], ◌∙◌, Some, ap, drop, slice_get, subst, sym, take, ◌+◌, None, arith, length, suc, zero, ◌≤◌}
use Rattle.sg_msg.specs.Message.{has_tag, AreDistinct, with_tag}
use Rattle.sg_msg.proofs.ByteOrder.{test-back}
use Rattle.sg_list.proofs.ListLemmas.{drop-get}
use Rattle.std.proofs.lemmas.Option.{get_or_from_slice_get, slice_get_within}
use Rattle.std.proofs.lemmas.List.{take-append-drop, take_more, take_all}

-- a tag that isn't among these is none of them
pub is-other : (first tag : List ℕ) (after others : List (List ℕ)) → has_tag first (others ++ tag ∷ after) ≡ false → bytes_eq tag first ≡ false
is-other first tag after [] none = by (bytes_eq tag first) refl
  where
    by : (b : Bool) → bytes_eq tag first ≡ b → bytes_eq tag first ≡ false
    by false is = is
    by true is = let wrong : true ≡ false = rw is at none in absurd (cc)
is-other first tag after (next ∷ others) none = by (λ rest. is-other first tag after others rest) (bytes_eq next first) refl
  where
    by : (has_tag first (others ++ tag ∷ after) ≡ false → bytes_eq tag first ≡ false) → (b : Bool) → bytes_eq next first ≡ b → bytes_eq tag first ≡ false
    by further false is = further (rw is at none)
    by further true is = let wrong : true ≡ false = rw is at none in absurd (cc)

-- a tag isn't among those before it
pub fresh : (before : List (List ℕ)) (tag : List ℕ) (after : List (List ℕ)) → AreDistinct (before ++ tag ∷ after) → has_tag tag before ≡ false
fresh [] tag after apart = refl
fresh (first ∷ before) tag after apart =
    let other : bytes_eq first tag ≡ false = test-back first tag ∙ is-other first tag after before apart.0 in
    rw (other, fresh before tag after apart.1) refl

pub tag-behind : (before : List (List ℕ)) (tag : List ℕ) (after : List (List ℕ)) → AreDistinct (before ++ tag ∷ after) → with_tag tag before ≡ before ++ tag ∷ []
tag-behind before tag after apart = rw (fresh before tag after apart) refl

-- one tag on
pub tag-next : (tags : List (List ℕ)) (place : ℕ) (tag : List ℕ) → AreDistinct tags → slice_get tags place ≡ Some tag → with_tag tag (take place tags) ≡ take (place + 1) tags
tag-next tags place tag apart e =
    let whole : take place tags ++ tag ∷ drop (place + 1) tags ≡ tags =
    ap (λ (ts : List (List ℕ)). take place tags ++ ts) (sym (drop-get tags place tag e)) ∙ take-append-drop place tags in
    let more : take (place + 1) tags ≡ take place tags ++ tag ∷ [] =
    take_more tags place tag (slice_get_within tags place tag e) ∙ ap (λ (t : List ℕ). take place tags ++ t ∷ []) (get_or_from_slice_get tags place tag tag e) in
    tag-behind (take place tags) tag (drop (place + 1) tags) (subst (λ (ts : List (List ℕ)). AreDistinct ts) (sym whole) apart) ∙ sym more

pub end-at : (tags : List (List ℕ)) (place : ℕ) → slice_get tags place ≡ None → length tags ≤ place
end-at [] place e = omega arith
end-at (first ∷ tags) zero e = absurd (cc)
end-at (first ∷ tags) (suc place) e = omega (arith, end-at tags place e)

pub tags-end : (tags : List (List ℕ)) (place : ℕ) → slice_get tags place ≡ None → take place tags ≡ tags
tags-end tags place e = take_all place tags (end-at tags place e)

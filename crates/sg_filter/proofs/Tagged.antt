-- Tags from a place on.
use Rattle.std.proofs.Common.{◌≡◌, ℕ, ◌+◌, Bool, true, false, List, drop, None, Some, bytes_eq, refl, sym, ap, ◌∙◌}
use Rattle.std.specs.Prelude.{slice_get, ◌||◌}
use Rattle.sg_list.proofs.ListLemmas.{drop-get, slice_get-all}
use Rattle.sg_msg.specs.Message.{has_tag}

module _ (tags : List (List ℕ)) (place : ℕ) (tag : List ℕ) where
  step : (set : List ℕ) → Some set ≡ slice_get tags place → has_tag tag (drop place tags) ≡ (bytes_eq set tag || has_tag tag (drop (place + 1) tags))
  step set e = rw (drop-get tags place set (sym e)) refl

  pub tag-here : (set : List ℕ) → Some set ≡ slice_get tags place → bytes_eq set tag ≡ true → has_tag tag (drop place tags) ≡ true
  tag-here set e is = step set e ∙ ap (λ (b : Bool). b || has_tag tag (drop (place + 1) tags)) is

  pub tag-past : (set : List ℕ) → Some set ≡ slice_get tags place → bytes_eq set tag ≡ false → has_tag tag (drop place tags) ≡ has_tag tag (drop (place + 1) tags)
  tag-past set e is = step set e ∙ ap (λ (b : Bool). b || has_tag tag (drop (place + 1) tags)) is

  pub tag-end : None ≡ slice_get tags place → has_tag tag (drop place tags) ≡ false
  tag-end e = rw (slice_get-all tags place (sym e)) refl

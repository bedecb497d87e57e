-- The filters that terms name, one term after another.
use Rattle.std.proofs.Common.{◌≡◌, ◌∙◌, ℕ, ◌+◌, ◌<◌, List, [], ◌∷◌, ◌++◌, length, get_or, take, Option, None, Some, refl, sym, ap}
use Rattle.std.specs.List.{filter_map, cons_option}
use Rattle.std.specs.Option.{option_to_list}
use Rattle.std.proofs.lemmas.List.{take_more}
use Rattle.std.proofs.lemmas.List.Elements.{filter_map-append}
use Rattle.sg_names.specs.declared.reference.Term.{Term}
use Rattle.sg_names.specs.Filters.{filter_place, places_in}

one-place : (place : Option ℕ) → cons_option place [] ≡ option_to_list place
one-place None = refl
one-place (Some place) = refl

pub places-more : (terms : List Term) (i : ℕ) (d : Term) (places new : List ℕ) (place : Option ℕ) → i < length terms → places ≡ places_in (take i terms) → place ≡ filter_place (get_or terms i d) → new ≡ places ++ option_to_list place → new ≡ places_in (take (i + 1) terms)
places-more terms i d places new place within before here is =
    let x : Term = get_or terms i d in
    is
    ∙ (λ k. before k ++ option_to_list (here k))
    ∙ ap (λ p. places_in (take i terms) ++ p) (sym (one-place (filter_place x)))
    ∙ sym (filter_map-append filter_place (take i terms) (x ∷ []))
    ∙ ap places_in (sym (take_more terms i d within))

-- The places of names.
use Rattle.std.proofs.Common.{◌≡◌, ℕ, ◌+◌, ◌<◌, ◌≤◌, List, [], ◌∷◌, length, drop, get_or, true, Some, None, refl, ap, ◌∙◌, drop-cons, add-one}
use Rattle.std.proofs.lemmas.List.{drop_all}
use Rattle.std.specs.Str.{bytes_eq}
use Rattle.sg_template.specs.Names.{facility_names, severity_names}
use Rattle.sg_options.specs.Names.{place_from}

drop-step : (names : List (List ℕ)) (at : ℕ) → at < length names → drop at names ≡ get_or names at [] ∷ drop (at + 1) names
drop-step names at h = rw add-one (drop-cons names at [] h)

pub place_found : (names : List (List ℕ)) (at : ℕ) (text : List ℕ) → at < length names → bytes_eq (get_or names at []) text ≡ true → place_from at (drop at names) text ≡ Some at
place_found names at text h e = ap (λ ns. place_from at ns text) (drop-step names at h) ∙ rw e refl

pub place_none : (names : List (List ℕ)) (at : ℕ) (text : List ℕ) → length names ≤ at → place_from at (drop at names) text ≡ None
place_none names at text h = ap (λ ns. place_from at ns text) (drop_all at names h)

pub facilities : length facility_names ≡ 24
unfolding facility_names
facilities = refl

pub severities : length severity_names ≡ 8
unfolding severity_names
severities = refl

-- Names by which no file is asked for.
use Rattle.std.proofs.Common.{◌≡◌, ℕ, Bool, true, false, ◌||◌, not, List, ap, sym, ◌∙◌, IsUtf8}
use Rattle.std.proofs.lemmas.Bool.{false_from_ne_true}
use Rattle.std.proofs.lemmas.Str.{IsUtf8-from_is_utf8, is_utf8-from_IsUtf8}
use Rattle.std.specs.Str.{is_utf8}
use Rattle.sg_expand.specs.Expansion.{has_wildcard, names_no_file}

pub named : (name : List ℕ) → has_wildcard name ≡ false → IsUtf8 name → false ≡ names_no_file name
named name plain text = sym (ap (λ (b : Bool). b || not (is_utf8 name)) plain ∙ ap not (is_utf8-from_IsUtf8 name text))

pub unnamed : (name : List ℕ) → has_wildcard name ≡ false → (IsUtf8 name → ⊥) → true ≡ names_no_file name
unnamed name plain no_text = sym (ap (λ (b : Bool). b || not (is_utf8 name)) plain ∙ ap not (false_from_ne_true _ (λ h. no_text (IsUtf8-from_is_utf8 name h))))

-- Walks over the pairs of a message, one pair on.
use Rattle.std.proofs.Common.{◌≡◌, ℕ, ◌+◌, if◌then◌else◌, List, [], drop, Some, refl, slice_get}
use Rattle.sg_msg.specs.Message.{Content, NameValue}
use Rattle.sg_macro.specs.declared.part.TemplatePart.{TemplatePart}
use Rattle.sg_rewrite.specs.Values.{without_value}
use Rattle.sg_rewrite.specs.Rewritten.{is_picked, with_text, set_each, unset_each}
use Rattle.sg_msg.proofs.PairWalks.{pair-next}

pub set-step : (globs : List (List ℕ)) (parts : List TemplatePart) (pairs : List NameValue) (k : ℕ) (name value : List ℕ) (content : Content) →
    Some (record { name = name; value = value }) ≡ slice_get pairs k →
    set_each globs parts (drop k pairs) content
    ≡ set_each globs parts (drop (k + 1) pairs) (if is_picked globs name then with_text parts name content else content)
set-step globs parts pairs k name value content e = rw (pair-next pairs k name value e) refl

pub unset-step : (globs : List (List ℕ)) (pairs : List NameValue) (k : ℕ) (name value : List ℕ) (content : Content) →
    Some (record { name = name; value = value }) ≡ slice_get pairs k →
    unset_each globs (drop k pairs) content
    ≡ (if is_picked globs name then without_value name (unset_each globs (drop (k + 1) pairs) content) else unset_each globs (drop (k + 1) pairs) content)
unset-step globs pairs k name value content e = rw (pair-next pairs k name value e) refl

use Rattle.std.proofs.Common.{◌≡◌, ◌+◌, ◌≤◌, ◌<◌, ◌-◌, ◌∙◌, refl, sym, ap, arith, inl, inr, ◌⊎◌, nat_lt, Bool, true, false, length-drop, ℕ, zero, suc, List, [], ◌∷◌, take, drop, length, slice_get, Option, None, Some, min, nat_le, if◌then◌else◌}
use Rattle.std.proofs.lemmas.Grind.{common_steps}
use Rattle.std.proofs.lemmas.List.{length-take}
use Rattle.std.proofs.lemmas.Option.{slice_get_past}
use Rattle.sg_hint.specs.Text.{hidden_before, IsAbove}

dropped : (before at : ℕ) (line : List ℕ) → slice_get (drop before line) at ≡ slice_get line (before + at)
dropped zero at line = ap (slice_get line) (omega arith)
dropped (suc before) at [] = slice_get_past [] at (omega arith) ∙ sym (slice_get_past [] (suc before + at) (omega arith))
dropped (suc before) at (b ∷ line) =
    let next : suc (before + at) ≡ suc before + at = omega arith in
    dropped before at line ∙ ap (slice_get (b ∷ line)) next

taken : (count at : ℕ) (line : List ℕ) → at < count → slice_get (take count line) at ≡ slice_get line at
taken zero at line h = absurd (omega (arith, h))
taken (suc count) at [] h = refl
taken (suc count) zero (b ∷ line) h = refl
taken (suc count) (suc at) (b ∷ line) h = taken count at line (omega (arith, h))

pub hidden-before-token : (total at : ℕ) → hidden_before total at ≤ at
hidden-before-token total at = grind (arith, common_steps)

pub token-within : (total at : ℕ) → at < total → at - hidden_before total at < 120
token-within total at h = grind (arith, common_steps)

past-shown : (line : List ℕ) (before at : ℕ) → before ≤ at → length line ≤ at
    → slice_get (take 120 (drop before line)) (at - before) ≡ None
past-shown line before at le past =
    let some = length-take 120 (drop before line) in
    let rest = length-drop before line in
    slice_get_past (take 120 (drop before line)) (at - before) (omega (arith, some, rest, le, past))

split-by : (total at : ℕ) (less : Bool) → nat_lt at total ≡ less → (at < total) ⊎ (total ≤ at)
split-by total at true e = inl (grind (arith, common_steps, e))
split-by total at false e = inr (grind (arith, common_steps, e))

shown-there : (line : List ℕ) (before at : ℕ) → before ≤ at → (at < length line → at - before < 120)
    → (at < length line) ⊎ (length line ≤ at)
    → slice_get (take 120 (drop before line)) (at - before) ≡ slice_get line at
shown-there line before at le within (inl inside) =
    taken 120 (at - before) (drop before line) (within inside)
    ∙ (dropped before (at - before) line ∙ ap (slice_get line) (omega (arith, le)))
shown-there line before at le within (inr past) =
    past-shown line before at le past ∙ sym (slice_get_past line at past)

-- the byte above the mark
pub above : (line : List ℕ) (at : ℕ) → IsAbove line at
above line at = shown-there line (hidden_before (length line) at) at (hidden-before-token (length line) at)
    (token-within (length line) at) (split-by (length line) at (nat_lt at (length line)) refl)

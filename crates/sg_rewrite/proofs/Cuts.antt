-- Texts that are cut where they are too long.
use Rattle.std.proofs.Common.{◌≡◌, ℕ, ◌+◌, ◌≤◌, List, [], ◌∷◌, ◌++◌, take, drop, length, sym, ap, ◌∙◌, append_assoc, append-nil, length-append, arith}
use Rattle.std.proofs.lemmas.List.{take_all, take_at, take-append-drop, length-take-le, take-take}
use Rattle.sg_pattern.specs.Pattern.{InOrder}
use Rattle.sg_rewrite.specs.Values.{cut}
use Rattle.sg_pattern.proofs.Orders.{order_end}

-- Bytes that fit are put whole. Of others as many as make it full.
pub cut_full : (old bytes rest : List ℕ) (room : ℕ) → length old + room ≡ 1048576 → room ≤ length bytes →
    cut ((old ++ take room bytes) ++ rest) ≡ cut (old ++ (bytes ++ rest))
unfolding cut
cut_full old bytes rest room full most =
    let long : length (old ++ take room bytes) ≡ 1048576 = length-append old (take room bytes) ∙ ap (λ (n : ℕ). length old + n) (length-take-le room bytes most) ∙ full in
    let split : old ++ (bytes ++ rest) ≡ (old ++ take room bytes) ++ (drop room bytes ++ rest) =
    ap (λ (b : List ℕ). old ++ (b ++ rest)) (sym (take-append-drop room bytes))
    ∙ ap (λ (b : List ℕ). old ++ b) (append_assoc (take room bytes) (drop room bytes) rest)
    ∙ sym (append_assoc old (take room bytes) (drop room bytes ++ rest)) in
    take_at (old ++ take room bytes) rest 1048576 long
    ∙ sym (take_at (old ++ take room bytes) (drop room bytes ++ rest) 1048576 long)
    ∙ sym (ap (λ (b : List ℕ). take 1048576 b) split)

pub cut_short : (bytes : List ℕ) → length bytes ≤ 1048576 → cut bytes ≡ bytes
unfolding cut
cut_short bytes short = take_all 1048576 bytes short

pub cut_cut : (bytes : List ℕ) → cut (cut bytes) ≡ cut bytes
unfolding cut
cut_cut bytes = take-take 1048576 1048576 bytes (omega arith)

pub ruleset cut_append = (cut_full, cut_short)

-- the value, once nothing more is put behind it
pub cut_behind : (old bytes new : List ℕ) → ((rest : List ℕ) → cut (new ++ rest) ≡ cut (old ++ (bytes ++ rest))) → length new ≤ 1048576 → new ≡ cut (old ++ bytes)
cut_behind old bytes new behind short =
    sym (cut_short new short)
    ∙ ap (λ (b : List ℕ). cut b) (sym (append-nil new))
    ∙ behind []
    ∙ ap (λ (b : List ℕ). cut (old ++ b)) (append-nil bytes)

-- a span lies within the bytes
pub span_within : (end at : ℕ) (s : ℕ × ℕ) (ss : List (ℕ × ℕ)) → InOrder at end (s ∷ ss) → s.0 ≤ end
span_within end at s ss h = omega (arith, h.1, order_end s.1 end ss h.2)

-- LF and NUL bytes at the end of a text.
use Rattle.std.proofs.Common.{◌≡◌, ℕ, suc, ◌+◌, ◌-◌, Bool, true, false, cond, List, [], ◌∷◌, ◌++◌, length, take, reverse, refl, ap, ◌∙◌, arith, append_assoc, length-append}
use Rattle.std.specs.List.{prefix_len, suffix_len}
use Rattle.std.proofs.Math.Seq.{take-append-add}
use Rattle.std.proofs.lemmas.List.{reverse-append}
use Rattle.std.proofs.lemmas.List.Sums.{suffix_len-le-length}
use Rattle.sg_r5424.specs.Is5424.{is_end_byte, without_end}

goes_on : (test : Bool) (n m : ℕ) → n ≡ m → cond test (1 + n) 0 ≡ cond test (1 + m) 0
goes_on true n m e = ap (λ (k : ℕ). 1 + k) e
goes_on false n m e = refl

-- a byte that fails ends a run
stopped : (passes : ℕ → Bool) (xs : List ℕ) (b : ℕ) (ys : List ℕ) → passes b ≡ false → prefix_len passes (xs ++ b ∷ ys) ≡ prefix_len passes xs
stopped passes [] b ys e = rw e refl
stopped passes (x ∷ xs) b ys e = goes_on (passes x) (prefix_len passes (xs ++ b ∷ ys)) (prefix_len passes xs) (stopped passes xs b ys e)

-- what stands in front of another byte is kept
pub kept_front : (front text : List ℕ) (b : ℕ) → is_end_byte b ≡ false → without_end (front ++ b ∷ text) ≡ front ++ b ∷ without_end text
kept_front front text b e =
    let whole : List ℕ = front ++ b ∷ text in
    let k : ℕ = suffix_len is_end_byte text in
    let turned : reverse whole ≡ reverse text ++ b ∷ reverse front =
    reverse-append front (b ∷ text) ∙ (ap (λ (t : List ℕ). t ++ reverse front) (reverse-append (b ∷ []) text) ∙ append_assoc (reverse text) (b ∷ []) (reverse front)) in
    let same : suffix_len is_end_byte whole ≡ k = ap (prefix_len is_end_byte) turned ∙ stopped is_end_byte (reverse text) b (reverse front) e in
    let size : length whole - k ≡ length front + suc (length text - k) = omega (arith, length-append front (b ∷ text), suffix_len-le-length is_end_byte text) in
    ap (λ (n : ℕ). take (length whole - n) whole) same ∙ (ap (λ (n : ℕ). take n whole) size ∙ take-append-add front (b ∷ text) (suc (length text - k)))

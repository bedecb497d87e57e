-- Frames as parts of their bytes.
use Rattle.std.proofs.Common.{◌≡◌, ◌≤◌, ◌<◌, ℕ, zero, suc, ◌+◌, get_or, List, [], ◌∷◌, ◌++◌, length, take, drop, refl, sym, ap, ◌∙◌, arith, length-append}
use Rattle.std.specs.Prelude.{map}
use Rattle.std.proofs.lemmas.List.{take_at, drop_at, drop-drop}
use Rattle.sg_device.specs.Frames.{joined, total}

-- a frame ends within all the bytes
pub frame-fits : (frames : List (List ℕ)) (i : ℕ) → i < length frames → total (take i (map length frames)) + get_or (map length frames) i 0 ≤ length (joined frames)
frame-fits [] i lt = omega (arith, lt)
frame-fits (frame ∷ frames) zero lt = omega (arith, length-append frame (joined frames))
frame-fits (frame ∷ frames) (suc i) lt = omega (arith, length-append frame (joined frames), frame-fits frames i (omega (arith, lt)))

-- and it stands there
pub frame-there : (frames : List (List ℕ)) (i : ℕ) → i < length frames → take (get_or (map length frames) i 0) (drop (total (take i (map length frames))) (joined frames)) ≡ get_or frames i []
frame-there [] i lt = grind (arith, lt)
frame-there (frame ∷ frames) zero lt = take_at frame (joined frames) (length frame) refl
frame-there (frame ∷ frames) (suc i) lt =
    let rest : drop (length frame) (frame ++ joined frames) ≡ joined frames = drop_at frame (joined frames) (length frame) refl in
    let behind : drop (length frame + total (take i (map length frames))) (frame ++ joined frames) ≡ drop (total (take i (map length frames))) (joined frames) =
    sym (drop-drop (total (take i (map length frames))) (length frame) (frame ++ joined frames)) ∙ ap (λ (l : List ℕ). drop (total (take i (map length frames))) l) rest in
    ap (λ (l : List ℕ). take (get_or (map length frames) i 0) l) behind ∙ frame-there frames i (omega (arith, lt))

-- the sizes up to and with this one
pub total-more : (sizes : List ℕ) (i : ℕ) → i < length sizes → total (take (i + 1) sizes) ≡ total (take i sizes) + get_or sizes i 0
total-more [] i lt = grind (arith, lt)
total-more (size ∷ sizes) zero lt = omega arith
total-more (size ∷ sizes) (suc i) lt = let next : suc i + 1 ≡ suc (i + 1) = omega arith in rw next (omega (arith, total-more sizes i (omega (arith, lt))))

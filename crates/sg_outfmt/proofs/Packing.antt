-- What is packed is unpacked again.
use Rattle.std.proofs.Common.{◌≡◌, ℕ, ◌+◌, ◌-◌, ◌*◌, ◌/◌, ◌%◌, ◌<◌, ◌≤◌, List, [], ◌∷◌, ◌++◌, length, take, drop, length-append, length-take, length-drop, arith, ap, ◌∙◌}
use Rattle.std.proofs.lemmas.Bool.{ne_eqb, le-ltb}
use Rattle.std.proofs.lemmas.Nat.{div-add-mod'}
use Rattle.std.proofs.Math.Seq.{take-append_seam, drop-append_seam}
use Rattle.sg_outfmt.specs.Packed.{packed, cut, unpacked}

cut-keeps : (n : ℕ) (frame path text : List ℕ) → n ≡ length path → 0 < length path → cut n frame (path ++ text) ≡ (path, text)
cut-keeps n frame path text e some =
    let all : length (path ++ text) ≡ length path + length text = length-append path text in
    let nonzero = ne_eqb (length path) 0 (λ (z : length path ≡ 0). omega (arith, z)) in
    let whole = le-ltb (length (path ++ text)) (length path) (omega (arith, all)) in
    ap (λ (k : ℕ). cut k frame (path ++ text)) e
    ∙ rw (nonzero, whole) (ap (λ (p : List ℕ). (p, drop (length path) (path ++ text))) (take-append_seam path text) ∙ ap (λ (t : List ℕ). (path, t)) (drop-append_seam path text))

pub unpacked-packed : (path text : List ℕ) → 0 < length path → unpacked (packed path text) ≡ (path, text)
unpacked-packed path text some =
    cut-keeps (length path / 256 * 256 + length path % 256) (packed path text) path text (div-add-mod' (length path) 256) some

-- how many bytes stand behind a front, once two and a path were appended
pub behind_fits : (front mid whole path : List ℕ) (before : ℕ) → mid ≡ front ++ 0 ∷ 0 ∷ [] → whole ≡ mid ++ path → before ≡ length front → length path ≤ 4095
    → length (take (length whole - before) (drop before whole)) < 65538
behind_fits front mid whole path before first second e most =
    let mid_long : length mid ≡ length front + 2 = ap length first ∙ length-append front (0 ∷ 0 ∷ []) in
    let long : length whole ≡ length mid + length path = ap length second ∙ length-append mid path in
    omega (arith, mid_long, long, e, most, length-drop before whole, length-take (length whole - before) (drop before whole))

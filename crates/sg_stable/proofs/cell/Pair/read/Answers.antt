use Rattle.std.proofs.Common.{◌≡◌, ◌∙◌, ◌≤◌, ℕ, length, get_or, ap, sym, arith, zero-add}
use Rattle.sg_device.proofs.Parts.{read_here}
use Rattle.sg_stable.proofs.Cells.{has_cell_same}
use Rattle.sg_stable.proofs.cell.Pair.read.Goals as goal

pub returns-clause-cell : goal.returns-clause-cell
returns-clause-cell g c =
    λ b told.
    let n = c.in_ok-read_at.field-0 in
    let after = c.read_at.new.into in
    let r = c.in_ok-read_at.ensures.bytes b told in
    let long : 40 ≤ length b = c.requires b told in
    let all : n ≡ 40 = omega (arith, r.filled, long) in
    let pair = c.at_front-pair.result in
    has_cell_same pair.selector pair.value after b c.at_front-pair.ensures.cell long
    (λ k lt. sym (read_here 0 n b _ after r k (omega (arith, all, lt)) ∙ ap (λ (i : ℕ). get_or b i 0) (zero-add k)))

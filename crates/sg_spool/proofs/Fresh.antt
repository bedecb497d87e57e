-- A fresh store is within its bound.
use Rattle.std.proofs.Common.{◌≡◌, ℕ, ◌+◌, [], ◌∷◌, replicate, refl, sym, ◌∙◌, ap, arith, Some, None, Option}
use Rattle.sg_device.proofs.Parts.{zeros_at}
use Rattle.sg_stable.specs.Cell.{word, cell_value}
use Rattle.sg_spool.specs.Places.{AreCompact}
use Rattle.sg_spool.specs.View.{IsCompactIn}
use Rattle.sg_spool.specs.Ring.{Entries, EntryRun, IsLaid}

fresh_value : cell_value (replicate 128 0) ≡ 0
unfolding word
fresh_value = refl

fresh_run : (k : ℕ) (es : Entries) (e : ℕ) → EntryRun (replicate 128 0) k es e → k ≡ e
fresh_run k [] e run = run
fresh_run k (p ∷ ps) e run = absurd (run.0.opened (zeros_at 128 k))

pub fresh_compact : (capacity : ℕ) (jump : Option ℕ) (head end : ℕ) (es : Entries) → IsLaid jump head end es (replicate 128 0) → AreCompact capacity jump head end
fresh_compact capacity None head end es laid =
    let same = fresh_run head es end laid.row in
    let at : 64 + 0 ≡ head = ap (λ (v : ℕ). 64 + v) (sym fresh_value) ∙ laid.buffer.at_head in
    omega (arith, same, at)
fresh_compact capacity (Some jump) head end es laid = absurd (laid.row.jumps.opened (zeros_at 128 jump))

pub fresh_in : (capacity : ℕ) → IsCompactIn capacity (replicate 128 0)
fresh_in capacity = record { short = omega arith; placed = λ jump head end es laid. fresh_compact capacity jump head end es laid }

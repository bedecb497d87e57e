use Rattle.std.proofs.Common.{◌≡◌, ◌+◌, ◌++◌, ◌∙◌, map, drop, slice_get, Some, subst, sym}
use Rattle.sg_serve.specs.Counts.{numbers_from}
use Rattle.sg_serve.proofs.CountLemmas.{numbers-next, get-mapped}
use Rattle.sg_serve.proofs.counts.failed_stores.Goals as goal

pub loop-s-preserved : goal.loop-s-preserved
loop-s-preserved g c =
    let stores = c.args.core.now.stores in
    let marks = map (λ s. s.failed) stores in
    let s = c.loop-s.s in
    let at : slice_get marks s ≡ Some c.failed.result = get-mapped (λ s. s.failed) stores s ∙ c.failed.ensures.flag in
    subst (λ ns. ns ++ numbers_from (s + 1) (drop (s + 1) marks) ≡ numbers_from 0 marks) (sym c.in_ok-note.ensures)
    (numbers-next c.loop-s.numbers marks s c.failed.result (numbers_from 0 marks) at c.loop-s.invariant)

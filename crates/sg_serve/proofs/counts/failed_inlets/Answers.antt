use Rattle.std.proofs.Common.{◌≡◌, ◌+◌, ◌++◌, ◌∙◌, ap, map, length, drop, slice_get, Some, subst, sym, refl}
use Rattle.std.proofs.lemmas.Option.{slice_get_read}
use Rattle.sg_list.proofs.ListLemmas.{slice_get-map}
use Rattle.sg_serve.specs.Counts.{numbers_from}
use Rattle.sg_serve.proofs.CountLemmas.{numbers-next}
use Rattle.sg_serve.proofs.counts.failed_inlets.Goals as goal

pub loop-i-preserved : goal.loop-i-preserved
loop-i-preserved g c =
    let sources = c.args.sources.now in
    let marks = map (λ a. a.reader.failed) sources in
    let i = c.loop-i.i in
    let there = slice_get_read sources (length sources) i c.index-sources-i.result refl c.loop-i-test.true c.index-sources-i.is in
    let at : slice_get marks i ≡ Some c.failed.result = slice_get-map (λ a. a.reader.failed) sources i c.index-sources-i.result there ∙ ap Some (sym c.failed.ensures) in
    subst (λ ns. ns ++ numbers_from (i + 1) (drop (i + 1) marks) ≡ numbers_from 0 marks) (sym c.in_ok-note.ensures)
    (numbers-next c.loop-i.numbers marks i c.failed.result (numbers_from 0 marks) at c.loop-i.invariant)

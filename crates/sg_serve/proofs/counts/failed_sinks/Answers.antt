use Rattle.std.proofs.Common.{◌≡◌, ◌+◌, ◌++◌, ◌∙◌, ap, map, length, drop, slice_get, Some, subst, sym, refl}
use Rattle.std.proofs.lemmas.Option.{slice_get_read}
use Rattle.sg_list.proofs.ListLemmas.{slice_get-map}
use Rattle.sg_serve.specs.Counts.{gave_up_outlet, numbers_from}
use Rattle.sg_serve.proofs.CountLemmas.{numbers-next}
use Rattle.sg_serve.proofs.counts.failed_sinks.Goals as goal

pub loop-d-preserved : goal.loop-d-preserved
loop-d-preserved g c =
    let dests = c.args.dests.now in
    let marks = map (λ a. gave_up_outlet a.outage.given_up) dests in
    let d = c.loop-d.d in
    let there = slice_get_read dests (length dests) d c.index-dests-d.result refl c.loop-d-test.true c.index-dests-d.is in
    let at : slice_get marks d ≡ Some c.gave_up.result = slice_get-map (λ a. gave_up_outlet a.outage.given_up) dests d c.index-dests-d.result there ∙ ap Some (sym c.gave_up.ensures) in
    subst (λ ns. ns ++ numbers_from (d + 1) (drop (d + 1) marks) ≡ numbers_from 0 marks) (sym c.in_ok-note.ensures)
    (numbers-next c.loop-d.numbers marks d c.gave_up.result (numbers_from 0 marks) at c.loop-d.invariant)

use Rattle.std.proofs.Common.{◌≡◌, ◌+◌, ◌∷◌, ◌++◌, ◌≤◌, ◌∙◌, ap, arith, length, drop, if◌then◌else◌}
use Rattle.std.proofs.lemmas.List.{length_push}
use Rattle.sg_machine.specs.Verdicts.{claims_in}
use Rattle.sg_machine.specs.Turns.{owes_by, owing}
use Rattle.sg_offers.specs.Rooms.{seen_in}
use Rattle.sg_offers.specs.Answering.{spent_after, verdicts_from}
use Rattle.sg_offers.proofs.SinkLemmas.{along-step}
use Rattle.sg_offers.proofs.answering.offer_record.Goals as goal
use Rattle.sg_offers.proofs.answering.offer_record.Goals.{then-owes, else-owes}

pub loop-offer-preserved : goal.loop-offer-preserved
loop-offer-preserved c =
    let o = c.in-Some.offer in
    let v = c.offer_at-verdict.result in
    let rest = c.pop_front.new.self.items in
    let left = c.loop-offer.left in
    let all = claims_in c.args.place c.args.admission.end c.args.admission.offers in
    let vs = verdicts_from c.args.fails.now c.args.inlet c.args.next (seen_in c.args.sinks.now) all in
    let split : c.loop-offer.rest.items ≡ o ∷ rest = c.in-Some.ensures.items in
    let len : length c.loop-offer.rest.items ≡ length rest + 1 = ap length split ∙ omega arith in
    let more : c.if-owes.left ≡ (if owes_by o.flow v then left + 1 else left) = elim c.if-owes.branch [ then-owes w ↦ grind arith | else-owes w ↦ grind arith ] in
    let along = rw split at c.loop-offer.invariant.along in
    let taken = rw c.next_block-block.ensures.block at c.offer_at-verdict.ensures.spent in
    let step = along-step c.args.fails.now c.args.inlet c.args.next c.args.place c.args.admission.end c.loop-offer.sinks c.offer_at-verdict.new.sinks o rest c.loop-offer.payloads.items c.loop-offer.verdicts.items left
    (spent_after c.args.fails.now c.args.inlet c.args.next c.args.sinks.now all) (c.args.verdicts.now.items ++ vs) (owing c.args.admission.offers vs) (drop (length c.args.admission.offers) c.args.payloads.now.items)
    v c.if-owes.left along taken c.offer_at-verdict.ensures.verdict more in
    record {
      along = rw (c.next_block-block.ensures.rest, c.push_reserved.ensures.items) step;
      count = (let b = c.loop-offer.invariant.count in let few : c.if-owes.left ≤ left + 1 = elim c.if-owes.branch [ then-owes w ↦ omega arith | else-owes w ↦ omega arith ] in omega arith);
      capacity = (let p = ap length c.push_reserved.ensures.items in let q = length_push c.loop-offer.verdicts.items v in let b = c.loop-offer.invariant.capacity in let d = c.push_reserved.ensures.capacity in omega arith);
      same = c.push_reserved.ensures.capacity ∙ c.loop-offer.invariant.same;
    }

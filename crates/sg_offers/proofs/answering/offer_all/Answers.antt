use Rattle.std.proofs.Common.{◌≡◌, ◌+◌, ◌∷◌, ◌∙◌, refl, ap, arith, length, map}
use Rattle.std.proofs.lemmas.List.{length_push, length-append}
use Rattle.sg_machine.specs.Verdicts.{claims_in, claims_from}
use Rattle.sg_offers.specs.Payloads.{buffers_of, trial_in}
use Rattle.sg_offers.specs.Rooms.{seen_in}
use Rattle.sg_offers.specs.Answering.{sinks_after, verdicts_from, begun_of}
use Rattle.sg_offers.proofs.ClaimLemmas.{length-more}
use Rattle.sg_offers.proofs.PayloadLemmas.{blocks-from}
use Rattle.sg_offers.proofs.SinkLemmas.{length-verdicts}
use Rattle.sg_offers.proofs.BatchSteps.{ahead-asks, ahead-step}
use Rattle.sg_machine.proofs.RecordLemmas.{length-claims}
use Rattle.sg_offers.proofs.answering.offer_all.Goals as goal

pub loop-admission-init : goal.loop-admission-init
loop-admission-init c =
    let ks = seen_in c.args.sinks.now in
    let cs = claims_from 0 c.args.records.items in
    let ready = c.requires.ready in
    record {
      ahead = rw (c.from-rest.ensures.0, c.from-payloads.ensures.0, ready.no_verdict, ready.none_begun) (record {
        sinks_at_last = refl;
        judged = refl;
        counted = refl;
        enter = c.requires.enter;
        room = ready.room;
        blocks = rw c.requires.payloads (blocks-from c.args.inlet (buffers_of ks) (map trial_in ks) cs);
      });
      place = (let p = ap length c.from-rest.ensures.0 in omega arith);
      verdict_room = rw (c.from-rest.ensures.0, ready.no_verdict) (let v = ready.verdicts in omega arith);
      begun_room = rw (c.from-rest.ensures.0, ready.none_begun) (let b = ready.begun in omega arith);
    }

pub offer_record-begun-requires : goal.offer_record-begun-requires
offer_record-begun-requires c =
    let r = c.in-Some.admission in
    let rest = c.pop_front.new.self.items in
    let split : c.loop-admission.rest.items ≡ r ∷ rest = c.in-Some.ensures.items in
    let len : length c.loop-admission.rest.items ≡ length rest + 1 = ap length split ∙ omega arith in
    let ahead = rw split at c.loop-admission.invariant.ahead in
    let asks = ahead-asks _ _ _ c.loop-admission.place c.loop-admission.sinks r rest c.loop-admission.payloads.items _ _ _ _ _ ahead in
    let room = rw split at c.loop-admission.invariant.verdict_room in
    let more = length-more c.loop-admission.place r rest in
    record {
      number = (let p = c.loop-admission.invariant.place in let n = c.requires.number in omega arith);
      few = asks.few;
      within = asks.dests;
      room = asks.room;
      blocks = asks.first_blocks;
      capacity = omega arith;
    }

pub loop-admission-preserved : goal.loop-admission-preserved
loop-admission-preserved c =
    let r = c.in-Some.admission in
    let rest = c.pop_front.new.self.items in
    let place = c.loop-admission.place in
    let fails = c.args.batch.fails.items in
    let ks = seen_in c.args.sinks.now in
    let cs = claims_in place r.end r.offers in
    let all = claims_from 0 c.args.records.items in
    let vs = verdicts_from fails c.args.inlet c.args.next ks all in
    let here = verdicts_from fails c.args.inlet c.args.next (seen_in c.loop-admission.sinks) cs in
    let old = c.loop-admission.answers.verdicts.items in
    let split : c.loop-admission.rest.items ≡ r ∷ rest = c.in-Some.ensures.items in
    let len : length c.loop-admission.rest.items ≡ length rest + 1 = ap length split ∙ omega arith in
    let ahead = rw split at c.loop-admission.invariant.ahead in
    let value = c.deref.ensures.value in
    let spent = rw value at c.offer_record-begun.ensures.spent in
    let verdicts = rw value at c.offer_record-begun.ensures.verdicts in
    let left = rw value at c.offer_record-begun.ensures.left in
    let step = ahead-step fails c.args.inlet c.args.next place c.loop-admission.sinks c.offer_record-begun.new.sinks r rest c.loop-admission.payloads.items old c.loop-admission.answers.begun.items
    (sinks_after fails c.args.inlet c.args.next ks all) vs (begun_of c.args.records.items vs) c.offer_record-begun.new.payloads.items c.offer_record-begun.new.verdicts.items c.offer_record-begun.result
    ahead spent verdicts c.offer_record-begun.ensures.end left c.offer_record-begun.ensures.payloads in
    let room = rw split at c.loop-admission.invariant.verdict_room in
    let more = length-more place r rest in
    let said = ap length verdicts ∙ length-append old here in
    let count = length-verdicts fails c.args.inlet c.args.next (seen_in c.loop-admission.sinks) cs ∙ length-claims place r.end r.offers in
    record {
      ahead = rw c.push_reserved.ensures.items step;
      place = (let p = c.loop-admission.invariant.place in omega arith);
      verdict_room = (let k = c.offer_record-begun.ensures.capacity in omega arith);
      begun_room = (let p = ap length c.push_reserved.ensures.items in let q = length_push c.loop-admission.answers.begun.items c.offer_record-begun.result in let b = c.loop-admission.invariant.begun_room in let d = c.push_reserved.ensures.capacity in omega arith);
    }

use Rattle.std.proofs.Common.{◌≡◌, ◌+◌, ◌∷◌, ◌∙◌, sym, ap, arith, drop, length, take, ◌++◌, map}
use Rattle.std.proofs.lemmas.List.{drop_more}
use Rattle.sg_machine.specs.Verdicts.{claims_in, claims_from}
use Rattle.sg_offers.specs.Payloads.{buffers_of, payloads_from, trial_in}
use Rattle.sg_offers.specs.Rooms.{seen_in}
use Rattle.sg_offers.proofs.ItemLemmas.{take-whole}
use Rattle.sg_offers.proofs.PayloadLemmas.{payloads-step, kept-append}
use Rattle.sg_offers.proofs.payloads.payloads_for.Goals as goal

pub loop-admission-preserved : goal.loop-admission-preserved
loop-admission-preserved c =
    let k = c.loop-admission.admission-index in
    let r = c.admission-item.result in
    let rest = drop (k + 1) c.args.records.now in
    let bs = buffers_of (seen_in c.args.sinks.now) in
    let cs = claims_in k r.end r.offers in
    let ds = claims_from (k + 1) rest in
    let parts : drop k c.args.records.now ≡ r ∷ rest = drop_more c.args.records.now k r (omega arith) ∙ ap (λ x. x ∷ rest) (sym c.admission-item.is) in
    let news = c.record_payloads.new.trials in
    let count : length news ≡ c.loop-admission.trials.len = (let a = c.record_payloads.auto.trials in let b = c.deref_mut.ensures.len in omega arith) in
    let whole : take c.loop-admission.trials.len (news ++ drop (length news) c.loop-admission.trials.items) ≡ news = take-whole news (drop (length news) c.loop-admission.trials.items) c.loop-admission.trials.len count in
    let enter = rw parts at c.loop-admission.invariant.enter in
    let before = rw parts at c.loop-admission.invariant.payloads in
    let value = c.deref_mut.ensures.value in
    let more = rw value at (c.in_ok-record_payloads.ensures.payloads k) in
    let tried = rw value at (c.in_ok-record_payloads.ensures.trials k) in
    let kept = c.in_ok-record_payloads.ensures.kept k in
    record {
      len = rw whole (let a = c.record_payloads.auto.trials in let b = c.loop-admission.invariant.len in let d = ap length value in omega arith);
      enter = enter.1;
      payloads = rw whole (payloads-step c.args.inlet bs (payloads_from c.args.inlet bs (map trial_in (seen_in c.args.sinks.now)) (claims_from 0 c.args.records.now)) c.loop-admission.payloads.items c.record_payloads.new.payloads.items
          c.loop-admission.trials.items news cs ds more tried before);
      kept = λ h. c.loop-admission.invariant.kept (rw parts (kept-append c.args.inlet bs cs ds kept h));
    }

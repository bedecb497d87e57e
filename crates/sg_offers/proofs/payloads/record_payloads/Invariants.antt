use Rattle.std.proofs.Common.{◌≡◌, ◌++◌, ℕ, length, drop}
use Rattle.sg_machine.specs.Verdicts.{claims_in}
use Rattle.sg_offers.specs.Payloads.{buffers_of, trials_after, payloads_from, AllSpellable}
use Rattle.sg_offers.specs.Rooms.{seen_in}
use Rattle.sg_msg.specs.Offers.{AllWithin}
use Rattle.sg_offers.proofs.payloads.record_payloads.Given as goal

abbrev pub invariant-loop-offer : goal.invariant-loop-offer
invariant-loop-offer l = record {
  len : length l.trials ≡ length l.sinks;
  within : AllWithin (length l.sinks) (drop l.offer-index l.offer-items);
  payloads : (place : ℕ) → l.payloads.items ++ payloads_from l.inlet (buffers_of (seen_in l.sinks)) l.trials (claims_in place l.admission.end (drop l.offer-index l.offer-items))
      ≡ l.fn.payloads.items ++ payloads_from l.inlet (buffers_of (seen_in l.sinks)) l.fn.trials (claims_in place l.admission.end l.admission.offers);
  kept : (place : ℕ) → AllSpellable l.inlet (buffers_of (seen_in l.sinks)) (claims_in place l.admission.end (drop l.offer-index l.offer-items))
      → AllSpellable l.inlet (buffers_of (seen_in l.sinks)) (claims_in place l.admission.end l.admission.offers);
  trials : (place : ℕ) → trials_after l.trials (claims_in place l.admission.end (drop l.offer-index l.offer-items)) ≡ trials_after l.fn.trials (claims_in place l.admission.end l.admission.offers);
}

use Rattle.std.proofs.Common.{◌≡◌, ◌++◌, length, drop, map}
use Rattle.sg_counter.specs.Bringing.{AllMayEnter}
use Rattle.sg_machine.specs.Verdicts.{claims_from}
use Rattle.sg_offers.specs.Payloads.{buffers_of, trial_in, payloads_from, AllSpellable}
use Rattle.sg_offers.specs.Rooms.{seen_in}
use Rattle.sg_offers.proofs.payloads.payloads_for.Given as goal

abbrev pub invariant-loop-admission : goal.invariant-loop-admission
invariant-loop-admission l = record {
  len : length l.trials.items ≡ length l.sinks;
  enter : AllMayEnter (length l.sinks) (drop l.admission-index l.records);
  payloads : l.payloads.items ++ payloads_from l.inlet (buffers_of (seen_in l.sinks)) l.trials.items (claims_from l.admission-index (drop l.admission-index l.records))
      ≡ payloads_from l.inlet (buffers_of (seen_in l.sinks)) (map trial_in (seen_in l.sinks)) (claims_from 0 l.records);
  kept : AllSpellable l.inlet (buffers_of (seen_in l.sinks)) (claims_from l.admission-index (drop l.admission-index l.records)) → AllSpellable l.inlet (buffers_of (seen_in l.sinks)) (claims_from 0 l.records);
}

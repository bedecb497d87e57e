use Rattle.std.proofs.Common.{◌≡◌, map, take}
use Rattle.sg_offers.specs.Payloads.{trial_in}
use Rattle.sg_offers.specs.Rooms.{seen_in}
use Rattle.sg_offers.proofs.payloads.trials_of.Given as goal

abbrev pub invariant-loop-sink : goal.invariant-loop-sink
invariant-loop-sink l = l.trials.items ≡ map trial_in (seen_in (take l.sink-index l.sinks))

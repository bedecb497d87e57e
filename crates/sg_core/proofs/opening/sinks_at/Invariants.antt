use Rattle.std.proofs.Common.{◌≡◌, take, map}
use Rattle.sg_offers.specs.Rooms.{seen_in}
use Rattle.sg_core.specs.Opening.{opened_sink}
use Rattle.sg_core.proofs.opening.sinks_at.Given as goal

abbrev pub invariant-loop-setup : goal.invariant-loop-setup
invariant-loop-setup l = seen_in l.sinks.items ≡ map (opened_sink l.found) (take l.setup-index l.setups)

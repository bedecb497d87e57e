use Rattle.sg_core.proofs.OpenParts.{recoverable-at}
use Rattle.sg_core.proofs.opening.sinks_at.Goals as goal

pub sink_at-requires : goal.sink_at-requires
sink_at-requires c = recoverable-at c.args.found.now c.args.setups.now c.loop-setup.setup-index _ c.requires c.loop-setup-test.true

use Rattle.sg_core.proofs.OpenParts.{window-at, store-at}
use Rattle.sg_core.proofs.opening.sources_at.Goals as goal

pub source_at-requires-clause-window : goal.source_at-requires-clause-window
source_at-requires-clause-window g c = window-at c.args.setups.now c.loop-setup.setup-index _ c.requires.windows c.loop-setup-test.true

pub source_at-requires-clause-store : goal.source_at-requires-clause-store
source_at-requires-clause-store g c = store-at c.args.stores.now c.args.setups.now c.loop-setup.setup-index _ c.requires.stores c.loop-setup-test.true

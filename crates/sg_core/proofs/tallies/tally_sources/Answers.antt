use Rattle.sg_core.proofs.Fits.{fit-item}
use Rattle.sg_core.proofs.tallies.tally_sources.Goals as goal

pub tally_source-requires : goal.tally_source-requires
tally_source-requires g c = fit-item _ c.args.sources.now c.loop-source.source-index c.source-item.result c.requires c.loop-source-test.true c.source-item.is

use Rattle.sg_config.proofs.Lengths.{fits}
use Rattle.sg_config.proofs.loading.load.Goals as goal

pub resolve-requires : goal.resolve-requires
resolve-requires c = rw c.as_slice.ensures (fits c.args.tokens.now c.in-Ok.found c.in-Ok.ensures.found c.requires)

use Rattle.sg_run.proofs.PlanLemmas.{pipes-within}
use Rattle.sg_run.proofs.running.run_config.Goals as goal

pub routers_of-requires : goal.routers_of-requires
routers_of-requires g c = pipes-within c.args.loaded.config c.args.loaded.table c.requires.within c.requires.compiles

use Rattle.sg_laws.proofs.ItemRestLemmas.{ends-rise}
use Rattle.sg_laws.proofs.resuming.ends_rise.Goals as goal

pub returns : goal.returns
returns c = ends-rise

use Rattle.sg_actor.proofs.BringLemmas.{last-at}
use Rattle.sg_actor.proofs.admitting.last_end.Goals as goal

pub returns : goal.returns
returns c = last-at c.len.result 0 c.args.records.now c.at.result.now c.requires c.len.ensures c.at.ensures

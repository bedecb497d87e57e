use Rattle.std.proofs.Common.{sym}
use Rattle.sg_list.proofs.ListLemmas.{change-set}
use Rattle.sg_standing.specs.Sources.{anew}
use Rattle.sg_standing.proofs.source.start_anew.Goals as goal

pub returns-in-Wrote : goal.returns-in-Wrote
returns-in-Wrote c = rw c.in-Wrote.is (sym (change-set c.args.sources.now c.args.i anew c.at_mut.result.now c.at_mut.ensures.value))

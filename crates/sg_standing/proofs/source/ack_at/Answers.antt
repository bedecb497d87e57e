use Rattle.std.proofs.Common.{arith}
use Rattle.sg_list.proofs.ListLemmas.{change-set}
use Rattle.sg_standing.specs.Sources.{acked_at}
use Rattle.sg_standing.proofs.source.ack_at.Goals as goal

pub returns : goal.returns
returns c =
    let e = change-set c.args.sources.now c.args.i (acked_at c.args.number) c.at_mut-source.result.now c.at_mut-source.ensures.value in
    grind (arith, e, c.ack.ensures.after)

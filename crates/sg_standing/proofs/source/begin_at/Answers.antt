use Rattle.std.proofs.Common.{arith}
use Rattle.sg_list.proofs.ListLemmas.{change-set}
use Rattle.sg_standing.specs.Sources.{begun_at}
use Rattle.sg_standing.proofs.source.begin_at.Goals as goal

pub returns : goal.returns
returns c =
    let e = change-set c.args.sources.now c.args.i (begun_at c.args.end c.args.left) c.at_mut-source.result.now c.at_mut-source.ensures.value in
    grind (arith, e, c.begin-number.ensures.after)

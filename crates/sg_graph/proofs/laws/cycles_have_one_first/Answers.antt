use Rattle.sg_graph.proofs.Firsts.{firsts-same}
use Rattle.sg_graph.proofs.laws.cycles_have_one_first.Goals as goal

pub returns : goal.returns
returns c = λ links first other a b. firsts-same links first other a b

use Rattle.sg_graph.proofs.Settling.{settled}
use Rattle.sg_graph.proofs.size.settle.Goals as goal

pub returns-clause-known : goal.returns-clause-known
returns-clause-known c =
    settled c.args.links.now c.args.own.now c.args.most c.args.node c.size_now-size.result c.args.done.now c.mark.new.marks c.args.sizes.now c.set_number.new.numbers c.requires.sized c.requires.ready c.size_now-size.ensures c.mark.ensures c.set_number.ensures

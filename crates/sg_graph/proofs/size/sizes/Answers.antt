use Rattle.std.proofs.Common.{◌∙◌}
use Rattle.sg_graph.proofs.Settling.{known-first}
use Rattle.sg_graph.proofs.size.sizes.Goals as goal

pub settle_all-requires-clause-known : goal.settle_all-requires-clause-known
settle_all-requires-clause-known c =
    known-first c.args.links.now c.args.own.now c.args.most _ _ c.requires.own (c.deref_mut.ensures.value ∙ c.in_ok-done.ensures) (c.deref_mut-2.ensures.value ∙ c.in_ok-sizes.ensures)

use Rattle.std.proofs.Common.{ℕ, List, subst}
use Rattle.sg_graph.proofs.Falling.{NeverRises, FallsAt, falls-here, none-left}
use Rattle.sg_graph.proofs.cycle.first_on_cycle.Goals as goal

pub loop-node-preserved-then-falls : goal.loop-node-preserved-then-falls
loop-node-preserved-then-falls c =
    falls-here c.args.links.now c.in_ok-ranks.ranks.items c.loop-node.node
    (let P : List ℕ → Type 0 = λ ranks. NeverRises c.args.links.now ranks in subst P c.deref.ensures.value c.if-ranked.ensures)
    (let P : List ℕ → Type 0 = λ ranks. FallsAt c.args.links.now ranks c.loop-node.node in subst P c.deref-then-ranked.ensures.value c.if-falls.ensures)
    c.loop-node.invariant

pub returns : goal.returns
returns c = none-left c.args.links.now c.loop-node.node c.loop-node-test.false c.loop-node.invariant

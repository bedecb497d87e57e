use Rattle.std.proofs.Common.{◌≡◌, sym, ◌∙◌, arith}
use Rattle.sg_graph.proofs.Searching.{search-begun, search-on, search-smaller, search-end}
use Rattle.sg_graph.proofs.search.search.Goals as goal

pub loop-node-init : goal.loop-node-init
loop-node-init c = search-begun _ _ _ _ c.requires.none c.requires.one

pub loop-node-preserved : goal.loop-node-preserved
loop-node-preserved c = search-on _ _ _ _ _ _ _ _ _ c.in-Some.ensures.items c.row.ensures c.loop-node.invariant c.in_ok-visit.ensures

pub loop-node-smaller : goal.loop-node-smaller
loop-node-smaller c = search-smaller _ _ _ _ _ _ _ c.in-Some.ensures.items c.in_ok-visit.ensures

pub returns-clause-all : goal.returns-clause-all
returns-clause-all c = search-end _ _ _ c.loop-node.waiting.items (let h = c.in_default.ensures.cases in omega (arith, h.0)) c.loop-node.invariant

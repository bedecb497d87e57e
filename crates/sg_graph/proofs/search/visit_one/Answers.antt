use Rattle.std.proofs.Common.{◌≡◌, false, true, get_or, sym, ◌∙◌}
use Rattle.sg_graph.proofs.Visiting.{visits-pushed}
use Rattle.sg_graph.proofs.search.visit_one.Goals as goal

pub returns-in_ok-push : goal.returns-in_ok-push
returns-in_ok-push c =
    visits-pushed _ _ _ _ _ (sym c.is_marked.ensures ∙ c.if-not-is_marked.true) c.mark.ensures c.in_ok-push.ensures.items

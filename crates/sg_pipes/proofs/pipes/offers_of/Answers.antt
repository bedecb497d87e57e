use Rattle.std.proofs.Common.{Vec, false, List, ◌++◌, ap, subst, ◌∙◌}
use Rattle.std.specs.declared.alloc.Global.{Global}
use Rattle.sg_msg.specs.declared.offer.Offer.{Offer}
use Rattle.sg_tree.specs.Walk.{Siblings, branches}
use Rattle.sg_table.specs.declared.pipe.Branch.{Branch}
use Rattle.sg_table.specs.declared.pipe.Pipe.{Pipe}
use Rattle.sg_table.specs.declared.pipe.Top.{Top}
use Rattle.sg_table.specs.Table.{siblings_of, branches_at, steps_at}
use Rattle.sg_pipes.specs.Chosen.{branches_for}
use Rattle.sg_pipes.specs.Turns.{WorksWalk}
use Rattle.sg_pipes.proofs.Whole.{chosen-offered, done-is}
use Rattle.sg_pipes.proofs.pipes.offers_of.Goals as goal

pub returns-clause-offers : goal.returns-clause-offers
returns-clause-offers c =
    let all = c.args.table.now.pipes.items in
    let m = c.args.message in
    let at = steps_at all in
    let inlet = c.args.inlet in
    let cleared = c.in_ok-clear.ensures in
    let works = subst (λ (ps : List Pipe). WorksWalk ps c.offer.new.self c.work.new.self) c.in_ok-offer.ensures.stays c.in_ok-work.ensures.works in
    let done = done-is all _ _ c.offer.new.self c.work.new.self cleared.1 c.in_ok-offer.ensures.delivers works in
    ap (λ (v : Vec Offer Global). v.items) c.replace.ensures.value
    ∙ done
    ∙ ap (λ (x : List Offer). x ++ (branches (siblings_of (branches_at at c.clear.new.self.offered.items)) m false).deliveries) cleared.2
    ∙ ap (λ (bs : List Branch). (branches (siblings_of (branches_at at bs)) m false).deliveries) (cleared.0 ∙ ap (λ (x : List Top). branches_for inlet x) c.deref.ensures.value)
    ∙ ap (λ (s : Siblings). (branches s m false).deliveries) (chosen-offered at inlet c.args.table.now.tops.items)

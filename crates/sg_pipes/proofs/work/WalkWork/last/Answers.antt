use Rattle.std.proofs.Common.{◌≡◌, ◌++◌, Vec, ap, ◌∙◌}
use Rattle.std.specs.Prelude.{◌||◌}
use Rattle.std.specs.declared.alloc.Global.{Global}
use Rattle.sg_msg.specs.declared.offer.Offer.{Offer}
use Rattle.sg_tree.specs.Walk.{WalkResult}
use Rattle.sg_pipes.specs.declared.gone.Gone.{Gone}
use Rattle.sg_pipes.specs.Messages.{messages_of}
use Rattle.sg_pipes.specs.Turns.{now}
use Rattle.sg_pipes.proofs.Running.{comes-now, comes-as}
use Rattle.sg_pipes.proofs.Steps.{joined-now}
use Rattle.sg_pipes.proofs.work.WalkWork.last.Goals as goal

pub returns : goal.returns
returns c = λ pipes.
    let old = c.args.self.now in
    let w = now old in
    let left = c.args.left in
    let dropped = c.args.drop_unmatched in
    let m : WalkResult = record { deliveries = w.deliveries; out = w.out; processed = w.processed || dropped } in
    let tb = c.take_back-own in
    let taken = tb.ensures.taken in
    let d = tb.new.self.offers.items in
    let ed : d ≡ w.deliveries = ap (λ (v : Vec Offer Global). v.items) tb.ensures.rest.0 in
    let eo = c.in_ok-join.ensures.0 ∙ ap (λ (g : Gone). messages_of left.out ++ messages_of g.out) taken in
    let ep = c.in_ok-join.ensures.1 ∙ ap (λ (g : Gone). left.processed || (g.processed || dropped)) taken in
    comes-as pipes _ _ _ _ (joined-now c.join.new.self left d m ed eo ep) (comes-now pipes _ _ tb.ensures.rest.2 tb.ensures.rest.1)

use Rattle.std.proofs.Common.{Bool, List, [], ◌∷◌, ◌++◌, Vec, ap, ap₂, ◌∙◌}
use Rattle.std.specs.Prelude.{◌&&◌, ◌||◌, reverse}
use Rattle.std.proofs.lemmas.List.{reverse-reverse}
use Rattle.std.specs.declared.alloc.Global.{Global}
use Rattle.sg_msg.specs.Message.{Content}
use Rattle.sg_msg.specs.declared.offer.Offer.{Offer}
use Rattle.sg_tree.specs.Walk.{walk, each}
use Rattle.sg_table.specs.Table.{steps_at}
use Rattle.sg_pipes.specs.declared.frame.WalkFrame.{WalkFrame}
use Rattle.sg_pipes.specs.declared.frame.WalkFrame.TheVariants.{Each}
use Rattle.sg_pipes.specs.declared.gone.Gone.{Gone}
use Rattle.sg_pipes.specs.Messages.{messages_of}
use Rattle.sg_pipes.proofs.Running.{comes-pushed, comes-as}
use Rattle.sg_pipes.proofs.work.WalkWork.rest.Goals as goal

pub returns : goal.returns
returns c = λ pipes.
    let old = c.args.self.now in
    let tb = c.take_back-first in
    let taken = tb.ensures.taken in
    let rest = λ (n : Content). walk (steps_at pipes c.args.next) n c.args.flow in
    let ed = ap (λ (v : Vec Offer Global). v.items) tb.ensures.rest.0 in
    let eo = ap₂ (λ (x y : List Content). x ++ y) c.nothing.ensures.0 tb.ensures.rest.3 in
    let ep = ap₂ (λ (x y : Bool). x || y) c.nothing.ensures.1 tb.ensures.rest.4 in
    let el = ap (λ (x : List Content). each rest x) (ap reverse c.reversed.ensures ∙ reverse-reverse (messages_of tb.result.out) ∙ ap (λ (g : Gone). messages_of g.out) taken) in
    let frame : WalkFrame = Each (record { next = c.args.next; flow = c.args.flow; counts = tb.result.processed; waiting = c.reversed.result; left = c.nothing.result }) in
    comes-as pipes _ _ _ _ (λ i. record { deliveries = ed i ++ (el i).deliveries; out = eo i ++ (el i).out; processed = (taken i).processed && (ep i || (el i).processed) })
    (comes-pushed pipes old _ frame tb.ensures.rest.2 (c.in_ok-push.ensures.items ∙ ap (λ (v : Vec WalkFrame Global). v.items ++ frame ∷ []) tb.ensures.rest.1))

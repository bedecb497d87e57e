use Rattle.std.proofs.Common.{◌≡◌, List, [], ◌∷◌, ◌++◌, Vec, refl, sym, ap, ◌∙◌}
use Rattle.std.specs.Prelude.{◌||◌, reverse}
use Rattle.std.proofs.lemmas.List.{reverse-append}
use Rattle.std.proofs.lemmas.Result.{on_ok_weaker}
use Rattle.std.specs.declared.alloc.Global.{Global}
use Rattle.sg_msg.specs.Message.{Content}
use Rattle.sg_msg.specs.declared.offer.Offer.{Offer}
use Rattle.sg_tree.specs.Walk.{walk, each, stopped}
use Rattle.sg_table.specs.Table.{steps_at}
use Rattle.sg_pipes.specs.declared.frame.WalkFrame.{WalkFrame}
use Rattle.sg_pipes.specs.declared.frame.WalkFrame.TheVariants.{Each}
use Rattle.sg_pipes.specs.declared.gone.Gone.{Gone}
use Rattle.sg_pipes.specs.Messages.{messages_of}
use Rattle.sg_pipes.proofs.Running.{comes-now, comes-behind, comes-as}
use Rattle.sg_pipes.proofs.Steps.{waited-at, waited-over, waited-more}
use Rattle.sg_pipes.proofs.work.WalkWork.each.Goals as goal

pub returns-in-None : goal.returns-in-None
returns-in-None c = λ pipes.
    let old = c.args.self.now in
    let wait = c.args.wait in
    let tb = c.take_back-last in
    let taken = tb.ensures.taken in
    let joined = c.join.new.self in
    let rest = λ (n : Content). walk (steps_at pipes wait.next) n wait.flow in
    let ed = ap (λ (v : Vec Offer Global). v.items) tb.ensures.rest.0 in
    let eo = c.in_ok-join.ensures.0 ∙ ap (λ (g : Gone). messages_of wait.left.out ++ messages_of g.out) taken in
    let ep = c.in_ok-join.ensures.1 ∙ ap (λ (g : Gone). wait.left.processed || g.processed) taken in
    let none : messages_of wait.waiting ≡ [] = c.in-None.ensures.none in
    comes-as pipes _ _ _ _
    (waited-over tb.new.self.offers.items (messages_of joined.out) wait.counts joined.processed
    ∙ waited-at _ _ _ _ wait.counts wait.counts _ _ stopped (each rest (reverse (messages_of wait.waiting))) ed eo refl ep (ap (λ (x : List Content). each rest (reverse x)) (sym none)))
    (comes-now pipes _ _ tb.ensures.rest.2 tb.ensures.rest.1)

pub returns-in_ok-push-in-Some : goal.returns-in_ok-push-in-Some
returns-in_ok-push-in-Some c =
    let old = c.args.self.now in
    let wait = c.args.wait in
    let tb = c.take_back-last in
    let taken = tb.ensures.taken in
    let joined = c.join.new.self in
    let m = c.in-Some.message in
    let later = c.take_last.new.messages in
    let ed = ap (λ (v : Vec Offer Global). v.items) tb.ensures.rest.0 in
    let eo = c.in_ok-join.ensures.0 ∙ ap (λ (g : Gone). messages_of wait.left.out ++ messages_of g.out) taken in
    let ep = c.in_ok-join.ensures.1 ∙ ap (λ (g : Gone). wait.left.processed || g.processed) taken in
    let some : messages_of wait.waiting ≡ messages_of later ++ m ∷ [] = c.in-Some.ensures.some in
    let frame : WalkFrame = Each (record wait { waiting = later; left = joined }) in
    on_ok_weaker c.go.result (λ h pipes.
    let rest = λ (n : Content). walk (steps_at pipes wait.next) n wait.flow in
    let el = ap (λ (x : List Content). each rest x) (sym (ap reverse some ∙ reverse-append (messages_of later) (m ∷ []))) in
    comes-as pipes _ _ _ _
    (waited-more tb.new.self.offers.items (messages_of joined.out) wait.counts joined.processed (rest m) (each rest (reverse (messages_of later)))
    ∙ waited-at _ _ _ _ wait.counts wait.counts _ _ _ (each rest (reverse (messages_of wait.waiting))) ed eo refl ep el)
    (comes-behind pipes _ old _ _ frame tb.ensures.rest.2 (c.in_ok-push-in-Some.ensures.items ∙ ap (λ (v : Vec WalkFrame Global). v.items ++ frame ∷ []) tb.ensures.rest.1) (h pipes))) c.go.ensures

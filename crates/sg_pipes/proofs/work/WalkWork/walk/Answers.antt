use Rattle.std.proofs.Common.{◌≡◌, Bool, List, ◌++◌, Some, slice_get, sym, ap, subst, ◌∙◌}
use Rattle.std.proofs.lemmas.Result.{on_ok_weaker}
use Rattle.sg_msg.specs.Message.{Content}
use Rattle.sg_msg.specs.declared.offer.Offer.{Offer}
use Rattle.sg_tree.specs.Walk.{WalkResult}
use Rattle.sg_table.specs.declared.pipe.Pipe.{Pipe}
use Rattle.sg_pipes.specs.declared.frame.WalkFrame.TheVariants.{Walk}
use Rattle.sg_pipes.specs.declared.frame.Passed.TheVariants.{On, Stopped}
use Rattle.sg_pipes.specs.Turns.{WorkComesTo, PassesPipe, now}
use Rattle.sg_pipes.specs.Frames.{does}
use Rattle.sg_pipes.specs.Pipes.{last_driver}
use Rattle.sg_pipes.proofs.Piping.{last-delivers}
use Rattle.sg_pipes.proofs.Running.{comes-on, comes-to, delivers-now, turns-at}
use Rattle.sg_pipes.proofs.work.WalkWork.walk.Goals as goal

pub elements-preserved : goal.elements-preserved
elements-preserved c =
    let l = c.elements in
    let inv = l.invariant in
    let passed = rw c.in-On.is at c.in_ok-next.ensures.passes in
    let p = subst (λ (ps : List Pipe). PassesPipe ps l.at l.message c.pass.new.message c.args.flow l.self c.pass.new.self (On c.in-On.next)) inv.1 passed in
    (p.0 ∙ inv.0, c.in_ok-next.ensures.stays ∙ inv.1, p.1 ∙ inv.2, p.2 ∙ inv.3)

pub returns-in-Stopped-clause-comes : goal.returns-in-Stopped-clause-comes
returns-in-Stopped-clause-comes c =
    let all = c.args.pipes.now.items in
    let l = c.elements in
    let inv = l.invariant in
    let passed = rw c.in-Stopped.is at c.in_ok-next.ensures.passes in
    let p = subst (λ (ps : List Pipe). PassesPipe ps l.at l.message c.pass.new.message c.args.flow l.self c.pass.new.self Stopped) inv.1 passed in
    comes-to c.args.alone all _ _ _ (comes-on all _ _ _ _ _ inv.2 inv.3 inv.0 p)

pub returns-in-Arrived-clause-comes : goal.returns-in-Arrived-clause-comes
returns-in-Arrived-clause-comes c =
    let all = c.args.pipes.now.items in
    let l = c.elements in
    let inv = l.invariant in
    let passed = rw c.in-Arrived.is at c.in_ok-next.ensures.passes in
    let same = ap (λ (m : Content). Walk l.at m c.args.flow) passed.1 in
    on_ok_weaker c.arrive.result (λ h. comes-to c.args.alone all _ _ _ (comes-on all _ _ _ _ _ inv.2 inv.3 inv.0
    (turns-at all _ (Walk l.at l.message c.args.flow) _ l.self _ _ (c.in_ok-next.ensures.stays ∙ inv.1) same passed.0 h))) c.arrive.ensures.turns

pub returns-clause-comes : goal.returns-clause-comes
returns-clause-comes c =
    let all = c.args.pipes.now.items in
    let inv = c.elements.invariant in
    on_ok_weaker c.go.result (λ h. comes-to c.args.alone all _ _ _ (comes-on all _ _ _ _ _ inv.2 inv.3 inv.0 (h all))) c.go.ensures

-- the last delivery has the message itself
pub returns-in-Some-clause-comes : goal.returns-in-Some-clause-comes
returns-in-Some-clause-comes c =
    let all = c.args.pipes.now.items in
    let old = c.args.self.now in
    let l = c.elements in
    let inv = l.invariant in
    let driver = c.in-Some.driver in
    let made = does all old.offered.items (Walk c.args.start c.args.given c.args.flow) (now old) in
    let there : Some driver ≡ last_driver all (slice_get all l.at) =
    subst (λ (ps : List Pipe). Some driver ≡ last_driver ps (slice_get ps l.at)) (c.deref.ensures.value ∙ inv.1) c.in-Some.ensures in
    let ends = last-delivers all c.requires l.at driver l.message c.args.flow there in
    on_ok_weaker c.hand_over.result (λ h. subst (λ (alone : Bool). WorkComesTo alone all made old c.hand_over.new.self) (sym c.if-alone.true)
    (delivers-now all made old c.hand_over.new.self (h.2 ∙ inv.3) (h.1 ∙ inv.2)
    (h.0 ∙ ap (λ (more : List Offer). l.self.offers.items ++ more) (sym ends) ∙ ap (λ (w : WalkResult). w.deliveries) inv.0))) c.hand_over.ensures

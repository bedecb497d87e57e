use Rattle.std.proofs.Common.{◌≡◌, true, false, List, [], ◌∷◌, sym, ap, ◌∙◌}
use Rattle.std.proofs.lemmas.Result.{on_ok_weaker}
use Rattle.sg_tree.specs.Walk.{branches, after_deliveries}
use Rattle.sg_table.specs.declared.pipe.Branch.{Branch}
use Rattle.sg_table.specs.Table.{siblings_of, branches_at, steps_at}
use Rattle.sg_pipes.specs.declared.frame.SiblingTrial.{SiblingTrial}
use Rattle.sg_pipes.specs.declared.frame.WalkFrame.TheVariants.{Try}
use Rattle.sg_pipes.specs.declared.frame.SiblingList.TheVariants.{Offered}
use Rattle.sg_pipes.specs.Frames.{from, does, has_final_or_fallback}
use Rattle.sg_pipes.specs.Turns.{now}
use Rattle.sg_pipes.proofs.Running.{comes-as, comes-to, delivers-as}
use Rattle.sg_pipes.proofs.Steps.{begin-is}
use Rattle.sg_pipes.proofs.Apart.{each-offers}
use Rattle.sg_pipes.proofs.Over.{alone-is}
use Rattle.sg_pipes.proofs.work.WalkWork.offer.Goals as goal

pub returns-in-Some-clause-delivers : goal.returns-in-Some-clause-delivers
returns-in-Some-clause-delivers c =
    let pipes = c.args.pipes.now.items in
    let old = c.args.self.now in
    let b = c.in-Some.branch in
    let alone = c.in-Some.ensures in
    let one : old.offered.items ≡ b ∷ [] = sym c.deref.ensures.value ∙ alone.0 in
    let e = alone-is (steps_at pipes) b c.args.message c.args.flow alone.1 alone.2
    ∙ ap (λ (bs : List Branch). branches (siblings_of (branches_at (steps_at pipes) bs)) c.args.message c.args.flow) (sym one) in
    on_ok_weaker c.walk.result (λ h. delivers-as pipes _ _ _ _ (ap (after_deliveries old.offers.items) e) h) c.walk.ensures.comes

pub returns-then-has_final_or_fallback-clause-delivers : goal.returns-then-has_final_or_fallback-clause-delivers
returns-then-has_final_or_fallback-clause-delivers c =
    let pipes = c.args.pipes.now.items in
    let old = c.args.self.now in
    let trial = c.first_trial.result in
    let first = c.first_trial.ensures in
    on_ok_weaker c.try_next.result (λ h. comes-to true pipes _ _ _ (comes-as pipes _ _ _ _
    (ap (λ (t : SiblingTrial). does pipes old.offered.items (Try t) (now old)) first.0
    ∙ begin-is old.offers.items trial.left (from pipes old.offered.items Offered 0) c.args.message c.args.flow first.1 first.2) h)) c.try_next.ensures.turns

pub returns-else-has_final_or_fallback-clause-delivers : goal.returns-else-has_final_or_fallback-clause-delivers
returns-else-has_final_or_fallback-clause-delivers c =
    let pipes = c.args.pipes.now.items in
    let old = c.args.self.now in
    let plain : has_final_or_fallback old.offered.items ≡ false =
    ap has_final_or_fallback (sym c.deref-in-None.ensures.value) ∙ sym c.has_final_or_fallback.ensures ∙ c.if-has_final_or_fallback.false in
    on_ok_weaker c.offer_each.result (λ h. each-offers pipes c.args.message c.args.flow old c.offer_each.new.self c.requires.frames plain h) c.offer_each.ensures.delivers

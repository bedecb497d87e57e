use Rattle.std.proofs.Common.{List, refl, ap, subst}
use Rattle.std.specs.Prelude.{◌||◌}
use Rattle.std.proofs.lemmas.Result.{on_ok_weaker}
use Rattle.sg_msg.specs.Message.{Content}
use Rattle.sg_tree.specs.Walk.{WalkResult, walk, after_deliveries}
use Rattle.sg_table.specs.declared.pipe.Branch.{Branch}
use Rattle.sg_table.specs.declared.pipe.Pipe.{Pipe}
use Rattle.sg_table.specs.Table.{steps_at}
use Rattle.sg_pipes.specs.declared.frame.WalkFrame.TheVariants.{Tried}
use Rattle.sg_pipes.specs.Frames.{IsWalkOver, does}
use Rattle.sg_pipes.proofs.Running.{comes-as, comes-behind}
use Rattle.sg_pipes.proofs.Over.{last-is}
use Rattle.sg_pipes.proofs.work.WalkWork.try_this.Goals as goal

pub returns-then-is_over-clause-comes : goal.returns-then-is_over-clause-comes
returns-then-is_over-clause-comes c =
    let pipes = c.args.pipes.now.items in
    let old = c.args.self.now in
    let trial = c.args.trial in
    let b = c.args.branch in
    let made : WalkResult = after_deliveries old.offers.items (walk (steps_at pipes b.start) trial.message (trial.flow || b.flow)) in
    let there = c.is_over.ensures c.if-is_over.true in
    let over = subst (λ (o : List Branch). IsWalkOver pipes o trial.group trial.index trial.late) c.deref.ensures.value
    (subst (λ (ps : List Pipe). IsWalkOver ps c.deref.result.now trial.group trial.index trial.late) c.deref-2.ensures.value there) in
    on_ok_weaker c.try_last.result (λ h. comes-as pipes _ _ _ _ (last-is pipes old.offered.items trial b.is_final b.drop_unmatched made over) h) c.try_last.ensures.comes

pub returns-clause-comes : goal.returns-clause-comes
returns-clause-comes c =
    let pipes = c.args.pipes.now.items in
    let old = c.args.self.now in
    let trial = c.args.trial in
    let b = c.args.branch in
    let frame = Tried trial b.is_final b.drop_unmatched in
    let same = ap (λ (x : Content). does pipes old.offered.items frame (after_deliveries old.offers.items (walk (steps_at pipes b.start) x (trial.flow || b.flow)))) c.in_ok-message.ensures in
    on_ok_weaker c.walk.result (λ h. comes-as pipes _ _ _ _ same (comes-behind pipes _ old _ _ frame refl c.in_ok-push.ensures.items h)) c.walk.ensures.comes

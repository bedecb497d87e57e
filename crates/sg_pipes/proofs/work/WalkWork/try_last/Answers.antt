use Rattle.std.proofs.Common.{refl}
use Rattle.std.specs.Prelude.{◌||◌}
use Rattle.std.proofs.lemmas.Result.{on_ok_weaker}
use Rattle.sg_tree.specs.Walk.{WalkResult, walk, after_deliveries}
use Rattle.sg_table.specs.Table.{steps_at}
use Rattle.sg_pipes.specs.declared.frame.WalkFrame.TheVariants.{Last}
use Rattle.sg_pipes.proofs.Running.{comes-as, comes-behind}
use Rattle.sg_pipes.proofs.Over.{last-alone}
use Rattle.sg_pipes.proofs.work.WalkWork.try_last.Goals as goal

pub returns-then-adds_nothing-clause-comes : goal.returns-then-adds_nothing-clause-comes
returns-then-adds_nothing-clause-comes c =
    let pipes = c.args.pipes.now.items in
    let old = c.args.self.now in
    let left = c.args.trial.left in
    let b = c.args.branch in
    let made : WalkResult = after_deliveries old.offers.items (walk (steps_at pipes b.start) c.args.trial.message (c.args.trial.flow || b.flow)) in
    let none = c.adds_nothing.ensures c.if-adds_nothing.true in
    on_ok_weaker c.walk.result (λ h. comes-as pipes _ _ _ _ (last-alone pipes old.offered.items left b.drop_unmatched made none.0 none.1 none.2) h) c.walk.ensures.comes

pub returns-clause-comes : goal.returns-clause-comes
returns-clause-comes c =
    let pipes = c.args.pipes.now.items in
    let old = c.args.self.now in
    let frame = Last c.args.trial.left c.args.branch.drop_unmatched in
    on_ok_weaker c.walk-2.result (λ h. comes-behind pipes _ old _ _ frame refl c.in_ok-push.ensures.items h) c.walk-2.ensures.comes

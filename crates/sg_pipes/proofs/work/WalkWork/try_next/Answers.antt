use Rattle.std.proofs.Common.{◌≡◌, true, List, Option, Some, None, refl, ap, subst, ◌∙◌}
use Rattle.std.specs.Prelude.{◌||◌, slice_get}
use Rattle.std.proofs.lemmas.Result.{on_ok_weaker}
use Rattle.sg_tree.specs.Walk.{walk, after_deliveries}
use Rattle.sg_table.specs.declared.pipe.Branch.{Branch}
use Rattle.sg_table.specs.declared.pipe.Pipe.{Pipe}
use Rattle.sg_table.specs.Table.{steps_at}
use Rattle.sg_pipes.specs.declared.frame.SiblingTrial.{SiblingTrial}
use Rattle.sg_pipes.specs.declared.frame.WalkFrame.TheVariants.{Try, Tried}
use Rattle.sg_pipes.specs.Frames.{group_of, does}
use Rattle.sg_pipes.specs.Turns.{ComesToFrames, Picks, now}
use Rattle.sg_pipes.proofs.Running.{comes-now, comes-pushed, comes-as}
use Rattle.sg_pipes.proofs.Trying.{over-done, over-again}
use Rattle.sg_pipes.proofs.work.WalkWork.try_next.Goals as goal

pub returns-then-trial-clause-turns : goal.returns-then-trial-clause-turns
returns-then-trial-clause-turns c =
    let pipes = c.args.pipes.now.items in
    let old = c.args.self.now in
    let offered = old.offered.items in
    let trial = c.pick.new.trial in
    let picks : Picks pipes offered c.args.trial trial None =
    subst (λ (o : List Branch). Picks pipes o c.args.trial trial None) c.deref.ensures.value
    (subst (λ (b : Option Branch). Picks pipes c.deref.result.now c.args.trial trial b) c.in-None.is c.in_ok-pick.ensures.picks) in
    let none : slice_get (group_of offered pipes trial.group) trial.index ≡ None = ap (λ (t : SiblingTrial). slice_get (group_of offered pipes t.group) trial.index) picks.0 ∙ picks.1 in
    comes-as pipes _ _ _ _ (over-done pipes offered trial old.offers.items none c.if-trial.true ∙ picks.2 (now old)) (comes-now pipes _ _ refl refl)

pub returns-in_ok-push-in-None-clause-turns : goal.returns-in_ok-push-in-None-clause-turns
returns-in_ok-push-in-None-clause-turns c =
    let pipes = c.args.pipes.now.items in
    let old = c.args.self.now in
    let offered = old.offered.items in
    let trial = c.pick.new.trial in
    let picks : Picks pipes offered c.args.trial trial None =
    subst (λ (o : List Branch). Picks pipes o c.args.trial trial None) c.deref.ensures.value
    (subst (λ (b : Option Branch). Picks pipes c.deref.result.now c.args.trial trial b) c.in-None.is c.in_ok-pick.ensures.picks) in
    let none : slice_get (group_of offered pipes trial.group) trial.index ≡ None = ap (λ (t : SiblingTrial). slice_get (group_of offered pipes t.group) trial.index) picks.0 ∙ picks.1 in
    comes-as pipes _ _ _ _ (over-again pipes offered trial old.offers.items none c.if-trial.false ∙ picks.2 (now old))
    (comes-pushed pipes old _ (Try (record trial { late = true; index = 0 })) refl c.in_ok-push-in-None.ensures.items)

pub returns-in-Some-clause-turns : goal.returns-in-Some-clause-turns
returns-in-Some-clause-turns c =
    let pipes = c.args.pipes.now.items in
    let old = c.args.self.now in
    let offered = old.offered.items in
    let trial = c.pick.new.trial in
    let b = c.in-Some.branch in
    let frame = Tried trial b.is_final b.drop_unmatched in
    let picks : Picks pipes offered c.args.trial trial (Some b) =
    subst (λ (o : List Branch). Picks pipes o c.args.trial trial (Some b)) c.deref.ensures.value
    (subst (λ (x : Option Branch). Picks pipes c.deref.result.now c.args.trial trial x) c.in-Some.is c.in_ok-pick.ensures.picks) in
    let made = ap (λ (t : SiblingTrial). does pipes offered frame (after_deliveries old.offers.items (walk (steps_at pipes b.start) t.message (t.flow || b.flow)))) picks.0 ∙ picks.1 (now old) in
    on_ok_weaker c.try_this.result (λ h. comes-as pipes _ _ _ _ made
    (subst (λ (ps : List Pipe). ComesToFrames ps (does ps offered frame (after_deliveries old.offers.items (walk (steps_at ps b.start) trial.message (trial.flow || b.flow)))) old c.try_this.new.self)
    c.in_ok-pick.ensures.stays h)) c.try_this.ensures.comes

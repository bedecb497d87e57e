use Rattle.std.proofs.Common.{◌≡◌, ◌+◌, List, [], ◌∷◌, drop, Some, None, sym, ap, subst, ◌∙◌}
use Rattle.std.specs.Prelude.{slice_get}
use Rattle.std.proofs.lemmas.Result.{on_ok_weaker}
use Rattle.sg_table.specs.declared.pipe.Branch.{Branch}
use Rattle.sg_table.specs.declared.pipe.Pipe.{Pipe}
use Rattle.sg_pipes.specs.Turns.{DeliversWith, behind}
use Rattle.sg_pipes.proofs.Apart.{next-with, none-behind, then-with}
use Rattle.sg_pipes.proofs.work.WalkWork.offer_each.Goals as goal

pub loop-branch-preserved : goal.loop-branch-preserved
loop-branch-preserved c =
    let pipes = c.args.pipes.now.items in
    let old = c.args.self.now in
    let offered = old.offered.items in
    let l = c.loop-branch in
    let inv = l.invariant in
    let b = c.in-Some.branch in
    let new = c.offer_next.new.self in
    let next = c.in_ok-waiting.waiting in
    let more = drop (l.index + 1) offered in
    let some : slice_get offered l.index ≡ Some b =
    ap (λ v. slice_get v.items l.index) (sym inv.0.0) ∙ ap (λ (bs : List Branch). slice_get bs l.index) (sym c.deref.ensures.value) ∙ sym c.branch_at.ensures.is ∙ c.in-Some.is in
    let step = subst (λ (ps : List Pipe). DeliversWith ps c.args.message c.args.flow l.self (behind l.waiting (b ∷ more)) new (behind next more)) inv.1 (c.in_ok-waiting.ensures.delivers more) in
    (next-with pipes c.args.message c.args.flow old l.self new offered l.index b l.waiting next some inv.0 step, c.in_ok-waiting.ensures.stays ∙ inv.1)

pub returns-in-Some-waiting-clause-delivers : goal.returns-in-Some-waiting-clause-delivers
returns-in-Some-waiting-clause-delivers c =
    let pipes = c.args.pipes.now.items in
    let old = c.args.self.now in
    let offered = old.offered.items in
    let l = c.loop-branch in
    let inv = l.invariant in
    let b = c.in-Some-waiting.branch in
    let new = c.offer_whole.new.self in
    let none : slice_get offered l.index ≡ None =
    ap (λ v. slice_get v.items l.index) (sym inv.0.0) ∙ ap (λ (bs : List Branch). slice_get bs l.index) (sym c.deref.ensures.value) ∙ sym c.branch_at.ensures.is ∙ c.in_default.is in
    let before = none-behind pipes c.args.message c.args.flow old l.self offered l.index l.waiting (Some b) none c.in-Some-waiting.is inv.0 in
    on_ok_weaker c.offer_whole.result (λ h. then-with pipes c.args.message c.args.flow old l.self new offered (b ∷ []) [] before
    (subst (λ (ps : List Pipe). DeliversWith ps c.args.message c.args.flow l.self (b ∷ []) new []) inv.1 h)) c.offer_whole.ensures.delivers

pub returns-in-None-clause-delivers : goal.returns-in-None-clause-delivers
returns-in-None-clause-delivers c =
    let pipes = c.args.pipes.now.items in
    let old = c.args.self.now in
    let offered = old.offered.items in
    let l = c.loop-branch in
    let inv = l.invariant in
    let none : slice_get offered l.index ≡ None =
    ap (λ v. slice_get v.items l.index) (sym inv.0.0) ∙ ap (λ (bs : List Branch). slice_get bs l.index) (sym c.deref.ensures.value) ∙ sym c.branch_at.ensures.is ∙ c.in_default.is in
    none-behind pipes c.args.message c.args.flow old l.self offered l.index l.waiting None none c.in-None.is inv.0

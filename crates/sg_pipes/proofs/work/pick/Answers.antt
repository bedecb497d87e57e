use Rattle.std.proofs.Common.{◌≡◌, List, Option, Some, None, refl, sym, ap, subst, ◌∙◌, ℕ}
use Rattle.std.specs.Prelude.{slice_get}
use Rattle.sg_table.specs.declared.pipe.Pipe.{Pipe}
use Rattle.sg_pipes.specs.Frames.{group_of}
use Rattle.sg_pipes.specs.Turns.{Enters}
use Rattle.sg_pipes.proofs.Picking.{fewer-left, over-other, over-stopped, picked}
use Rattle.sg_pipes.proofs.work.pick.Goals as goal

pub returns-in-Some-2-clause-picks : goal.returns-in-Some-2-clause-picks
returns-in-Some-2-clause-picks c =
    let pipes = c.args.pipes.now.items in
    let offered = c.args.offered.now in
    let trial = c.loop-branch.trial in
    let b = c.in-Some.branch in
    let same = c.loop-branch.invariant.1 in
    let some : slice_get (group_of offered pipes trial.group) trial.index ≡ Some b =
    ap (λ (ps : List Pipe). slice_get (group_of offered ps trial.group) trial.index) (sym (c.deref.ensures.value ∙ same)) ∙ sym c.branch_at.ensures.is ∙ c.in-Some.is in
    let enters : Enters pipes b.start trial.message (Some c.in-Some-2.start) =
    subst (λ (at : Option ℕ). Enters pipes b.start trial.message at) c.in-Some-2.is
    (subst (λ (ps : List Pipe). Enters ps b.start trial.message c.in_ok-start.field-0) same c.in_ok-start.ensures.enters) in
    picked pipes offered c.args.trial.now trial c.loop-branch.invariant.0 b some c.in-Some-2.start c.if-branch-trial.true enters

pub returns-then-branch-clause-picks : goal.returns-then-branch-clause-picks
returns-then-branch-clause-picks c =
    let pipes = c.args.pipes.now.items in
    let offered = c.args.offered.now in
    let trial = c.loop-branch.trial in
    let b = c.in-Some.branch in
    let same = c.loop-branch.invariant.1 in
    let some : slice_get (group_of offered pipes trial.group) trial.index ≡ Some b =
    ap (λ (ps : List Pipe). slice_get (group_of offered ps trial.group) trial.index) (sym (c.deref.ensures.value ∙ same)) ∙ sym c.branch_at.ensures.is ∙ c.in-Some.is in
    picked pipes offered c.args.trial.now trial c.loop-branch.invariant.0 b some b.start c.if-branch-trial.true (λ flow. refl)

pub loop-branch-smaller-else-branch : goal.loop-branch-smaller-else-branch
loop-branch-smaller-else-branch c =
    let pipes = c.loop-branch.pipes.items in
    let trial = c.loop-branch.trial in
    let b = c.in-Some.branch in
    let some : slice_get (group_of c.args.offered.now pipes trial.group) trial.index ≡ Some b =
    ap (λ (ps : List Pipe). slice_get (group_of c.args.offered.now ps trial.group) trial.index) (sym c.deref.ensures.value) ∙ sym c.branch_at.ensures.is ∙ c.in-Some.is in
    fewer-left pipes c.enter.new.pipes.items c.args.offered.now trial.group trial.index b some c.in_ok-start.ensures.stays

pub loop-branch-preserved-else-branch : goal.loop-branch-preserved-else-branch
loop-branch-preserved-else-branch c =
    let pipes = c.args.pipes.now.items in
    let offered = c.args.offered.now in
    let trial = c.loop-branch.trial in
    let b = c.in-Some.branch in
    let same = c.loop-branch.invariant.1 in
    let some : slice_get (group_of offered pipes trial.group) trial.index ≡ Some b =
    ap (λ (ps : List Pipe). slice_get (group_of offered ps trial.group) trial.index) (sym (c.deref.ensures.value ∙ same)) ∙ sym c.branch_at.ensures.is ∙ c.in-Some.is in
    let stops : Enters pipes b.start trial.message None =
    subst (λ (at : Option ℕ). Enters pipes b.start trial.message at) c.in-None.is
    (subst (λ (ps : List Pipe). Enters ps b.start trial.message c.in_ok-start.field-0) same c.in_ok-start.ensures.enters) in
    (over-stopped pipes offered c.args.trial.now trial c.loop-branch.invariant.0 b some c.if-branch-trial.true stops c.if-branch.false, c.in_ok-start.ensures.stays ∙ same)

pub loop-branch-smaller : goal.loop-branch-smaller
loop-branch-smaller c =
    let pipes = c.loop-branch.pipes.items in
    let trial = c.loop-branch.trial in
    let b = c.in-Some.branch in
    let some : slice_get (group_of c.args.offered.now pipes trial.group) trial.index ≡ Some b =
    ap (λ (ps : List Pipe). slice_get (group_of c.args.offered.now ps trial.group) trial.index) (sym c.deref.ensures.value) ∙ sym c.branch_at.ensures.is ∙ c.in-Some.is in
    fewer-left pipes pipes c.args.offered.now trial.group trial.index b some refl

pub loop-branch-preserved : goal.loop-branch-preserved
loop-branch-preserved c =
    let pipes = c.args.pipes.now.items in
    let offered = c.args.offered.now in
    let trial = c.loop-branch.trial in
    let b = c.in-Some.branch in
    let same = c.loop-branch.invariant.1 in
    let some : slice_get (group_of offered pipes trial.group) trial.index ≡ Some b =
    ap (λ (ps : List Pipe). slice_get (group_of offered ps trial.group) trial.index) (sym (c.deref.ensures.value ∙ same)) ∙ sym c.branch_at.ensures.is ∙ c.in-Some.is in
    (over-other pipes offered c.args.trial.now trial c.loop-branch.invariant.0 b some c.if-branch-trial.false, same)

use Rattle.std.proofs.Common.{◌≡◌, Bool, false, None, sym, subst, ◌∙◌}
use Rattle.std.specs.Prelude.{slice_get}
use Rattle.std.proofs.lemmas.Bool.{not-true}
use Rattle.sg_pipes.specs.Frames.{IsWalkOver, group_of, has_fallback}
use Rattle.sg_pipes.proofs.Over.{over-late, over-both}
use Rattle.sg_pipes.proofs.pipe.is_over.Goals as goal

pub returns-then-late : goal.returns-then-late
returns-then-late c = λ over.
    let pipes = c.args.pipes.now in
    let offered = c.args.offered.now in
    let none : slice_get (group_of offered pipes c.args.group) c.args.index ≡ None = sym c.branch_at.ensures.is ∙ c.in-None.is in
    subst (λ (b : Bool). IsWalkOver pipes offered c.args.group c.args.index b) (sym c.if-late.true) (over-late pipes offered c.args.group c.args.index none)

pub returns-else-late : goal.returns-else-late
returns-else-late c = λ over.
    let pipes = c.args.pipes.now in
    let offered = c.args.offered.now in
    let none : slice_get (group_of offered pipes c.args.group) c.args.index ≡ None = sym c.branch_at.ensures.is ∙ c.in-None.is in
    let early : has_fallback (group_of offered pipes c.args.group) ≡ false = sym c.has_late.ensures ∙ not-true c.has_late.result over in
    subst (λ (b : Bool). IsWalkOver pipes offered c.args.group c.args.index b) (sym c.if-late.false) (over-both pipes offered c.args.group c.args.index none early)

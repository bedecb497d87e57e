use Rattle.std.proofs.Common.{List, refl, ◌∙◌, subst}
use Rattle.sg_table.specs.declared.pipe.Pipe.{Pipe}
use Rattle.sg_pipes.specs.declared.work.WalkWork.{WalkWork}
use Rattle.sg_pipes.specs.Turns.{TurnsWalk}
use Rattle.sg_pipes.proofs.Running.{works-on}
use Rattle.sg_pipes.proofs.work.WalkWork.work.Goals as goal

pub turns-preserved : goal.turns-preserved
turns-preserved c =
    let inv = c.turns.invariant in
    let all = c.args.pipes.now.items in
    let popped : WalkWork = record c.turns.self { frames = c.pop.new.self } in
    let t : TurnsWalk all c.in-Some.frame popped c.turn.new.self = subst (λ (ps : List Pipe). TurnsWalk ps c.in-Some.frame popped c.turn.new.self) inv.1 c.in_ok-turn-in-Some.ensures.turns in
    (inv.0 ∙ works-on all c.turns.self popped c.turn.new.self c.turn.new.self c.in-Some.frame refl refl c.in-Some.ensures.items t, c.in_ok-turn-in-Some.ensures.stays ∙ inv.1, t.offered ∙ inv.2)

use Rattle.std.proofs.Common.{refl, ◌∙◌}
use Rattle.sg_filter.specs.declared.work.CompileWork.{CompileWork}
use Rattle.sg_filter.proofs.Turning.{leads-start, leads-on, refuses-on, only-none, only-more}
use Rattle.sg_filter.proofs.work.made.Goals as goal

pub turns-init : goal.turns-init
turns-init g c =
    let done = c.in_ok-push.ensures in (
      leads-start c.args.named.now c.args.expr.now c.args.expr (record { nodes = c.new.result; last = 0; frames = c.new-2.result }) c.push.new.self
          refl c.new.ensures.items c.new-2.ensures.items refl done.1 done.2 done.0,
      only-none (g.B.Machine.state c.args.builder.now),
      refl,
    )

pub turns-preserved : goal.turns-preserved
turns-preserved g c =
    let inv = c.turns.invariant in
    let popped : CompileWork = record c.turns.work { frames = c.pop.new.self } in (
      leads-on c.args.named.now c.args.expr.now c.turns.work popped c.turn.new.self c.in-Some.frame inv.0 c.in-Some.ensures.items refl refl c.in-Ok.ensures.turns,
      only-more _ _ _ inv.1 c.turn.ensures.only,
      c.in-Ok.ensures.stays ∙ inv.2,
    )

pub returns-in-Err-clause-refused : goal.returns-in-Err-clause-refused
returns-in-Err-clause-refused g c =
    let inv = c.turns.invariant in
    refuses-on c.args.named.now c.args.expr.now c.turns.work c.pop.new.self.items c.in-Some.frame _ _ _ c.in-Err.refusal inv.0 c.in-Some.ensures.items inv.1 c.in-Err.ensures.refused

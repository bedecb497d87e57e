use Rattle.std.proofs.Common.{◌+◌, ◌-◌, ◌∙◌, sym, ap, arith}
use Rattle.sg_machine.specs.Turns.{move_turns}
use Rattle.sg_machine.proofs.TurnLemmas.{move-next}
use Rattle.sg_machine.proofs.moves.move_some.Goals as goal

pub loop-k-preserved : goal.loop-k-preserved
loop-k-preserved c =
    let n = c.args.n in
    let k = c.loop-k._k in
    let can = sym c.move_one.ensures.can ∙ c.if-not-move_one.false in
    ap (move_turns (n - (k + 1)) c.args.capacity c.args.d) (c.move_one.ensures.moved c.if-not-move_one.false) ∙ sym (move-next n k c.args.capacity c.args.d c.loop-k.run (omega arith) can) ∙ c.loop-k.invariant

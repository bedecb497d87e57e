use Rattle.std.proofs.Common.{◌+◌, ◌-◌, ◌∙◌, sym, ap, arith}
use Rattle.sg_machine.specs.Turns.{settle_turns}
use Rattle.sg_machine.proofs.TurnLemmas.{settle-next}
use Rattle.sg_machine.proofs.moves.settle_some.Goals as goal

pub loop-k-preserved : goal.loop-k-preserved
loop-k-preserved c =
    let n = c.args.n in
    let k = c.loop-k._k in
    ap (settle_turns (n - (k + 1)) c.args.d) c.settle_one.ensures ∙ sym (settle-next n k c.args.d c.loop-k.run (omega arith)) ∙ c.loop-k.invariant

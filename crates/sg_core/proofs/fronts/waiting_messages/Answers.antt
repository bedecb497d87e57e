use Rattle.std.proofs.Common.{◌∙◌, ap, sym, ◌∷◌, [], ◌++◌}
use Rattle.sg_core.proofs.FrontLemmas.{take-message}
use Rattle.sg_core.proofs.fronts.waiting_messages.Goals as goal

pub loop-k-preserved : goal.loop-k-preserved
loop-k-preserved c =
    c.in_ok-push.ensures ∙ ap (λ ms. ms ++ c.in_ok-message.message ∷ []) c.loop-k.invariant
    ∙ sym (take-message c.loop-k.k c.args.sink.now.seen.entries c.in_ok-message.message c.in_ok-message.ensures)

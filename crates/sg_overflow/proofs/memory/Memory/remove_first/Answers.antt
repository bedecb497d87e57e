use Rattle.std.proofs.Common.{◌∙◌, List, ℕ, drop, ap}
use Rattle.std.proofs.lemmas.List.{drop-drop}
use Rattle.sg_overflow.proofs.memory.Memory.remove_first.Goals as goal

pub loop-turn-preserved : goal.loop-turn-preserved
loop-turn-preserved c =
    c.remove_one.ensures ∙ ap (λ (xs : List (List ℕ)). drop 1 xs) c.loop-turn.invariant ∙ drop-drop 1 c.loop-turn._turn c.args.self.now

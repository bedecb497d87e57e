use Rattle.std.proofs.Common.{◌≡◌, map, take, is_some}
use Rattle.sg_serve.proofs.run.asked_of.Given as goal

abbrev pub invariant-loop-plan : goal.invariant-loop-plan
invariant-loop-plan l = l.asked ≡ map (λ plan. is_some plan.overflow) (take l.plan-index l.outlets)

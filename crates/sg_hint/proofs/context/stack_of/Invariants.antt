use Rattle.std.proofs.Common.{◌≡◌, ◌≤◌, [], drop}
use Rattle.sg_hint.specs.Contexts.{stack_from}
use Rattle.sg_hint.proofs.context.stack_of.Given as goal

abbrev pub invariant-loop-token : goal.invariant-loop-token
invariant-loop-token l = record {
  within : l.at ≤ l.token-index;
  so_far : stack_from l.tokens l.stack.items l.at (drop l.token-index l.front) ≡ stack_from l.tokens [] 0 l.front;
}

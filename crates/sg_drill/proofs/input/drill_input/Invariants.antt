use Rattle.std.proofs.Common.{◌≡◌}
use Rattle.sg_drill.specs.Input.{drill_text}
use Rattle.sg_drill.proofs.input.drill_input.Given as goal

abbrev pub invariant-loop-number : goal.invariant-loop-number
invariant-loop-number l = record {
  so_far : l.text.items ≡ drill_text l.number;
}

use Rattle.std.proofs.Common.{◌≡◌, ◌+◌, ◌-◌, ◌≤◌, ◌++◌, length}
use Rattle.std.specs.Option.{option_map}
use Rattle.sg_block.specs.Forms.{arguments, arguments_within}
use Rattle.sg_block.proofs.form.arguments.Given as goal

abbrev pub invariant-items : goal.invariant-items
invariant-items l = record {
  value : arguments l.fn.tokens ≡ option_map (λ others. l.found ++ others) (arguments_within (length l.fn.tokens - length l.found) l.rest);
  within : length l.rest + length l.found ≤ length l.fn.tokens;
}

abbrev pub decreases-items : goal.decreases-items
decreases-items l = length l.rest

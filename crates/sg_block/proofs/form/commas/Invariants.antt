use Rattle.std.proofs.Common.{◌≡◌, ◌+◌, drop}
use Rattle.std.specs.List.{prefix_len}
use Rattle.sg_block.specs.Tokens.{is_symbol}
use Rattle.sg_block.proofs.form.commas.Given as goal

abbrev pub invariant-loop-count : goal.invariant-loop-count
invariant-loop-count l = prefix_len (is_symbol 44) l.tokens ≡ l.count + prefix_len (is_symbol 44) (drop l.count l.tokens)

use Rattle.std.proofs.Common.{◌≡◌, ◌+◌, drop}
use Rattle.std.specs.List.{prefix_len}
use Rattle.sg_lex.specs.Tokens.{is_name_byte}
use Rattle.sg_block.proofs.values.name_length.Given as goal

abbrev pub invariant-loop-count : goal.invariant-loop-count
invariant-loop-count l = prefix_len is_name_byte l.text ≡ l.count + prefix_len is_name_byte (drop l.count l.text)

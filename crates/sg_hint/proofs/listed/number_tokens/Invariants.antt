use Rattle.std.proofs.Common.{◌≡◌}
use Rattle.sg_hint.specs.Listed.{lines_of, numbered}
use Rattle.sg_hint.proofs.Numbers.{counted}
use Rattle.sg_hint.proofs.listed.number_tokens.Given as goal

abbrev pub invariant-loop-token : goal.invariant-loop-token
invariant-loop-token l = record {
  count : l.list.count ≡ counted 0 l.yielded;
  lines : l.list.lines.items ≡ lines_of l.yielded;
  tokens : l.list.tokens.items ≡ numbered 0 l.yielded;
}

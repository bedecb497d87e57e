use Rattle.std.proofs.Common.{◌≡◌, ◌++◌, take, Ok}
use Rattle.sg_expand.specs.Total.{counted}
use Rattle.sg_expand.proofs.total.put_all.Given as goal

abbrev pub invariant-loop-token : goal.invariant-loop-token
invariant-loop-token l = record {
  counts : counted l.fn.total (take l.token-index l.tokens) ≡ Ok l.total;
  puts : l.out ≡ l.fn.out ++ take l.token-index l.tokens;
}

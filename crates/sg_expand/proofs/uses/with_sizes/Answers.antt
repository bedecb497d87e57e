use Rattle.std.proofs.Common.{◌≡◌, ◌+◌, drop, ap, arith}
use Rattle.sg_list.proofs.ListLemmas.{drop-get}
use Rattle.sg_block.specs.Tokens.{token_size, size_of}
use Rattle.sg_expand.proofs.uses.with_sizes.Goals as goal

pub returns-then-whole-gt-TOTAL_LIMIT-clause-value : goal.returns-then-whole-gt-TOTAL_LIMIT-clause-value
returns-then-whole-gt-TOTAL_LIMIT-clause-value c = (λ le. absurd (omega (arith, c.loop-place.invariant.value)), λ _. omega arith)

pub loop-place-preserved : goal.loop-place-preserved
loop-place-preserved c =
    let tokens = c.args.tokens.now in
    let place = c.loop-place.place in
    let front : size_of (drop place tokens) ≡ token_size c.at.result.now + size_of (drop (place + 1) tokens) = ap size_of (drop-get tokens place c.at.result.now c.at.ensures) in
    record {
      value = omega (arith, c.loop-place.invariant.value, front, c.token_size-whole.ensures.value);
      bound = omega (arith, c.token_size-whole.ensures.bound);
    }

use Rattle.std.proofs.Common.{◌∙◌, sym, ap, arith}
use Rattle.std.proofs.lemmas.Grind.{common_steps}
use Rattle.std.proofs.lemmas.List.{map-id}
use Rattle.std.proofs.lemmas.Iterator.Adapters.{YieldsList-from_vec}
use Rattle.std.proofs.lemmas.Iterator.Consumers.{YieldsList-end}
use Rattle.sg_hint.specs.Listed.{lines_of, numbered}
use Rattle.sg_hint.proofs.Numbers.{counted_next, numbered_next}
use Rattle.sg_hint.proofs.listed.number_tokens.Goals as goal

pub loop-token-preserved : goal.loop-token-preserved
loop-token-preserved c = record {
  count = counted_next c.loop-token.yielded _ _ _ c.loop-token.invariant.count c.in_ok-push.ensures.count;
  lines = grind (arith, common_steps, c.loop-token.invariant.lines, c.in_ok-push.ensures.lines);
  tokens = numbered_next c.loop-token.yielded _ _ _ _ c.loop-token.invariant.tokens c.loop-token.invariant.count
      c.in_ok-push.ensures.tokens;
}

-- the loop has gone over all tokens
pub returns-clause-tokens : goal.returns-clause-tokens
returns-clause-tokens c = c.loop-token.invariant.tokens ∙ ap (numbered 0)
    (sym (map-id c.loop-token.yielded) ∙ (YieldsList-end (YieldsList-from_vec c.args.tokens.items
    c.into_iter-token-iterator.ensures.into_iter_gives.0 (omega (arith, c.into_iter-token-iterator.ensures.into_iter_gives.1, c.args.tokens.ok.0)))
    c.loop-token.yielded _ c.loop-token.yielded_by _ c.next.new.self c.in-None.is c.next.ensures.steps).0)

pub returns-clause-lines : goal.returns-clause-lines
returns-clause-lines c = c.loop-token.invariant.lines ∙ ap lines_of
    (sym (map-id c.loop-token.yielded) ∙ (YieldsList-end (YieldsList-from_vec c.args.tokens.items
    c.into_iter-token-iterator.ensures.into_iter_gives.0 (omega (arith, c.into_iter-token-iterator.ensures.into_iter_gives.1, c.args.tokens.ok.0)))
    c.loop-token.yielded _ c.loop-token.yielded_by _ c.next.new.self c.in-None.is c.next.ensures.steps).0)

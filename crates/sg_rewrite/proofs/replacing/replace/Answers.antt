use Rattle.std.proofs.Common.{◌+◌, ℕ, List, length, drop, slice_index_or, subst}
use Rattle.std.proofs.lemmas.List.{drop_more}
use Rattle.sg_pattern.specs.Pattern.{InOrder}
use Rattle.sg_rewrite.proofs.Cuts.{span_within}
use Rattle.sg_rewrite.proofs.replacing.replace.Goals as goal

pub append_both-requires-clause-within : goal.append_both-requires-clause-within
append_both-requires-clause-within c =
    let spans = c.args.spans.now in
    let i = c.loop-span.span-index in
    let end = length c.args.bytes.now in
    span_within end c.loop-span.at (slice_index_or spans i (0, 0)) (drop (i + 1) spans)
    (subst (λ (ss : List (ℕ × ℕ)). InOrder c.loop-span.at end ss) (drop_more spans i (0, 0) c.loop-span-test.true) c.loop-span.invariant.in_order)

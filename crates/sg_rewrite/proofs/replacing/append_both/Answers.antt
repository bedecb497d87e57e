use Rattle.std.proofs.Common.{◌++◌, ℕ, List, ap, ◌∙◌, sym, append_assoc, slice_range}
use Rattle.sg_rewrite.specs.Values.{cut}
use Rattle.sg_rewrite.proofs.replacing.append_both.Goals as goal

pub returns-clause-behind : goal.returns-clause-behind
returns-clause-behind c rest =
    c.in_ok-append-2.ensures.behind rest
    ∙ c.in_ok-append.ensures.behind (c.args.text.now ++ rest)
    ∙ ap (λ (b : List ℕ). cut (c.args.value.now.items ++ b)) (sym (append_assoc (slice_range c.args.bytes.now c.args.at c.args.to) c.args.text.now rest))

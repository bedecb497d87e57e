use Rattle.std.proofs.Common.{sym, arith}
use Rattle.std.proofs.lemmas.List.{length-take-le}
use Rattle.sg_rewrite.proofs.Cuts.{cut_short}
use Rattle.sg_rewrite.proofs.render.at_most.Goals as goal

pub slice_bounds-result-end : goal.slice_bounds-result-end
slice_bounds-result-end c = sym (length-take-le 1048576 c.args.value.now (omega (arith, c.if-value-gt-VALUE_LIMIT.true)))

pub returns : goal.returns
returns c = sym (cut_short c.args.value.now c.if-value-gt-VALUE_LIMIT.false)

use Rattle.std.proofs.Common.{◌≡◌, [], take}
use Rattle.std.specs.List.{sum_by}
use Rattle.sg_names.specs.Sizes.{capped, term_size}
use Rattle.sg_names.proofs.size.terms_size.Given as goal

abbrev pub invariant-loop-term : goal.invariant-loop-term
invariant-loop-term l = l.sum ≡ capped (sum_by (term_size l.sizes) (take l.term-index l.terms))

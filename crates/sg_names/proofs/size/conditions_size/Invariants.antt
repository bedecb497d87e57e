use Rattle.std.proofs.Common.{◌≡◌, [], take}
use Rattle.std.specs.List.{sum_by}
use Rattle.sg_names.specs.Sizes.{capped, terms_size}
use Rattle.sg_names.proofs.size.conditions_size.Given as goal

abbrev pub invariant-loop-terms : goal.invariant-loop-terms
invariant-loop-terms l = l.sum ≡ capped (sum_by (terms_size l.sizes) (take l.terms-index l.conditions))

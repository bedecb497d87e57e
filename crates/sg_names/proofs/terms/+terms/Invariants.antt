use Rattle.std.proofs.Common.{◌≡◌, ◌++◌, take}
use Rattle.std.specs.List.{flat_map}
use Rattle.sg_names.specs.Terms.{terms_of}
use Rattle.sg_names.proofs.terms.+terms.Given as goal

abbrev pub invariant-push_all-loop-expr : goal.invariant-push_all-loop-expr
invariant-push_all-loop-expr l = l.found ≡ l.initial.found ++ flat_map (terms_of l.names) (take l.expr-index l.exprs)

use Rattle.std.proofs.Common.{◌≡◌, map, drop}
use Rattle.sg_parse_expr.specs.Classes.{is_same_as}
use Rattle.sg_parse_expr.proofs.class.is_same_as.Given as goal

abbrev pub invariant-loop-name : goal.invariant-loop-name
invariant-loop-name l = is_same_as l.text (map (λ name. name.now) l.names) ≡ is_same_as l.text (map (λ name. name.now) (drop l.name-index l.names))

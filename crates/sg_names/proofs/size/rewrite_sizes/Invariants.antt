use Rattle.std.proofs.Common.{◌≡◌, [], take}
use Rattle.std.specs.List.{fold}
use Rattle.sg_names.specs.Sizes.{statement_sizes}
use Rattle.sg_names.proofs.size.rewrite_sizes.Given as goal

abbrev pub invariant-loop-statement : goal.invariant-loop-statement
invariant-loop-statement l = l.found ≡ fold (statement_sizes l.names l.sizes) [] (take l.statement-index l.statements)

use Rattle.std.proofs.Common.{◌≡◌, [], take}
use Rattle.std.specs.List.{fold}
use Rattle.sg_names.specs.Sizes.{parser_sizes_with}
use Rattle.sg_names.proofs.size.parser_sizes.Given as goal

abbrev pub invariant-loop-statement : goal.invariant-loop-statement
invariant-loop-statement l = l.found ≡ fold parser_sizes_with [] (take l.statement-index l.statements)

use Rattle.std.proofs.Common.{◌≡◌, ◌++◌, take}
use Rattle.std.specs.List.{flat_map}
use Rattle.sg_names.specs.Parts.{tests_in}
use Rattle.sg_names.proofs.part.push_tests.Given as goal

abbrev pub invariant-loop-arg : goal.invariant-loop-arg
invariant-loop-arg l = l.found ≡ l.initial.found ++ flat_map (tests_in l.names) (take l.arg-index l.args)

use Rattle.std.proofs.Common.{◌≡◌, ◌++◌, map, take}
use Rattle.sg_names.specs.Parts.{parser_part}
use Rattle.sg_names.proofs.part.push_parsers.Given as goal

abbrev pub invariant-loop-call : goal.invariant-loop-call
invariant-loop-call l = l.found ≡ l.initial.found ++ map parser_part (take l.call-index l.calls)

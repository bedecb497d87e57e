use Rattle.std.proofs.Common.{◌≡◌, ◌++◌, map, take}
use Rattle.sg_names.specs.Parts.{rewrite_part}
use Rattle.sg_names.proofs.part.push_rewrites.Given as goal

abbrev pub invariant-loop-call : goal.invariant-loop-call
invariant-loop-call l = l.found ≡ l.initial.found ++ map (rewrite_part l.names) (take l.call-index l.calls)

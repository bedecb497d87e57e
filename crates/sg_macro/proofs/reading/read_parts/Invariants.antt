use Rattle.std.proofs.Common.{◌≡◌, length}
use Rattle.sg_macro.specs.Reading.{parts_behind}
use Rattle.sg_macro.proofs.Parts.{ahead}
use Rattle.sg_macro.proofs.reading.read_parts.Given as goal

abbrev pub invariant-loop-rest : goal.invariant-loop-rest
invariant-loop-rest l = parts_behind 0 l.text ≡ ahead l.parts (parts_behind 0 l.rest)

abbrev pub decreases-loop-rest : goal.decreases-loop-rest
decreases-loop-rest l = length l.rest

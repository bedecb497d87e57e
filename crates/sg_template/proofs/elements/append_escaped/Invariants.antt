use Rattle.std.proofs.Common.{◌≡◌, ◌++◌, length}
use Rattle.sg_template.specs.Begins.{BeginsWith}
use Rattle.sg_template.specs.Elements.{escaped}
use Rattle.sg_template.proofs.elements.append_escaped.Given as goal

abbrev pub invariant-loop-rest : goal.invariant-loop-rest
invariant-loop-rest l = record {
  text : l.out.items ++ escaped l.rest ≡ l.fn.out.items ++ escaped l.value;
  begins : BeginsWith l.fn.out.items l.out.items;
}

abbrev pub decreases-loop-rest : goal.decreases-loop-rest
decreases-loop-rest l = length l.rest

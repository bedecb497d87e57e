use Rattle.std.proofs.Common.{◌≡◌, ◌++◌, length, map}
use Rattle.sg_template.specs.Begins.{BeginsWith}
use Rattle.sg_r5424.specs.Write.{printed}
use Rattle.sg_r5424.proofs.writing.append_printed.Given as goal

abbrev pub invariant-loop-rest : goal.invariant-loop-rest
invariant-loop-rest l = record {
  text : l.out.items ++ map printed l.rest ≡ l.fn.out.items ++ map printed l.value;
  begins : BeginsWith l.fn.out.items l.out.items;
}

abbrev pub decreases-loop-rest : goal.decreases-loop-rest
decreases-loop-rest l = length l.rest

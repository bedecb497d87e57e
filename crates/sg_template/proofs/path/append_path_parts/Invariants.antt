use Rattle.std.proofs.Common.{◌≡◌, ◌++◌, take}
use Rattle.std.specs.List.{flat_map}
use Rattle.sg_template.specs.Begins.{BeginsWith}
use Rattle.sg_template.specs.Path.{path_part}
use Rattle.sg_template.proofs.path.append_path_parts.Given as goal

abbrev pub invariant-loop-part : goal.invariant-loop-part
invariant-loop-part l = record {
  text : l.out.items ≡ l.fn.out.items ++ flat_map (path_part l.message l.env) (take l.part-index l.parts);
  begins : BeginsWith l.fn.out.items l.out.items;
}

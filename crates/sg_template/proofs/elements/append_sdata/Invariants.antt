use Rattle.std.proofs.Common.{◌≡◌, ◌++◌, drop, option_copied}
use Rattle.sg_template.specs.Begins.{BeginsWith}
use Rattle.sg_template.specs.Elements.{sdata_text, elements_text}
use Rattle.sg_template.proofs.Steps.{items}
use Rattle.sg_template.proofs.elements.append_sdata.Given as goal

abbrev pub invariant-loop-place : goal.invariant-loop-place
invariant-loop-place l = record {
  text : l.out.items ++ elements_text (option_copied l.current) (items (drop l.place l.message.pairs)) ≡ l.fn.out.items ++ sdata_text l.message.pairs;
  begins : BeginsWith l.fn.out.items l.out.items;
}

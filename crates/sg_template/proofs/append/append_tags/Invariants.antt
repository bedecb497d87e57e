use Rattle.std.proofs.Common.{◌≡◌, ◌+◌, ◌-◌, ◌≤◌, ◌++◌, length, drop}
use Rattle.std.specs.List.{flat_map}
use Rattle.sg_template.specs.Begins.{BeginsWith}
use Rattle.sg_template.specs.Texts.{tags_text, later_tag}
use Rattle.sg_template.proofs.append.append_tags.Given as goal

abbrev pub invariant-loop-tag : goal.invariant-loop-tag
invariant-loop-tag l = record {
  text : l.out.items ++ flat_map later_tag (drop l.place l.message.tags) ≡ l.fn.out.items ++ tags_text l.message.tags;
  begins : BeginsWith l.fn.out.items l.out.items;
  place : l.place ≤ length l.out.items + 1;
}

abbrev pub decreases-loop-tag : goal.decreases-loop-tag
decreases-loop-tag l = length l.message.tags - l.place

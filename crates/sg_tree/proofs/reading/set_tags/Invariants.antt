use Rattle.std.proofs.Common.{◌≡◌, drop}
use Rattle.sg_tree.specs.Readings.{with_tags}
use Rattle.sg_tree.proofs.reading.set_tags.Given as goal

abbrev pub invariant-loop-tag : goal.invariant-loop-tag
invariant-loop-tag l = with_tags (drop l.tag-index l.tags) l.message ≡ with_tags l.tags l.initial.message

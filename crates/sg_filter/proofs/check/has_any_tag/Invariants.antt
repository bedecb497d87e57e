use Rattle.std.proofs.Common.{◌≡◌, drop}
use Rattle.sg_filter.specs.Checks.{has_any_tag}
use Rattle.sg_filter.proofs.check.has_any_tag.Given as goal

abbrev pub invariant-loop-tag : goal.invariant-loop-tag
invariant-loop-tag l = has_any_tag l.tags l.message.tags ≡ has_any_tag (drop l.tag-index l.tags) l.message.tags

use Rattle.std.proofs.Common.{◌≡◌, drop}
use Rattle.sg_msg.specs.Message.{has_tag}
use Rattle.sg_filter.proofs.check.has_tag.Given as goal

abbrev pub invariant-tags : goal.invariant-tags
invariant-tags l = has_tag l.tag l.message.tags ≡ has_tag l.tag (drop l.place l.message.tags)

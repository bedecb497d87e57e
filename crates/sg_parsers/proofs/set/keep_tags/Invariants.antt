use Rattle.std.proofs.Common.{◌≡◌, ◌-◌, length, take}
use Rattle.sg_parsers.proofs.set.keep_tags.Given as goal

abbrev pub invariant-loop-tag : goal.invariant-loop-tag
invariant-loop-tag l = l.builder ≡ record l.fn.builder { tags = take l.place l.message.tags }

abbrev pub decreases-loop-tag : goal.decreases-loop-tag
decreases-loop-tag l = length l.message.tags - l.place

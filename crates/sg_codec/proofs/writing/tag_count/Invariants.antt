use Rattle.std.proofs.Common.{◌≤◌, ◌-◌, length}
use Rattle.sg_codec.proofs.writing.tag_count.Given as goal

abbrev pub invariant-loop-count : goal.invariant-loop-count
invariant-loop-count l = l.count ≤ length l.message.tags

abbrev pub decreases-loop-count : goal.decreases-loop-count
decreases-loop-count l = length l.message.tags - l.count

use Rattle.std.proofs.Common.{◌≡◌, ◌≤◌, ◌+◌, ◌*◌, drop}
use Rattle.sg_msg.specs.Length.{tag_lengths}
use Rattle.sg_msg.proofs.length.less_tags.Given as goal

abbrev pub invariant-loop-tag : goal.invariant-loop-tag
invariant-loop-tag l = record {
  place : 4 * l.place + l.left ≤ l.room;
  rest : l.left + tag_lengths l.message.tags ≡ l.room + tag_lengths (drop l.place l.message.tags);
}

abbrev pub decreases-loop-tag : goal.decreases-loop-tag
decreases-loop-tag l = l.left

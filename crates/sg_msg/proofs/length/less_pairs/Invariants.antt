use Rattle.std.proofs.Common.{◌≡◌, ◌≤◌, ◌+◌, ◌*◌, drop}
use Rattle.sg_msg.specs.Length.{pair_lengths}
use Rattle.sg_msg.proofs.length.less_pairs.Given as goal

abbrev pub invariant-loop-name : goal.invariant-loop-name
invariant-loop-name l = record {
  place : 8 * l.place + l.left ≤ l.room;
  rest : l.left + pair_lengths l.message.pairs ≡ l.room + pair_lengths (drop l.place l.message.pairs);
}

abbrev pub decreases-loop-name : goal.decreases-loop-name
decreases-loop-name l = l.left

use Rattle.std.proofs.Common.{◌≡◌, ◌≤◌, ◌-◌, ◌++◌, length, drop}
use Rattle.sg_msg.specs.Message.{HaveNames}
use Rattle.sg_codec.specs.Spelling.{pairs_bytes, HaveValues}
use Rattle.sg_codec.proofs.writing.put_pairs.Given as goal

abbrev pub invariant-loop-name : goal.invariant-loop-name
invariant-loop-name l = record {
  place : l.place ≤ length l.message.pairs;
  written : l.out.items ++ pairs_bytes (drop l.place l.message.pairs) ≡ l.fn.out.items ++ pairs_bytes l.message.pairs;
  names : HaveNames (drop l.place l.message.pairs);
  values : HaveValues (drop l.place l.message.pairs);
}

abbrev pub decreases-loop-name : goal.decreases-loop-name
decreases-loop-name l = length l.message.pairs - l.place

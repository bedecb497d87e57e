use Rattle.std.proofs.Common.{◌≡◌, ◌≤◌, ◌-◌, ◌++◌, length, drop}
use Rattle.sg_codec.specs.Spelling.{tags_bytes, AreTexts}
use Rattle.sg_codec.proofs.writing.put_tags.Given as goal

abbrev pub invariant-loop-tag : goal.invariant-loop-tag
invariant-loop-tag l = record {
  place : l.place ≤ length l.message.tags;
  written : l.out.items ++ tags_bytes (drop l.place l.message.tags) ≡ l.fn.out.items ++ tags_bytes l.message.tags;
  texts : AreTexts (drop l.place l.message.tags);
}

abbrev pub decreases-loop-tag : goal.decreases-loop-tag
decreases-loop-tag l = length l.message.tags - l.place

use Rattle.std.proofs.Common.{◌≡◌, ◌-◌, [], length}
use Rattle.sg_codec.specs.Reading.{tags_at}
use Rattle.sg_codec.proofs.reading.take_tags.Given as goal

abbrev pub invariant-loop-place : goal.invariant-loop-place
invariant-loop-place l = record {
  others : l.builder ≡ record l.fn.builder { tags = l.builder.tags };
  read : tags_at (l.count - l.place) l.builder.tags l.rest ≡ tags_at l.count [] l.fn.rest;
  place : length l.builder.tags ≡ l.place;
}

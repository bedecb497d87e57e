use Rattle.std.proofs.Common.{◌≡◌, ◌-◌, []}
use Rattle.sg_msg.specs.Message.{IsAscending}
use Rattle.sg_codec.specs.Reading.{pairs_at, last_name}
use Rattle.sg_codec.proofs.reading.take_pairs.Given as goal

abbrev pub invariant-loop : goal.invariant-loop
invariant-loop l = record {
  others : l.builder ≡ record l.fn.builder { put = l.builder.put };
  read : pairs_at (l.count - l.counter) l.builder.put l.rest ≡ pairs_at l.count [] l.fn.rest;
  last : l.last ≡ last_name l.builder.put;
  ascending : IsAscending l.builder.put;
}

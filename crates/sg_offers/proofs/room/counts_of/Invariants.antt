use Rattle.std.proofs.Common.{◌≡◌, ◌≤◌, ◌<◌, ◌+◌, ℕ, length, get_or, drop}
use Rattle.sg_offers.specs.Rooms.{counted_to, AreTo}
use Rattle.sg_offers.proofs.room.counts_of.Given as goal

abbrev pub invariant-loop-payload : goal.invariant-loop-payload
invariant-loop-payload l = record {
  len : length l.counts.items ≡ l.dests;
  to : AreTo l.dests (drop l.payload-index l.payloads);
  count : (d : ℕ) → d < l.dests → get_or l.counts.items d 0 + counted_to d (drop l.payload-index l.payloads) ≡ counted_to d l.payloads;
  few : (d : ℕ) → get_or l.counts.items d 0 ≤ l.payload-index;
}

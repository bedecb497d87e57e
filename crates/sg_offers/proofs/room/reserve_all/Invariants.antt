use Rattle.std.proofs.Common.{◌≡◌, ◌≤◌, ◌<◌, ℕ, Some, length, get_or, slice_get}
use Rattle.sg_sinks.specs.States.{Sunk}
use Rattle.sg_offers.specs.Rooms.{seen_in}
use Rattle.sg_offers.proofs.room.reserve_all.Given as goal

abbrev pub invariant-loop-d : goal.invariant-loop-d
invariant-loop-d l = record {
  len : length l.sinks ≡ length l.fn.sinks;
  same : seen_in l.sinks ≡ seen_in l.fn.sinks;
  room : (d : ℕ) (sink : Sunk) → d < l.d → slice_get l.sinks d ≡ Some sink → get_or l.counts d 0 ≤ sink.room;
}

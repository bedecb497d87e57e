use Rattle.std.proofs.Common.{◌≡◌}
use Rattle.sg_list.specs.Lists.{change}
use Rattle.sg_offers.specs.Rooms.{seen_in}
use Rattle.sg_standing.specs.Sources.{acks_all}
use Rattle.sg_core.specs.Parts.{entries_at, settled_waiting_some}
use Rattle.sg_core.proofs.parts.settle_waiting.Given as goal

abbrev pub invariant-loop-k : goal.invariant-loop-k
invariant-loop-k l =
    (seen_in l.sinks ≡ change (seen_in l.initial.sinks) l.d (settled_waiting_some l.k))
    × (l.sources ≡ acks_all l.initial.sources (entries_at (seen_in l.initial.sinks) l.d l.k))

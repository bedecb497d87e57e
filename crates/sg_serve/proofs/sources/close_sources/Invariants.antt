use Rattle.std.proofs.Common.{◌≡◌, map, deque_len}
use Rattle.sg_outside.specs.World.{WorldState}
use Rattle.sg_serve.specs.Devices.{ClosesInlets}
use Rattle.sg_serve.proofs.sources.close_sources.Given as goal

abbrev pub invariant-loop-source : goal.invariant-loop-source
invariant-loop-source g l = record {
  closes : (new : WorldState) → ClosesInlets (g.W.Machine.state l.world) new (map (λ a. g.W.Feed.Inlet.state a.inlet) l.rest.items) → ClosesInlets (g.W.Machine.state l.fn.world) new (map (λ a. g.W.Feed.Inlet.state a.inlet) l.fn.sources.items);
  last : l.last ≡ l.fn.last;
}

abbrev pub decreases-loop-source : goal.decreases-loop-source
decreases-loop-source g l = deque_len l.rest

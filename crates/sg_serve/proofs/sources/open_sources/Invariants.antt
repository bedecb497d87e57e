use Rattle.std.proofs.Common.{◌≡◌, ◌≤◌, ◌++◌, length, map, vec_capacity}
use Rattle.sg_actor.specs.SourceTurns.{actor}
use Rattle.sg_serve.specs.Devices.{inlets_asked}
use Rattle.sg_serve.specs.Rewinds.{position_at, places_of, rewinds_from, HasBegun, AwaitsFrom}
use Rattle.sg_serve.specs.Actors.{source_view, AreSourcesFor, OpensAt}
use Rattle.sg_serve.proofs.sources.open_sources.Given as goal

abbrev pub invariant-loop-i : goal.invariant-loop-i
invariant-loop-i g l = record {
  opened : OpensAt (g.W.Machine.state l.fn.world) (g.W.Machine.state l.world) (inlets_asked l.fn.once l.plans) (position_at l.fn.core) (map (λ a. g.W.Feed.Inlet.state a.inlet) l.sources.items);
  begun : HasBegun l.fn.core l.core (rewinds_from (position_at l.fn.core) 0 (places_of (map (λ a. g.W.Feed.Inlet.state a.inlet) l.sources.items)));
  awaits : AwaitsFrom l.fn.core l.core (length l.sources.items);
  made : AreSourcesFor l.plans l.setups (map (λ a. source_view a.spec (actor (g.W.Feed.Inlet.state a.inlet) a.reader a.buffer.items a.position a.bad_frames) (g.R.Router.dests a.router)) l.sources.items);
  taken : map (λ a. a.router) l.sources.items ++ l.rest.items ≡ l.fn.routers.items;
  count : length l.sources.items ≡ l.i;
  room : length l.plans ≤ vec_capacity l.sources;
}

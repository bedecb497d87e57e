use Rattle.std.proofs.Common.{◌≡◌, ◌≤◌, ◌+◌, ◌-◌, length}
use Rattle.std.specs.Prelude.{◌*◌}
use Rattle.sg_booth.specs.Desks.{IsDeskOf, ArePlacesOrdered, places}
use Rattle.sg_standing.specs.States.{setup_of}
use Rattle.sg_turns.specs.Actors.{AreSources, AreDests, SourceTook, DestTook}
use Rattle.sg_crew.specs.Workers.{actors_of}
use Rattle.sg_crew.proofs.RunLemmas.{HasRun}
use Rattle.sg_crew.proofs.rounds.run_rounds.Given as goal

abbrev pub invariant-loop-left : goal.invariant-loop-left
invariant-loop-left g l = record {
  hub : l.hub ≡ l.initial.hub;
  first : IsDeskOf l.hub l.first;
  ordered : ArePlacesOrdered l.first;
  sum : length (places l.first) + l.first.left ≡ l.hub.turns;
  few : l.left ≤ l.fn.rounds;
  left : l.hub.turns + 196608 * l.left ≤ l.first.left + 196608 * l.fn.rounds;
  sources : AreSources g.I.Inlet.state g.R.Router.inlets g.R.Router.dests (setup_of l.hub.made) (actors_of l.sources.items);
  dests : AreDests g.O.Outlet.state (setup_of l.hub.made) (actors_of l.dests.items);
  all_sources : length l.sources.items ≡ length l.initial.sources.items;
  all_dests : length l.dests.items ≡ length l.initial.dests.items;
  world : g.W.Machine.state l.world ≡ g.W.Machine.state l.initial.world;
  run : HasRun (SourceTook g.I.Inlet.state g.R.Router.offers g.R.Router.inlets g.R.Router.dests) (DestTook g.O.Outlet.state) l.first
      (actors_of l.initial.sources.items) (actors_of l.sources.items) (actors_of l.initial.dests.items) (actors_of l.dests.items) (l.fn.rounds - l.left) l.left;
}

abbrev pub decreases-loop-left : goal.decreases-loop-left
decreases-loop-left g l = l.left

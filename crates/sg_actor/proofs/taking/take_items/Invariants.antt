use Rattle.std.proofs.Common.{◌≡◌, ◌≤◌, max}
use Rattle.std.specs.Prelude.{length}
use Rattle.sg_route.specs.Offers.{SameRouter}
use Rattle.sg_actor.specs.Steps.{KeepsAll, HasTakenRecords}
use Rattle.sg_actor.proofs.taking.take_items.Given as goal

abbrev pub invariant-loop-count : goal.invariant-loop-count
invariant-loop-count g l = record {
  keeps : KeepsAll (g.R.Router.offers l.initial.router) (g.R.Router.dests l.initial.router) l.spec (g.I.Inlet.state l.inlet) l.initial.reader l.reader;
  taken : HasTakenRecords l.initial.reader l.reader;
  router : SameRouter (g.R.Router.offers l.initial.router) (g.R.Router.offers l.router) (g.R.Router.inlets l.initial.router) (g.R.Router.inlets l.router) (g.R.Router.dests l.initial.router) (g.R.Router.dests l.router);
  held : length l.reader.held ≡ l._count;
  few : length l.reader.held ≤ max (length l.initial.reader.held) l.most;
}

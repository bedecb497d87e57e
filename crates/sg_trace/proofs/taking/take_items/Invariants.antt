use Rattle.sg_route.specs.Offers.{SameRouter}
use Rattle.sg_trace.specs.Taking.{TakesItems}
use Rattle.sg_trace.proofs.taking.take_items.Given as goal

abbrev pub invariant-items : goal.invariant-items
invariant-items g l = record {
  takes : TakesItems (g.R.Router.offers l.initial.router l.reader.inlet) l.targets l.peer l.initial.tracer l.tracer;
  router : SameRouter (g.R.Router.offers l.initial.router) (g.R.Router.offers l.router) (g.R.Router.inlets l.initial.router) (g.R.Router.inlets l.router) (g.R.Router.dests l.initial.router) (g.R.Router.dests l.router);
}

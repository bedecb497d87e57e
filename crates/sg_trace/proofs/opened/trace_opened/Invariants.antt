use Rattle.sg_route.specs.Offers.{SameRouter}
use Rattle.sg_trace.specs.Opened.{IsTracing}
use Rattle.sg_trace.proofs.opened.trace_opened.Given as goal

abbrev pub invariant-loop-pull : goal.invariant-loop-pull
invariant-loop-pull g l = record {
  tracing : IsTracing (g.R.Router.offers l.initial.router l.reader.inlet) l.targets l.reader.kind l.reader.limit (g.W.Feed.Inlet.state l.initial.feed) (g.W.Feed.Inlet.state l.feed) (g.W.Machine.state l.initial.world) (g.W.Machine.state l.world) l.tracer l._pull;
  router : SameRouter (g.R.Router.offers l.initial.router) (g.R.Router.offers l.router) (g.R.Router.inlets l.initial.router) (g.R.Router.inlets l.router) (g.R.Router.dests l.initial.router) (g.R.Router.dests l.router);
}

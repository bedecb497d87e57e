use Rattle.std.proofs.Common.{refl, arith, sym, rules, tests}
use Rattle.std.specs.declared.alloc.AllocError.{AllocError}
use Rattle.sg_route.proofs.Routers.{router-same, router-then}
use Rattle.sg_actor.specs.Sources.{source}
use Rattle.sg_actor.proofs.KeepLemmas.{keeps-none, keeps-on, takes-one, taken-then}
use Rattle.sg_actor.proofs.taking.take_items.Goals as goal

pub loop-count-init : goal.loop-count-init
loop-count-init g c = record {
  keeps = λ buffer ready. keeps-none (g.R.Router.offers c.args.router.now) (g.R.Router.dests c.args.router.now) c.args.spec.now (source (g.I.Inlet.state c.args.inlet.now) c.args.reader.now buffer) ready;
  taken = record { pulled = refl; ended = refl; failed = refl; given_up = refl };
  router = router-same (g.R.Router.offers c.args.router.now) (g.R.Router.inlets c.args.router.now) (g.R.Router.dests c.args.router.now);
  held = sym c.len-count.ensures;
  few = omega arith;
}

pub returns-in_err-take_item-clause-keeps : goal.returns-in_err-take_item-clause-keeps
returns-in_err-take_item-clause-keeps g c =
    let i = c.loop-count.invariant in
    keeps-on (g.R.Router.offers c.args.router.now) (g.R.Router.offers c.loop-count.router) (g.R.Router.dests c.args.router.now) (g.R.Router.dests c.loop-count.router) c.args.spec.now (g.I.Inlet.state c.args.inlet.now)
    c.args.reader.now c.loop-count.reader c.take_item.new.reader i.keeps i.router.same i.router.dests_same c.in_err-take_item.ensures.keeps

pub returns-then-not-branch-clause-keeps : goal.returns-then-not-branch-clause-keeps
returns-then-not-branch-clause-keeps g c =
    let i = c.loop-count.invariant in
    keeps-on (g.R.Router.offers c.args.router.now) (g.R.Router.offers c.loop-count.router) (g.R.Router.dests c.args.router.now) (g.R.Router.dests c.loop-count.router) c.args.spec.now (g.I.Inlet.state c.args.inlet.now)
    c.args.reader.now c.loop-count.reader c.take_item.new.reader i.keeps i.router.same i.router.dests_same c.in_ok-take_item.ensures.keeps

pub loop-count-preserved : goal.loop-count-preserved
loop-count-preserved g c =
    let i = c.loop-count.invariant in
    let e = c.in_ok-take_item.ensures in
    let takes = e.takes in
    record {
      keeps = keeps-on (g.R.Router.offers c.args.router.now) (g.R.Router.offers c.loop-count.router) (g.R.Router.dests c.args.router.now) (g.R.Router.dests c.loop-count.router) c.args.spec.now (g.I.Inlet.state c.args.inlet.now)
          c.args.reader.now c.loop-count.reader c.take_item.new.reader i.keeps i.router.same i.router.dests_same e.keeps;
      taken = taken-then c.args.reader.now c.loop-count.reader c.take_item.new.reader i.taken e.taken;
      router = router-then (g.R.Router.offers c.args.router.now) (g.R.Router.offers c.loop-count.router) (g.R.Router.offers c.take_item.new.router) (g.R.Router.inlets c.args.router.now) (g.R.Router.inlets c.loop-count.router) (g.R.Router.inlets c.take_item.new.router)
          (g.R.Router.dests c.args.router.now) (g.R.Router.dests c.loop-count.router) (g.R.Router.dests c.take_item.new.router) i.router e.router;
      held = (let more = takes-one AllocError c.loop-count.reader c.take_item.new.reader c.in_ok-take_item.field-0 (search (rules, tests)) takes in omega arith);
      few = (let more = takes-one AllocError c.loop-count.reader c.take_item.new.reader c.in_ok-take_item.field-0 (search (rules, tests)) takes in omega (arith, i.held));
    }

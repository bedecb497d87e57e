use Rattle.std.proofs.Common.{◌+◌, ℕ, Ok, sym, ap, subst, arith, w64}
use Rattle.std.proofs.lemmas.Int.{to_z-of_z, ints}
use Rattle.std.specs.Prelude.{FitsSigned as SFits}
use Rattle.sg_frame.specs.Framing.{Framing, GivesItem, NextTells}
use Rattle.sg_frame.specs.Items.{Item}
use Rattle.sg_frame.specs.declared.framer.Framed.{Framed}
use Rattle.sg_route.specs.Offers.{record_at}
use Rattle.sg_route.proofs.Routers.{router-same, router-then}
use Rattle.sg_trace.specs.declared.tracer.Tracer.{Tracer}
use Rattle.sg_trace.proofs.Takings.{takes-none, takes-one}
use Rattle.sg_frame.proofs.TimelyLemmas.{gives-timely}
use Rattle.sg_trace.proofs.taking.take_items.Goals as goal

pub items-init : goal.items-init
items-init g c = record {
  takes = takes-none (g.R.Router.offers c.args.router.now c.args.reader.inlet) c.args.targets.now c.args.peer.now c.args.tracer.now;
  router = router-same (g.R.Router.offers c.args.router.now) (g.R.Router.inlets c.args.router.now) (g.R.Router.dests c.args.router.now);
}

pub trace_record-requires-clause-moment : goal.trace_record-requires-clause-moment
trace_record-requires-clause-moment g c =
    let f = c.items.tracer.framer in
    let item : Item = record { text = c.in-Item.bytes; at = c.in-Item.at; end = c.in-Item.end } in
    let gives : GivesItem f c.next.new.self item = subst (λ (x : Framed). NextTells f c.next.new.self (Ok x)) c.in-Item.is c.in_ok-bytes.ensures in
    let timely = gives-timely f c.next.new.self item (c.items.invariant.takes.1.passes.timely c.requires.timely) gives in
    let in_range : SFits w64 c.in-Item.at = omega (arith, ints, timely.0, timely.1) in
    rw (to_z-of_z w64 c.in-Item.at in_range) timely

pub items-preserved : goal.items-preserved
items-preserved g c =
    let f = c.items.tracer.framer in
    let item : Item = record { text = c.in-Item.bytes; at = c.in-Item.at; end = c.in-Item.end } in
    let gives : GivesItem f c.next.new.self item = subst (λ (x : Framed). NextTells f c.next.new.self (Ok x)) c.in-Item.is c.in_ok-bytes.ensures in
    let timely = gives-timely f c.next.new.self item (c.items.invariant.takes.1.passes.timely c.requires.timely) gives in
    let in_range : SFits w64 c.in-Item.at = omega (arith, ints, timely.0, timely.1) in
    let moment = to_z-of_z w64 c.in-Item.at in_range in
    let done = c.in_ok-trace_record-in-Item.ensures in
    let traced = rw moment at done.traced in
    let t = c.trace_record.new.tracer in
    let new : Tracer = record { framer = t.framer; number = t.number + 1; bytes = t.bytes; text = t.text } in
    record {
      takes = takes-one (g.R.Router.offers c.args.router.now c.args.reader.inlet) c.args.targets.now c.args.peer.now c.args.tracer.now c.items.tracer new item traced.0
          c.items.invariant.takes c.requires.timely (subst (λ (x : Framing). GivesItem f x item) (sym done.rest.0) gives)
          (c.items.invariant.router.same.back c.args.reader.inlet (record_at c.args.peer.now c.in-Item.bytes c.in-Item.at) traced.0 traced.1.0) traced.1.1 (ap (λ (n : ℕ). n + 1) done.rest.1);
      router = router-then _ _ _ _ _ _ _ _ _ c.items.invariant.router done.router;
    }

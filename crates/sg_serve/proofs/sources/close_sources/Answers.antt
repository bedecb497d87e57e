use Rattle.std.proofs.Common.{[], ◌++◌, ap, map, subst, sym, ◌∙◌, arith, ◌≡◌}
use Rattle.std.specs.Prelude.{option_map, option_to_list}
use Rattle.std.proofs.lemmas.List.{append-nil}
use Rattle.sg_outside.specs.World.{ClosesInlet}
use Rattle.sg_serve.specs.Devices.{ClosesInlets}
use Rattle.sg_serve.proofs.DeviceLemmas.{closes-inlets, closes-inlets-last, closes-no-inlet}
use Rattle.sg_stores.proofs.GetLemmas.{none-of}
use Rattle.sg_serve.proofs.sources.close_sources.Goals as goal

pub loop-source-preserved : goal.loop-source-preserved
loop-source-preserved g c = record {
  closes = λ new closes.
      let f = g.W.Feed.Inlet.state in
      let w = g.W.Machine.state c.loop-source.world in
      c.loop-source.invariant.closes new (subst (λ (ds : _). ClosesInlets w new ds) (sym (ap (map (λ a. f a.inlet)) c.in-Some.ensures.items))
      (closes-inlets w (g.W.Machine.state c.close_inlet.new.self) new (f c.in-Some.source.inlet) (map (λ a. f a.inlet) c.pop_front.new.self.items)
      (subst (λ o. ClosesInlet w (g.W.Machine.state c.close_inlet.new.self) (f o)) c.into_inlet.ensures c.close_inlet.ensures) closes));
  last = c.loop-source.invariant.last;
}

pub returns-in-Some-last : goal.returns-in-Some-last
returns-in-Some-last g c =
    let f = g.W.Feed.Inlet.state in
    let w = g.W.Machine.state c.loop-source.world in
    let none : c.loop-source.rest.items ≡ [] = none-of c.loop-source.rest.items (let a = c.loop-source.rest.ok in let b = c.in_default.ensures.cases.0 in omega (arith, a, b)) in
    let closed = c.loop-source.invariant.closes w (subst (λ (ds : _). ClosesInlets w w ds) (sym (ap (map (λ a. f a.inlet)) none)) (closes-no-inlet w)) in
    let all = closes-inlets-last (g.W.Machine.state c.args.world.now) w (g.W.Machine.state c.close_inlet-in-Some-last.new.self) (map (λ a. f a.inlet) c.args.sources.items) (f c.in-Some-last.feed) closed c.close_inlet-in-Some-last.ensures in
    subst (λ (o : _). ClosesInlets (g.W.Machine.state c.args.world.now) (g.W.Machine.state c.close_inlet-in-Some-last.new.self) (map (λ a. f a.inlet) c.args.sources.items ++ option_to_list (option_map f o))) (sym c.in-Some-last.is ∙ c.loop-source.invariant.last) all

pub returns-in_default-last : goal.returns-in_default-last
returns-in_default-last g c =
    let f = g.W.Feed.Inlet.state in
    let w = g.W.Machine.state c.loop-source.world in
    let none : c.loop-source.rest.items ≡ [] = none-of c.loop-source.rest.items (let a = c.loop-source.rest.ok in let b = c.in_default.ensures.cases.0 in omega (arith, a, b)) in
    let closed = c.loop-source.invariant.closes w (subst (λ (ds : _). ClosesInlets w w ds) (sym (ap (map (λ a. f a.inlet)) none)) (closes-no-inlet w)) in
    let all = subst (λ (ds : _). ClosesInlets (g.W.Machine.state c.args.world.now) w ds) (sym (append-nil (map (λ a. f a.inlet) c.args.sources.items))) closed in
    subst (λ (o : _). ClosesInlets (g.W.Machine.state c.args.world.now) w (map (λ a. f a.inlet) c.args.sources.items ++ option_to_list (option_map f o))) (sym c.in_default-last.is) all

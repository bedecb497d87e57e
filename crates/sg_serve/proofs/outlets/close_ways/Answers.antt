use Rattle.std.proofs.Common.{[], ◌∷◌, ◌++◌, ap, map, subst, sym, ◌∙◌, arith, ◌≡◌}
use Rattle.std.specs.Prelude.{option_map, option_to_list}
use Rattle.std.proofs.lemmas.List.{append-nil}
use Rattle.sg_serve.specs.Devices.{ClosesOutlets}
use Rattle.sg_serve.specs.Exits.{exit_of, opener_in, out_of, parts_out}
use Rattle.sg_serve.proofs.OutLemmas.{closes-no-out, closes-two, closes-way}
use Rattle.sg_stores.proofs.GetLemmas.{none-of}
use Rattle.sg_serve.proofs.outlets.close_ways.Goals as goal

pub loop-way-preserved : goal.loop-way-preserved
loop-way-preserved g c = record {
  closes = λ new closes.
      let drain = g.W.Drain.Outlet.state in
      let paths = g.W.Paths.Opener.state in
      let disk = g.W.Store.Disk.state in
      let f = out_of drain paths disk in
      let w = g.W.Machine.state c.loop-way.world in
      let mid = g.W.Machine.state c.close_parts.new.world in
      let part = c.parts_of.result in
      let one = closes-way w mid (f c.in-Some.way) (parts_out drain paths disk part) (ap (exit_of drain paths) c.parts_of.ensures.exit) (ap (opener_in paths) c.parts_of.ensures.exit) (ap (option_map disk) c.parts_of.ensures.store) c.close_parts.ensures in
      c.loop-way.invariant.closes new (subst (λ (os : _). ClosesOutlets w new os) (sym (ap (map f) c.in-Some.ensures.items))
      (closes-two w mid new (f c.in-Some.way ∷ []) (map f c.pop_front.new.self.items) one closes));
  last = c.loop-way.invariant.last;
}

pub returns-in-Some-last : goal.returns-in-Some-last
returns-in-Some-last g c =
    let f = out_of g.W.Drain.Outlet.state g.W.Paths.Opener.state g.W.Store.Disk.state in
    let p = parts_out g.W.Drain.Outlet.state g.W.Paths.Opener.state g.W.Store.Disk.state in
    let old = g.W.Machine.state c.args.world.now in
    let w = g.W.Machine.state c.loop-way.world in
    let new = g.W.Machine.state c.close_parts-in-Some-last.new.world in
    let none : c.loop-way.rest.items ≡ [] = none-of c.loop-way.rest.items (let a = c.loop-way.rest.ok in let b = c.in_default.ensures.cases.0 in omega (arith, a, b)) in
    let closed = c.loop-way.invariant.closes w (subst (λ (os : _). ClosesOutlets w w os) (sym (ap (map f) none)) (closes-no-out w)) in
    let all = closes-two old w new (map f c.args.ways.items) (p c.in-Some-last.parts ∷ []) closed c.close_parts-in-Some-last.ensures in
    subst (λ (o : _). ClosesOutlets old new (map f c.args.ways.items ++ option_to_list (option_map p o))) (sym c.in-Some-last.is ∙ c.loop-way.invariant.last) all

pub returns-in_default-last : goal.returns-in_default-last
returns-in_default-last g c =
    let f = out_of g.W.Drain.Outlet.state g.W.Paths.Opener.state g.W.Store.Disk.state in
    let p = parts_out g.W.Drain.Outlet.state g.W.Paths.Opener.state g.W.Store.Disk.state in
    let old = g.W.Machine.state c.args.world.now in
    let w = g.W.Machine.state c.loop-way.world in
    let none : c.loop-way.rest.items ≡ [] = none-of c.loop-way.rest.items (let a = c.loop-way.rest.ok in let b = c.in_default.ensures.cases.0 in omega (arith, a, b)) in
    let closed = c.loop-way.invariant.closes w (subst (λ (os : _). ClosesOutlets w w os) (sym (ap (map f) none)) (closes-no-out w)) in
    let all = subst (λ (os : _). ClosesOutlets old w os) (sym (append-nil (map f c.args.ways.items))) closed in
    subst (λ (o : _). ClosesOutlets old w (map f c.args.ways.items ++ option_to_list (option_map p o))) (sym c.in_default-last.is) all

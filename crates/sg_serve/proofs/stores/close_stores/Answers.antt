use Rattle.std.proofs.Common.{[], ap, map, subst, sym, arith, ◌≡◌}
use Rattle.sg_serve.specs.Devices.{ClosesStores}
use Rattle.sg_serve.proofs.DeviceLemmas.{closes-stores, closes-no-store}
use Rattle.sg_stores.proofs.GetLemmas.{none-of}
use Rattle.sg_serve.proofs.stores.close_stores.Goals as goal

pub loop-store-preserved : goal.loop-store-preserved
loop-store-preserved g c = λ new closes.
    let f = g.W.Store.Disk.state in
    let w = g.W.Machine.state c.loop-store.world in
    c.loop-store.invariant new (subst (λ (ds : _). ClosesStores w new ds) (sym (ap (map f) c.in-Some.ensures.items))
    (closes-stores w (g.W.Machine.state c.close_store.new.self) new (f c.in-Some.store) (map f c.pop_front.new.self.items) c.close_store.ensures closes))

pub returns : goal.returns
returns g c =
    let f = g.W.Store.Disk.state in
    let w = g.W.Machine.state c.loop-store.world in
    let none : c.loop-store.rest.items ≡ [] = none-of c.loop-store.rest.items (let a = c.loop-store.rest.ok in let b = c.in_default.ensures.cases.0 in omega (arith, a, b)) in
    c.loop-store.invariant w (subst (λ (ds : _). ClosesStores w w ds) (sym (ap (map f) none)) (closes-no-store w))

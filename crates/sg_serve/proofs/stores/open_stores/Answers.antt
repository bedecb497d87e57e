use Rattle.std.proofs.Common.{◌≡◌, ◌∙◌, ap, map, length, slice_get, Some, subst, sym, refl, arith}
use Rattle.std.proofs.lemmas.List.{length-map}
use Rattle.std.proofs.lemmas.Option.{slice_get_read}
use Rattle.sg_serve.specs.Devices.{OpensStores}
use Rattle.sg_serve.proofs.DeviceLemmas.{stores-more, map-push}
use Rattle.sg_serve.proofs.stores.open_stores.Goals as goal

pub loop-spec-preserved : goal.loop-spec-preserved
loop-spec-preserved g c =
    let f = g.W.Store.Disk.state in
    let inv = c.loop-spec.invariant in
    let specs = c.args.specs.now in
    let held = c.loop-spec.stores.items in
    let there = slice_get_read specs (length specs) c.loop-spec.spec-index c.spec-item.result refl c.loop-spec-test.true c.spec-item.is in
    let at : slice_get specs (length (map f held)) ≡ Some c.spec-item.result = ap (slice_get specs) (length-map held f ∙ inv.count) ∙ there in
    let more = stores-more (g.W.Machine.state c.args.world.now) (g.W.Machine.state c.loop-spec.world) (g.W.Machine.state c.open_store.new.self) specs (map f held) c.spec-item.result (f c.in-Ok-open_store.store) inv.opens at c.in-Ok-open_store.ensures in
    let long = c.push_reserved.ensures.items in
    record {
      opens = subst (λ (ds : _). OpensStores (g.W.Machine.state c.args.world.now) (g.W.Machine.state c.open_store.new.self) specs ds) (sym (ap (map f) long ∙ map-push f held c.in-Ok-open_store.store)) more;
      count = (let n = ap length long in let m = inv.count in grind (arith, n, m));
      room = (let k = c.push_reserved.ensures.capacity in let m = inv.room in omega (arith, k, m));
    }

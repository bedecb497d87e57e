use Rattle.std.proofs.Common.{◌-◌, ◌<◌, arith, length, ap}
use Rattle.sg_core.proofs.OpenParts.{store-below, kinds-begin}
use Rattle.sg_core.proofs.opening.kinds_of.Goals as goal

pub loop-d-init : goal.loop-d-init
loop-d-init c =
    let items = c.in_ok-kinds.ensures.items_if_clones_equal (λ y e. e) in
    record {
      below = omega arith;
      many = (let n = c.in_ok-kinds.ensures.len in let m = c.in_ok-kinds.kinds.ok in omega (arith, n, m));
      each = kinds-begin c.in_ok-kinds.kinds.items c.args.count c.args.dests.now items;
    }

pub set_kind-requires : goal.set_kind-requires
set_kind-requires c =
    let inv = c.loop-d.invariant in
    let low : c.loop-d.d - 1 < length c.args.dests.now = let b = inv.below in omega (arith, b, c.loop-d-test.true) in
    let below = store-below c.args.dests.now c.args.count (c.loop-d.d - 1) _ c.in-Some.buffer c.requires low c.in-Some.is in
    let many = inv.many in
    let long = ap length c.deref_mut.ensures.value in
    omega (arith, below, many, long)

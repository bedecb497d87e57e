use Rattle.std.proofs.Common.{length}
use Rattle.std.specs.List.{fold}
use Rattle.sg_plan.specs.Parts.{parts_of, no_parts, with_driver}
use Rattle.sg_plan.proofs.Growing.{turn-parts, turn-sources, turn-stores}
use Rattle.sg_plan.proofs.plan.with_drivers.Goals as goal

pub loop-owned-preserved : goal.loop-owned-preserved
loop-owned-preserved c =
    let old = parts_of c.loop-owned.plan in
    let new = parts_of c.add_driver.new.plan in
    let owned = c.in-Some.owned in
    let all = c.loop-owned.rest.items in
    let rest = c.pop_front.new.self.items in
    let n = length c.args.drivers.items in
    record {
      parts = turn-parts old new (fold with_driver no_parts c.args.drivers.items) owned all rest c.in-Some.ensures.items c.in_ok-add_driver.ensures c.loop-owned.invariant.parts;
      sources = turn-sources old new owned all rest n c.in-Some.ensures.items c.in_ok-add_driver.ensures c.loop-owned.invariant.sources;
      stores = turn-stores old new owned all rest n c.in-Some.ensures.items c.in_ok-add_driver.ensures c.loop-owned.invariant.stores;
    }

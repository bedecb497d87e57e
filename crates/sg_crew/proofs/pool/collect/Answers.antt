use Rattle.std.proofs.lemmas.Grind.{common_steps}
use Rattle.std.proofs.Common.{arith, ◌≡◌, ◌∷◌, [], length, ap, subst, length-append}
use Rattle.sg_crew.proofs.PoolLemmas.{kept-pushed}
use Rattle.sg_crew.proofs.pool.collect.Goals as goal

pub loop-slot-preserved : goal.loop-slot-preserved
loop-slot-preserved g c =
    let i = c.loop-slot.invariant in
    let ws = c.loop-slot.workers.items in
    let w = c.leave-place.result.1 in
    let h = c.hold.ensures in
    let len = c.len.ensures in
    let ok = c.loop-slot.workers.ok.0 in
    let place : c.leave-place.result.0 ≡ length ws = grind (arith, common_steps, h, len, ok) in
    let popped = ap length c.in-Some.ensures.items in
    let shorter = length-append c.pop.new.self.items (c.in-Some.slot ∷ []) in
    let pushed = ap length c.push_reserved.ensures.items in
    let longer = length-append ws (w ∷ []) in
    let all = i.all in
    let fits = i.fits in
    let capacity = c.push_reserved.ensures.capacity in
    record {
      kept = kept-pushed g.K.WorkerInvariant.kept ws c.push_reserved.new.self.items w c.push_reserved.ensures.items i.kept
          (subst (λ n. g.K.WorkerInvariant.kept n w) place c.leave-place.ensures);
      all = omega (arith, popped, shorter, pushed, longer, all);
      fits = omega (arith, popped, shorter, pushed, longer, fits, capacity);
    }

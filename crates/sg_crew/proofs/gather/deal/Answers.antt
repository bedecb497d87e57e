use Rattle.std.proofs.Common.{arith, ◌≡◌, ◌<◌, ◌-◌, length, sym, ap, ◌∙◌}
use Rattle.std.specs.Prelude.{◌*◌}
use Rattle.sg_booth.specs.Desks.{fresh_desk}
use Rattle.sg_hub.specs.Seats.{SeatState}
use Rattle.sg_crew.specs.Workers.{IsSeatDealt}
use Rattle.sg_crew.proofs.ListLemmas.{changed-none, changed-more, changed-all}
use Rattle.sg_crew.proofs.SeatLemmas.{with-left, less-left}
use Rattle.sg_crew.proofs.gather.deal.Goals as goal

pub loop-i-init : goal.loop-i-init
loop-i-init g c = record {
  first = sym (with-left c.args.first.now (c.args.first.now.left - 1024 * 0) (omega arith));
  workers = changed-none (IsSeatDealt c.args.first.now) c.args.workers.now.items;
}

pub loop-i-preserved : goal.loop-i-preserved
loop-i-preserved g c =
    let i = c.loop-i.invariant in
    let all = i.workers.all in
    let below : c.loop-i.i < length c.loop-i.workers.items = omega (arith, all) in
    record {
      first = less-left c.args.first.now c.loop-i.first c.deal_one.new.first c.loop-i.i i.first c.deal_one.ensures.first;
      workers = changed-more (IsSeatDealt c.args.first.now) c.args.workers.now.items c.loop-i.workers.items c.loop-i.i c.index_mut.result.now c.deal_one.new.worker i.workers below
          c.index_mut.ensures.value (let d = c.deal_one.ensures.dealt in (d.0, d.1 ∙ ap (λ (s : SeatState). fresh_desk s 1024) i.first, d.2, d.3));
    }

pub returns-clause-workers : goal.returns-clause-workers
returns-clause-workers g c =
    let i = c.loop-i.invariant in
    let all = i.workers.all in
    let is : c.loop-i.i ≡ length c.args.workers.now.items = omega (arith, all) in
    changed-all (IsSeatDealt c.args.first.now) c.args.workers.now.items c.loop-i.workers.items c.loop-i.i i.workers is

use Rattle.std.proofs.Common.{arith, ◌≡◌, ◌<◌, length, refl}
use Rattle.sg_crew.specs.Workers.{SendsOnce}
use Rattle.sg_crew.proofs.ListLemmas.{changed-none, changed-more, changed-all, next-is}
use Rattle.sg_crew.proofs.work.send_each.Goals as goal

pub loop-i-init : goal.loop-i-init
loop-i-init g c = record { hub = refl; workers = changed-none (SendsOnce g.O.Outlet.state c.args.hub.now) c.args.workers.now.items }

pub send_one-requires : goal.send_one-requires
send_one-requires g c =
    let i = c.loop-i.invariant in
    let all = i.workers.all in
    let below : c.loop-i.i < length c.loop-i.workers.items = omega (arith, all) in
    c.requires.may c.loop-i.i c.index_mut.result.now (next-is (SendsOnce g.O.Outlet.state c.args.hub.now) c.args.workers.now.items c.loop-i.workers.items c.loop-i.i c.index_mut.result.now i.workers below c.index_mut.ensures.value)

pub loop-i-preserved : goal.loop-i-preserved
loop-i-preserved g c =
    let i = c.loop-i.invariant in
    let all = i.workers.all in
    let below : c.loop-i.i < length c.loop-i.workers.items = omega (arith, all) in
    record {
      hub = i.hub;
      workers = changed-more (SendsOnce g.O.Outlet.state c.args.hub.now) c.args.workers.now.items c.loop-i.workers.items c.loop-i.i c.index_mut.result.now c.send_one.new.worker i.workers below
          c.index_mut.ensures.value c.send_one.ensures;
    }

pub returns : goal.returns
returns g c =
    let i = c.loop-i.invariant in
    let all = i.workers.all in
    let is : c.loop-i.i ≡ length c.args.workers.now.items = omega (arith, all) in
    record { sent = changed-all (SendsOnce g.O.Outlet.state c.args.hub.now) c.args.workers.now.items c.loop-i.workers.items c.loop-i.i i.workers is }

use Rattle.std.proofs.Common.{arith, ◌≡◌, ◌<◌, length, refl}
use Rattle.sg_crew.specs.Workers.{ReadsOnce}
use Rattle.sg_crew.proofs.ListLemmas.{changed-none, changed-more, changed-all, next-is}
use Rattle.sg_crew.proofs.work.read_each.Goals as goal

pub loop-i-init : goal.loop-i-init
loop-i-init g c = record { hub = refl; workers = changed-none (ReadsOnce g.I.Inlet.state g.R.Router.offers g.R.Router.inlets g.R.Router.dests c.args.hub.now) c.args.workers.now.items }

pub read_one-requires : goal.read_one-requires
read_one-requires g c =
    let i = c.loop-i.invariant in
    let all = i.workers.all in
    let below : c.loop-i.i < length c.loop-i.workers.items = omega (arith, all) in
    c.requires.may c.loop-i.i c.index_mut.result.now (next-is (ReadsOnce g.I.Inlet.state g.R.Router.offers g.R.Router.inlets g.R.Router.dests c.args.hub.now) c.args.workers.now.items c.loop-i.workers.items c.loop-i.i c.index_mut.result.now i.workers below c.index_mut.ensures.value)

pub loop-i-preserved : goal.loop-i-preserved
loop-i-preserved g c =
    let i = c.loop-i.invariant in
    let all = i.workers.all in
    let below : c.loop-i.i < length c.loop-i.workers.items = omega (arith, all) in
    record {
      hub = i.hub;
      workers = changed-more (ReadsOnce g.I.Inlet.state g.R.Router.offers g.R.Router.inlets g.R.Router.dests c.args.hub.now) c.args.workers.now.items c.loop-i.workers.items c.loop-i.i c.index_mut.result.now c.read_one.new.worker i.workers below
          c.index_mut.ensures.value c.read_one.ensures;
    }

pub returns : goal.returns
returns g c =
    let i = c.loop-i.invariant in
    let all = i.workers.all in
    let is : c.loop-i.i ≡ length c.args.workers.now.items = omega (arith, all) in
    record { read = changed-all (ReadsOnce g.I.Inlet.state g.R.Router.offers g.R.Router.inlets g.R.Router.dests c.args.hub.now) c.args.workers.now.items c.loop-i.workers.items c.loop-i.i i.workers is }

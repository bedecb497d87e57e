use Rattle.std.proofs.Common.{arith}
use Rattle.sg_device.proofs.Disks.{preserves_trans}
use Rattle.sg_device.proofs.DiskCalls.{sync_preserves, sync_rests, sync_durable, tells_same, unchanged, durable_same}
use Rattle.sg_spool.proofs.Looking.{reasons_before, found_before, synced_on}
use Rattle.sg_spool.proofs.open.look.Goals as goal

pub returns-in_err-sync-clause-unwritten : goal.returns-in_err-sync-clause-unwritten
returns-in_err-sync-clause-unwritten g c = record {
  rests = sync_rests (g.D.Disk.state c.args.disk.now) (g.D.Disk.state c.sync.new.self) c.sync.result c.sync.ensures.told;
  later = c.sync.ensures.cause.later;
}

pub returns-clause-found : goal.returns-clause-found
returns-clause-found g c = found_before (g.D.Disk.state c.args.disk.now) (g.D.Disk.state c.sync.new.self) (g.D.Disk.state c.inspect.new.disk)
    (sync_preserves (g.D.Disk.state c.args.disk.now) (g.D.Disk.state c.sync.new.self) c.in_ok-sync.ensures.told)
    c.inspect.result c.inspect.ensures.found

pub returns-clause-synced : goal.returns-clause-synced
returns-clause-synced g c =
    let d0 = g.D.Disk.state c.args.disk.now in
    let d1 = g.D.Disk.state c.sync.new.self in
    let d2 = g.D.Disk.state c.inspect.new.disk in
    synced_on d0 d1 d2 c.inspect.result
    (durable_same d1 d2 c.inspect.ensures.told (sync_durable d0 d1 c.in_ok-sync.ensures.told))
    (preserves_trans {old = d0} {mid = d1} {new = d2} (sync_preserves d0 d1 c.in_ok-sync.ensures.told) (unchanged d1 d2 c.inspect.ensures.told))
    c.in_ok-sync.ensures.cause.well c.inspect.ensures.well

pub returns-clause-unwritten : goal.returns-clause-unwritten
returns-clause-unwritten g c =
    let d0 = g.D.Disk.state c.args.disk.now in
    let d1 = g.D.Disk.state c.sync.new.self in
    let d2 = g.D.Disk.state c.inspect.new.disk in
    record {
      rests = tells_same d0 d2 (preserves_trans {old = d0} {mid = d1} {new = d2} (sync_preserves d0 d1 c.in_ok-sync.ensures.told) (unchanged d1 d2 c.inspect.ensures.told));
      later = omega (arith, c.sync.ensures.cause.later, c.inspect.ensures.later);
    }

pub returns-clause-reason : goal.returns-clause-reason
returns-clause-reason g c = reasons_before (g.D.Disk.state c.args.disk.now) (g.D.Disk.state c.sync.new.self) (g.D.Disk.state c.inspect.new.disk)
    (sync_preserves (g.D.Disk.state c.args.disk.now) (g.D.Disk.state c.sync.new.self) c.in_ok-sync.ensures.told)
    c.inspect.result c.sync.ensures.cause.later c.inspect.ensures.reason

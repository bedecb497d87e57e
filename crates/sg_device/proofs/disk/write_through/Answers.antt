use Rattle.std.proofs.Common.{length, ◌∙◌}
use Rattle.sg_device.specs.DiskBytes.{Torn, Written}
use Rattle.sg_device.specs.Disk.{content}
use Rattle.sg_device.proofs.Parts.{torn_refl}
use Rattle.sg_device.proofs.Disks.{changes_on, elapses_on}
use Rattle.sg_device.proofs.DiskCalls.{write_elapses, write_changes, write_written, sync_preserves, sync_rests, sync_durable}
use Rattle.sg_device.proofs.disk.write_through.Goals as goal

pub returns-in_err-write_at-clause-tells : goal.returns-in_err-write_at-clause-tells
returns-in_err-write_at-clause-tells g c = (write_changes (g.D.Disk.state c.args.disk.now) (g.D.Disk.state c.write_at.new.self) c.args.at c.args.from.now c.write_at.result c.write_at.ensures.told).tells

pub returns-in_err-write_at-clause-images : goal.returns-in_err-write_at-clause-images
returns-in_err-write_at-clause-images g c = (write_elapses (g.D.Disk.state c.args.disk.now) (g.D.Disk.state c.write_at.new.self) c.args.at c.args.from.now c.write_at.result c.write_at.ensures.told)

pub returns-in_err-sync-clause-tells : goal.returns-in_err-sync-clause-tells
returns-in_err-sync-clause-tells g c = (sync_rests (g.D.Disk.state c.write_at.new.self) (g.D.Disk.state c.sync.new.self) c.sync.result c.sync.ensures.told).tells ∙ (write_changes (g.D.Disk.state c.args.disk.now) (g.D.Disk.state c.write_at.new.self) c.args.at c.args.from.now c.write_at.result c.write_at.ensures.told).tells

pub returns-in_err-sync-clause-images : goal.returns-in_err-sync-clause-images
returns-in_err-sync-clause-images g c = elapses_on (Torn c.args.at (length c.args.from.now)) (g.D.Disk.state c.args.disk.now) (g.D.Disk.state c.write_at.new.self) (g.D.Disk.state c.sync.new.self) (torn_refl c.args.at (length c.args.from.now)) (write_elapses (g.D.Disk.state c.args.disk.now) (g.D.Disk.state c.write_at.new.self) c.args.at c.args.from.now c.write_at.result c.write_at.ensures.told) (sync_rests (g.D.Disk.state c.write_at.new.self) (g.D.Disk.state c.sync.new.self) c.sync.result c.sync.ensures.told).still

pub returns-clause-written : goal.returns-clause-written
returns-clause-written g c = changes_on (Written c.args.at c.args.from.now) (content (g.D.Disk.state c.args.disk.now)) (content (g.D.Disk.state c.write_at.new.self)) (content (g.D.Disk.state c.sync.new.self)) (write_written (g.D.Disk.state c.args.disk.now) (g.D.Disk.state c.write_at.new.self) c.args.at c.args.from.now c.in_ok-write_at.ensures.told) (sync_preserves (g.D.Disk.state c.write_at.new.self) (g.D.Disk.state c.sync.new.self) c.in_ok-sync.ensures.told).told

pub returns-clause-durable : goal.returns-clause-durable
returns-clause-durable g c = sync_durable (g.D.Disk.state c.write_at.new.self) (g.D.Disk.state c.sync.new.self) c.in_ok-sync.ensures.told

pub returns-clause-tells : goal.returns-clause-tells
returns-clause-tells g c = (sync_rests (g.D.Disk.state c.write_at.new.self) (g.D.Disk.state c.sync.new.self) c.sync.result c.sync.ensures.told).tells ∙ (write_changes (g.D.Disk.state c.args.disk.now) (g.D.Disk.state c.write_at.new.self) c.args.at c.args.from.now c.write_at.result c.write_at.ensures.told).tells

pub returns-clause-images : goal.returns-clause-images
returns-clause-images g c = elapses_on (Torn c.args.at (length c.args.from.now)) (g.D.Disk.state c.args.disk.now) (g.D.Disk.state c.write_at.new.self) (g.D.Disk.state c.sync.new.self) (torn_refl c.args.at (length c.args.from.now)) (write_elapses (g.D.Disk.state c.args.disk.now) (g.D.Disk.state c.write_at.new.self) c.args.at c.args.from.now c.write_at.result c.write_at.ensures.told) (sync_rests (g.D.Disk.state c.write_at.new.self) (g.D.Disk.state c.sync.new.self) c.sync.result c.sync.ensures.told).still

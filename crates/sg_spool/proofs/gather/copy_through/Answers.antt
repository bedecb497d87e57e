use Rattle.std.proofs.Common.{length, refl}
use Rattle.sg_device.proofs.DiskCalls.{write_written}
use Rattle.sg_spool.proofs.Gathering.{piece_images, piece_copied}
use Rattle.sg_spool.proofs.gather.copy_through.Goals as goal

pub returns-in_err-write_at-clause-images : goal.returns-in_err-write_at-clause-images
returns-in_err-write_at-clause-images g c = piece_images c.args.to c.read_at.new.into (g.D.Disk.state c.args.disk.now) (g.D.Disk.state c.read_at.new.self) (g.D.Disk.state c.write_at.new.self) c.write_at.result c.read_at.ensures.told c.write_at.ensures.told

pub returns-clause-images : goal.returns-clause-images
returns-clause-images g c = piece_images c.args.to c.read_at.new.into (g.D.Disk.state c.args.disk.now) (g.D.Disk.state c.read_at.new.self) (g.D.Disk.state c.write_at.new.self) c.write_at.result c.read_at.ensures.told c.write_at.ensures.told

pub returns-clause-copied : goal.returns-clause-copied
returns-clause-copied g c = piece_copied c.args.from c.args.to (length c.args.buffer.now) c.in_ok-read_at.field-0 c.args.buffer.now c.read_at.new.into (g.D.Disk.state c.args.disk.now) (g.D.Disk.state c.read_at.new.self) (g.D.Disk.state c.write_at.new.self) c.read_at.ensures.told c.in_ok-read_at.ensures.bytes refl c.read_at.auto.into (write_written (g.D.Disk.state c.read_at.new.self) (g.D.Disk.state c.write_at.new.self) c.args.to c.read_at.new.into c.in_ok-write_at.ensures.told)

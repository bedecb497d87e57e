use Rattle.sg_device.proofs.DiskCalls.{sync_rests, sync_preserves, sync_durable, write_elapses, write_written}
use Rattle.std.proofs.Common.{[], ◌∷◌}
use Rattle.sg_spool.proofs.Committing.{commit1, commit2, commit3, committed3, same_torn, join_torn}
use Rattle.sg_spool.proofs.commit.open_gate.Goals as goal

pub returns-in_err-sync-clause-within : goal.returns-in_err-sync-clause-within
returns-in_err-sync-clause-within g c = λ cell jump head longer first last es p ps start opens. commit1 cell jump head c.args.gate longer first last es p ps (g.D.Disk.state c.args.disk.now) (g.D.Disk.state c.sync.new.self) start (sync_rests (g.D.Disk.state c.args.disk.now) (g.D.Disk.state c.sync.new.self) c.sync.result c.sync.ensures.told).still

pub returns-in_err-write_at-clause-within : goal.returns-in_err-write_at-clause-within
returns-in_err-write_at-clause-within g c = λ cell jump head longer first last es p ps start opens. commit2 cell jump head c.args.gate longer first last es p ps (g.D.Disk.state c.args.disk.now) (g.D.Disk.state c.sync.new.self) start opens (sync_preserves (g.D.Disk.state c.args.disk.now) (g.D.Disk.state c.sync.new.self) c.in_ok-sync.ensures.told) (sync_durable (g.D.Disk.state c.args.disk.now) (g.D.Disk.state c.sync.new.self) c.in_ok-sync.ensures.told) (g.D.Disk.state c.write_at.new.self) (write_elapses (g.D.Disk.state c.sync.new.self) (g.D.Disk.state c.write_at.new.self) c.args.gate (1 ∷ []) c.write_at.result c.write_at.ensures.told)

pub returns-in_err-sync-2-clause-within : goal.returns-in_err-sync-2-clause-within
returns-in_err-sync-2-clause-within g c = λ cell jump head longer first last es p ps start opens. commit3 cell jump head c.args.gate longer first last es p ps (g.D.Disk.state c.args.disk.now) (g.D.Disk.state c.sync.new.self) start opens (sync_preserves (g.D.Disk.state c.args.disk.now) (g.D.Disk.state c.sync.new.self) c.in_ok-sync.ensures.told) (sync_durable (g.D.Disk.state c.args.disk.now) (g.D.Disk.state c.sync.new.self) c.in_ok-sync.ensures.told) (g.D.Disk.state c.write_at.new.self) (write_elapses (g.D.Disk.state c.sync.new.self) (g.D.Disk.state c.write_at.new.self) c.args.gate (1 ∷ []) c.write_at.result c.write_at.ensures.told) (g.D.Disk.state c.sync-2.new.self) (sync_rests (g.D.Disk.state c.write_at.new.self) (g.D.Disk.state c.sync-2.new.self) c.sync-2.result c.sync-2.ensures.told).still

pub returns-clause-within : goal.returns-clause-within
returns-clause-within g c = λ cell jump head longer first last es p ps start opens. commit3 cell jump head c.args.gate longer first last es p ps (g.D.Disk.state c.args.disk.now) (g.D.Disk.state c.sync.new.self) start opens (sync_preserves (g.D.Disk.state c.args.disk.now) (g.D.Disk.state c.sync.new.self) c.in_ok-sync.ensures.told) (sync_durable (g.D.Disk.state c.args.disk.now) (g.D.Disk.state c.sync.new.self) c.in_ok-sync.ensures.told) (g.D.Disk.state c.write_at.new.self) (write_elapses (g.D.Disk.state c.sync.new.self) (g.D.Disk.state c.write_at.new.self) c.args.gate (1 ∷ []) c.write_at.result c.write_at.ensures.told) (g.D.Disk.state c.sync-2.new.self) (sync_rests (g.D.Disk.state c.write_at.new.self) (g.D.Disk.state c.sync-2.new.self) c.sync-2.result c.sync-2.ensures.told).still

pub returns-clause-ring : goal.returns-clause-ring
returns-clause-ring g c = λ cell jump head longer first last es p ps start opens. committed3 cell jump head c.args.gate longer first last es p ps (g.D.Disk.state c.args.disk.now) (g.D.Disk.state c.sync.new.self) start opens (sync_preserves (g.D.Disk.state c.args.disk.now) (g.D.Disk.state c.sync.new.self) c.in_ok-sync.ensures.told) (sync_durable (g.D.Disk.state c.args.disk.now) (g.D.Disk.state c.sync.new.self) c.in_ok-sync.ensures.told) (g.D.Disk.state c.write_at.new.self) (write_written (g.D.Disk.state c.sync.new.self) (g.D.Disk.state c.write_at.new.self) c.args.gate (1 ∷ []) c.in_ok-write_at.ensures.told) (g.D.Disk.state c.sync-2.new.self) (sync_preserves (g.D.Disk.state c.write_at.new.self) (g.D.Disk.state c.sync-2.new.self) c.in_ok-sync-2.ensures.told) (sync_durable (g.D.Disk.state c.write_at.new.self) (g.D.Disk.state c.sync-2.new.self) c.in_ok-sync-2.ensures.told)

pub returns-in_err-sync-clause-images : goal.returns-in_err-sync-clause-images
returns-in_err-sync-clause-images g c = same_torn c.args.gate 1 (g.D.Disk.state c.args.disk.now) (g.D.Disk.state c.sync.new.self) (sync_rests (g.D.Disk.state c.args.disk.now) (g.D.Disk.state c.sync.new.self) c.sync.result c.sync.ensures.told).still

pub returns-in_err-write_at-clause-images : goal.returns-in_err-write_at-clause-images
returns-in_err-write_at-clause-images g c = join_torn c.args.gate 1 (g.D.Disk.state c.args.disk.now) (g.D.Disk.state c.sync.new.self) (g.D.Disk.state c.write_at.new.self) (same_torn c.args.gate 1 (g.D.Disk.state c.args.disk.now) (g.D.Disk.state c.sync.new.self) (sync_rests (g.D.Disk.state c.args.disk.now) (g.D.Disk.state c.sync.new.self) c.sync.result c.sync.ensures.told).still) (write_elapses (g.D.Disk.state c.sync.new.self) (g.D.Disk.state c.write_at.new.self) c.args.gate (1 ∷ []) c.write_at.result c.write_at.ensures.told)

pub returns-in_err-sync-2-clause-images : goal.returns-in_err-sync-2-clause-images
returns-in_err-sync-2-clause-images g c = join_torn c.args.gate 1 (g.D.Disk.state c.args.disk.now) (g.D.Disk.state c.write_at.new.self) (g.D.Disk.state c.sync-2.new.self) (join_torn c.args.gate 1 (g.D.Disk.state c.args.disk.now) (g.D.Disk.state c.sync.new.self) (g.D.Disk.state c.write_at.new.self) (same_torn c.args.gate 1 (g.D.Disk.state c.args.disk.now) (g.D.Disk.state c.sync.new.self) (sync_rests (g.D.Disk.state c.args.disk.now) (g.D.Disk.state c.sync.new.self) c.sync.result c.sync.ensures.told).still) (write_elapses (g.D.Disk.state c.sync.new.self) (g.D.Disk.state c.write_at.new.self) c.args.gate (1 ∷ []) c.write_at.result c.write_at.ensures.told)) (same_torn c.args.gate 1 (g.D.Disk.state c.write_at.new.self) (g.D.Disk.state c.sync-2.new.self) (sync_rests (g.D.Disk.state c.write_at.new.self) (g.D.Disk.state c.sync-2.new.self) c.sync-2.result c.sync-2.ensures.told).still)

pub returns-clause-images : goal.returns-clause-images
returns-clause-images g c = join_torn c.args.gate 1 (g.D.Disk.state c.args.disk.now) (g.D.Disk.state c.write_at.new.self) (g.D.Disk.state c.sync-2.new.self) (join_torn c.args.gate 1 (g.D.Disk.state c.args.disk.now) (g.D.Disk.state c.sync.new.self) (g.D.Disk.state c.write_at.new.self) (same_torn c.args.gate 1 (g.D.Disk.state c.args.disk.now) (g.D.Disk.state c.sync.new.self) (sync_rests (g.D.Disk.state c.args.disk.now) (g.D.Disk.state c.sync.new.self) c.sync.result c.sync.ensures.told).still) (write_elapses (g.D.Disk.state c.sync.new.self) (g.D.Disk.state c.write_at.new.self) c.args.gate (1 ∷ []) c.write_at.result c.write_at.ensures.told)) (same_torn c.args.gate 1 (g.D.Disk.state c.write_at.new.self) (g.D.Disk.state c.sync-2.new.self) (sync_rests (g.D.Disk.state c.write_at.new.self) (g.D.Disk.state c.sync-2.new.self) c.sync-2.result c.sync-2.ensures.told).still)

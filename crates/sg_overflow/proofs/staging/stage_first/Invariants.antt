use Rattle.std.proofs.Common.{[]}
use Rattle.sg_device.specs.Disk.{Within}
use Rattle.sg_spool.specs.Calls.{SpoolLasts}
use Rattle.sg_spool.specs.Ring.{Entries}
use Rattle.sg_spool.specs.View.{RingHolds}
use Rattle.sg_overflow.specs.Staging.{IsListWith, IsStagedFirst}
use Rattle.sg_overflow.proofs.staging.stage_first.Given as goal

abbrev pub invariant-loop-place : goal.invariant-loop-place
invariant-loop-place g l = record {
  lasts : SpoolLasts g.D.Disk.state l.initial.spool l.spool;
  images : (list : Entries) → RingHolds g.D.Disk.state l.initial.spool list [] → Within (g.D.Disk.state l.initial.spool.disk) (g.D.Disk.state l.spool.disk) (IsListWith list l.memory);
  staged : IsStagedFirst g.D.Disk.state l.initial.spool l.spool l.memory l.place;
}

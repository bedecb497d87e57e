use Rattle.std.proofs.Common.{◌≡◌, ◌<◌, ◌≤◌}
use Rattle.sg_device.specs.Disk.{content, WhereTold}
use Rattle.sg_spool.specs.Walk.{ahead, IsWalkAt, IsGateAmong}
use Rattle.sg_spool.proofs.walk.walk_from.Given as goal

abbrev pub invariant-loop-gate : goal.invariant-loop-gate
invariant-loop-gate g l = record {
  among : IsGateAmong l.len l.head l.place;
  inside : l.place.gate < l.len;
  told : (g.D.Disk.state l.disk).told ≡ (g.D.Disk.state l.initial.disk).told;
  later : (g.D.Disk.state l.initial.disk).faults ≤ (g.D.Disk.state l.disk).faults;
  still : (g.D.Disk.state l.disk).faults ≡ (g.D.Disk.state l.initial.disk).faults;
  reached : WhereTold (content (g.D.Disk.state l.initial.disk)) (λ b. IsWalkAt b l.head l.place);
}

abbrev pub decreases-loop-gate : goal.decreases-loop-gate
decreases-loop-gate g l = ahead l.len l.place.jump l.place.gate

use Rattle.std.proofs.Common.{◌≡◌, ◌≤◌}
use Rattle.sg_spooled.proofs.salvage.try_all.Given as goal

abbrev pub invariant-loop-reading : goal.invariant-loop-reading
invariant-loop-reading g l = record {
  told : (g.D.Disk.state l.disk).told ≡ (g.D.Disk.state l.initial.disk).told;
  later : (g.D.Disk.state l.initial.disk).faults ≤ (g.D.Disk.state l.disk).faults;
  world : g.W.Machine.state l.world ≡ g.W.Machine.state l.initial.world;
}

use Rattle.std.proofs.Common.{◌≡◌, ◌+◌, ◌-◌, ◌<◌, ◌≤◌, ◌^◌}
use Rattle.sg_device.specs.Disk.{content, Changes, Elapses}
use Rattle.sg_spool.specs.Copying.{Copies, Beyond}
use Rattle.sg_spool.proofs.gather.copy.Given as goal

abbrev pub invariant-loop-done : goal.invariant-loop-done
invariant-loop-done g l = record {
  range : l.done ≤ l.size;
  copied : Changes (Copies l.from l.to l.done) (content (g.D.Disk.state l.initial.disk)) (content (g.D.Disk.state l.disk));
  images : Elapses (Beyond l.to) (g.D.Disk.state l.initial.disk) (g.D.Disk.state l.disk);
  inside : 0 < l.done → l.to + l.done < 2 ^ 63;
  later : (g.D.Disk.state l.initial.disk).faults ≤ (g.D.Disk.state l.disk).faults;
  still : (g.D.Disk.state l.disk).faults ≡ (g.D.Disk.state l.initial.disk).faults;
}

abbrev pub decreases-loop-done : goal.decreases-loop-done
decreases-loop-done g l = l.size - l.done

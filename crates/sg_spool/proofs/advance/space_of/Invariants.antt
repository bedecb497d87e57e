use Rattle.std.proofs.Common.{◌≡◌, ◌-◌, ◌≤◌, length}
use Rattle.sg_device.specs.Disk.{content, WhereTold}
use Rattle.sg_spool.specs.Advancing.{IsFirstSize}
use Rattle.sg_spool.specs.Ring.{Entries, IsLaid}
use Rattle.sg_spool.proofs.Measuring.{IsBehindGate}
use Rattle.sg_spool.proofs.advance.space_of.Given as goal

abbrev pub invariant-loop-left : goal.invariant-loop-left
invariant-loop-left g l = record {
  range : l.left ≤ l.n;
  inside : l.size ≤ l.most;
  told : (g.D.Disk.state l.disk).told ≡ (g.D.Disk.state l.initial.disk).told;
  later : (g.D.Disk.state l.initial.disk).faults ≤ (g.D.Disk.state l.disk).faults;
  still : (g.D.Disk.state l.disk).faults ≡ (g.D.Disk.state l.initial.disk).faults;
  behind : WhereTold (content (g.D.Disk.state l.initial.disk)) (λ b. (entries : Entries) → l.n ≤ length entries → IsFirstSize l.initial.known entries → IsLaid l.places.jump l.places.head l.places.end entries b
      → IsBehindGate b l.places.jump l.places.end (l.n - l.left) l.gate l.size l.known entries);
}

abbrev pub decreases-loop-left : goal.decreases-loop-left
decreases-loop-left g l = l.left

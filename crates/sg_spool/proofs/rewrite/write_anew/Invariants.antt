use Rattle.std.proofs.Common.{◌≡◌, ◌<◌, ◌≤◌, ◌^◌, List, ℕ}
use Rattle.sg_device.specs.Disk.{content, Changes, Elapses}
use Rattle.sg_spool.specs.Copying.{Beyond}
use Rattle.sg_spool.specs.Rewriting.{past}
use Rattle.sg_spool.proofs.Rewriting.{Spelling}
use Rattle.sg_spool.proofs.rewrite.write_anew.Given as goal

abbrev pub invariant-loop-left : goal.invariant-loop-left
invariant-loop-left g l = record {
  range : l.left ≤ l.count;
  high : past l.places ≤ l.at;
  small : l.at ≤ 2 ^ 63;
  inside : l.left < l.count → l.at < 2 ^ 63;
  images : Elapses (Beyond (past l.places)) (g.D.Disk.state l.initial.disk) (g.D.Disk.state l.disk);
  stays : (bytes : List ℕ) → g.M.Recode.meaning l.recode bytes ≡ g.M.Recode.meaning l.initial.recode bytes;
  later : (g.D.Disk.state l.initial.disk).faults ≤ (g.D.Disk.state l.disk).faults;
  still : (g.D.Disk.state l.disk).faults ≡ (g.D.Disk.state l.initial.disk).faults;
  spelled : Changes (Spelling (g.M.Recode.meaning l.initial.recode) l.places l.count l.left l.gate l.at) (content (g.D.Disk.state l.initial.disk)) (content (g.D.Disk.state l.disk));
}

abbrev pub decreases-loop-left : goal.decreases-loop-left
decreases-loop-left g l = l.left

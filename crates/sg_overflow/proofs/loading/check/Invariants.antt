use Rattle.std.proofs.Common.{◌≡◌, drop, take}
use Rattle.std.specs.Prelude.{false}
use Rattle.sg_device.specs.Disk.{WhereTold, content}
use Rattle.sg_spool.specs.Calls.{OnlyReadsSpool}
use Rattle.sg_spool.specs.Places.{Remains}
use Rattle.sg_spool.specs.Ring.{Entries, IsList}
use Rattle.sg_overflow.specs.Payload.{AreTagged}
use Rattle.sg_overflow.proofs.loading.check.Given as goal

abbrev pub invariant-loop-turn : goal.invariant-loop-turn
invariant-loop-turn g l = record {
  reads : OnlyReadsSpool g.D.Disk.state l.initial.spool l.spool;
  open_ : l.spool.closed ≡ false;
  there : WhereTold (content (g.D.Disk.state l.initial.spool.disk)) (λ b. (payloads : Entries) × Remains b l.initial.spool.rows.list.jump l.gate payloads l.initial.spool.rows.list.end);
  left : WhereTold (content (g.D.Disk.state l.initial.spool.disk)) (λ b. (entries : Entries) → IsList entries b
      → Remains b l.initial.spool.rows.list.jump l.gate (drop l._turn entries) l.initial.spool.rows.list.end);
  tagged : WhereTold (content (g.D.Disk.state l.initial.spool.disk)) (λ b. (entries : Entries) → IsList entries b → AreTagged (take l._turn entries));
}

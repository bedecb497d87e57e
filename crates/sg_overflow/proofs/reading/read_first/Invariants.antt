use Rattle.std.proofs.Common.{◌≡◌, length, drop, take}
use Rattle.std.specs.Prelude.{false}
use Rattle.sg_device.specs.Disk.{WhereTold, content}
use Rattle.sg_spool.specs.Calls.{OnlyReadsSpool}
use Rattle.sg_spool.specs.Places.{Remains}
use Rattle.sg_spool.specs.Ring.{Entries, IsList}
use Rattle.sg_overflow.specs.Payload.{frames_in}
use Rattle.sg_overflow.proofs.reading.read_first.Given as goal

abbrev pub invariant-loop-turn : goal.invariant-loop-turn
invariant-loop-turn g l = record {
  reads : OnlyReadsSpool g.D.Disk.state l.initial.spool l.spool;
  open_ : l.spool.closed ≡ false;
  number : length l.frames ≡ l._turn;
  first : WhereTold (content (g.D.Disk.state l.initial.spool.disk)) (λ b. (entries : Entries) → IsList entries b → l.frames ≡ take l._turn (frames_in entries));
  there : WhereTold (content (g.D.Disk.state l.initial.spool.disk)) (λ b. (payloads : Entries) × Remains b l.initial.spool.rows.list.jump l.gate payloads l.initial.spool.rows.list.end);
  left : WhereTold (content (g.D.Disk.state l.initial.spool.disk)) (λ b. (entries : Entries) → IsList entries b
      → Remains b l.initial.spool.rows.list.jump l.gate (drop l._turn entries) l.initial.spool.rows.list.end);
}

use Rattle.std.proofs.Common.{◌≡◌, false}
use Rattle.sg_spool.specs.Calls.{OnlyReadsSpool}
use Rattle.sg_buffer.proofs.Walked.{IsRead}
use Rattle.sg_buffer.proofs.looking.look.Given as goal

abbrev pub invariant-loop-turn : goal.invariant-loop-turn
invariant-loop-turn g l = record {
  reads : OnlyReadsSpool g.D.Disk.state l.initial.spool l.spool;
  open_ : l.spool.closed ≡ false;
  read : IsRead (g.D.Disk.state l.initial.spool.disk) l.initial.spool.rows.list l._turn l.gate l.found;
}

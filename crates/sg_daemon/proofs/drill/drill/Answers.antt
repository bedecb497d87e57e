use Rattle.std.proofs.Common.{Ok, Err, refl}
use Rattle.sg_daemon.proofs.drill.drill.Goals as goal

pub returns-in-Ok : goal.returns-in-Ok
returns-in-Ok g c = (Ok c.in-Ok.outcome, (c.in-Ok.ensures, c.tell_outcome.ensures))

pub returns-in-Err : goal.returns-in-Err
returns-in-Err g c = (Err c.in-Err.field-0, (tt, (refl, refl)))

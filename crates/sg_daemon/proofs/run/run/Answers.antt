use Rattle.std.proofs.Common.{Ok, Err}
use Rattle.sg_daemon.proofs.run.run.Goals as goal

pub returns-in-Ok : goal.returns-in-Ok
returns-in-Ok g c = (g.W.Machine.state c.run_file.new.world, (Ok c.in-Ok.outcome, (c.in-Ok.ensures, c.tell_outcome.ensures)))

pub returns-in-Err : goal.returns-in-Err
returns-in-Err g c = (g.W.Machine.state c.run_file.new.world, (Err c.in-Err.unloaded, (c.in-Err.ensures, c.tell_unloaded.ensures)))

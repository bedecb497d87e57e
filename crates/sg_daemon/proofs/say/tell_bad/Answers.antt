use Rattle.sg_daemon.proofs.say.tell_bad.Goals as goal

pub returns : goal.returns
returns g c = (g.W.Machine.state c.tell_fault-status.new.world, (c.tell_fault-status.ensures, c.tell_about.ensures))

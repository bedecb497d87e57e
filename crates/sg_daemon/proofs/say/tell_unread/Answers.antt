use Rattle.sg_daemon.proofs.say.tell_unread.Goals as goal

pub returns : goal.returns
returns g c = (g.W.Machine.state c.say_unread-status.new.world, (c.say_unread-status.ensures, c.tell_include.ensures))

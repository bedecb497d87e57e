use Rattle.sg_serve.proofs.ExitLemmas.{opens-one, misses-one}
use Rattle.sg_serve.proofs.exit.open_one.Goals as goal

pub returns-in-Ok : goal.returns-in-Ok
returns-in-Ok g c =
    opens-one g.W.Drain.Outlet.state g.W.Paths.Opener.state (g.W.Machine.state c.args.world.now) (g.W.Machine.state c.open_outlet.new.self) c.args.spec.now c.in-Ok.drain c.requires.path c.in-Ok.ensures

pub returns-in-Err : goal.returns-in-Err
returns-in-Err g c = misses-one (g.W.Machine.state c.args.world.now) (g.W.Machine.state c.open_outlet.new.self) c.in-Err.refusal c.in-Err.ensures

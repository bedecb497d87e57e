use Rattle.sg_serve.proofs.OutLemmas.{closes-stored, closes-unstored}
use Rattle.sg_serve.proofs.way.close_parts.Goals as goal

pub returns-in-Some : goal.returns-in-Some
returns-in-Some g c =
    closes-stored g.W.Drain.Outlet.state g.W.Paths.Opener.state g.W.Store.Disk.state (g.W.Machine.state c.args.world.now) (g.W.Machine.state c.close_exit.new.world) (g.W.Machine.state c.close_store.new.self)
    c.args.parts c.in-Some.store c.in-Some.is c.close_exit.ensures c.close_store.ensures

pub returns-in_default : goal.returns-in_default
returns-in_default g c =
    closes-unstored g.W.Drain.Outlet.state g.W.Paths.Opener.state g.W.Store.Disk.state (g.W.Machine.state c.args.world.now) (g.W.Machine.state c.close_exit.new.world) c.args.parts c.in_default.is c.close_exit.ensures

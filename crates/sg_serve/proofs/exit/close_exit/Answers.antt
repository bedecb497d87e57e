use Rattle.std.proofs.Common.{sym, subst}
use Rattle.sg_serve.specs.Exits.{ClosesExit}
use Rattle.sg_serve.proofs.exit.close_exit.Goals as goal

pub returns-in-One : goal.returns-in-One
returns-in-One g c =
    let old = g.W.Machine.state c.args.world.now in
    let new = g.W.Machine.state c.close_outlet.new.self in
    subst (λ e. ClosesExit g.W.Drain.Outlet.state g.W.Paths.Opener.state old new e) (sym c.in-One.is) c.close_outlet.ensures

pub returns-in-ByPath : goal.returns-in-ByPath
returns-in-ByPath g c =
    let old = g.W.Machine.state c.args.world.now in
    let new = g.W.Machine.state c.close_paths.new.self in
    subst (λ e. ClosesExit g.W.Drain.Outlet.state g.W.Paths.Opener.state old new e) (sym c.in-ByPath.is)
    (g.W.Paths.Opener.state c.into_opener.result, (c.into_opener.ensures.closed, c.into_opener.ensures.texts, c.close_paths.ensures))

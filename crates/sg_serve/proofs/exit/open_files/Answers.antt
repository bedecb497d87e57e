use Rattle.std.proofs.Common.{sym, subst}
use Rattle.sg_outside.specs.World.{PathsOpen}
use Rattle.sg_serve.proofs.ExitLemmas.{opens-files, misses-files}
use Rattle.sg_serve.proofs.exit.open_files.Goals as goal

pub returns-in-Ok : goal.returns-in-Ok
returns-in-Ok g c =
    let paths = g.W.Paths.Opener.state in
    let old = g.W.Machine.state c.args.world.now in
    let new = g.W.Machine.state c.open_paths.new.self in
    let opens = subst (λ opener. PathsOpen old new c.args.spec.now (paths opener)) (sym c.new.ensures.opener) c.in-Ok.ensures in
    opens-files g.W.Drain.Outlet.state paths old new c.args.spec.now c.new.result c.requires.path c.new.ensures.fresh opens

pub returns-in-Err : goal.returns-in-Err
returns-in-Err g c = misses-files (g.W.Machine.state c.args.world.now) (g.W.Machine.state c.open_paths.new.self) c.in-Err.refusal c.in-Err.ensures

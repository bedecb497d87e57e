use Rattle.sg_overflow.proofs.Lines.{add_up}
use Rattle.sg_overflow.proofs.laws.lists_add_up.Goals as goal

pub returns : goal.returns
returns g c = λ loaded taken forwarded held front rest sent kept. add_up g.O.Outlet.state g.D.Disk.state c.args.overflow.now loaded taken forwarded held front rest sent kept

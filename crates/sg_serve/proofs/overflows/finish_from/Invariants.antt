use Rattle.std.proofs.Common.{◌≡◌, map}
use Rattle.sg_overflow.specs.Buffered.{buffered_of}
use Rattle.sg_serve.proofs.overflows.finish_from.Given as goal

abbrev pub invariant-loop-d : goal.invariant-loop-d
invariant-loop-d g l = map (buffered_of g.O.Outlet.state g.D.Disk.state) l.outlets.items ≡ map (buffered_of g.O.Outlet.state g.D.Disk.state) l.initial.outlets.items

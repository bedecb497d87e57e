use Rattle.sg_serve.proofs.FinishLemmas.{FinishedTo}
use Rattle.sg_serve.proofs.overflows.finish_all.Given as goal

abbrev pub invariant-loop-d : goal.invariant-loop-d
invariant-loop-d g l = FinishedTo g.O.Outlet.state g.D.Disk.state l.initial.outlets.items l.outlets.items l.d l.gone l.stores l.first l.once l.rests l.store

use Rattle.sg_crew.proofs.TogetherLemmas.{ReadSoFar, SentSoFar}
use Rattle.sg_crew.proofs.together.take_beside.Given as goal

abbrev pub ghosts-take_kept-K-WorkerInvariant : goal.ghosts-take_kept-K-WorkerInvariant
ghosts-take_kept-K-WorkerInvariant g a = record { kept = ReadSoFar g.I.Inlet.state g.R.Router.offers g.R.Router.inlets g.R.Router.dests a.hub.now a.sources.now.items }

abbrev pub ghosts-take_kept-L-WorkerInvariant : goal.ghosts-take_kept-L-WorkerInvariant
ghosts-take_kept-L-WorkerInvariant g a = record { kept = SentSoFar g.O.Outlet.state a.hub.now a.dests.now.items }

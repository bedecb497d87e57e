use Rattle.std.proofs.Common.{◌≡◌}
use Rattle.sg_crew.specs.Workers.{ReadsOnce}
use Rattle.sg_crew.proofs.ListLemmas.{ChangedFirst}
use Rattle.sg_crew.proofs.work.read_each.Given as goal

abbrev pub invariant-loop-i : goal.invariant-loop-i
invariant-loop-i g l = record {
  hub : l.hub ≡ l.initial.hub;
  workers : ChangedFirst (ReadsOnce g.I.Inlet.state g.R.Router.offers g.R.Router.inlets g.R.Router.dests l.hub) l.initial.workers.items l.workers.items l.i;
}

use Rattle.std.proofs.Common.{◌≡◌}
use Rattle.sg_crew.specs.Workers.{SendsOnce}
use Rattle.sg_crew.proofs.ListLemmas.{ChangedFirst}
use Rattle.sg_crew.proofs.work.send_each.Given as goal

abbrev pub invariant-loop-i : goal.invariant-loop-i
invariant-loop-i g l = record {
  hub : l.hub ≡ l.initial.hub;
  workers : ChangedFirst (SendsOnce g.O.Outlet.state l.hub) l.initial.workers.items l.workers.items l.i;
}

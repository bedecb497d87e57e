use Rattle.std.proofs.Common.{◌≡◌, ◌-◌}
use Rattle.std.specs.Prelude.{◌*◌}
use Rattle.sg_crew.specs.Workers.{IsSeatDealt}
use Rattle.sg_crew.proofs.ListLemmas.{ChangedFirst}
use Rattle.sg_crew.proofs.gather.deal.Given as goal

abbrev pub invariant-loop-i : goal.invariant-loop-i
invariant-loop-i g l = record {
  first : l.first ≡ record l.initial.first { left = l.initial.first.left - 1024 * l.i };
  workers : ChangedFirst (IsSeatDealt l.initial.first) l.initial.workers.items l.workers.items l.i;
}

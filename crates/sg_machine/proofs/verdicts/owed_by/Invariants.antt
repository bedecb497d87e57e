use Rattle.std.proofs.Common.{◌≡◌, ◌≤◌, ◌+◌, drop}
use Rattle.sg_machine.specs.Turns.{owing}
use Rattle.sg_machine.proofs.verdicts.owed_by.Given as goal

abbrev pub invariant-loop-k : goal.invariant-loop-k
invariant-loop-k l = record {
  counted : l.count + owing (drop l.k l.offers) (drop l.k l.verdicts) ≡ owing l.offers l.verdicts;
  bound : l.count ≤ l.k;
}

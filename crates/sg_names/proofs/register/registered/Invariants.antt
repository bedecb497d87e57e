use Rattle.std.proofs.Common.{◌≡◌, ◌≤◌, drop}
use Rattle.sg_fault.specs.Faults.{earlier, least}
use Rattle.sg_names.specs.Registers.{empty_register, registered, repeats}
use Rattle.sg_names.proofs.register.registered.Given as goal

abbrev pub invariant-loop-statement : goal.invariant-loop-statement
invariant-loop-statement l = record {
  names : registered l.kind l.register (drop l.statement-index l.statements) ≡ registered l.kind empty_register l.statements;
  faults : earlier l.first (least (repeats l.kind l.register (drop l.statement-index l.statements))) ≡ least (repeats l.kind empty_register l.statements);
  few : l.register.count ≤ l.statement-index;
}

use Rattle.std.proofs.Common.{◌≡◌, ◌≤◌, ◌+◌, ◌*◌, drop, length, true}
use Rattle.std.specs.List.{list_all}
use Rattle.sg_machine.specs.Legal.{is_admissible}
use Rattle.sg_machine.specs.Turns.{record_turns, most_run}
use Rattle.sg_machine.proofs.admits.admit_records.Given as goal

abbrev pub invariant-loop-admission : goal.invariant-loop-admission
invariant-loop-admission l = record {
  turns : record_turns l.i l.failing l.run (drop l.admission-index l.records) l.rest ≡ record_turns l.i l.failing l.fn.run l.records l.verdicts;
  few : list_all is_admissible (drop l.admission-index l.records) ≡ true;
  same : length l.run.sources ≡ length l.fn.run.sources;
  dropped : most_run l.run.dests ≤ most_run l.fn.run.dests + 1024 * l.admission-index;
}

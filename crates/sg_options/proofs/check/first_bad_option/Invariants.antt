use Rattle.std.proofs.Common.{◌≡◌, map, drop}
use Rattle.sg_fault.specs.Faults.{earlier, least}
use Rattle.sg_options.specs.Checks.{bad_values}
use Rattle.sg_options.proofs.check.first_bad_option.Given as goal

abbrev pub invariant-loop-call : goal.invariant-loop-call
invariant-loop-call l =
    least (bad_values (map (λ row. (row.0.now, row.1)) l.rows) l.calls)
    ≡ earlier l.found (least (bad_values (map (λ row. (row.0.now, row.1)) l.rows) (drop l.call-index l.calls)))

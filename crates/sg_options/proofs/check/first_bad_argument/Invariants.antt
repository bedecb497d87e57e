use Rattle.std.proofs.Common.{◌≡◌, map, drop}
use Rattle.sg_fault.specs.Faults.{earlier, least}
use Rattle.sg_options.specs.Settings.{calls_of}
use Rattle.sg_options.specs.Checks.{bad_values}
use Rattle.sg_options.proofs.check.first_bad_argument.Given as goal

abbrev pub invariant-loop-arg : goal.invariant-loop-arg
invariant-loop-arg l =
    least (bad_values (map (λ row. (row.0.now, row.1)) l.rows) (calls_of l.args))
    ≡ earlier l.found (least (bad_values (map (λ row. (row.0.now, row.1)) l.rows) (calls_of (drop l.arg-index l.args))))

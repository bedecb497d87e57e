use Rattle.std.proofs.Common.{◌≡◌, drop}
use Rattle.sg_template.specs.Names.{severity_names}
use Rattle.sg_options.specs.Names.{place_from}
use Rattle.sg_options.proofs.names.named_level.Given as goal

abbrev pub invariant-loop-severity : goal.invariant-loop-severity
invariant-loop-severity l = place_from 0 severity_names l.text ≡ place_from l.severity (drop l.severity severity_names) l.text

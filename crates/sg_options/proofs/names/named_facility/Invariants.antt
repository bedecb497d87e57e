use Rattle.std.proofs.Common.{◌≡◌, drop}
use Rattle.sg_template.specs.Names.{facility_names}
use Rattle.sg_options.specs.Names.{place_from}
use Rattle.sg_options.proofs.names.named_facility.Given as goal

abbrev pub invariant-loop-facility : goal.invariant-loop-facility
invariant-loop-facility l = place_from 0 facility_names l.text ≡ place_from l.facility (drop l.facility facility_names) l.text

use Rattle.sg_r3164.proofs.Readings.{finds_iso}
use Rattle.sg_r3164.proofs.reading.find_stamp.Goals as goal

pub returns-in_default-clause-found : goal.returns-in_default-clause-found
returns-in_default-clause-found c =
    finds_iso c.args.text.now c.args.received c.iso_stamp.result c.in_default.ensures.found c.iso_stamp.ensures.found

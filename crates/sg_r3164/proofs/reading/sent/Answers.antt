use Rattle.std.proofs.Common.{◌≡◌, subst}
use Rattle.sg_time.specs.Stamp.{IsValidStamp}
use Rattle.sg_r3164.proofs.reading.sent.Goals as goal

pub sent-requires-clause-found : goal.sent-requires-clause-found
sent-requires-clause-found c = λ stamp e.
    let valid = c.requires.found (c.in-Some.stamp, c.in-Some.field-0-1) c.in-Some.is in
    let same : c.in-Some.stamp ≡ stamp = cc in
    subst IsValidStamp same valid

use Rattle.std.proofs.Common.{sym, ap, ◌∙◌}
use Rattle.std.proofs.lemmas.Bool.{false≢true}
use Rattle.sg_r3164.specs.Read3164.{is_end}
use Rattle.sg_r3164.proofs.StampsOnce.{iso_once}
use Rattle.sg_r3164.proofs.reading.iso_stamp.Goals as goal

pub returns-in_default-clause-found : goal.returns-in_default-clause-found
returns-in_default-clause-found c = λ stamp len h. c.in_default.ensures.reading stamp len h.0

pub returns-then-not-ends_at-clause-found : goal.returns-then-not-ends_at-clause-found
returns-then-not-ends_at-clause-found c = λ stamp len h.
    let same = iso_once c.args.text.now c.in-Some.stamp stamp c.in-Some.len len c.in-Some.ensures.reading h.0 in
    false≢true (sym c.if-not-ends_at.true ∙ (c.ends_at.ensures ∙ (ap (is_end c.args.text.now) same.1 ∙ h.1)))

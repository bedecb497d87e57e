use Rattle.std.proofs.Common.{inr}
use Rattle.sg_buffer.proofs.Upgrades.{spells1-older, spells2-newer, upgraded-entry, upgraded-same}
use Rattle.sg_buffer.proofs.laws.entries_stay.Goals as goal

pub returns-clause-older : goal.returns-clause-older
returns-clause-older c = λ kept bytes one few.
    let read = c.spellings_are_read.ensures.read kept bytes (inr one) in
    record { fits = one.fits; spelled = upgraded-entry bytes kept (spells1-older kept bytes one few) read }

pub returns-clause-newer : goal.returns-clause-newer
returns-clause-newer c = λ kept bytes two. upgraded-same bytes (spells2-newer kept bytes two)

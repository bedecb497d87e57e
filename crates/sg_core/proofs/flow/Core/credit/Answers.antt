use Rattle.std.proofs.Common.{◌∙◌}
use Rattle.sg_core.proofs.Fits.{credit-of}
use Rattle.sg_core.proofs.flow.Core.credit.Goals as goal

pub returns-clause-stands : goal.returns-clause-stands
returns-clause-stands g c = rw (← c.self.view_is) (λ s at. c.credit.ensures ∙ credit-of _ s c.args.i c.at.result.now at c.at.ensures)

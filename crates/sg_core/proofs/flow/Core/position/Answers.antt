use Rattle.std.proofs.Common.{◌∙◌}
use Rattle.sg_core.proofs.Fits.{fit-at, stored-of}
use Rattle.sg_core.proofs.flow.Core.position.Goals as goal

pub stored-requires : goal.stored-requires
stored-requires g c = (fit-at _ c.self.invariant.state c.args.i c.at.result.now c.self.invariant.at c.at.ensures).store

pub returns-clause-stands : goal.returns-clause-stands
returns-clause-stands g c = rw (← c.self.view_is) (λ s at. c.stored.ensures ∙ stored-of _ s c.args.i c.at.result.now at c.at.ensures)

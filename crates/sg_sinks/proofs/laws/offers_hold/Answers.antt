use Rattle.sg_sinks.proofs.OfferSteps.{offering}
use Rattle.sg_sinks.proofs.laws.offers_hold.Goals as goal

pub returns : goal.returns
returns c = offering

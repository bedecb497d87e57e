use Rattle.sg_machine.specs.Verdicts.{claims_of}
use Rattle.sg_offers.proofs.TrySteps.{tried-by}
use Rattle.sg_offers.proofs.laws.tried_hold.Goals as goal

pub returns : goal.returns
returns c = λ i next dests failed records d dest buffer there b l split. tried-by i next dests failed (claims_of records) d dest buffer there b l split

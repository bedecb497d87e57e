use Rattle.std.proofs.Common.{length}
use Rattle.sg_machine.specs.Verdicts.{claims_of}
use Rattle.sg_offers.proofs.ClaimLemmas.{within-from}
use Rattle.sg_offers.proofs.FailSteps.{judged-all}
use Rattle.sg_offers.proofs.laws.judged_hold.Goals as goal

pub returns : goal.returns
returns c = λ fails i next dests failed records split apart enter would. judged-all fails i next dests failed (claims_of records) split apart (within-from (length dests) 0 records enter) would

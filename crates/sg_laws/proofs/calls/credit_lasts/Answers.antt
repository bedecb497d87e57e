use Rattle.sg_laws.proofs.AskedLemmas.{credit-lasts}
use Rattle.sg_laws.proofs.calls.credit_lasts.Goals as goal

pub returns : goal.returns
returns c = credit-lasts

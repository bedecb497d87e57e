use Rattle.sg_laws.proofs.OwnEventLemmas.{opened-within, stay-within}
use Rattle.sg_laws.proofs.texts.windows_stay.Goals as goal

pub returns-clause-opened : goal.returns-clause-opened
returns-clause-opened c = opened-within

pub returns-clause-kept : goal.returns-clause-kept
returns-clause-kept c = stay-within

use Rattle.sg_laws.proofs.ItemRestLemmas.{reading-resumes}
use Rattle.sg_laws.proofs.resuming.reading_resumes.Goals as goal

pub returns : goal.returns
returns c = reading-resumes

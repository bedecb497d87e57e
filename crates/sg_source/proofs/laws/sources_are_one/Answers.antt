use Rattle.sg_source.proofs.Alike.{sources_are_one}
use Rattle.sg_source.proofs.laws.sources_are_one.Goals as goal

pub returns : goal.returns
returns c = sources_are_one

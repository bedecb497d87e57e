use Rattle.sg_template.proofs.Paths.{path_some, path_most}
use Rattle.sg_template.proofs.laws.paths_fit.Goals as goal

pub returns-clause-some : goal.returns-clause-some
returns-clause-some c = path_some

pub returns-clause-most : goal.returns-clause-most
returns-clause-most c = path_most

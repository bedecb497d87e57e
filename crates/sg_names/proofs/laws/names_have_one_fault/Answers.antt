use Rattle.sg_names.proofs.Ones.{faults-same}
use Rattle.sg_names.proofs.laws.names_have_one_fault.Goals as goal

pub returns : goal.returns
returns c = λ statements fault other a b. faults-same statements fault other a b

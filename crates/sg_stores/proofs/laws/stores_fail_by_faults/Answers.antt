use Rattle.sg_stores.proofs.OpenLemmas.{opened-by-faults, all-by-faults}
use Rattle.sg_stores.proofs.laws.stores_fail_by_faults.Goals as goal

pub returns-clause-one : goal.returns-clause-one
returns-clause-one c = opened-by-faults

pub returns-clause-all : goal.returns-clause-all
returns-clause-all c = all-by-faults

use Rattle.sg_core.proofs.Faults.{fail-by-faults, calls-go}
use Rattle.sg_core.proofs.laws.stores_fail_by_faults.Goals as goal

pub returns-clause-stores : goal.returns-clause-stores
returns-clause-stores c = fail-by-faults

pub returns-clause-calls : goal.returns-clause-calls
returns-clause-calls c = calls-go

use Rattle.sg_fault.proofs.Least.{least_append}
use Rattle.sg_fault.proofs.laws.least_of_parts.Goals as goal

pub returns-clause-parts : goal.returns-clause-parts
returns-clause-parts c = least_append

use Rattle.sg_hint.proofs.Positions.{first-of-paths}
use Rattle.sg_hint.proofs.listed.fault_again.Goals as goal

pub returns-in-Ok : goal.returns-in-Ok
returns-in-Ok c = first-of-paths c.args.tokens.now c.in-Ok.config c.path_fault.result c.in-Ok.ensures c.path_fault.ensures

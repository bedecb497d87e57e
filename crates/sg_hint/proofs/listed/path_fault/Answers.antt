use Rattle.sg_hint.proofs.Positions.{paths-refused}
use Rattle.sg_hint.proofs.listed.path_fault.Goals as goal

pub returns-in_ok-refused_fault-in-Some : goal.returns-in_ok-refused_fault-in-Some
returns-in_ok-refused_fault-in-Some c = paths-refused c.args.config.now c.in-Some.refusal c.in_ok-refused_fault-in-Some.field-0
    c.in-Some.ensures c.in_ok-refused_fault-in-Some.ensures

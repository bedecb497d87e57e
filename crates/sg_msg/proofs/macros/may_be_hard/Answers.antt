use Rattle.std.proofs.Common.{sym, ◌∙◌}
use Rattle.sg_msg.proofs.FirstBytes.{hard-first, hard-none}
use Rattle.sg_msg.proofs.macros.may_be_hard.Goals as goal

pub returns-in-Some : goal.returns-in-Some
returns-in-Some c out = hard-first c.args.name.now c.in-Some.first.now c.in-Some.ensures.value (sym c.contains.ensures.value ∙ out)

pub returns-in-None : goal.returns-in-None
returns-in-None c _ = hard-none c.args.name.now c.in-None.ensures.value

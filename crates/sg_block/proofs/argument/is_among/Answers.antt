use Rattle.std.proofs.Common.{ap, ◌∙◌}
use Rattle.std.specs.FinMap.{contains_key}
use Rattle.sg_block.proofs.argument.is_among.Goals as goal

pub returns : goal.returns
returns c = λ arguments h. c.has.ensures ∙ ap (contains_key c.args.names.now) c.bytes.ensures ∙ h c.args.argument.now.name

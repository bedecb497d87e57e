use Rattle.std.proofs.Common.{sym}
use Rattle.std.proofs.lemmas.List.{length-append}
use Rattle.sg_values.proofs.parser.name_len.Goals as goal

pub returns-clause-joined : goal.returns-clause-joined
returns-clause-joined c = sym (length-append c.args.prefix.now c.args.name.now)

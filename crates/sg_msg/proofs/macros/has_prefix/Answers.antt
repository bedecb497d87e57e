use Rattle.std.proofs.Common.{sym}
use Rattle.sg_msg.specs.Macros.{date_macros}
use Rattle.sg_msg.proofs.Prefixes.{any-behind, none-behind}
use Rattle.sg_msg.proofs.macros.has_prefix.Goals as goal

pub returns-in-Some : goal.returns-in-Some
returns-in-Some c =
    rw (any-behind c.args.prefix.now c.args.name.now date_macros c.in-Some.ensures.cases.0, c.is_date_macro.ensures, c.in-Some.ensures.cases.1)

pub returns-in-None : goal.returns-in-None
returns-in-None c = sym (none-behind c.args.prefix.now c.args.name.now date_macros c.in-None.ensures.cases)

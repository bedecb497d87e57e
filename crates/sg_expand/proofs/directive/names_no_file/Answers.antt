use Rattle.std.proofs.Common.{sym, ◌∙◌}
use Rattle.sg_expand.proofs.Naming.{named, unnamed}
use Rattle.sg_expand.proofs.directive.names_no_file.Goals as goal

pub returns-in-Ok : goal.returns-in-Ok
returns-in-Ok c = named c.args.name.now (sym c.has_wildcard.ensures ∙ c.if-has_wildcard.false) c.in-Ok.ensures.cases.1

pub returns-in-Err : goal.returns-in-Err
returns-in-Err c = unnamed c.args.name.now (sym c.has_wildcard.ensures ∙ c.if-has_wildcard.false) c.in-Err.ensures.cases.0

use Rattle.std.proofs.Common.{sym, ◌∙◌}
use Rattle.sg_parse_text.proofs.Standing.{log-read, refuses-log, object-read, refuses-object}
use Rattle.sg_parse_text.proofs.text.read_statement.Goals as goal

pub returns-in-Ok : goal.returns-in-Ok
returns-in-Ok c = log-read c.args.tokens.now c.args.at _ _ (sym c.sees_keyword.ensures ∙ c.if-sees_keyword.true) c.in-Ok.ensures.exact

pub returns-in-Err : goal.returns-in-Err
returns-in-Err c = refuses-log c.args.tokens.now c.args.at _ (sym c.sees_keyword.ensures ∙ c.if-sees_keyword.true) c.in-Err.ensures.exact

pub returns-in-Ok-statement : goal.returns-in-Ok-statement
returns-in-Ok-statement c = object-read c.args.tokens.now c.args.at _ _ (sym c.sees_keyword.ensures ∙ c.if-sees_keyword.false) c.in-Ok-statement.ensures.exact

pub returns-in-Err-statement : goal.returns-in-Err-statement
returns-in-Err-statement c = refuses-object c.args.tokens.now c.args.at _ (sym c.sees_keyword.ensures ∙ c.if-sees_keyword.false) c.in-Err-statement.ensures.exact

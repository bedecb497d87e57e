use Rattle.sg_pattern.proofs.Keeping.{matches-found}
use Rattle.sg_pattern.proofs.expressions.Expressions.get.Goals as goal

pub returns-in-Some-clause-matches : goal.returns-in-Some-clause-matches
returns-in-Some-clause-matches c = matches-found c.args.text.now c.args.ignore_case c.deref.result.now c.in-Some.one.now _ c.in-Some.ensures c.regex.ensures

use Rattle.sg_parsers.proofs.Written.{are-read, are-counted, are-kept}
use Rattle.sg_parsers.proofs.laws.columns_are_read.Goals as goal

pub returns-clause-read : goal.returns-clause-read
returns-clause-read c = are-read

pub returns-clause-counted : goal.returns-clause-counted
returns-clause-counted c = are-counted

pub returns-clause-kept : goal.returns-clause-kept
returns-clause-kept c = are-kept

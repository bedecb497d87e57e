use Rattle.sg_output.proofs.Sayings.{only-says-then, says-text, some-then}
use Rattle.sg_output.proofs.laws.what_is_said_adds_up.Goals as goal

pub returns-clause-only : goal.returns-clause-only
returns-clause-only c = only-says-then

pub returns-clause-text : goal.returns-clause-text
returns-clause-text c = says-text

pub returns-clause-some : goal.returns-clause-some
returns-clause-some c = some-then

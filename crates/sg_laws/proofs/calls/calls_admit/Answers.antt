use Rattle.sg_laws.proofs.OwnLemmas.{calls-run, are-own}
use Rattle.sg_laws.proofs.calls.calls_admit.Goals as goal

pub returns-clause-run : goal.returns-clause-run
returns-clause-run c = calls-run

pub returns-clause-own : goal.returns-clause-own
returns-clause-own c = are-own

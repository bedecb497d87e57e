use Rattle.test_core_runs.proofs.TestLemmas.{some-store}
use Rattle.test_core_runs.proofs.steps.rewind.Goals as goal

pub rewind-requires-clause-store : goal.rewind-requires-clause-store
rewind-requires-clause-store c = some-store c.args.core.now c.args.i c.requires.tried c.requires.inlet

use Rattle.sg_core.specs.Answers.{store_act}
use Rattle.test_core_runs.proofs.TestLemmas.{some-store, goes_somewhere}
use Rattle.test_core_runs.proofs.steps.store.Goals as goal

pub store-requires-clause-store : goal.store-requires-clause-store
store-requires-clause-store c = some-store c.args.core.now c.args.i c.requires.tried c.requires.inlet

pub returns-clause-at : goal.returns-clause-at
returns-clause-at c = goes_somewhere c.args.core.now _ (store_act c.args.i c.store.result) c.store.ensures.does c.requires.at

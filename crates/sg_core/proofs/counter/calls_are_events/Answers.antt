use Rattle.sg_core.proofs.CallLemmas.{happens-calls}
use Rattle.sg_core.proofs.counter.calls_are_events.Goals as goal

pub returns : goal.returns
returns c = happens-calls

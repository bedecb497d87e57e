use Rattle.sg_sinks.specs.States.{with_broken}
use Rattle.sg_core.proofs.PartLemmas.{seen-written}
use Rattle.sg_core.proofs.parts.break_at.Goals as goal

pub returns : goal.returns
returns c = seen-written c.args.sinks.now c.args.d c.at_mut-sink.result.now c.break_store.new.self with_broken c.at_mut-sink.ensures.value c.break_store.ensures.seen

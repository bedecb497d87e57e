use Rattle.std.proofs.Common.{Err}
use Rattle.sg_trace.proofs.Finding.{first-there, few-inlets, source-found, source-missing}
use Rattle.sg_trace.proofs.input.trace_source.Goals as goal

pub first_inlet-requires : goal.first_inlet-requires
first_inlet-requires g c = few-inlets c.args.loaded.config c.as_slice.result.now c.requires.within c.as_slice.ensures.value

pub trace_inlet-requires-clause-inlet : goal.trace_inlet-requires-clause-inlet
trace_inlet-requires-clause-inlet g c = λ κs lives. first-there c.args.source.now c.as_slice.result.now c.args.loaded.config.inlets.items c.in-Some.inlet c.as_slice.ensures.value c.in-Some.ensures

pub returns-in-Some : goal.returns-in-Some
returns-in-Some g c =
    source-found c.args.loaded.config c.as_slice.result.now c.args.file.now c.args.source.now c.args.input.now c.in-Some.inlet (g.W.Machine.state c.args.world.now) (g.W.Machine.state c.trace_inlet.new.world)
    c.trace_inlet.result c.as_slice.ensures.value c.in-Some.ensures c.trace_inlet.ensures

pub returns-in-None : goal.returns-in-None
returns-in-None g c =
    source-missing c.args.loaded.config c.as_slice.result.now c.args.file.now c.args.source.now c.args.input.now (g.W.Machine.state c.args.world.now) (Err c.unknown.result) c.as_slice.ensures.value c.in-None.ensures c.unknown.ensures

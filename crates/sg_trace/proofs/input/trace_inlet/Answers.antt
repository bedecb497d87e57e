use Rattle.std.proofs.Common.{◌∙◌, subst}
use Rattle.sg_trace.specs.Tracing.{IsReader}
use Rattle.sg_trace.proofs.Pathing.{paths-within, inlet-known, dests-known, limit-some, number-same, by-paths, starved}
use Rattle.sg_trace.proofs.input.trace_inlet.Goals as goal

pub new-pipes-requires : goal.new-pipes-requires
new-pipes-requires g c = paths-within c.args.config c.args.table c.requires.within c.requires.compiles

pub trace_file-requires-clause-inlet : goal.trace_file-requires-clause-inlet
trace_file-requires-clause-inlet g c = λ κs lives.
    let reader = c.reader_of-reader.result in
    inlet-known c.args.config c.args.table c.new-pipes.result.table c.args.inlet reader.inlet c.requires.within c.requires.compiles c.new-pipes.ensures
    (number-same c.args.config.inlets.items c.args.inlet reader (subst (λ inlets. IsReader inlets c.args.inlet reader) c.as_slice.ensures.value c.reader_of-reader.ensures)) c.requires.inlet

pub trace_file-requires-clause-dests : goal.trace_file-requires-clause-dests
trace_file-requires-clause-dests g c = λ κs lives.
    dests-known c.args.config c.args.table c.new-pipes.result.table c.as_slice-2.result.now c.requires.within c.requires.compiles c.new-pipes.ensures (c.as_slice-2.ensures.value ∙ c.in-Ok.ensures)

pub trace_file-requires-clause-limit : goal.trace_file-requires-clause-limit
trace_file-requires-clause-limit g c = λ κs lives.
    let reader = c.reader_of-reader.result in
    limit-some c.args.config c.args.inlet reader c.requires.within (subst (λ inlets. IsReader inlets c.args.inlet reader) c.as_slice.ensures.value c.reader_of-reader.ensures)

pub returns : goal.returns
returns g c =
    let reader = c.reader_of-reader.result in
    by-paths c.args.config c.args.table c.new-pipes.result.table c.args.inlet reader c.as_slice-2.result.now (g.W.Machine.state c.args.world.now) (g.W.Machine.state c.trace_file.new.world) c.args.input.now
    c.trace_file.result c.shown.result c.requires.compiles c.new-pipes.ensures (subst (λ inlets. IsReader inlets c.args.inlet reader) c.as_slice.ensures.value c.reader_of-reader.ensures)
    (c.as_slice-2.ensures.value ∙ c.in-Ok.ensures) c.trace_file.ensures c.shown.ensures

pub returns-in_default : goal.returns-in_default
returns-in_default g c =
    let reader = c.reader_of-reader.result in
    starved c.args.config c.args.inlet reader (g.W.Machine.state c.args.world.now) c.args.input.now (subst (λ inlets. IsReader inlets c.args.inlet reader) c.as_slice.ensures.value c.reader_of-reader.ensures)

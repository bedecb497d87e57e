use Rattle.std.proofs.Common.{refl, inl, inr}
use Rattle.sg_trace.proofs.Completing.{complete}
use Rattle.sg_loaded.proofs.Loads.{loads-read}
use Rattle.sg_trace.proofs.input.trace_input.Goals as goal

pub trace_source-requires-clause-within : goal.trace_source-requires-clause-within
trace_source-requires-clause-within g c = λ κs lives.
    let configures = c.in-Ok.ensures.loads.configures in
    c.texts_mean_one.ensures.within configures.tokens c.in-Ok.loaded.config configures.means

pub trace_source-requires-clause-compiles : goal.trace_source-requires-clause-compiles
trace_source-requires-clause-compiles g c = λ κs lives. c.in-Ok.ensures.loads.compiles

pub returns-in-Ok-clause-traces : goal.returns-in-Ok-clause-traces
returns-in-Ok-clause-traces g c = (
  g.W.Machine.state c.tell_drivers.new.world,
  (
    loads-read (g.W.Machine.state c.args.world.now) (g.W.Machine.state c.load_file.new.world) (g.W.Machine.state c.tell_drivers.new.world) c.in-Ok.ensures.only c.tell_drivers.ensures,
    inr (record { of_file = c.in-Ok.loaded; configured = c.in-Ok.ensures.loads; traces = c.trace_source.ensures }),
  ),
)

pub returns-in-Ok-clause-complete : goal.returns-in-Ok-clause-complete
returns-in-Ok-clause-complete g c = λ files config i told is can first calm.
    complete c.expansions_are_one.ensures c.texts_mean_one.ensures.one (g.W.Machine.state c.args.world.now) (g.W.Machine.state c.tell_drivers.new.world) (g.W.Machine.state c.trace_source.new.world)
    c.args.file.now c.args.source.now c.args.input.now c.in-Ok.loaded c.trace_source.result
    (loads-read (g.W.Machine.state c.args.world.now) (g.W.Machine.state c.load_file.new.world) (g.W.Machine.state c.tell_drivers.new.world) c.in-Ok.ensures.only c.tell_drivers.ensures) c.in-Ok.ensures.loads c.trace_source.ensures files config i told is first calm

pub returns-in-Err-clause-traces : goal.returns-in-Err-clause-traces
returns-in-Err-clause-traces g c = (g.W.Machine.state c.load_file.new.world, (c.in-Err.ensures.only, inl (refl, c.in-Err.ensures.loads)))

pub returns-in-Err-clause-complete : goal.returns-in-Err-clause-complete
returns-in-Err-clause-complete g c = λ files config i told is can first calm. c.in-Err.ensures.complete files config told is can calm.load

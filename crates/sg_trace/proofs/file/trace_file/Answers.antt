use Rattle.std.proofs.Common.{List, ℕ, subst}
use Rattle.sg_outside.specs.World.{InletOpens}
use Rattle.sg_outside.specs.declared.request.InletSpec.TheVariants.{File}
use Rattle.std.specs.Prelude.{true}
use Rattle.sg_trace.proofs.Wholes.{traces-file, traces-unopened, traces-none}
use Rattle.sg_trace.specs.declared.untraced.Untraced.TheVariants.{NoMemory}
use Rattle.sg_output.proofs.Sayings.{err-is}
use Rattle.sg_trace.proofs.file.trace_file.Goals as goal

pub returns-in-Ok : goal.returns-in-Ok
returns-in-Ok g c =
    let old = g.W.Machine.state c.args.world.now in
    let a = g.W.Machine.state c.open_inlet.new.self in
    let first = g.W.Feed.Inlet.state c.in-Ok.feed in
    let limit = c.args.reader.limit in
    let opens = subst (λ (p : List ℕ). InletOpens old a (File p true limit) 0 first c.in-Ok._place) c.in_ok-new.ensures c.in-Ok.ensures in
    traces-file (g.R.Router.offers c.args.router.now c.args.reader.inlet) c.args.targets.now c.args.reader.kind limit old a (g.W.Machine.state c.trace_opened-traced.new.world) (g.W.Machine.state c.end-result.new.world) (g.W.Machine.state c.close_inlet.new.self)
    c.args.input.now first (g.W.Feed.Inlet.state c.trace_opened-traced.new.feed) c.in-Ok._place c.trace_opened-traced.new.tracer.text.items c.trace_opened-traced.result c.end-result.result
    opens c.trace_opened-traced.ensures.traces c.end-result.ensures c.close_inlet.ensures

pub returns-in-Err-Failed : goal.returns-in-Err-Failed
returns-in-Err-Failed g c =
    let refused = rw c.in-Err-Failed.field-0-is at c.in-Err-Failed.ensures in
    traces-unopened (g.R.Router.offers c.args.router.now c.args.reader.inlet) c.args.targets.now c.args.reader.kind c.args.reader.limit (g.W.Machine.state c.args.world.now) (g.W.Machine.state c.open_inlet.new.self) (g.W.Machine.state c.end.new.world)
    c.args.input.now c.in_ok-tracer.tracer.text.items c.end.result c.in_ok-tracer.ensures.2 refused c.end.ensures

pub returns-in_err-buffer : goal.returns-in_err-buffer
returns-in_err-buffer g c =
    rw (err-is _ NoMemory c.from_residual-in_err-buffer.ensures.1)
    (traces-none (g.R.Router.offers c.args.router.now c.args.reader.inlet) c.args.targets.now c.args.reader.kind c.args.reader.limit (g.W.Machine.state c.args.world.now) c.args.input.now)

pub returns-in_err-new : goal.returns-in_err-new
returns-in_err-new g c =
    rw (err-is _ NoMemory c.from_residual.ensures.1)
    (traces-none (g.R.Router.offers c.args.router.now c.args.reader.inlet) c.args.targets.now c.args.reader.kind c.args.reader.limit (g.W.Machine.state c.args.world.now) c.args.input.now)

pub returns-in_err-tracer : goal.returns-in_err-tracer
returns-in_err-tracer g c =
    rw (err-is _ NoMemory c.from_residual-in_err-tracer.ensures.1)
    (traces-none (g.R.Router.offers c.args.router.now c.args.reader.inlet) c.args.targets.now c.args.reader.kind c.args.reader.limit (g.W.Machine.state c.args.world.now) c.args.input.now)

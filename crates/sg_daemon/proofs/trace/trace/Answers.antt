use Rattle.std.proofs.Common.{sym, subst}
use Rattle.sg_daemon.specs.Tracing.{TracesCommand}
use Rattle.sg_daemon.specs.declared.status.Status.{Status}
use Rattle.sg_daemon.proofs.TraceLemmas.{traces-ok, traces-ended, traces-refused}
use Rattle.sg_daemon.proofs.trace.trace.Goals as goal

pub returns-in-Ok : goal.returns-in-Ok
returns-in-Ok g c = traces-ok (g.W.Machine.state c.args.world.now) (g.W.Machine.state c.trace_input.new.world) c.args.file.now c.args.source.now c.args.input.now c.in-Ok.ensures.traces

pub returns-in-Err-Untraced : goal.returns-in-Err-Untraced
returns-in-Err-Untraced g c =
    let old = g.W.Machine.state c.args.world.now in
    let new = g.W.Machine.state c.trace_input.new.world in
    subst (λ (s : Status). TracesCommand old new c.args.file.now c.args.source.now c.args.input.now s) (sym c.status_of.ensures)
    (traces-ended old new c.args.file.now c.args.source.now c.args.input.now c.in-Err-Untraced.untraced (rw c.in-Err-Untraced.field-0-is at c.in-Err-Untraced.ensures.traces) (rw c.in-Err-Untraced.field-0-is at c.in-Err-Untraced.ensures.complete))

pub returns-in-Err-Unloaded : goal.returns-in-Err-Unloaded
returns-in-Err-Unloaded g c =
    traces-refused (g.W.Machine.state c.args.world.now) (g.W.Machine.state c.trace_input.new.world) (g.W.Machine.state c.tell_unloaded.new.world) c.args.file.now c.args.source.now c.args.input.now
    c.in-Err-Unloaded.unloaded c.tell_unloaded.result (rw c.in-Err-Unloaded.field-0-is at c.in-Err-Unloaded.ensures.traces) (rw c.in-Err-Unloaded.field-0-is at c.in-Err-Unloaded.ensures.complete) c.tell_unloaded.ensures

use Rattle.std.proofs.Common.{map}
use Rattle.sg_trace.specs.Tracing.{target_of}
use Rattle.sg_trace.proofs.Sending.{targets-step}
use Rattle.sg_trace.proofs.targets.targets_of.Goals as goal

pub loop-outlet-preserved : goal.loop-outlet-preserved
loop-outlet-preserved c =
    targets-step c.loop-outlet.rest.items c.pop_front.new.self.items c.in-Some.outlet (map target_of c.args.outlets.items) c.loop-outlet.targets.items
    c.push_target.new.targets.items c.in-Some.ensures.items c.loop-outlet.invariant c.in_ok-push_target.ensures

use Rattle.sg_expand.proofs.Using.{calls-next}
use Rattle.sg_expand.proofs.expander.Expander.bind_next.Goals as goal

pub returns-in_ok-push_frame-in-Some : goal.returns-in_ok-push_frame-in-Some
returns-in_ok-push_frame-in-Some c =
    calls-next c.args.call c.in-Some.argument c.pop.new.self c.in_ok-context-in-Some.context c.new_value-out.result c.args.self.now c.new_value-out.new.self c.go_on.new.self c.push_frame.new.frames c.go_on.result
    c.in-Some.ensures c.in_ok-context-in-Some.ensures c.new_value-out.ensures.before c.new_value-out.ensures.value c.in_ok-push_frame-in-Some.ensures c.go_on.ensures

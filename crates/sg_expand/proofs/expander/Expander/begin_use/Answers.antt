use Rattle.sg_expand.proofs.Using.{begins-use}
use Rattle.sg_expand.proofs.expander.Expander.begin_use.Goals as goal

pub returns : goal.returns
returns c =
    begins-use c.args.rest.context c.in_ok-share.field-0 _ c.args.asked c.args.behind c.new.result c.charge.new.self c.args.self.now c.go_on.new.self c.bind_next.new.self c.bind_next.result
    c.in_ok-charge.ensures.0 c.in_ok-charge.ensures.1 c.in_ok-share.ensures c.new.ensures c.in_ok-go_on.ensures.0 c.in_ok-go_on.ensures.1 c.bind_next.ensures

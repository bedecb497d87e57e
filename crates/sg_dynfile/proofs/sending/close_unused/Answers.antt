use Rattle.sg_dynfile.proofs.Opened.{opens-none, opens-two}
use Rattle.sg_dynfile.proofs.sending.close_unused.Goals as goal

pub returns-then-is_unused-clause-same : goal.returns-then-is_unused-clause-same
returns-then-is_unused-clause-same g c =
    let old = g.P.Opener.state c.args.opener.now in
    let mid = g.P.Opener.state c.is_unused.new.self in
    opens-two old mid (g.P.Opener.state c.close_at.new.opener) (opens-none old mid c.is_unused.ensures) c.close_at.ensures.same

pub returns-else-is_unused-clause-same : goal.returns-else-is_unused-clause-same
returns-else-is_unused-clause-same g c = opens-none (g.P.Opener.state c.args.opener.now) (g.P.Opener.state c.is_unused.new.self) c.is_unused.ensures

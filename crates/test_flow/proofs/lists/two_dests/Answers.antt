use Rattle.test_flow.proofs.RunLemmas.{two-dests, two-put}
use Rattle.test_flow.proofs.lists.two_dests.Goals as goal

pub returns-in_ok-held-in-Ok : goal.returns-in_ok-held-in-Ok
returns-in_ok-held-in-Ok g c = λ setup count. two-dests _ setup c.in_ok-held-in-Ok.held.items c.args.first c.args.second c.requires.first c.requires.second
    (two-put c.in_ok-held-in-Ok.held.items c.in-Ok.one.items c.new.result.items c.args.first c.args.second c.new.ensures.items c.in-Ok.ensures c.in_ok-held-in-Ok.ensures) count

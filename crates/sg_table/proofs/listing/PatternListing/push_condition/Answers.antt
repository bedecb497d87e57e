use Rattle.std.proofs.Common.{ap, sym}
use Rattle.sg_table.proofs.Listed.{pushes-as, pushes-none, pushes-one}
use Rattle.sg_table.specs.Patterns.{condition_patterns}
use Rattle.sg_table.proofs.listing.PatternListing.push_condition.Goals as goal

pub returns-in_ok-push-in-Some : goal.returns-in_ok-push-in-Some
returns-in_ok-push-in-Some c =
    let named = c.args.named.now in
    let done = c.in_ok-push-in-Some.ensures in
    pushes-as named _ _ c.args.self.now c.push.new.self (sym (ap (condition_patterns named) c.in-Some.is))
    (pushes-one named c.args.self.now c.push.new.self _ done.0 done.1)

pub returns-in-None : goal.returns-in-None
returns-in-None c =
    pushes-none c.args.named.now _ c.args.self.now (ap (condition_patterns c.args.named.now) c.in-None.is)

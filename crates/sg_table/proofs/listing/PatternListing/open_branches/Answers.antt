use Rattle.std.proofs.Common.{ap}
use Rattle.sg_table.proofs.Listed.{pushes-more, pushes-none, pushes-one}
use Rattle.sg_table.specs.Patterns.{branch_patterns, choices_patterns}
use Rattle.sg_table.proofs.listing.PatternListing.open_branches.Goals as goal

pub returns-in-None : goal.returns-in-None
returns-in-None c =
    pushes-none c.args.named.now _ c.args.self.now (ap (choices_patterns c.args.named.now) c.in-None.ensures)

pub returns-in_ok-push_branch-in-Some : goal.returns-in_ok-push_branch-in-Some
returns-in_ok-push_branch-in-Some c =
    let done = c.in_ok-push-in-Some.ensures in
    pushes-more c.args.named.now (choices_patterns c.args.named.now c.in-Some.branches.now) (branch_patterns c.args.named.now c.in-Some.branch.now) _ c.args.self.now c.push.new.self c.push_branch.new.self
    (ap (choices_patterns c.args.named.now) c.in-Some.ensures) (pushes-one c.args.named.now c.args.self.now c.push.new.self _ done.0 done.1)
    c.in_ok-push_branch-in-Some.ensures

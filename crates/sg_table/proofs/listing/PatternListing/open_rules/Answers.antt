use Rattle.std.proofs.Common.{ap}
use Rattle.sg_table.proofs.Listed.{pushes-more, pushes-none, pushes-one}
use Rattle.sg_table.specs.Patterns.{rule_patterns, rules_patterns}
use Rattle.sg_table.proofs.listing.PatternListing.open_rules.Goals as goal

pub returns-in-None : goal.returns-in-None
returns-in-None c =
    pushes-none c.args.named.now _ c.args.self.now (ap (rules_patterns c.args.named.now) c.in-None.ensures)

pub returns-in_ok-push_rule-in-Some : goal.returns-in_ok-push_rule-in-Some
returns-in_ok-push_rule-in-Some c =
    let done = c.in_ok-push-in-Some.ensures in
    pushes-more c.args.named.now (rules_patterns c.args.named.now c.in-Some.rules.now) (rule_patterns c.args.named.now c.in-Some.rule.now) _ c.args.self.now c.push.new.self c.push_rule.new.self
    (ap (rules_patterns c.args.named.now) c.in-Some.ensures) (pushes-one c.args.named.now c.args.self.now c.push.new.self _ done.0 done.1)
    c.in_ok-push_rule-in-Some.ensures

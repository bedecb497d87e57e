use Rattle.std.proofs.Common.{refl}
use Rattle.sg_table.proofs.Listed.{pushes-more}
use Rattle.sg_table.specs.Patterns.{condition_patterns, op_patterns, rule_patterns}
use Rattle.sg_table.proofs.listing.PatternListing.push_rule.Goals as goal

pub returns : goal.returns
returns c =
    let named = c.args.named.now in
    let rule = c.args.rule.now in
    pushes-more named (op_patterns rule.op) (condition_patterns named rule.condition) (rule_patterns named rule) c.args.self.now c.push_op.new.self c.push_condition.new.self refl
    (c.in_ok-push_op.ensures named) c.in_ok-push_condition.ensures

use Rattle.std.proofs.Common.{refl}
use Rattle.sg_table.specs.Patterns.{condition_patterns, op_patterns, rule_patterns}
use Rattle.sg_table.proofs.Patterned.{refused-behind, valid-behind}
use Rattle.sg_table.proofs.making.make_rule.Goals as goal

pub returns-in-Err-make_rewrite-clause-makes : goal.returns-in-Err-make_rewrite-clause-makes
returns-in-Err-make_rewrite-clause-makes g c =
    refused-behind (g.B.Machine.state c.args.builder.now) (g.B.Machine.state c.make_condition.new.builder) (g.B.Machine.state c.make_rewrite.new.builder)
    (condition_patterns c.args.named.now c.args.rule.now.condition) (op_patterns c.args.rule.now.op) (rule_patterns c.args.named.now c.args.rule.now)
    c.in-Err-make_rewrite.refusal refl c.in-Ok.ensures.only c.in-Err-make_rewrite.ensures.makes

pub returns-in-Ok-make_rewrite-clause-makes : goal.returns-in-Ok-make_rewrite-clause-makes
returns-in-Ok-make_rewrite-clause-makes g c =
    valid-behind (g.B.Machine.state c.args.builder.now) (g.B.Machine.state c.make_condition.new.builder) (g.B.Machine.state c.make_rewrite.new.builder) (condition_patterns c.args.named.now c.args.rule.now.condition) (op_patterns c.args.rule.now.op) c.in-Ok.ensures.makes c.in-Ok-make_rewrite.ensures.makes

use Rattle.std.proofs.Common.{sym, ◌∙◌}
use Rattle.sg_block.proofs.Formed.{taken-more, taken-none, nonempty}
use Rattle.sg_block.proofs.form.arguments.Goals as goal

pub items-preserved : goal.items-preserved
items-preserved c =
    let step = taken-more c.args.tokens c.items.rest c.take_argument.new.rest c.items.found c.take_argument.new.found c.in_ok-take_argument.field-0 c.if-not-branch.false c.in_ok-take_argument.ensures c.items.invariant.value c.items.invariant.within (nonempty _ (sym c.is_empty.ensures ∙ c.items-test.true)) in
    record {
      value = step.0;
      within = step.1;
    }

pub returns-then-not-branch : goal.returns-then-not-branch
returns-then-not-branch c = taken-none c.args.tokens c.items.rest c.take_argument.new.rest c.items.found c.take_argument.new.found c.in_ok-take_argument.field-0 c.if-not-branch.true c.in_ok-take_argument.ensures c.items.invariant.value c.items.invariant.within (nonempty _ (sym c.is_empty.ensures ∙ c.items-test.true))

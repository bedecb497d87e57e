use Rattle.std.proofs.Common.{sym, ◌∙◌}
use Rattle.sg_filter.proofs.Tagged.{tag-here, tag-past, tag-end}
use Rattle.sg_filter.proofs.check.has_tag.Goals as goal

pub tags-preserved : goal.tags-preserved
tags-preserved c = c.tags.invariant ∙ tag-past c.args.message.now.tags c.tags.place c.args.tag.now c.in-Some.set.now c.in-Some.ensures (sym c.if-eq.ensures)

pub returns-in-None : goal.returns-in-None
returns-in-None c = sym (c.tags.invariant ∙ tag-end c.args.message.now.tags c.tags.place c.args.tag.now c.in-None.ensures)

pub returns-then-eq : goal.returns-then-eq
returns-then-eq c = sym (c.tags.invariant ∙ tag-here c.args.message.now.tags c.tags.place c.args.tag.now c.in-Some.set.now c.in-Some.ensures (sym c.if-eq.ensures))

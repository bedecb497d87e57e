use Rattle.std.proofs.Common.{option_copied}
use Rattle.sg_template.proofs.Steps.{item-more}
use Rattle.sg_template.proofs.elements.append_item.Goals as goal

pub returns-clause-ok : goal.returns-clause-ok
returns-clause-ok c =
    let found = c.in-Some.found in
    item-more (option_copied c.args.current) c.args.name.now c.args.value.now (record { id = found.id.now; param = option_copied found.param }) c.args.out.now.items c.append_opening.new.out.items c.append_param.new.out.items
    c.in-Some.ensures c.in_ok-append_opening.ensures.ok c.in_ok-append_param.ensures.ok

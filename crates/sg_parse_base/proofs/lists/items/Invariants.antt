use Rattle.std.proofs.Common.{◌≡◌, ◌-◌}
use Rattle.sg_parse_base.specs.Lists.{items, items_from}
use Rattle.sg_parse_base.proofs.lists.items.Given as goal

abbrev pub invariant-loop-turn : goal.invariant-loop-turn
invariant-loop-turn g l = items (g.R.ItemRule.parser l.rule) l.fn.found l.fn.cursor ≡ items_from (g.R.ItemRule.parser l.rule) (l._turn-end - l._turn) l.found l.cursor

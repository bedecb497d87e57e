use Rattle.std.proofs.Common.{◌≡◌, ◌-◌}
use Rattle.sg_parse_base.specs.Lists.{body, body_from}
use Rattle.sg_parse_base.proofs.lists.body.Given as goal

abbrev pub invariant-loop-turn : goal.invariant-loop-turn
invariant-loop-turn g l = body (g.R.ItemRule.parser l.rule) l.fn.cursor ≡ body_from (g.R.ItemRule.parser l.rule) (l._turn-end - l._turn) l.found l.cursor

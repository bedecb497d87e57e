use Rattle.std.proofs.Common.{◌≡◌, length}
use Rattle.sg_parse_base.specs.Lists.{after_commas}
use Rattle.sg_parse_base.proofs.lists.skip_commas.Given as goal

abbrev pub invariant-loop-cursor : goal.invariant-loop-cursor
invariant-loop-cursor l = after_commas l.fn.cursor ≡ after_commas l.cursor

abbrev pub decreases-loop-cursor : goal.decreases-loop-cursor
decreases-loop-cursor l = length l.cursor

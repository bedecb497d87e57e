use Rattle.std.proofs.Common.{◌≡◌, ◌-◌, reverse}
use Rattle.sg_parse_base.specs.Skipping.{skipped, skipped_from}
use Rattle.sg_parse_base.proofs.skip.skipped.Given as goal

abbrev pub invariant-loop-turn : goal.invariant-loop-turn
invariant-loop-turn l = skipped l.fn.cursor ≡ skipped_from (l._turn-end - l._turn) (reverse l.open_ones) l.cursor

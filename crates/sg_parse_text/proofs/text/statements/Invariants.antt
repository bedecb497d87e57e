use Rattle.std.proofs.Common.{◌≡◌, ◌-◌, [], length}
use Rattle.sg_parse_obj.specs.Objects.{spots_at}
use Rattle.sg_parse_text.specs.Texts.{text_from}
use Rattle.sg_parse_text.proofs.text.statements.Given as goal

abbrev pub invariant-loop-turn : goal.invariant-loop-turn
invariant-loop-turn l =
    text_from (length l.tokens) [] (spots_at l.tokens 0) ≡ text_from (length l.tokens - l._turn) l.found (spots_at l.tokens l.at)

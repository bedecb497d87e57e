-- The tokens of a part.
use Rattle.std.specs.Prelude.{◌-◌, ◌≤◌, List, length, take, drop}
use Rattle.std.specs.Arc.{arc_value}
use Rattle.sg_lex.specs.declared.token.Token.{Token}
use Rattle.sg_block.specs.declared.part.TokenSpan.TheInside.{Inside}
use Rattle.sg_block.specs.Brackets.{HasEnds}

abbrev pub tokens_of : Inside → List Token
tokens_of part = take (part.to - part.from) (drop part.from (arc_value part.source).tokens.items)

-- the part is within its file, whose brackets' ends are known
abbrev pub IsPart : Inside → Type 0
IsPart part = (part.from ≤ part.to) × (part.to ≤ length (arc_value part.source).tokens.items)
    × HasEnds (arc_value part.source).tokens.items (arc_value part.source).ends.items

-- What may follow an expression.
use Rattle.std.specs.Prelude.{◌≡◌, false, List, codes}
use Rattle.sg_parse_base.specs.declared.spot.Spot.{Spot}
use Rattle.sg_parse_base.specs.Input.{sees_word}

abbrev pub NoAnd : List Spot → Type 0
NoAnd r = sees_word (codes "and") r ≡ false

-- neither `and` nor `or`
abbrev pub EndsExpression : List Spot → Type 0
EndsExpression r = NoAnd r × (sees_word (codes "or") r ≡ false)

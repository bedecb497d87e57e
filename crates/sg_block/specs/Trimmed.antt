-- The body that a use stands for.
use Rattle.std.specs.Prelude.{if◌then◌else◌, List, [], ◌∷◌}
use Rattle.sg_lex.specs.declared.token.Token.{Token}
use Rattle.sg_block.specs.Tokens.{is_symbol}

-- a body without one trailing `;`
abbrev pub trimmed : List Token → List Token
trimmed [] = []
trimmed (token ∷ []) = if is_symbol 59 token then [] else token ∷ []
trimmed (token ∷ next ∷ tokens) = token ∷ trimmed (next ∷ tokens)

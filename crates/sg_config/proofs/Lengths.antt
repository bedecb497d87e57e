-- A text has no more statements than tokens.
use Rattle.std.proofs.Common.{◌≤◌, ◌<◌, ◌^◌, List, length, arith}
use Rattle.sg_lex.specs.declared.token.Token.{Token}
use Rattle.sg_parse_base.specs.declared.spot.Spot.{Spot}
use Rattle.sg_parse_base.proofs.Spots.{spots-length}
use Rattle.sg_parse_base.proofs.Steps.{symbol-leaves, shorter}
use Rattle.sg_parse_obj.specs.Objects.{spots_at}
use Rattle.sg_parse_text.specs.declared.statement.Statement.{Statement}
use Rattle.sg_parse_text.specs.declared.statement.Statement.TheVariants as statement
use Rattle.sg_parse_text.specs.Grammar.{IsConfigText}
use Rattle.sg_parse_text.proofs.TextLaws.{statement-leaves}

few-statements : (s : List Spot) (xs : List Statement) → IsConfigText s xs → length xs ≤ length s
few-statements s xs (IsConfigText.none) = omega arith
few-statements s xs (IsConfigText.extra _ m _ t rest) = omega (arith, shorter s m (symbol-leaves 59 s m t), few-statements m xs rest)
few-statements s xs (IsConfigText.more _ m k x ys t semi rest) =
    omega (arith, shorter s m (statement-leaves s m x t), shorter m k (symbol-leaves 59 m k semi), few-statements k ys rest)

pub fits : (tokens : List Token) (xs : List Statement) → IsConfigText (spots_at tokens 0) xs → length tokens < 2 ^ 32 → length xs < 2 ^ 32
unfolding spots_at
fits tokens xs t few = omega (arith, few-statements (spots_at tokens 0) xs t, spots-length 0 tokens, few)

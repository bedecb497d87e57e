-- The next token, of which a copy is made.
use Rattle.std.proofs.Common.{◌≡◌, List, [], ◌∷◌, Some, None, Ok, Err, refl}
use Rattle.sg_lex.specs.declared.token.Token.{Token}
use Rattle.sg_lex.specs.declared.place.Line.{Line}
use Rattle.sg_lex.specs.declared.fault.ConfigKind.TheVariants.{Unexpected}
use Rattle.sg_parse_base.specs.declared.spot.Spot.{Spot}
use Rattle.sg_parse_base.specs.Input.{any, behind, first_token, place_of, spot_line, fault_at}

pub front_is : (s : List Spot) (token : Token) (line : Line) → first_token s ≡ Some token → place_of s ≡ Some line → any s ≡ Ok (record { token = token; at = line.at }, behind s)
unfolding any
front_is [] token line t l = absurd cc
front_is (spot ∷ spots) token line t l =
    let same : spot.token ≡ token = cc in
    let there : spot_line spot ≡ line = cc in
    rw (← same, ← there) refl

pub no_front : (s : List Spot) → first_token s ≡ None → any s ≡ Err (fault_at Unexpected s)
unfolding any
no_front [] t = refl
no_front (spot ∷ spots) t = absurd cc

pub no_line : (s : List Spot) → place_of s ≡ None → any s ≡ Err (fault_at Unexpected s)
unfolding any
no_line [] t = refl
no_line (spot ∷ spots) t = absurd cc

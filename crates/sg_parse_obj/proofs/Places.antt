-- Places in a list of tokens.
use Rattle.std.proofs.Common.{◌≡◌, ℕ, suc, ◌+◌, ◌-◌, ◌≤◌, List, [], ◌∷◌, ◌++◌, length, drop, refl, sym, ap, ◌∙◌, arith}
use Rattle.std.proofs.lemmas.List.{length-drop, drop-drop}
use Rattle.sg_lex.specs.declared.token.Token.{Token}
use Rattle.sg_parse_base.specs.declared.spot.Spot.{Spot}
use Rattle.sg_parse_base.specs.Input.{spots_from}
use Rattle.sg_parse_base.specs.Laws.{LeavesEnd}
use Rattle.sg_parse_obj.specs.Objects.{spots_at}

-- an end of the tokens from a place on begins at a place
pub end-place : (front : List Spot) (at : ℕ) (tokens : List Token) (r : List Spot) → spots_from at tokens ≡ front ++ r → (r ≡ spots_from (at + length front) (drop (length front) tokens)) × (length front + length r ≡ length tokens)
end-place [] at tokens r h = let e : at ≡ at + 0 = omega arith in (sym h ∙ ap (λ (k : ℕ). spots_from k tokens) e, lengths at tokens r h)
  where
    lengths : (at : ℕ) (tokens : List Token) (r : List Spot) → spots_from at tokens ≡ r → 0 + length r ≡ length tokens
    lengths at [] r h = let len : length r ≡ 0 = ap length (sym h) in omega (arith, len)
    lengths at (token ∷ tokens) r h = let len : length r ≡ suc (length (spots_from (at + 1) tokens)) = ap length (sym h) in omega (arith, len, lengths (at + 1) tokens (spots_from (at + 1) tokens) refl)
end-place (spot ∷ front) at [] r h = absurd cc
end-place (spot ∷ front) at (token ∷ tokens) r h =
    let rest : spots_from (at + 1) tokens ≡ front ++ r = cc in
    let p = end-place front (at + 1) tokens r rest in
    let e : at + 1 + length front ≡ at + length (spot ∷ front) = omega arith in
    (p.0 ∙ ap (λ (k : ℕ). spots_from k (drop (length front) tokens)) e, omega (arith, p.1))

-- what is left begins behind as many tokens as were read
pub place-behind : (tokens : List Token) (at : ℕ) (r : List Spot) → at ≤ length tokens → LeavesEnd (spots_at tokens at) r → r ≡ spots_at tokens (length tokens - length r)
unfolding spots_at
place-behind tokens at r le l =
    let front = l.0 ∷ l.1 in
    let p = end-place front at (drop at tokens) r l.2 in
    let size : length (drop at tokens) ≡ length tokens - at = length-drop at tokens in
    let k : at + length front ≡ length tokens - length r = omega (arith, p.1, size, le) in
    p.0 ∙ ap (spots_from (at + length front)) (drop-drop (length front) at tokens) ∙ ap (λ (n : ℕ). spots_from n (drop n tokens)) k

pub rest-fits : (tokens : List Token) (at : ℕ) (r : List Spot) → LeavesEnd (spots_at tokens at) r → length r ≤ length tokens
unfolding spots_at
rest-fits tokens at r l =
    let p = end-place (l.0 ∷ l.1) at (drop at tokens) r l.2 in
    omega (arith, p.1, length-drop at tokens)

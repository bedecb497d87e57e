-- The tokens from a place on, with their places.
use Rattle.std.proofs.Common.{◌≡◌, ℕ, suc, ◌+◌, ◌<◌, ◌≤◌, List, [], ◌∷◌, length, drop, Some, None, slice_get, refl, ap}
use Rattle.std.proofs.lemmas.List.{drop_all}
use Rattle.sg_list.proofs.ListLemmas.{drop-get, slice_get-all, slice_get-some}
use Rattle.sg_lex.specs.declared.token.Token.{Token}
use Rattle.sg_parse_base.specs.Input.{spots_from}

pub spots-length : (at : ℕ) (tokens : List Token) → length (spots_from at tokens) ≡ length tokens
spots-length at [] = refl
spots-length at (token ∷ tokens) = ap suc (spots-length (at + 1) tokens)

-- a token at a place is the first of those from there on
pub spots-at : (tokens : List Token) (at : ℕ) (token : Token) → slice_get tokens at ≡ Some token → spots_from at (drop at tokens) ≡ (record { token = token; at = at }) ∷ spots_from (at + 1) (drop (at + 1) tokens)
spots-at tokens at token is = ap (spots_from at) (drop-get tokens at token is)

pub spots-past : (tokens : List Token) (at : ℕ) → slice_get tokens at ≡ None → spots_from at (drop at tokens) ≡ []
spots-past tokens at is = ap (spots_from at) (slice_get-all tokens at is)

pub spots-some : (tokens : List Token) (at : ℕ) → at < length tokens → (token : Token) × (spots_from at (drop at tokens) ≡ (record { token = token; at = at }) ∷ spots_from (at + 1) (drop (at + 1) tokens))
spots-some tokens at lt = let s = slice_get-some tokens at lt in (s.0, spots-at tokens at s.0 s.1)

pub spots-none : (tokens : List Token) (at : ℕ) → length tokens ≤ at → spots_from at (drop at tokens) ≡ []
spots-none tokens at le = ap (spots_from at) (drop_all at tokens le)

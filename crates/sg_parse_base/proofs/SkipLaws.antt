-- Balanced tokens: what is passed over is of the grammar, and what is of the grammar is passed over.
use Rattle.std.proofs.Common.{◌≡◌, ◌⊎◌, inl, inr, ℕ, zero, suc, ◌≤◌, Bool, true, false, cond, List, [], ◌∷◌, length, Some, None, Ok, refl, sym, ap, subst, arith}
use Rattle.std.specs.Prelude.{◌==◌}
use Rattle.sg_lex.specs.declared.token.Token.{Token}
use Rattle.sg_parse_base.specs.declared.spot.Spot.{Spot}
use Rattle.sg_parse_base.specs.declared.skip.BracketEffect.{BracketEffect}
use Rattle.sg_parse_base.specs.declared.skip.BracketEffect.TheVariants.{Opens, Closes, Neither}
use Rattle.sg_parse_base.specs.Tokens.{is_symbol}
use Rattle.sg_parse_base.specs.Input.{sees, symbol}
use Rattle.sg_parse_base.specs.Skipping.{bracket, open_behind, skipped_behind, skipped_from, skipped}
use Rattle.sg_parse_base.specs.Grammar.{Symbol, Balanced, Skipped}
use Rattle.sg_parse_base.specs.Laws.{LeavesEnd}
use Rattle.sg_parse_base.proofs.Steps.{step_ok, ok_is, symbol-takes, takes-symbol, leaves-then, symbol-leaves, symbol-sees}

-- what a bracket that opens or closes is
abbrev pub IsOfBrackets : Token → BracketEffect → Type 0
IsOfBrackets token (Opens c) = ((is_symbol 40 token ≡ true) × (c ≡ 41)) ⊎ ((is_symbol 123 token ≡ true) × (c ≡ 125))
IsOfBrackets token (Closes c) = is_symbol c token ≡ true
IsOfBrackets token Neither = bracket token ≡ Neither

bracket-of : (token : Token) → IsOfBrackets token (bracket token)
bracket-of token = by (is_symbol 41 token) refl (is_symbol 125 token) refl (is_symbol 40 token) refl (is_symbol 123 token) refl
  where
    by : (a : Bool) → is_symbol 41 token ≡ a → (b : Bool) → is_symbol 125 token ≡ b → (c : Bool) → is_symbol 40 token ≡ c → (d : Bool) → is_symbol 123 token ≡ d → IsOfBrackets token (bracket token)
    by true ea b eb c ec d ed = rw ea ea
    by false ea true eb c ec d ed = rw (ea, eb) eb
    by false ea false eb true ec d ed = rw (ea, eb, ec) (inl (ec, refl))
    by false ea false eb false ec true ed = rw (ea, eb, ec, ed) (inr (ed, refl))
    by false ea false eb false ec false ed = rw (ea, eb, ec, ed) (let all : bracket token ≡ Neither = rw (ea, eb, ec, ed) refl in all)

-- what closes these brackets, the innermost first, with balanced tokens before each
abbrev pub Unwinds : List ℕ → List Spot → List Spot → Type 0
Unwinds [] s r = s ≡ r
Unwinds (c ∷ open_ones) s r = (m : List Spot) × (n : List Spot) × Balanced s m × Symbol c m n × Unwinds open_ones n r

same : (c d : ℕ) → (c == d) ≡ true → c ≡ d
same c d h = grind (arith, h)

opened-as : (spot : Spot) (spots m n k : List Spot) (d : ℕ) → IsOfBrackets spot.token (Opens d) → Balanced spots m → Symbol d m n → Balanced n k → Balanced (spot ∷ spots) k
opened-as spot spots m n k d (inl h) inner closes rest = Balanced.round (spot ∷ spots) spots m n k (spot, (refl, h.0)) inner (subst (λ (b : ℕ). Symbol b m n) h.1 closes) rest
opened-as spot spots m n k d (inr h) inner closes rest = Balanced.braced (spot ∷ spots) spots m n k (spot, (refl, h.0)) inner (subst (λ (b : ℕ). Symbol b m n) h.1 closes) rest

module _ (turns : ℕ) (later : (c : ℕ) (open_ones : List ℕ) (s r : List Spot) → skipped_from turns (c ∷ open_ones) s ≡ Ok (tt, r) → Unwinds (c ∷ open_ones) s r)
    (c : ℕ) (open_ones : List ℕ) (spot : Spot) (spots r : List Spot) where
  closed-as : (rest : List ℕ) → skipped_behind (Some rest) (λ l. skipped_from turns l spots) (spot ∷ spots) ≡ Ok (tt, r) → Unwinds rest spots r
  closed-as [] e = (ok_is tt tt spots r e).1
  closed-as (k ∷ rest) e = later k rest spots r e

  step-sound : (b : BracketEffect) → IsOfBrackets spot.token b → skipped_behind (open_behind b (c ∷ open_ones)) (λ l. skipped_from turns l spots) (spot ∷ spots) ≡ Ok (tt, r) → Unwinds (c ∷ open_ones) (spot ∷ spots) r
  step-sound Neither is e =
      let u = later c open_ones spots r e in
      (u.0, u.1, Balanced.plain spot spots u.0 is u.2, u.3, u.4)
  step-sound (Opens d) is e =
      let u = later d (c ∷ open_ones) spots r e in
      (u.4.0, u.4.1, opened-as spot spots u.0 u.1 u.4.0 d is u.2 u.3 u.4.2, u.4.3, u.4.4)
  step-sound (Closes d) is e = by (c == d) refl e
    where
      by : (b : Bool) → (c == d) ≡ b → skipped_behind (cond b (Some open_ones) None) (λ l. skipped_from turns l spots) (spot ∷ spots) ≡ Ok (tt, r) → Unwinds (c ∷ open_ones) (spot ∷ spots) r
      by true h e = (spot ∷ spots, spots, Balanced.none (spot ∷ spots), (spot, (refl, subst (λ (k : ℕ). is_symbol k spot.token ≡ true) (sym (same c d h)) is)), closed-as open_ones e)
      by false h e = absurd cc

from-sound : (turns c : ℕ) (open_ones : List ℕ) (s r : List Spot) → skipped_from turns (c ∷ open_ones) s ≡ Ok (tt, r) → Unwinds (c ∷ open_ones) s r
unfolding skipped_from
from-sound zero c open_ones s r e = absurd cc
from-sound (suc turns) c open_ones [] r e = from-sound turns c open_ones [] r e
from-sound (suc turns) c open_ones (spot ∷ spots) r e = step-sound turns (from-sound turns) c open_ones spot spots r (bracket spot.token) (bracket-of spot.token) e

pub skipped-sound : (s : List Spot) (x : Unit {0} × List Spot) → skipped s ≡ Ok x → Skipped s x.1
unfolding skipped
skipped-sound s x e =
    let a = step_ok (symbol 40 s) (λ opened. skipped_from (length opened.1) (41 ∷ []) opened.1) x e in
    let u = from-sound (length a.0.1) 41 [] a.0.1 x.1 a.2 in
    (a.0.1, u.0, symbol-takes 40 s a.0 a.1, u.2, subst (λ (r : List Spot). Symbol 41 u.0 r) u.4 u.3)

-- ---- the other way

differs : (a b : ℕ) (spot : Spot) → is_symbol a spot.token ≡ true → (a ≡ b → ⊥) → is_symbol b spot.token ≡ false
unfolding sees
differs a b spot h ne = symbol-sees a b (spot ∷ []) [] (spot, (refl, h)) ne

round-opens : (spot : Spot) → is_symbol 40 spot.token ≡ true → bracket spot.token ≡ Opens 41
round-opens spot h = rw (differs 40 41 spot h (λ e. omega (arith, e)), differs 40 125 spot h (λ e. omega (arith, e)), h) refl

brace-opens : (spot : Spot) → is_symbol 123 spot.token ≡ true → bracket spot.token ≡ Opens 125
brace-opens spot h = rw (differs 123 41 spot h (λ e. omega (arith, e)), differs 123 125 spot h (λ e. omega (arith, e)), differs 123 40 spot h (λ e. omega (arith, e)), h) refl

round-closes : (spot : Spot) → is_symbol 41 spot.token ≡ true → bracket spot.token ≡ Closes 41
round-closes spot h = rw h refl

brace-closes : (spot : Spot) → is_symbol 125 spot.token ≡ true → bracket spot.token ≡ Closes 125
brace-closes spot h = rw (differs 125 41 spot h (λ e. omega (arith, e)), h) refl

-- with as many turns as there are tokens, or more, all is passed over up to the end
abbrev pub GoesPast : List ℕ → List Spot → List Spot → Type 0
GoesPast open_ones s r = (turns : ℕ) → length s ≤ turns → skipped_from turns open_ones s ≡ Ok (tt, r)

goes-plain : (open_ones : List ℕ) (spot : Spot) (spots r : List Spot) → bracket spot.token ≡ Neither → (c : ℕ) (rest : List ℕ) → open_ones ≡ c ∷ rest → GoesPast open_ones spots r → GoesPast open_ones (spot ∷ spots) r
unfolding skipped_from
goes-plain open_ones spot spots r is c rest some goes zero le = absurd (omega (arith, le))
goes-plain open_ones spot spots r is c rest some goes (suc turns) le =
    let on = goes turns (omega (arith, le)) in
    rw (is, some) (rw some at on)

goes-opening : (d c : ℕ) (rest : List ℕ) (spot : Spot) (spots r : List Spot) → bracket spot.token ≡ Opens d → GoesPast (d ∷ c ∷ rest) spots r → GoesPast (c ∷ rest) (spot ∷ spots) r
unfolding skipped_from
goes-opening d c rest spot spots r is goes zero le = absurd (omega (arith, le))
goes-opening d c rest spot spots r is goes (suc turns) le = rw is (goes turns (omega (arith, le)))

goes-closing : (d c : ℕ) (rest : List ℕ) (spot : Spot) (spots r : List Spot) → bracket spot.token ≡ Closes d → (d == d) ≡ true → GoesPast (c ∷ rest) spots r → GoesPast (d ∷ c ∷ rest) (spot ∷ spots) r
unfolding skipped_from
goes-closing d c rest spot spots r is itself goes zero le = absurd (omega (arith, le))
goes-closing d c rest spot spots r is itself goes (suc turns) le = rw (is, itself) (goes turns (omega (arith, le)))

goes-on : (s m : List Spot) → Balanced s m → (c : ℕ) (rest : List ℕ) (r : List Spot) → GoesPast (c ∷ rest) m r → GoesPast (c ∷ rest) s r
goes-on s m (Balanced.none _) c rest r goes = goes
goes-on s m (Balanced.plain spot spots _ is balanced) c rest r goes = goes-plain (c ∷ rest) spot spots r is c rest refl (goes-on spots m balanced c rest r goes)
goes-on s m (Balanced.round _ a b k _ opens inner closes balanced) c rest r goes =
    let after = goes-on k m balanced c rest r goes in
    let closing : GoesPast (41 ∷ c ∷ rest) b r = subst (λ (x : List Spot). GoesPast (41 ∷ c ∷ rest) x r) (sym closes.1.0) (goes-closing 41 c rest closes.0 k r (round-closes closes.0 closes.1.1) refl after) in
    subst (λ (x : List Spot). GoesPast (c ∷ rest) x r) (sym opens.1.0) (goes-opening 41 c rest opens.0 a r (round-opens opens.0 opens.1.1) (goes-on a b inner 41 (c ∷ rest) r closing))
goes-on s m (Balanced.braced _ a b k _ opens inner closes balanced) c rest r goes =
    let after = goes-on k m balanced c rest r goes in
    let closing : GoesPast (125 ∷ c ∷ rest) b r = subst (λ (x : List Spot). GoesPast (125 ∷ c ∷ rest) x r) (sym closes.1.0) (goes-closing 125 c rest closes.0 k r (brace-closes closes.0 closes.1.1) refl after) in
    subst (λ (x : List Spot). GoesPast (c ∷ rest) x r) (sym opens.1.0) (goes-opening 125 c rest opens.0 a r (brace-opens opens.0 opens.1.1) (goes-on a b inner 125 (c ∷ rest) r closing))

goes-last : (s r : List Spot) → Symbol 41 s r → GoesPast (41 ∷ []) s r
unfolding skipped_from
goes-last s r t zero le = let size = ap length t.1.0 in absurd (omega (arith, le, size))
goes-last s r t (suc turns) le = rw (t.1.0, round-closes t.0 t.1.1) refl

pub skipped-again : (s r : List Spot) → Skipped s r → skipped s ≡ Ok (tt, r)
unfolding skipped
skipped-again s r t =
    rw (takes-symbol 40 s t.0 t.2) (goes-on t.0 t.1 t.3 41 [] r (goes-last t.1 r t.4) (length t.0) (omega arith))

balanced-leaves : (s m r : List Spot) → Balanced s m → LeavesEnd m r → LeavesEnd s r
balanced-leaves s m r (Balanced.none _) l = l
balanced-leaves s m r (Balanced.plain spot spots _ is balanced) l = leaves-then (spot ∷ spots) spots r (spot, [], refl) (balanced-leaves spots m r balanced l)
balanced-leaves s m r (Balanced.round _ a b k _ opens inner closes balanced) l =
    leaves-then s a r (symbol-leaves 40 s a opens) (balanced-leaves a b r inner (leaves-then b k r (symbol-leaves 41 b k closes) (balanced-leaves k m r balanced l)))
balanced-leaves s m r (Balanced.braced _ a b k _ opens inner closes balanced) l =
    leaves-then s a r (symbol-leaves 123 s a opens) (balanced-leaves a b r inner (leaves-then b k r (symbol-leaves 125 b k closes) (balanced-leaves k m r balanced l)))

pub skipped-leaves : (s r : List Spot) → Skipped s r → LeavesEnd s r
skipped-leaves s r t = leaves-then s t.0 r (symbol-leaves 40 s t.0 t.2) (balanced-leaves t.0 t.1 r t.3 (symbol-leaves 41 t.1 r t.4))

-- Steps of parsers.
use Rattle.std.proofs.Common.{◌≡◌, ◌⊎◌, inl, inr, ℕ, ◌<◌, Bool, true, false, cond, List, [], ◌∷◌, ◌++◌, length, Ok, Err, refl, sym, ap, subst, ◌∙◌, append_assoc, arith}
use Rattle.std.proofs.lemmas.List.{length-append}
use Rattle.std.proofs.lemmas.Bool.{and_parts}
use Rattle.std.specs.Prelude.{◌||◌}
use Rattle.sg_lex.specs.declared.token.TokenKind.{TokenKind}
use Rattle.sg_lex.specs.declared.token.TokenKind.TheVariants.{Word, Str, Sym, Op, At, Tick}
use Rattle.sg_lex.specs.declared.token.Token.{Token}
use Rattle.sg_lex.specs.declared.fault.ConfigKind.TheVariants.{Unexpected}
use Rattle.sg_parse_base.specs.declared.fault.ParseFault.{ParseFault}
use Rattle.sg_parse_base.specs.declared.spot.Spot.{Spot}
use Rattle.sg_parse_base.specs.Tokens.{is_name, is_symbol, is_word_kind, is_string_kind, is_symbol_kind, is_byte}
use Rattle.sg_parse_base.specs.Input.{ParseOutcome, ◌>>=◌, behind, next_is, any, expected, sees, symbol, fault_at}
use Rattle.sg_parse_base.specs.Grammar.{TakesToken, Symbol}
use Rattle.sg_parse_base.specs.Laws.{LeavesEnd}

-- ---- what an outcome says

abbrev pub gives : {A : Type 0} → A → List Spot → ParseOutcome A
gives x r = Ok (x, r)

pub step_ok : {A B : Type 0} (o : ParseOutcome A) (f : A × List Spot → ParseOutcome B) (y : B × List Spot) → (o >>= f) ≡ Ok y → (x : A × List Spot) × (o ≡ Ok x) × (f x ≡ Ok y)
step_ok (Ok x) f y e = (x, refl, e)
step_ok (Err fault) f y e = absurd cc

pub guard_ok : {A : Type 0} (b : Bool) (fault : ParseFault) (o : ParseOutcome A) (y : A × List Spot) → cond b (Err fault) o ≡ Ok y → (b ≡ false) × (o ≡ Ok y)
guard_ok true fault o y e = absurd cc
guard_ok false fault o y e = (refl, e)

pub test_ok : {A : Type 0} (b : Bool) (fault : ParseFault) (o : ParseOutcome A) (y : A × List Spot) → cond b o (Err fault) ≡ Ok y → (b ≡ true) × (o ≡ Ok y)
test_ok true fault o y e = (refl, e)
test_ok false fault o y e = absurd cc

pub ok_is : {A : Type 0} (x y : A) (s r : List Spot) → gives x s ≡ gives y r → (x ≡ y) × (s ≡ r)
ok_is {A} x y s r e = let p : (x, s) ≡ (y, r) = cc in (ap (λ (q : A × List Spot). q.0) p, ap (λ (q : A × List Spot). q.1) p)

-- ---- tokens

pub next-takes : (passes : Token → Bool) (s : List Spot) (x : Spot × List Spot) → next_is passes s ≡ true → any s ≡ Ok x → TakesToken passes s x.0 x.1
unfolding any
next-takes passes [] x p e = absurd cc
next-takes passes (spot ∷ spots) x p e =
    let is : (spot, spots) ≡ x = cc in
    subst (λ (y : Spot × List Spot). TakesToken passes (spot ∷ spots) y.0 y.1) is (refl, p)

pub expected-takes : (passes : Token → Bool) (s : List Spot) (x : Spot × List Spot) → expected passes s ≡ Ok x → TakesToken passes s x.0 x.1
unfolding expected
expected-takes passes s x e = let t = test_ok (next_is passes s) (fault_at Unexpected s) (any s) x e in next-takes passes s x t.0 t.1

pub takes-expected : (passes : Token → Bool) (s : List Spot) (spot : Spot) (r : List Spot) → TakesToken passes s spot r → expected passes s ≡ Ok (spot, r)
unfolding expected any
takes-expected passes s spot r t = rw (t.0, t.1) refl

pub sees-takes : (byte : ℕ) (s : List Spot) → sees byte s ≡ true → Symbol byte s (behind s)
unfolding sees
sees-takes byte [] p = absurd cc
sees-takes byte (spot ∷ spots) p = (spot, (refl, p))

pub symbol-takes : (byte : ℕ) (s : List Spot) (x : Unit {0} × List Spot) → symbol byte s ≡ Ok x → Symbol byte s x.1
unfolding symbol
symbol-takes byte s x e =
    let t = test_ok (sees byte s) (fault_at Unexpected s) (Ok (tt, behind s)) x e in
    subst (λ (r : List Spot). Symbol byte s r) (ok_is tt x.0 (behind s) x.1 t.1).1 (sees-takes byte s t.0)

pub takes-sees : (byte : ℕ) (s r : List Spot) → Symbol byte s r → sees byte s ≡ true
unfolding sees
takes-sees byte s r t = rw t.1.0 t.1.1

pub takes-symbol : (byte : ℕ) (s r : List Spot) → Symbol byte s r → symbol byte s ≡ Ok (tt, r)
unfolding symbol
takes-symbol byte s r t = rw (takes-sees byte s r t, t.1.0) refl

pub takes-behind : (byte : ℕ) (s r : List Spot) → Symbol byte s r → behind s ≡ r
takes-behind byte s r t = rw t.1.0 refl

pub chosen : {A : Type 0} (b : Bool) (x y z : A) → cond b x y ≡ z → ((b ≡ true) × (x ≡ z)) ⊎ ((b ≡ false) × (y ≡ z))
chosen true x y z e = inl (refl, e)
chosen false x y z e = inr (refl, e)

-- ---- what is left is an end of what there was

pub leaves-then : (s m r : List Spot) → LeavesEnd s m → LeavesEnd m r → LeavesEnd s r
leaves-then s m r a b = (a.0, a.1 ++ b.0 ∷ b.1, a.2 ∙ ap (λ (xs : List Spot). a.0 ∷ (a.1 ++ xs)) b.2 ∙ ap (λ (xs : List Spot). a.0 ∷ xs) (sym (append_assoc a.1 (b.0 ∷ b.1) r)))

pub takes-leaves : (passes : Token → Bool) (s : List Spot) (spot : Spot) (r : List Spot) → TakesToken passes s spot r → LeavesEnd s r
takes-leaves passes s spot r t = (spot, [], t.0)

pub symbol-leaves : (byte : ℕ) (s r : List Spot) → Symbol byte s r → LeavesEnd s r
symbol-leaves byte s r t = (t.0, [], t.1.0)

pub shorter : (s r : List Spot) → LeavesEnd s r → length r < length s
shorter s r l = let len : length s ≡ length (l.0 ∷ (l.1 ++ r)) = ap length l.2 in omega (arith, len, length-append l.1 r)

-- ---- a token is of one kind

name-kind : (k : TokenKind) → (is_word_kind k || is_string_kind k) ≡ true → is_symbol_kind k ≡ false
name-kind Word h = refl
name-kind Str h = refl
name-kind Sym h = absurd cc
name-kind Op h = refl
name-kind At h = refl
name-kind Tick h = refl

pub name-sees : (byte : ℕ) (s : List Spot) → next_is is_name s ≡ true → sees byte s ≡ false
unfolding sees is_name is_symbol
name-sees byte [] h = absurd cc
name-sees byte (spot ∷ spots) h = rw (name-kind spot.token.kind h) refl

byte-is : (a b : ℕ) (text : List ℕ) → is_byte a text ≡ true → (a ≡ b → ⊥) → is_byte b text ≡ false
byte-is a b [] h ne = refl
byte-is a b (c ∷ []) h ne = grind (arith, h, ne)
byte-is a b (c ∷ d ∷ text) h ne = refl

-- a symbol is no other symbol
pub symbol-sees : (a b : ℕ) (s r : List Spot) → Symbol a s r → (a ≡ b → ⊥) → sees b s ≡ false
unfolding sees is_symbol
symbol-sees a b s r t ne =
    let parts = and_parts (is_symbol_kind t.0.token.kind) (is_byte a t.0.token.text) t.1.1 in
    rw (t.1.0, parts.0, byte-is a b t.0.token.text parts.1 ne) refl

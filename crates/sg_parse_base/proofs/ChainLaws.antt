-- Keywords, and terms with a word between them: what is read is of the grammar, and what is of the grammar is read.
use Rattle.std.proofs.Common.{◌≡◌, inl, inr, ℕ, zero, suc, ◌≤◌, Bool, true, false, List, [], ◌∷◌, ◌++◌, length, Ok, refl, sym, subst, ◌∙◌, append_assoc, arith}
use Rattle.std.specs.Prelude.{◌&&◌, ◌==◌}
use Rattle.std.proofs.lemmas.Bool.{and_parts}
use Rattle.std.proofs.lemmas.List.{append-nil}
use Rattle.sg_lex.specs.declared.token.TokenKind.{TokenKind}
use Rattle.sg_lex.specs.declared.token.TokenKind.TheVariants.{Word, Str, Sym, Op, At, Tick}
use Rattle.sg_parse_base.specs.declared.spot.Spot.{Spot}
use Rattle.sg_parse_base.specs.Tokens.{is_word, is_string, is_symbol, is_keyword, is_word_kind, is_string_kind, is_symbol_kind, is_byte}
use Rattle.sg_parse_base.specs.Input.{Parser, ◌>>=◌, behind, next_is, sees, sees_word}
use Rattle.sg_parse_base.specs.Lists.{chain_from, chain}
use Rattle.sg_parse_base.specs.Grammar.{Stands, Keyword, Links, Chain}
use Rattle.sg_parse_base.specs.Laws.{LeavesEnd}
use Rattle.sg_parse_base.proofs.Steps.{step_ok, ok_is, chosen, leaves-then, shorter}

-- ---- keywords

pub word-takes : (word : List ℕ) (s : List Spot) → sees_word word s ≡ true → Keyword word s (behind s)
unfolding sees_word
word-takes word [] p = absurd cc
word-takes word (spot ∷ spots) p = (spot, (refl, p))

pub takes-word : (word : List ℕ) (s r : List Spot) → Keyword word s r → sees_word word s ≡ true
unfolding sees_word
takes-word word s r t = rw t.1.0 t.1.1

pub keyword-behind : (word : List ℕ) (s r : List Spot) → Keyword word s r → behind s ≡ r
keyword-behind word s r t = rw t.1.0 refl

pub keyword-leaves : (word : List ℕ) (s r : List Spot) → Keyword word s r → LeavesEnd s r
keyword-leaves word s r t = (t.0, [], t.1.0)

pub word-kind : (k : TokenKind) → is_word_kind k ≡ true → (is_symbol_kind k ≡ false) × (is_string_kind k ≡ false)
word-kind Word h = (refl, refl)
word-kind Str h = absurd cc
word-kind Sym h = absurd cc
word-kind Op h = absurd cc
word-kind At h = absurd cc
word-kind Tick h = absurd cc

pub symbol-kind : (k : TokenKind) → is_symbol_kind k ≡ true → (is_word_kind k ≡ false) × (is_string_kind k ≡ false)
symbol-kind Word h = absurd cc
symbol-kind Str h = absurd cc
symbol-kind Sym h = (refl, refl)
symbol-kind Op h = absurd cc
symbol-kind At h = absurd cc
symbol-kind Tick h = absurd cc

pub string-kind : (k : TokenKind) → is_string_kind k ≡ true → (is_word_kind k ≡ false) × (is_symbol_kind k ≡ false)
string-kind Word h = absurd cc
string-kind Str h = (refl, refl)
string-kind Sym h = absurd cc
string-kind Op h = absurd cc
string-kind At h = absurd cc
string-kind Tick h = absurd cc

pub symbol-no_word : (byte : ℕ) (word : List ℕ) (s : List Spot) → sees byte s ≡ true → sees_word word s ≡ false
unfolding sees sees_word is_symbol is_keyword is_word
symbol-no_word byte word [] h = refl
symbol-no_word byte word (spot ∷ spots) h = rw (symbol-kind spot.token.kind (and_parts (is_symbol_kind spot.token.kind) (is_byte byte spot.token.text) h).0).0 refl

pub string-no_word : (word : List ℕ) (s : List Spot) → next_is is_string s ≡ true → sees_word word s ≡ false
unfolding sees_word is_string is_keyword is_word
string-no_word word [] h = refl
string-no_word word (spot ∷ spots) h = rw (string-kind spot.token.kind h).0 refl

pub string-no_symbol : (byte : ℕ) (s : List Spot) → next_is is_string s ≡ true → sees byte s ≡ false
unfolding sees is_string is_symbol
string-no_symbol byte [] h = refl
string-no_symbol byte (spot ∷ spots) h = rw (string-kind spot.token.kind h).1 refl

pub word-no_symbol : (byte : ℕ) (s : List Spot) → next_is is_word s ≡ true → sees byte s ≡ false
unfolding sees is_word is_symbol
word-no_symbol byte [] h = refl
word-no_symbol byte (spot ∷ spots) h = rw (word-kind spot.token.kind h).0 refl

pub word-no_string : (s : List Spot) → next_is is_word s ≡ true → next_is is_string s ≡ false
unfolding is_word is_string
word-no_string [] h = refl
word-no_string (spot ∷ spots) h = (word-kind spot.token.kind h).1

pub first_differs : (a b x : ℕ) (p q : Bool) → (a ≡ b → ⊥) → ((x == a) && p) ≡ true → ((x == b) && q) ≡ false
first_differs a b x p q ne h =
    let e = (and_parts (x == a) p h).0 in
    let n : (x == b) ≡ false = grind (arith, e, ne) in
    rw n refl

-- ---- terms with a word between them

module _ {A : Type 0} (item : Parser A) (One : Stands A) (word : List ℕ) (Follows : List Spot → Type 0)
    (sound : (s : List Spot) (x : A × List Spot) → item s ≡ Ok x → One s x.0 x.1)
    (again : (s r : List Spot) (x : A) → One s x r → Follows r → item s ≡ Ok (x, r))
    (leaves : (s r : List Spot) (x : A) → One s x r → LeavesEnd s r)
    (goes_on : (s r : List Spot) → Keyword word s r → Follows s) where
  chain_from-sound : (n : ℕ) (found : List A) (s : List Spot) (y : List A × List Spot) → chain_from item word n found s ≡ Ok y → (xs : List A) × (y.0 ≡ found ++ xs) × Links One word s xs y.1
  unfolding chain_from
  chain_from-sound zero found s y e =
      let is = ok_is found y.0 s y.1 e in
      ([], sym is.0 ∙ sym (append-nil found), subst (λ (r : List Spot). Links One word s [] r) is.1 (Links.done s))
  chain_from-sound (suc n) found s y e =
      elim (chosen (sees_word word s) (item (behind s) >>= λ x. chain_from item word n (found ++ x.0 ∷ []) x.1) (Ok (found, s)) (Ok y) e) [
        | inl h ↦
            let a = step_ok (item (behind s)) (λ x. chain_from item word n (found ++ x.0 ∷ []) x.1) y h.1 in
            let rest = chain_from-sound n (found ++ a.0.0 ∷ []) a.0.1 y a.2 in
            (a.0.0 ∷ rest.0, rest.1 ∙ append_assoc found (a.0.0 ∷ []) rest.0, Links.more s (behind s) a.0.1 y.1 a.0.0 rest.0 (word-takes word s h.0) (sound (behind s) a.0 a.1) rest.2)
        | inr h ↦
            let is = ok_is found y.0 s y.1 h.1 in
            ([], sym is.0 ∙ sym (append-nil found), subst (λ (r : List Spot). Links One word s [] r) is.1 (Links.done s))
      ]

  pub chain-sound : (s : List Spot) (y : List A × List Spot) → chain item word s ≡ Ok y → Chain One word s y.0 y.1
  unfolding chain
  chain-sound s y e =
      let a = step_ok (item s) (λ x. chain_from item word (length x.1) (x.0 ∷ []) x.1) y e in
      let rest = chain_from-sound (length a.0.1) (a.0.0 ∷ []) a.0.1 y a.2 in
      subst (λ (xs : List A). Chain One word s xs y.1) (sym rest.1) (a.0.1, sound s a.0 a.1, rest.2)

  links-follow : (s r : List Spot) (xs : List A) → Links One word s xs r → Follows r → Follows s
  links-follow s r xs (Links.done _) f = f
  links-follow s r xs (Links.more _ m _ _ _ _ t one rest) f = goes_on s m t

  link-behind : (s m r : List Spot) (xs : List A) → LeavesEnd s m → Links One word m xs r → LeavesEnd s r
  link-behind s m r xs l (Links.done _) = l
  link-behind s m r xs l (Links.more _ k n _ x ys t one rest) = link-behind s n r ys (leaves-then s m n l (leaves-then m k n (keyword-leaves word m k t) (leaves k n x one))) rest

  chain_from-again : (n : ℕ) (found xs : List A) (s r : List Spot) → Links One word s xs r → Follows r → sees_word word r ≡ false → length s ≤ n → chain_from item word n found s ≡ Ok (found ++ xs, r)
  unfolding chain_from
  chain_from-again zero found xs s r (Links.done _) f stops le = rw (append-nil found) refl
  chain_from-again zero found xs s r (Links.more _ m k _ x ys t one rest) f stops le = absurd (omega (arith, shorter s m (keyword-leaves word s m t)))
  chain_from-again (suc n) found xs s r (Links.done _) f stops le = rw (stops, append-nil found) refl
  chain_from-again (suc n) found xs s r (Links.more _ m k _ x ys t one rest) f stops le =
      let less = shorter s m (keyword-leaves word s m t) in
      let later = chain_from-again n (found ++ x ∷ []) ys k r rest f stops (omega (arith, less, shorter m k (leaves m k x one))) in
      rw (takes-word word s m t, keyword-behind word s m t, again m k x one (links-follow k r ys rest f), later, append_assoc found (x ∷ []) ys) refl

  pub chain-again : (s r : List Spot) (xs : List A) → Chain One word s xs r → Follows r → sees_word word r ≡ false → chain item word s ≡ Ok (xs, r)
  unfolding chain
  chain-again s r [] t f stops = absurd t
  chain-again s r (x ∷ xs) t f stops = rw (again s t.0 x t.1 (links-follow t.0 r xs t.2 f), chain_from-again (length t.0) (x ∷ []) xs t.0 r t.2 f stops (omega arith)) refl

  pub chain-leaves : (s r : List Spot) (xs : List A) → Chain One word s xs r → LeavesEnd s r
  chain-leaves s r [] t = absurd t
  chain-leaves s r (x ∷ xs) t = link-behind s t.0 r xs (leaves s t.0 x t.1) t.2

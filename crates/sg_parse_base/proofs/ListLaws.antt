-- Lists of items: what is read is of the grammar, and what is of the grammar is read.
use Rattle.std.proofs.Common.{◌≡◌, ◌⊎◌, inl, inr, ℕ, zero, suc, ◌≤◌, Bool, true, false, cond, List, [], ◌∷◌, ◌++◌, length, Ok, refl, sym, ap, subst, ◌∙◌, append_assoc, arith}
use Rattle.std.specs.Prelude.{◌&&◌}
use Rattle.std.proofs.lemmas.List.{append-nil}
use Rattle.sg_parse_base.specs.declared.spot.Spot.{Spot}
use Rattle.sg_lex.specs.declared.fault.ConfigKind.TheVariants.{Unexpected}
use Rattle.sg_parse_base.specs.Tokens.{is_symbol}
use Rattle.sg_parse_base.specs.Input.{Parser, ◌>>=◌, behind, sees, symbol, fault_at}
use Rattle.sg_parse_base.specs.Lists.{after_commas, gap, items_from, items, many, single, ending, body_from, body}
use Rattle.sg_parse_base.specs.Grammar.{Stands, Symbol, Commas, Single, Rest, Items, Many, Body, Braced, Ending}
use Rattle.sg_parse_base.specs.Laws.{Agrees, Matches, LeavesEnd}
use Rattle.sg_parse_base.proofs.Steps.{step_ok, guard_ok, ok_is, chosen, sees-takes, symbol-takes, takes-sees, takes-symbol, takes-behind, leaves-then, symbol-leaves, shorter, name-sees, symbol-sees}

-- ---- commas

commas-after : (s : List Spot) → Commas s (after_commas s)
commas-after [] = Commas.none []
commas-after (spot ∷ spots) = by (is_symbol 44 spot.token) refl (commas-after spots)
  where
    by : (b : Bool) → is_symbol 44 spot.token ≡ b → Commas spots (after_commas spots) → Commas (spot ∷ spots) (cond b (after_commas spots) (spot ∷ spots))
    by true is rest = Commas.comma (spot ∷ spots) spots (after_commas spots) (spot, (refl, is)) rest
    by false is rest = Commas.none (spot ∷ spots)

uncommaed : (s : List Spot) → sees 44 s ≡ false → after_commas s ≡ s
unfolding sees
uncommaed [] h = refl
uncommaed (spot ∷ spots) h = rw h refl

commas-are : (s m : List Spot) → Commas s m → sees 44 m ≡ false → after_commas s ≡ m
commas-are s m (Commas.none _) h = uncommaed s h
commas-are s r (Commas.comma _ m _ t rest) h = rw (t.1.0, t.1.1) (commas-are m r rest h)

pub commas-leave : (m k r : List Spot) → Commas m k → LeavesEnd k r → LeavesEnd m r
commas-leave m k r (Commas.none _) l = l
commas-leave m k r (Commas.comma _ n _ t commas) l = leaves-then m n r (symbol-leaves 44 m n t) (commas-leave n k r commas l)

pub gap-sound : (s : List Spot) (x : Unit {0} × List Spot) → gap s ≡ Ok x → Commas s x.1 × (sees 41 x.1 ≡ true → s ≡ x.1)
unfolding gap
gap-sound s x e =
    let g = guard_ok (sees 44 s && sees 41 (after_commas s)) (fault_at Unexpected (after_commas s)) (Ok (tt, after_commas s)) x e in
    let is : after_commas s ≡ x.1 = (ok_is tt x.0 (after_commas s) x.1 g.1).1 in
    (subst (Commas s) is (commas-after s), λ closes. by (sees 44 s) refl (g.0) (ap (sees 41) is ∙ closes) ∙ is)
  where
    by : (b : Bool) → sees 44 s ≡ b → (sees 44 s && sees 41 (after_commas s)) ≡ false → sees 41 (after_commas s) ≡ true → s ≡ after_commas s
    by false lacks h closes = sym (uncommaed s lacks)
    by true is h closes =
        let both : (sees 44 s && sees 41 (after_commas s)) ≡ true = rw (is, closes) refl in
        let wrong : true ≡ false = sym both ∙ h in
        absurd cc

and_none : (b : Bool) → (b && false) ≡ false
and_none true = refl
and_none false = refl

pub gap-next : (s m : List Spot) → Commas s m → sees 44 m ≡ false → sees 41 m ≡ false → gap s ≡ Ok (tt, m)
unfolding gap
gap-next s m commas lacks closes = rw (commas-are s m commas lacks, closes, and_none (sees 44 s)) refl

gap-closing : (s r : List Spot) → Symbol 41 s r → gap s ≡ Ok (tt, s)
unfolding gap
gap-closing s r t =
    let lacks : sees 44 s ≡ false = symbol-sees 41 44 s r t (λ e. omega (arith, e)) in
    rw (lacks, uncommaed s lacks) refl

-- ---- what stands behind an item in braces

pub ending-sound : (s : List Spot) (x : Unit {0} × List Spot) → ending s ≡ Ok x → ((sees 125 s ≡ true) × (s ≡ x.1)) ⊎ Symbol 59 s x.1
unfolding ending
ending-sound s x e =
    elim (chosen (sees 125 s) (Ok (tt, s)) (symbol 59 s) (Ok x) e) [
      | inl h ↦ inl (h.0, (ok_is tt x.0 s x.1 h.1).1)
      | inr h ↦ inr (symbol-takes 59 s x h.1)
    ]

pub ending-closes : (s r : List Spot) → Symbol 125 s r → ending s ≡ Ok (tt, s)
unfolding ending
ending-closes s r t = rw (takes-sees 125 s r t) refl

pub ending-goes_on : (s r : List Spot) → Symbol 59 s r → ending s ≡ Ok (tt, r)
unfolding ending
ending-goes_on s r t = rw (symbol-sees 59 125 s r t (λ e. omega (arith, e)), takes-symbol 59 s r t) refl

module _ {A : Type 0} (item : Parser A) (One : Stands A) (agrees : Agrees item One) where
  -- ---- items in parentheses

  pub rest-of : (m k r : List Spot) (xs : List A) → Commas m k → (sees 41 k ≡ true → m ≡ k) → Items One k xs r → Rest One m xs r
  rest-of m k r [] commas closing all = Rest.closed m r (subst (λ (t : List Spot). Symbol 41 t r) (sym (closing (takes-sees 41 k r all))) all)
  rest-of m k r (x ∷ xs) commas closing all = Rest.more m k all.0 r x xs commas all.1 all.2

  pub rest-leaves : (m r : List Spot) (xs : List A) → Rest One m xs r → LeavesEnd m r
  rest-leaves m r [] (Rest.closed _ _ t) = symbol-leaves 41 m r t
  rest-leaves m r (x ∷ xs) (Rest.more _ k n _ _ _ commas one rest) = commas-leave m k r commas (leaves-then k n r (agrees.leaves k n x one) (rest-leaves n r xs rest))

  pub items-leaves : (s r : List Spot) (xs : List A) → Items One s xs r → LeavesEnd s r
  items-leaves s r [] t = symbol-leaves 41 s r t
  items-leaves s r (x ∷ xs) t = leaves-then s t.0 r (agrees.leaves s t.0 x t.1) (rest-leaves t.0 r xs t.2)

  items_from-sound : (n : ℕ) (found : List A) (s : List Spot) (y : List A × List Spot) → items_from item n found s ≡ Ok y → (xs : List A) × (y.0 ≡ found ++ xs) × Items One s xs y.1
  unfolding items_from
  items_from-sound zero found s y e = absurd cc
  items_from-sound (suc n) found s y e =
      elim (chosen (sees 41 s) (Ok (found, behind s)) (item s >>= λ x. gap x.1 >>= λ next. items_from item n (found ++ x.0 ∷ []) next.1) (Ok y) e) [
        | inl h ↦
            let is = ok_is found y.0 (behind s) y.1 h.1 in
            ([], sym is.0 ∙ sym (append-nil found), subst (λ (r : List Spot). Symbol 41 s r) is.1 (sees-takes 41 s h.0))
        | inr h ↦
            let a = step_ok (item s) (λ x. gap x.1 >>= λ next. items_from item n (found ++ x.0 ∷ []) next.1) y h.1 in
            let b = step_ok (gap a.0.1) (λ next. items_from item n (found ++ a.0.0 ∷ []) next.1) y a.2 in
            let rest = items_from-sound n (found ++ a.0.0 ∷ []) b.0.1 y b.2 in
            let g = gap-sound a.0.1 b.0 b.1 in
            (a.0.0 ∷ rest.0, rest.1 ∙ append_assoc found (a.0.0 ∷ []) rest.0, (a.0.1, agrees.sound s a.0 a.1, rest-of a.0.1 b.0.1 y.1 rest.0 g.0 g.1 rest.2))
      ]

  -- the gap behind an item, and the items from there on
  pub rest-gap : (m r : List Spot) (xs : List A) → Rest One m xs r → (k : List Spot) × (gap m ≡ Ok (tt, k)) × Items One k xs r × (length k ≤ length m)
  rest-gap m r [] (Rest.closed _ _ t) = (m, gap-closing m r t, t, omega arith)
  rest-gap m r (x ∷ xs) (Rest.more _ k n _ _ _ commas one rest) =
      let front = agrees.front k n x one in
      (k, gap-next m k commas (name-sees 44 k front) (name-sees 41 k front), (n, one, rest), commas-length m k commas)
    where
      commas-length : (m k : List Spot) → Commas m k → length k ≤ length m
      commas-length m k (Commas.none _) = omega arith
      commas-length m k (Commas.comma _ n _ t commas) = omega (arith, commas-length n k commas, ap length t.1.0)

  items_from-again : (n : ℕ) (found xs : List A) (s r : List Spot) → Items One s xs r → length s ≤ n → items_from item n found s ≡ Ok (found ++ xs, r)
  unfolding items_from
  items_from-again zero found xs s r all le = absurd (omega (arith, shorter s r (items-leaves s r xs all)))
  items_from-again (suc n) found [] s r all le = rw (takes-sees 41 s r all, takes-behind 41 s r all, append-nil found) refl
  items_from-again (suc n) found (x ∷ xs) s r all le =
      let m = all.0 in
      let more = rest-gap m r xs all.2 in
      let less = shorter s m (agrees.leaves s m x all.1) in
      let later = items_from-again n (found ++ x ∷ []) xs more.0 r more.2 (omega (arith, less, more.3)) in
      rw (name-sees 41 s (agrees.front s m x all.1), agrees.again s m x all.1, more.1, later, append_assoc found (x ∷ []) xs) refl

  pub items-sound : (found : List A) (s : List Spot) (y : List A × List Spot) → items item found s ≡ Ok y → (xs : List A) × (y.0 ≡ found ++ xs) × Items One s xs y.1
  unfolding items
  items-sound found s y e = items_from-sound (length s) found s y e

  pub items-again : (found xs : List A) (s r : List Spot) → Items One s xs r → items item found s ≡ Ok (found ++ xs, r)
  unfolding items
  items-again found xs s r all = items_from-again (length s) found xs s r all (omega arith)

  pub many-sound : (s : List Spot) (y : List A × List Spot) → many item s ≡ Ok y → Many One s y.0 y.1
  unfolding many
  many-sound s y e =
      let a = step_ok (symbol 40 s) (λ opened. items item [] opened.1) y e in
      let b = items-sound [] a.0.1 y a.2 in
      (a.0.1, symbol-takes 40 s a.0 a.1, subst (λ (xs : List A). Items One a.0.1 xs y.1) (sym b.1) b.2)

  pub many-again : (s r : List Spot) (xs : List A) → Many One s xs r → many item s ≡ Ok (xs, r)
  unfolding many
  many-again s r xs t = rw (takes-symbol 40 s t.0 t.1, items-again [] xs t.0 r t.2) refl

  pub many-leaves : (s r : List Spot) (xs : List A) → Many One s xs r → LeavesEnd s r
  many-leaves s r xs t = leaves-then s t.0 r (symbol-leaves 40 s t.0 t.1) (items-leaves t.0 r xs t.2)

  pub single-sound : (s : List Spot) (y : List A × List Spot) → single item s ≡ Ok y → Single One s y.0 y.1
  unfolding single
  single-sound s y e =
      let a = step_ok (symbol 40 s) (λ opened. item opened.1 >>= λ x. symbol 41 x.1 >>= λ close. Ok (x.0 ∷ [], close.1)) y e in
      let b = step_ok (item a.0.1) (λ x. symbol 41 x.1 >>= λ close. Ok (x.0 ∷ [], close.1)) y a.2 in
      let c = step_ok (symbol 41 b.0.1) (λ close. Ok (b.0.0 ∷ [], close.1)) y b.2 in
      let is = ok_is (b.0.0 ∷ []) y.0 c.0.1 y.1 c.2 in
      record {
        inner = a.0.1;
        after = b.0.1;
        x = b.0.0;
        opens = symbol-takes 40 s a.0 a.1;
        one = agrees.sound a.0.1 b.0 b.1;
        closes = subst (λ (r : List Spot). Symbol 41 b.0.1 r) is.1 (symbol-takes 41 b.0.1 c.0 c.1);
        is = sym is.0;
      }

  pub single-again : (s r : List Spot) (xs : List A) → Single One s xs r → single item s ≡ Ok (xs, r)
  unfolding single
  single-again s r xs t = rw (takes-symbol 40 s t.inner t.opens, agrees.again t.inner t.after t.x t.one, takes-symbol 41 t.after r t.closes, t.is) refl

  pub single-leaves : (s r : List Spot) (xs : List A) → Single One s xs r → LeavesEnd s r
  single-leaves s r xs t = leaves-then s t.inner r (symbol-leaves 40 s t.inner t.opens) (leaves-then t.inner t.after r (agrees.leaves t.inner t.after t.x t.one) (symbol-leaves 41 t.after r t.closes))

  -- ---- items in braces

  body-leaves : (s r : List Spot) (xs : List A) → Body One s xs r → LeavesEnd s r
  body-leaves s r xs (Body.closed _ _ t) = symbol-leaves 125 s r t
  body-leaves s r xs (Body.extra _ m _ _ t rest) = leaves-then s m r (symbol-leaves 59 s m t) (body-leaves m r xs rest)
  body-leaves s r xs (Body.last _ m _ x one t) = leaves-then s m r (agrees.leaves s m x one) (symbol-leaves 125 m r t)
  body-leaves s r xs (Body.more _ m n _ x ys one t rest) = leaves-then s m r (agrees.leaves s m x one) (leaves-then m n r (symbol-leaves 59 m n t) (body-leaves n r ys rest))

  -- behind the last item stands the brace
  body-closed : (n : ℕ) (found : List A) (s : List Spot) (y : List A × List Spot) → sees 125 s ≡ true → body_from item n found s ≡ Ok y → (y.0 ≡ found) × Symbol 125 s y.1
  unfolding body_from
  body-closed zero found s y closes e = absurd cc
  body-closed (suc n) found s y closes e =
      let direct : Ok (found, behind s) ≡ Ok y = rw closes at e in
      let is = ok_is found y.0 (behind s) y.1 direct in
      (sym is.0, subst (λ (r : List Spot). Symbol 125 s r) is.1 (sees-takes 125 s closes))

  body_from-sound : (n : ℕ) (found : List A) (s : List Spot) (y : List A × List Spot) → body_from item n found s ≡ Ok y → (xs : List A) × (y.0 ≡ found ++ xs) × Body One s xs y.1
  unfolding body_from
  body_from-sound zero found s y e = absurd cc
  body_from-sound (suc n) found s y e =
      elim (chosen (sees 125 s) (Ok (found, behind s)) (cond (sees 59 s) (body_from item n found (behind s)) (item s >>= λ x. ending x.1 >>= λ next. body_from item n (found ++ x.0 ∷ []) next.1)) (Ok y) e) [
        | inl h ↦
            let is = ok_is found y.0 (behind s) y.1 h.1 in
            ([], sym is.0 ∙ sym (append-nil found), Body.closed s y.1 (subst (λ (r : List Spot). Symbol 125 s r) is.1 (sees-takes 125 s h.0)))
        | inr h ↦
            elim (chosen (sees 59 s) (body_from item n found (behind s)) (item s >>= λ x. ending x.1 >>= λ next. body_from item n (found ++ x.0 ∷ []) next.1) (Ok y) h.1) [
              | inl g ↦
                  let rest = body_from-sound n found (behind s) y g.1 in
                  (rest.0, rest.1, Body.extra s (behind s) y.1 rest.0 (sees-takes 59 s g.0) rest.2)
              | inr g ↦
                  let a = step_ok (item s) (λ x. ending x.1 >>= λ next. body_from item n (found ++ x.0 ∷ []) next.1) y g.1 in
                  let b = step_ok (ending a.0.1) (λ next. body_from item n (found ++ a.0.0 ∷ []) next.1) y a.2 in
                  let rest = body_from-sound n (found ++ a.0.0 ∷ []) b.0.1 y b.2 in
                  elim (ending-sound a.0.1 b.0 b.1) [
                    | inl last ↦
                        let closed = body-closed n (found ++ a.0.0 ∷ []) b.0.1 y (subst (λ (r : List Spot). sees 125 r ≡ true) last.1 last.0) b.2 in
                        (a.0.0 ∷ [], closed.0, Body.last s a.0.1 y.1 a.0.0 (agrees.sound s a.0 a.1) (subst (λ (m : List Spot). Symbol 125 m y.1) (sym last.1) closed.1))
                    | inr t ↦
                        (a.0.0 ∷ rest.0, rest.1 ∙ append_assoc found (a.0.0 ∷ []) rest.0, Body.more s a.0.1 b.0.1 y.1 a.0.0 rest.0 (agrees.sound s a.0 a.1) t rest.2)
                  ]
            ]
      ]

  body_from-again : (n : ℕ) (found xs : List A) (s r : List Spot) → Body One s xs r → length s ≤ n → body_from item n found s ≡ Ok (found ++ xs, r)
  unfolding body_from
  body_from-again zero found xs s r all le = absurd (omega (arith, shorter s r (body-leaves s r xs all)))
  body_from-again (suc n) found xs s r (Body.closed _ _ t) le = rw (takes-sees 125 s r t, takes-behind 125 s r t, append-nil found) refl
  body_from-again (suc n) found xs s r (Body.extra _ m _ _ t rest) le =
      let later = body_from-again n found xs m r rest (omega (arith, shorter s m (symbol-leaves 59 s m t))) in
      rw (symbol-sees 59 125 s m t (λ e. omega (arith, e)), takes-sees 59 s m t, takes-behind 59 s m t, later) refl
  body_from-again (suc n) found xs s r (Body.last _ m _ x one t) le =
      let less = shorter s m (agrees.leaves s m x one) in
      let front = agrees.front s m x one in
      let later = body_from-again n (found ++ x ∷ []) [] m r (Body.closed m r t) (omega (arith, less)) in
      rw (name-sees 125 s front, name-sees 59 s front, agrees.again s m x one, ending-closes m r t, later, append-nil (found ++ x ∷ [])) refl
  body_from-again (suc n) found xs s r (Body.more _ m k _ x ys one t rest) le =
      let less = shorter s m (agrees.leaves s m x one) in
      let front = agrees.front s m x one in
      let later = body_from-again n (found ++ x ∷ []) ys k r rest (omega (arith, less, shorter m k (symbol-leaves 59 m k t))) in
      rw (name-sees 125 s front, name-sees 59 s front, agrees.again s m x one, ending-goes_on m k t, later, append_assoc found (x ∷ []) ys) refl

  pub body-sound : (s : List Spot) (y : List A × List Spot) → body item s ≡ Ok y → Braced One s y.0 y.1
  unfolding body
  body-sound s y e =
      let a = step_ok (symbol 123 s) (λ opened. body_from item (length opened.1) [] opened.1) y e in
      let b = body_from-sound (length a.0.1) [] a.0.1 y a.2 in
      (a.0.1, symbol-takes 123 s a.0 a.1, subst (λ (xs : List A). Body One a.0.1 xs y.1) (sym b.1) b.2)

  pub body-again : (s r : List Spot) (xs : List A) → Braced One s xs r → body item s ≡ Ok (xs, r)
  unfolding body
  body-again s r xs t = rw (takes-symbol 123 s t.0 t.1, body_from-again (length t.0) [] xs t.0 r t.2 (omega arith)) refl

  pub braced-leaves : (s r : List Spot) (xs : List A) → Braced One s xs r → LeavesEnd s r
  braced-leaves s r xs t = leaves-then s t.0 r (symbol-leaves 123 s t.0 t.1) (body-leaves t.0 r xs t.2)

pub many-law : {A : Type 0} (item : Parser A) (One : Stands A) → Agrees item One → Matches (many item) (Many One)
many-law item One agrees = record { sound = many-sound item One agrees; again = many-again item One agrees; leaves = many-leaves item One agrees }

pub single-law : {A : Type 0} (item : Parser A) (One : Stands A) → Agrees item One → Matches (single item) (Single One)
single-law item One agrees = record { sound = single-sound item One agrees; again = single-again item One agrees; leaves = single-leaves item One agrees }

pub body-law : {A : Type 0} (item : Parser A) (One : Stands A) → Agrees item One → Matches (body item) (Braced One)
body-law item One agrees = record { sound = body-sound item One agrees; again = body-again item One agrees; leaves = braced-leaves item One agrees }

pub ending-again : (s m r : List Spot) → Ending s m → Symbol 125 m r → ending s ≡ Ok (tt, m)
ending-again s m r (inl same) t = ap ending same ∙ ending-closes m r t
ending-again s m r (inr semi) t = ending-goes_on s m semi

pub ending-leaves : (s m r : List Spot) → Ending s m → LeavesEnd m r → LeavesEnd s r
ending-leaves s m r (inl same) l = subst (λ (k : List Spot). LeavesEnd k r) (sym same) l
ending-leaves s m r (inr semi) l = leaves-then s m r (symbol-leaves 59 s m semi) l

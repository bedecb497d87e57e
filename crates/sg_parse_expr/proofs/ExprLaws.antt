-- Expressions: what is read is of the grammar, and what is of the grammar is read where neither `and` nor `or` follows.
use Rattle.std.proofs.Common.{◌≡◌, inl, inr, ℕ, zero, suc, Bool, true, false, cond, List, [], ◌∷◌, Option, Some, None, Ok, Err, refl, sym, ap, subst, ◌∙◌, arith}
use Rattle.std.specs.Prelude.{◌||◌, codes}
use Rattle.std.proofs.lemmas.Bool.{and_parts}
use Rattle.sg_lex.specs.declared.place.Cmp.{Cmp}
use Rattle.sg_lex.specs.declared.fault.ConfigKind.TheVariants.{Unexpected, Unsupported}
use Rattle.sg_parse_base.specs.declared.spot.Spot.{Spot}
use Rattle.sg_parse_base.specs.Tokens.{is_word, is_string, is_keyword, is_operator, same_keyword, dashed}
use Rattle.sg_parse_base.specs.Input.{Parser, ◌>>=◌, behind, next_is, sees, sees_word, symbol, fault_at}
use Rattle.sg_parse_base.specs.Lists.{chain}
use Rattle.sg_parse_base.specs.Grammar.{Stands, TakesToken, Symbol, Keyword, Chain}
use Rattle.sg_parse_base.specs.Laws.{LeavesEnd}
use Rattle.sg_parse_base.proofs.Steps.{step_ok, guard_ok, ok_is, chosen, symbol-takes, takes-sees, takes-symbol, leaves-then, takes-leaves, symbol-leaves}
use Rattle.sg_parse_base.proofs.ChainLaws.{word-takes, takes-word, keyword-behind, keyword-leaves, symbol-no_word, string-no_word, string-no_symbol, word-no_symbol, word-no_string, first_differs, chain-sound, chain-again, chain-leaves}
use Rattle.sg_parse_expr.specs.declared.tree.RawExpr.{RawExpr}
use Rattle.sg_parse_expr.specs.declared.tree.RawExpr.TheVariants as e
use Rattle.sg_parse_expr.specs.declared.class.Class.TheVariants.{Text}
use Rattle.sg_parse_expr.specs.Classes.{passes}
use Rattle.sg_parse_expr.specs.Args.{value}
use Rattle.sg_parse_expr.specs.Filters.{filter_call}
use Rattle.sg_parse_expr.specs.Expr.{cmp_of, cmp_behind, comparison, compare, is_reserved, filtered, and_of, or_of, primary, negation, conjunction, disjunction, grouped, group, expr}
use Rattle.sg_parse_expr.specs.Ends.{NoAnd, EndsExpression}
use Rattle.sg_parse_expr.specs.Grammar.{Compare, Filtered, FilterCall, Primary, Negation, Conjunction, Disjunction, Group, Expression}
use Rattle.sg_parse_expr.proofs.CallLaws.{value-takes, takes-value, text-string, filter-sound, filter-again, filter-word, filter-leaves}

-- `or` isn't `and`
or-no_and : (text : List ℕ) → same_keyword text (codes "or") ≡ true → same_keyword text (codes "and") ≡ false
or-no_and [] h = refl
or-no_and (b ∷ text) h = first_differs 111 97 (dashed b) (same_keyword text (codes "r")) (same_keyword text (codes "nd")) (λ e. omega (arith, e)) h

-- ---- comparisons and filters

cmp-some : (s : List Spot) (cmp : Cmp) → cmp_of s ≡ Some cmp → (spot : Spot) × (s ≡ spot ∷ behind s)
unfolding cmp_of sees_word
cmp-some [] cmp h = absurd cc
cmp-some (spot ∷ spots) cmp h = (spot, refl)

comparison-sound : (s : List Spot) (x : Cmp × List Spot) → comparison s ≡ Ok x → (cmp_of s ≡ Some x.0) × (behind s ≡ x.1)
unfolding comparison
comparison-sound s x e = by (cmp_of s) refl e
  where
    refused : (b : Bool) → cond b (Err (fault_at Unsupported s)) (Err (fault_at Unexpected s)) ≡ Ok x → ⊥
    refused true h = absurd cc
    refused false h = absurd cc

    by : (o : Option Cmp) → cmp_of s ≡ o → cmp_behind o s ≡ Ok x → (o ≡ Some x.0) × (behind s ≡ x.1)
    by (Some cmp) is h = let both = ok_is cmp x.0 (behind s) x.1 h in (ap (λ (c : Cmp). Some c) both.0, both.1)
    by None is h = absurd (refused (next_is is_operator s) h)

comparison-again : (s : List Spot) (cmp : Cmp) → cmp_of s ≡ Some cmp → comparison s ≡ Ok (cmp, behind s)
unfolding comparison
comparison-again s cmp h = rw h refl

compare-sound : (s : List Spot) (y : RawExpr × List Spot) → compare s ≡ Ok y → Compare s y.0 y.1
unfolding compare
compare-sound s y h =
    let a = step_ok (value Text s) (λ left. comparison left.1 >>= λ cmp. value Text cmp.1 >>= λ right. Ok (e.Compare left.0 cmp.0 right.0, right.1)) y h in
    let b = step_ok (comparison a.0.1) (λ cmp. value Text cmp.1 >>= λ right. Ok (e.Compare a.0.0 cmp.0 right.0, right.1)) y a.2 in
    let c = step_ok (value Text b.0.1) (λ right. Ok (e.Compare a.0.0 b.0.0 right.0, right.1)) y b.2 in
    let is = ok_is (e.Compare a.0.0 b.0.0 c.0.0) y.0 c.0.1 y.1 c.2 in
    let cmp = comparison-sound a.0.1 b.0 b.1 in
    let some = cmp-some a.0.1 b.0.0 cmp.0 in
    record {
      left = a.0.0;
      cmp = b.0.0;
      right = c.0.0;
      m = a.0.1;
      word = some.0;
      n = b.0.1;
      is_left = value-takes Text s a.0 a.1;
      behind_word = some.1 ∙ ap (λ (r : List Spot). some.0 ∷ r) cmp.1;
      is_cmp = cmp.0;
      is_right = subst (λ (r : List Spot). TakesToken (passes Text) b.0.1 c.0.0 r) is.1 (value-takes Text b.0.1 c.0 c.1);
      is = sym is.0;
    }

compare-again : (s r : List Spot) (x : RawExpr) → Compare s x r → compare s ≡ Ok (x, r)
unfolding compare
compare-again s r x t =
    let later : behind t.m ≡ t.n = ap behind t.behind_word in
    rw (takes-value Text s t.left t.m t.is_left, comparison-again t.m t.cmp t.is_cmp, later, takes-value Text t.n t.right r t.is_right, t.is) refl

compare-leaves : (s r : List Spot) (x : RawExpr) → Compare s x r → LeavesEnd s r
compare-leaves s r x t = leaves-then s t.m r (takes-leaves (passes Text) s t.left t.m t.is_left) (leaves-then t.m t.n r (t.word, [], t.behind_word) (takes-leaves (passes Text) t.n t.right r t.is_right))

compare-string : (s r : List Spot) (x : RawExpr) → Compare s x r → next_is is_string s ≡ true
compare-string s r x t = rw t.is_left.0 (text-string t.left.token t.is_left.1)

filtered-sound : (s : List Spot) (y : RawExpr × List Spot) → is_reserved s ≡ false → filtered s ≡ Ok y → Filtered s y.0 y.1
unfolding filtered
filtered-sound s y plain h =
    let a = step_ok (filter_call s) (λ call. Ok (e.Call call.0, call.1)) y h in
    let is = ok_is (e.Call a.0.0) y.0 a.0.1 y.1 a.2 in
    record { call = a.0.0; plain = plain; called = subst (λ (r : List Spot). FilterCall s a.0.0 r) is.1 (filter-sound s a.0 a.1); is = sym is.0 }

filtered-again : (s r : List Spot) (x : RawExpr) → Filtered s x r → filtered s ≡ Ok (x, r)
unfolding filtered
filtered-again s r x t = rw (filter-again s r t.call t.called, t.is) refl

-- ---- the rules over what a group is

pub record GroupLaw (parse : Parser RawExpr) (One : Stands RawExpr) : Type 0 where
  pub sound : (s : List Spot) (x : RawExpr × List Spot) → parse s ≡ Ok x → One s x.0 x.1
  pub again : (s r : List Spot) (x : RawExpr) → One s x r → parse s ≡ Ok (x, r)
  pub opens : (s r : List Spot) (x : RawExpr) → One s x r → sees 40 s ≡ true
  pub leaves : (s r : List Spot) (x : RawExpr) → One s x r → LeavesEnd s r

or_false : (a b c : Bool) → (a || b || c) ≡ false → (a ≡ false) × (b ≡ false) × (c ≡ false)
or_false true b c h = absurd cc
or_false false true c h = absurd cc
or_false false false true h = absurd cc
or_false false false false h = (refl, refl, refl)

module _ (parse : Parser RawExpr) (One : Stands RawExpr) (law : GroupLaw parse One) where
  primary-sound : (s : List Spot) (y : RawExpr × List Spot) → primary parse s ≡ Ok y → Primary One s y.0 y.1
  unfolding primary
  primary-sound s y h =
      elim (chosen (sees 40 s) (parse s) (cond (next_is is_string s) (compare s) (cond (is_reserved s) (Err (fault_at Unexpected s)) (filtered s))) (Ok y) h) [
        | inl a ↦ Primary.group s y.1 y.0 (law.sound s y a.1)
        | inr a ↦
            elim (chosen (next_is is_string s) (compare s) (cond (is_reserved s) (Err (fault_at Unexpected s)) (filtered s)) (Ok y) a.1) [
              | inl b ↦ Primary.compare s y.1 y.0 (compare-sound s y b.1)
              | inr b ↦ let c = guard_ok (is_reserved s) (fault_at Unexpected s) (filtered s) y b.1 in Primary.call s y.1 y.0 (filtered-sound s y c.0 c.1)
            ]
      ]

  primary-again : (s r : List Spot) (x : RawExpr) → Primary One s x r → primary parse s ≡ Ok (x, r)
  unfolding primary
  primary-again s r x (Primary.group _ _ _ t) = rw (law.opens s r x t) (law.again s r x t)
  primary-again s r x (Primary.compare _ _ _ t) = let str = compare-string s r x t in rw (string-no_symbol 40 s str, str) (compare-again s r x t)
  primary-again s r x (Primary.call _ _ _ t) =
      let is_word = filter-word s r t.call t.called in
      rw (word-no_symbol 40 s is_word, word-no_string s is_word, t.plain) (filtered-again s r x t)

  primary-leaves : (s r : List Spot) (x : RawExpr) → Primary One s x r → LeavesEnd s r
  primary-leaves s r x (Primary.group _ _ _ t) = law.leaves s r x t
  primary-leaves s r x (Primary.compare _ _ _ t) = compare-leaves s r x t
  primary-leaves s r x (Primary.call _ _ _ t) = filter-leaves s r t.call t.called

  primary-no_not : (s r : List Spot) (x : RawExpr) → Primary One s x r → sees_word (codes "not") s ≡ false
  unfolding is_reserved
  primary-no_not s r x (Primary.group _ _ _ t) = symbol-no_word 40 (codes "not") s (law.opens s r x t)
  primary-no_not s r x (Primary.compare _ _ _ t) = string-no_word (codes "not") s (compare-string s r x t)
  primary-no_not s r x (Primary.call _ _ _ t) = (or_false (sees_word (codes "and") s) (sees_word (codes "or") s) (sees_word (codes "not") s) t.plain).2

  negation-sound : (s : List Spot) (y : RawExpr × List Spot) → negation parse s ≡ Ok y → Negation One s y.0 y.1
  unfolding negation
  negation-sound s y h =
      elim (chosen (sees_word (codes "not") s) (primary parse (behind s) >>= λ x. Ok (e.Not x.0, x.1)) (primary parse s) (Ok y) h) [
        | inl a ↦
            let b = step_ok (primary parse (behind s)) (λ x. Ok (e.Not x.0, x.1)) y a.1 in
            let is = ok_is (e.Not b.0.0) y.0 b.0.1 y.1 b.2 in
            Negation.negated s (behind s) y.1 b.0.0 y.0 (word-takes (codes "not") s a.0) (subst (λ (r : List Spot). Primary One (behind s) b.0.0 r) is.1 (primary-sound (behind s) b.0 b.1)) (sym is.0)
        | inr a ↦ Negation.plain s y.1 y.0 (primary-sound s y a.1)
      ]

  negation-again : (s r : List Spot) (x : RawExpr) → Negation One s x r → Unit {0} → negation parse s ≡ Ok (x, r)
  unfolding negation
  negation-again s r x (Negation.plain _ _ _ t) u = rw (primary-no_not s r x t) (primary-again s r x t)
  negation-again s r y (Negation.negated _ m _ x _ k t is) u = rw (takes-word (codes "not") s m k, keyword-behind (codes "not") s m k, primary-again m r x t, is) refl

  negation-leaves : (s r : List Spot) (x : RawExpr) → Negation One s x r → LeavesEnd s r
  negation-leaves s r x (Negation.plain _ _ _ t) = primary-leaves s r x t
  negation-leaves s r y (Negation.negated _ m _ x _ k t is) = leaves-then s m r (keyword-leaves (codes "not") s m k) (primary-leaves m r x t)

  conjunction-sound : (s : List Spot) (y : RawExpr × List Spot) → conjunction parse s ≡ Ok y → Conjunction One s y.0 y.1
  unfolding conjunction
  conjunction-sound s y h =
      let a = step_ok (chain (negation parse) (codes "and") s) (λ found. Ok (and_of found.0, found.1)) y h in
      let is = ok_is (and_of a.0.0) y.0 a.0.1 y.1 a.2 in
      let terms = chain-sound (negation parse) (Negation One) (codes "and") (λ _. Unit {0}) negation-sound negation-again negation-leaves (λ _ _ _. tt) s a.0 a.1 in
      record { xs = a.0.0; terms = subst (λ (r : List Spot). Chain (Negation One) (codes "and") s a.0.0 r) is.1 terms; is = sym is.0 }

  conjunction-again : (s r : List Spot) (x : RawExpr) → Conjunction One s x r → NoAnd r → conjunction parse s ≡ Ok (x, r)
  unfolding conjunction
  conjunction-again s r x t stops =
      let terms = chain-again (negation parse) (Negation One) (codes "and") (λ _. Unit {0}) negation-sound negation-again negation-leaves (λ _ _ _. tt) s r t.xs t.terms tt stops in
      rw (terms, t.is) refl

  conjunction-leaves : (s r : List Spot) (x : RawExpr) → Conjunction One s x r → LeavesEnd s r
  conjunction-leaves s r x t = chain-leaves (negation parse) (Negation One) (codes "and") (λ _. Unit {0}) negation-sound negation-again negation-leaves (λ _ _ _. tt) s r t.xs t.terms

  or-ends : (s r : List Spot) → Keyword (codes "or") s r → NoAnd s
  unfolding sees_word is_keyword
  or-ends s r t =
      let parts = and_parts (is_word t.0.token) (same_keyword t.0.token.text (codes "or")) t.1.1 in
      rw (t.1.0, parts.0, or-no_and t.0.token.text parts.1) refl

  pub disjunction-sound : (s : List Spot) (y : RawExpr × List Spot) → disjunction parse s ≡ Ok y → Disjunction One s y.0 y.1
  unfolding disjunction
  disjunction-sound s y h =
      let a = step_ok (chain (conjunction parse) (codes "or") s) (λ found. Ok (or_of found.0, found.1)) y h in
      let is = ok_is (or_of a.0.0) y.0 a.0.1 y.1 a.2 in
      let terms = chain-sound (conjunction parse) (Conjunction One) (codes "or") NoAnd conjunction-sound conjunction-again conjunction-leaves or-ends s a.0 a.1 in
      record { xs = a.0.0; terms = subst (λ (r : List Spot). Chain (Conjunction One) (codes "or") s a.0.0 r) is.1 terms; is = sym is.0 }

  pub disjunction-again : (s r : List Spot) (x : RawExpr) → Disjunction One s x r → EndsExpression r → disjunction parse s ≡ Ok (x, r)
  unfolding disjunction
  disjunction-again s r x t stops =
      let terms = chain-again (conjunction parse) (Conjunction One) (codes "or") NoAnd conjunction-sound conjunction-again conjunction-leaves or-ends s r t.xs t.terms stops.0 stops.1 in
      rw (terms, t.is) refl

  pub disjunction-leaves : (s r : List Spot) (x : RawExpr) → Disjunction One s x r → LeavesEnd s r
  disjunction-leaves s r x t = chain-leaves (conjunction parse) (Conjunction One) (codes "or") NoAnd conjunction-sound conjunction-again conjunction-leaves or-ends s r t.xs t.terms

-- a symbol ends an expression
pub symbol-ends : (byte : ℕ) (s r : List Spot) → Symbol byte s r → EndsExpression s
symbol-ends byte s r t = let is = takes-sees byte s r t in (symbol-no_word byte (codes "and") s is, symbol-no_word byte (codes "or") s is)

group-law : (depth : ℕ) → GroupLaw (group depth) (Group depth)
unfolding group grouped
group-law zero = record {
  sound = λ s x h. absurd cc;
  again = λ s r x t. absurd t;
  opens = λ s r x t. absurd t;
  leaves = λ s r x t. absurd t;
}
group-law (suc depth) =
    let inner = group-law depth in
    record {
      sound = λ s y h.
          let a = step_ok (symbol 40 s) (λ opened. disjunction (group depth) opened.1 >>= λ x. symbol 41 x.1 >>= λ close. Ok (x.0, close.1)) y h in
          let b = step_ok (disjunction (group depth) a.0.1) (λ x. symbol 41 x.1 >>= λ close. Ok (x.0, close.1)) y a.2 in
          let c = step_ok (symbol 41 b.0.1) (λ close. Ok (b.0.0, close.1)) y b.2 in
          let is = ok_is b.0.0 y.0 c.0.1 y.1 c.2 in
          let inside = disjunction-sound (group depth) (Group depth) inner a.0.1 b.0 b.1 in
          (a.0.1, b.0.1, symbol-takes 40 s a.0 a.1, subst (λ (x : RawExpr). Disjunction (Group depth) a.0.1 x b.0.1) is.0 inside, subst (λ (r : List Spot). Symbol 41 b.0.1 r) is.1 (symbol-takes 41 b.0.1 c.0 c.1));
      again = λ s r x t.
          let inside = disjunction-again (group depth) (Group depth) inner t.0 t.1 x t.3 (symbol-ends 41 t.1 r t.4) in
          rw (takes-symbol 40 s t.0 t.2, inside, takes-symbol 41 t.1 r t.4) refl;
      opens = λ s r x t. takes-sees 40 s t.0 t.2;
      leaves = λ s r x t. leaves-then s t.0 r (symbol-leaves 40 s t.0 t.2) (leaves-then t.0 t.1 r (disjunction-leaves (group depth) (Group depth) inner t.0 t.1 x t.3) (symbol-leaves 41 t.1 r t.4));
    }

pub expr-sound : (depth : ℕ) (s : List Spot) (y : RawExpr × List Spot) → expr depth s ≡ Ok y → Expression depth s y.0 y.1
unfolding expr
expr-sound depth s y h = disjunction-sound (group depth) (Group depth) (group-law depth) s y h

pub expr-again : (depth : ℕ) (s r : List Spot) (x : RawExpr) → Expression depth s x r → EndsExpression r → expr depth s ≡ Ok (x, r)
unfolding expr
expr-again depth s r x t stops = disjunction-again (group depth) (Group depth) (group-law depth) s r x t stops

pub expr-leaves : (depth : ℕ) (s r : List Spot) (x : RawExpr) → Expression depth s x r → LeavesEnd s r
expr-leaves depth s r x t = disjunction-leaves (group depth) (Group depth) (group-law depth) s r x t

-- Brackets of a part of a file.
use Rattle.std.proofs.Common.{◌≡◌, ℕ, zero, suc, ◌+◌, ◌-◌, ◌<◌, ◌≤◌, Bool, true, false, cond, nat_lt, eqb, List, [], ◌∷◌, length, take, drop, Option, Some, None, refl, ap, sym, ◌∙◌, arith, subst, ⊎_elim, ◌≢◌, ◌||◌, get_or}
use Rattle.std.proofs.lemmas.List.{length-drop, length-take-le}
use Rattle.std.proofs.lemmas.Bool.{cases_eq}
use Rattle.std.proofs.lemmas.Bool.Decides.{nat_tests}
use Rattle.std.specs.Option.{option_map, option_map_or}
use Rattle.sg_list.specs.Lists.{passes_at}
use Rattle.sg_lex.specs.declared.token.Token.{Token}
use Rattle.sg_block.specs.Tokens.{is_symbol}
use Rattle.sg_block.specs.Brackets.{Parted, bracket, open_behind, inner_behind, parted_behind, inside, closed_at, EndsAt, IsClosing}
use Rattle.sg_block.specs.Trimmed.{trimmed}
use Rattle.sg_block.proofs.Lists.{none_taken, got-at, drop-part, take-less}

-- what is found in the first tokens alone
abbrev cut : ℕ → Option Parted → Option Parted
cut k None = None
cut k (Some p) = cond (nat_lt (length p.0) k) (Some (p.0, take (k - (length p.0 + 1)) p.1)) None

cut-zero : (found : Option Parted) → None ≡ cut zero found
cut-zero None = refl
cut-zero (Some p) = let e : nat_lt (length p.0) 0 ≡ false = grind (arith, nat_tests) in ap (λ (b : Bool). cond b (Some (p.0, take (0 - (length p.0 + 1)) p.1)) None) (sym e)

lt-suc : (a b : ℕ) → nat_lt a b ≡ nat_lt (suc a) (suc b)
lt-suc a b = grind (arith, nat_tests)

lt-some : (k : ℕ) → nat_lt 0 (suc k) ≡ true
lt-some k = grind (arith, nat_tests)

cut-more : (k : ℕ) (t : Token) (found : Option Parted) → option_map (inner_behind t) (cut k found) ≡ cut (suc k) (option_map (inner_behind t) found)
cut-more k t None = refl
cut-more k t (Some p) =
    let n : k - (length p.0 + 1) ≡ suc k - (suc (length p.0) + 1) = omega arith in
    elim (nat_lt (length p.0) k) as (λ (b : Bool). option_map (inner_behind t) (cond b (Some (p.0, take (k - (length p.0 + 1)) p.1)) None) ≡ cond b (Some (t ∷ p.0, take (suc k - (suc (length p.0) + 1)) p.1)) None) [
      | true ↦ ap (λ m. Some (t ∷ p.0, take m p.1)) n
      | false ↦ refl
    ] ∙ ap (λ (b : Bool). cond b (Some (t ∷ p.0, take (suc k - (suc (length p.0) + 1)) p.1)) None) (lt-suc (length p.0) k)

cut-behind : (o : Option (List ℕ)) (k : ℕ) (t : Token) (ts : List Token) → ((open_ones : List ℕ) → inside open_ones (take k ts) ≡ cut k (inside open_ones ts)) → parted_behind t (take k ts) o (λ later. inside later (take k ts)) ≡ cut (suc k) (parted_behind t ts o (λ later. inside later ts))
cut-behind None k t ts rest = refl
cut-behind (Some []) k t ts rest = let n : k ≡ suc k - (0 + 1) = omega arith in ap (λ m. cond true (Some ([], take m ts)) None) n ∙ ap (λ (b : Bool). cond b (Some ([], take (suc k - (0 + 1)) ts)) None) (sym (lt-some k))
cut-behind (Some (c ∷ cs)) k t ts rest = ap (option_map (inner_behind t)) (rest (c ∷ cs)) ∙ cut-more k t (inside (c ∷ cs) ts)

inside-take : (k : ℕ) (xs : List Token) (open_ones : List ℕ) → inside open_ones (take k xs) ≡ cut k (inside open_ones xs)
inside-take k [] open_ones = ap (inside open_ones) (none_taken k)
inside-take zero (t ∷ ts) open_ones = cut-zero (inside open_ones (t ∷ ts))
inside-take (suc k) (t ∷ ts) open_ones = cut-behind (open_behind (bracket t) open_ones) k t ts (inside-take k ts)

-- the end in the file, seen from the part
closing-some : (c from to place end : ℕ) (xs : List Token) → from + place < to → to ≤ length xs → from + place + 1 ≤ end → end < to → passes_at xs end (is_symbol c) ≡ true → inside (c ∷ []) (drop (from + place + 1) xs) ≡ closed_at c xs (from + place + 1) end
    → inside (c ∷ []) (drop (place + 1) (take (to - from) (drop from xs))) ≡ Some (take (end - from - (place + 1)) (drop (place + 1) (take (to - from) (drop from xs))), drop (end - from + 1) (take (to - from) (drop from xs)))
closing-some c from to place end xs inside_it within after before passes found =
    let first = from + place + 1 in
    let part = take (to - from) (drop from xs) in
    let zs = drop first xs in
    let k = to - first in
    let tail : take k zs ≡ drop (place + 1) part = (let e : first ≡ from + (place + 1) = omega arith in ap (λ n. take (to - n) (drop n xs)) e) ∙ drop-part (place + 1) from to xs in
    let whole : inside (c ∷ []) zs ≡ Some (take (end - first) zs, drop (end + 1) xs) = found ∙ ap (λ (b : Bool). cond b (Some (take (end - first) zs, drop (end + 1) xs)) None) passes in
    let size : length (take (end - first) zs) ≡ end - first = length-take-le (end - first) zs (omega (arith, length-drop first xs)) in
    let fits : nat_lt (end - first) k ≡ true = grind (arith, nat_tests) in
    let front : take (end - first) zs ≡ take (end - from - (place + 1)) (drop (place + 1) part) =
    sym (take-less (end - first) k zs (omega arith)) ∙ ap (take (end - first)) tail ∙ ap (λ n. take n (drop (place + 1) part)) (let e : end - first ≡ end - from - (place + 1) = omega arith in e) in
    let back : take (k - (end - first + 1)) (drop (end + 1) xs) ≡ drop (end - from + 1) part =
    (let e : k - (end - first + 1) ≡ to - (from + (end - from + 1)) = omega arith in let d : end + 1 ≡ from + (end - from + 1) = omega arith in ap (λ n. take n (drop (end + 1) xs)) e ∙ ap (λ n. take (to - (from + (end - from + 1))) (drop n xs)) d)
    ∙ drop-part (end - from + 1) from to xs in
    ap (inside (c ∷ [])) (sym tail)
    ∙ inside-take k zs (c ∷ [])
    ∙ ap (cut k) whole
    ∙ ap (λ n. cond (nat_lt n k) (Some (take (end - first) zs, take (k - (n + 1)) (drop (end + 1) xs))) None) size
    ∙ ap (λ (b : Bool). cond b (Some (take (end - first) zs, take (k - (end - first + 1)) (drop (end + 1) xs))) None) fits
    ∙ (λ i. Some (front i, back i))

pub is-closing-some : (c from to place end : ℕ) (xs : List Token) → from + place < to → to ≤ length xs → end < to → passes_at xs end (is_symbol c) ≡ true → from + place + 1 ≤ end → inside (c ∷ []) (drop (from + place + 1) xs) ≡ closed_at c xs (from + place + 1) end
    → IsClosing c (take (to - from) (drop from xs)) place (Some (end - from))
is-closing-some c from to place end xs inside_it within before passes after found =
    (closing-some c from to place end xs inside_it within after before passes found, omega arith, omega (arith, length-take-le (to - from) (drop from xs) (omega (arith, length-drop from xs))))

cut-none : (k : ℕ) (b : Bool) (front back : List Token) → (b ≡ true → k ≤ length front) → cut k (cond b (Some (front, back)) None) ≡ None
cut-none k false front back h = refl
cut-none k true front back h = let e : nat_lt (length front) k ≡ false = (let le : k ≤ length front = h refl in grind (arith, nat_tests)) in ap (λ (b : Bool). cond b (Some (front, take (k - (length front + 1)) back)) None) e

pub is-closing-none : (c from to place end : ℕ) (xs : List Token) → from + place < to → to ≤ length xs → from + place + 1 ≤ end → end ≤ length xs → (passes_at xs end (is_symbol c) ≡ true → to ≤ end) → inside (c ∷ []) (drop (from + place + 1) xs) ≡ closed_at c xs (from + place + 1) end
    → IsClosing c (take (to - from) (drop from xs)) place None
is-closing-none c from to place end xs inside_it within after last beyond found =
    let first = from + place + 1 in
    let zs = drop first xs in
    let tail : take (to - first) zs ≡ drop (place + 1) (take (to - from) (drop from xs)) = (let e : first ≡ from + (place + 1) = omega arith in ap (λ n. take (to - n) (drop n xs)) e) ∙ drop-part (place + 1) from to xs in
    ap (inside (c ∷ [])) (sym tail)
    ∙ inside-take (to - first) zs (c ∷ [])
    ∙ ap (cut (to - first)) found
    ∙ cut-none (to - first) (passes_at xs end (is_symbol c)) (take (end - first) zs) (drop (end + 1) xs) (λ p. let le : to ≤ end = beyond p in omega (arith, length-take-le (end - first) zs (omega (arith, length-drop first xs))))

-- the last token
trim-true : (t : Token) → is_symbol 59 t ≡ true → [] ≡ trimmed (t ∷ [])
trim-true t h = ap (λ (b : Bool). cond b [] (t ∷ [])) (sym h)

pub trimmed-true : (xs : List Token) (n : ℕ) → length xs ≡ suc n → passes_at xs n (is_symbol 59) ≡ true → take n xs ≡ trimmed xs
trimmed-true [] n e h = absurd (omega arith)
trimmed-true (t ∷ []) zero e h = trim-true t h
trimmed-true (t ∷ []) (suc n) e h = absurd (omega arith)
trimmed-true (t ∷ u ∷ ts) zero e h = absurd (omega arith)
trimmed-true (t ∷ u ∷ ts) (suc n) e h = ap (λ ys. t ∷ ys) (trimmed-true (u ∷ ts) n (omega arith) h)

pub trimmed-false : (xs : List Token) (n : ℕ) → length xs ≡ suc n → passes_at xs n (is_symbol 59) ≡ false → xs ≡ trimmed xs
trimmed-false [] n e h = refl
trimmed-false (t ∷ []) zero e h = ap (λ (b : Bool). cond b [] (t ∷ [])) (sym h)
trimmed-false (t ∷ []) (suc n) e h = absurd (omega arith)
trimmed-false (t ∷ u ∷ ts) zero e h = absurd (omega arith)
trimmed-false (t ∷ u ∷ ts) (suc n) e h = ap (λ ys. t ∷ ys) (trimmed-false (u ∷ ts) n (omega arith) h)

-- the end of the bracket that the byte closes
pub end-of-byte : (c : ℕ) (xs : List Token) (place end : ℕ) → (eqb c 41 || eqb c 125) ≡ true → EndsAt xs end place → inside (c ∷ []) (drop place xs) ≡ closed_at c xs place end
end-of-byte c xs place end h at =
    ⊎_elim (λ (same : c ≡ 41). subst (λ n. inside (n ∷ []) (drop place xs) ≡ closed_at n xs place end) (sym same) at.0)
    (λ (other : c ≢ 41). ⊎_elim (λ (same : c ≡ 125). subst (λ n. inside (n ∷ []) (drop place xs) ≡ closed_at n xs place end) (sym same) at.1)
    (λ (last : c ≢ 125).
    let a : eqb c 41 ≡ false = grind (arith, nat_tests) in
    let b : eqb c 125 ≡ false = grind (arith, nat_tests) in
    let wrong : false ≡ true = sym (ap (λ (x : Bool). x || eqb c 125) a ∙ b) ∙ h in cc)
    (cases_eq c 125))
    (cases_eq c 41)

pub passes-here : (xs : List Token) (k : ℕ) (t : Token) (p : Token → Bool) (b : Bool) → k < length xs → t ≡ get_or xs k t → p t ≡ b → passes_at xs k p ≡ b
passes-here xs k t p b below is e = ap (λ (o : Option Token). option_map_or p o false) (got-at xs k t below is) ∙ e

pub trimmed-empty : (xs : List Token) → length xs ≡ 0 → xs ≡ trimmed xs
trimmed-empty [] e = refl
trimmed-empty (t ∷ ts) e = absurd (omega arith)

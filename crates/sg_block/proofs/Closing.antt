-- Where brackets close.
use Rattle.std.proofs.Common.{◌≡◌, ℕ, suc, ◌+◌, ◌-◌, ◌<◌, ◌≤◌, ◌⊎◌, inl, inr, Bool, true, false, cond, ◌&&◌, eqb, List, [], ◌∷◌, ◌++◌, length, take, drop, Option, Some, None, slice_get, slice_index, refl, ap, sym, ◌∙◌, arith, ◌≢◌, set, subst, ⊎_elim}
use borrow.Author.Tests.{eqb-true}
use Rattle.std.specs.Option.{option_map, option_map_or}
use Rattle.std.proofs.lemmas.List.{drop-drop, length-drop, length-take-le, length-set, get_or-set_same, get_or-set_other}
use Rattle.std.proofs.lemmas.Bool.{cases_eq}
use Rattle.sg_list.specs.Lists.{passes_at}
use Rattle.sg_list.proofs.ListLemmas.{drop-get, slice_get-none, slice_get-below, passes_at-some}
use Rattle.sg_lex.specs.declared.token.Token.{Token}
use Rattle.sg_lex.specs.declared.token.TokenKind.TheVariants.{Sym}
use Rattle.sg_block.specs.declared.token.Bracket.{Bracket}
use Rattle.sg_block.specs.declared.token.Bracket.TheVariants.{Opens, Closes, Neither}
use Rattle.sg_block.specs.Tokens.{is_symbol, is_of_kind, is_byte}
use Rattle.sg_block.proofs.Lists.{take-take}
use Rattle.sg_block.specs.Brackets.{Parted, bracket, open_behind, inner_behind, parted_behind, inside, closed_at, EndsAt, EndsBehind, HasEndsFrom}

abbrev prefixed : List Token → Parted → Parted
prefixed front p = (front ++ p.0, p.1)

-- behind the bracket that closes there, what stands inside the next one
abbrev passed : ℕ → List ℕ → List Token → Option Parted → Option Parted
passed d ds xs None = None
passed d ds xs (Some p) = option_map (prefixed (take (length p.0 + 1) xs)) (inside (d ∷ ds) p.1)

prefixed-more : (t : Token) (n : ℕ) (ts : List Token) (found : Option Parted) → option_map (inner_behind t) (option_map (prefixed (take (n + 1) ts)) found) ≡ option_map (prefixed (take (suc n + 1) (t ∷ ts))) found
prefixed-more t n ts None = refl
prefixed-more t n ts (Some p) =
    let e : suc (n + 1) ≡ suc n + 1 = omega arith in
    ap (λ k. Some (take k (t ∷ ts) ++ p.0, p.1)) e

passed-more : (d : ℕ) (ds : List ℕ) (t : Token) (ts : List Token) (found : Option Parted) → option_map (inner_behind t) (passed d ds ts found) ≡ passed d ds (t ∷ ts) (option_map (inner_behind t) found)
passed-more d ds t ts None = refl
passed-more d ds t ts (Some p) = prefixed-more t (length p.0) ts (inside (d ∷ ds) p.1)

one-more : (t : Token) (found : Option Parted) → option_map (inner_behind t) found ≡ option_map (prefixed (t ∷ [])) found
one-more t None = refl
one-more t (Some p) = refl

-- the inner brackets close first, where they do in what stands behind the first token
abbrev SplitsTokens : List Token → Type 0
SplitsTokens ts = (c : ℕ) (cs : List ℕ) (d : ℕ) (ds : List ℕ) → inside (c ∷ cs ++ d ∷ ds) ts ≡ passed d ds ts (inside (c ∷ cs) ts)

split-closes : (same : Bool) (c : ℕ) (cs : List ℕ) (d : ℕ) (ds : List ℕ) (t : Token) (ts : List Token) → SplitsTokens ts → parted_behind t ts (cond same (Some (cs ++ d ∷ ds)) None) (λ later. inside later ts) ≡ passed d ds (t ∷ ts) (parted_behind t ts (cond same (Some cs) None) (λ later. inside later ts))
split-closes true c [] d ds t ts rest = one-more t (inside (d ∷ ds) ts)
split-closes true c (e ∷ cs) d ds t ts rest = ap (option_map (inner_behind t)) (rest e cs d ds) ∙ passed-more d ds t ts (inside (e ∷ cs) ts)
split-closes false c cs d ds t ts rest = refl

split-at : (b : Bracket) (c : ℕ) (cs : List ℕ) (d : ℕ) (ds : List ℕ) (t : Token) (ts : List Token) → SplitsTokens ts → parted_behind t ts (open_behind b (c ∷ cs ++ d ∷ ds)) (λ later. inside later ts) ≡ passed d ds (t ∷ ts) (parted_behind t ts (open_behind b (c ∷ cs)) (λ later. inside later ts))
split-at (Opens k) c cs d ds t ts rest = ap (option_map (inner_behind t)) (rest k (c ∷ cs) d ds) ∙ passed-more d ds t ts (inside (k ∷ c ∷ cs) ts)
split-at (Closes k) c cs d ds t ts rest = split-closes (eqb k c) c cs d ds t ts rest
split-at Neither c cs d ds t ts rest = ap (option_map (inner_behind t)) (rest c cs d ds) ∙ passed-more d ds t ts (inside (c ∷ cs) ts)

inside-split : (xs : List Token) → SplitsTokens xs
inside-split [] c cs d ds = refl
inside-split (t ∷ ts) c cs d ds = split-at (bracket t) c cs d ds t ts (inside-split ts)

abbrev EndOf : ℕ → List Token → ℕ → ℕ → Type 0
EndOf c xs end place = inside (c ∷ []) (drop place xs) ≡ closed_at c xs place end

front : (xs : List Token) (place : ℕ) (t : Token) (end : ℕ) → slice_get xs place ≡ Some t → place + 1 ≤ end → t ∷ take (end - (place + 1)) (drop (place + 1) xs) ≡ take (end - place) (drop place xs)
front xs place t end got le =
    let n : suc (end - (place + 1)) ≡ end - place = omega arith in
    ap (λ k. take k (t ∷ drop (place + 1) xs)) n ∙ ap (take (end - place)) (sym (drop-get xs place t got))

closed-more : (c : ℕ) (xs : List Token) (place : ℕ) (t : Token) (end : ℕ) → slice_get xs place ≡ Some t → place + 1 ≤ end → option_map (inner_behind t) (closed_at c xs (place + 1) end) ≡ closed_at c xs place end
closed-more c xs place t end got le =
    elim (passes_at xs end (is_symbol c)) as (λ (b : Bool). option_map (inner_behind t) (cond b (Some (take (end - (place + 1)) (drop (place + 1) xs), drop (end + 1) xs)) None) ≡ cond b (Some (take (end - place) (drop place xs), drop (end + 1) xs)) None) [
      | true ↦ ap (λ (ys : List Token). Some (ys, drop (end + 1) xs)) (front xs place t end got le)
      | false ↦ refl
    ]

inside-front : (c : ℕ) (xs : List Token) (place : ℕ) (t : Token) (b : Bracket) → slice_get xs place ≡ Some t → bracket t ≡ b → inside (c ∷ []) (drop place xs) ≡ parted_behind t (drop (place + 1) xs) (open_behind b (c ∷ [])) (λ later. inside later (drop (place + 1) xs))
inside-front c xs place t b got is =
    ap (inside (c ∷ [])) (drop-get xs place t got)
    ∙ ap (λ (d : Bracket). parted_behind t (drop (place + 1) xs) (open_behind d (c ∷ [])) (λ later. inside later (drop (place + 1) xs))) is

end-neither : (c : ℕ) (xs : List Token) (place : ℕ) (t : Token) (end : ℕ) → slice_get xs place ≡ Some t → bracket t ≡ Neither → place + 1 ≤ end → EndOf c xs end (place + 1) → EndOf c xs end place
end-neither c xs place t end got is le behind =
    inside-front c xs place t Neither got is ∙ ap (option_map (inner_behind t)) behind ∙ closed-more c xs place t end got le

end-closer : (c : ℕ) (xs : List Token) (place : ℕ) (t : Token) (k : ℕ) → slice_get xs place ≡ Some t → bracket t ≡ Closes k → is_symbol c t ≡ eqb k c → EndOf c xs place place
end-closer c xs place t k got is same =
    let rest = drop (place + 1) xs in
    let here : passes_at xs place (is_symbol c) ≡ eqb k c = ap (λ (o : Option Token). option_map_or (is_symbol c) o false) got ∙ same in
    let none : 0 ≡ place - place = omega arith in
    inside-front c xs place t (Closes k) got is
    ∙ elim (eqb k c) as (λ (b : Bool). parted_behind t rest (cond b (Some []) None) (λ later. inside later rest) ≡ cond b (Some (take (place - place) (drop place xs), rest)) None) [
      | true ↦ ap (λ n. Some (take n (drop place xs), rest)) none
      | false ↦ refl
    ]
    ∙ ap (λ (b : Bool). cond b (Some (take (place - place) (drop place xs), rest)) None) (sym here)

passes-end : (xs : List Token) (p : Token → Bool) → passes_at xs (length xs) p ≡ false
passes-end xs p = ap (λ (o : Option Token). option_map_or p o false) (slice_get-none xs (length xs) (omega arith))

joined-end : (c : ℕ) (xs : List Token) (place : ℕ) (t : Token) (first end : ℕ) → slice_get xs place ≡ Some t → place + 1 ≤ first → first + 1 ≤ end → option_map (inner_behind t) (option_map (prefixed (take (first - place) (drop (place + 1) xs))) (closed_at c xs (first + 1) end)) ≡ closed_at c xs place end
joined-end c xs place t first end got le more =
    let rest = drop (place + 1) xs in
    let there : drop (first - place) rest ≡ drop (first + 1) xs = drop-drop (first - place) (place + 1) xs ∙ ap (λ n. drop n xs) (let e : place + 1 + (first - place) ≡ first + 1 = omega arith in e) in
    let count : first - place + (end - (first + 1)) ≡ end - (place + 1) = omega arith in
    let whole : take (first - place) rest ++ take (end - (first + 1)) (drop (first + 1) xs) ≡ take (end - (place + 1)) rest =
    ap (λ (ys : List Token). take (first - place) rest ++ take (end - (first + 1)) ys) (sym there) ∙ take-take (first - place) (end - (first + 1)) rest ∙ ap (λ n. take n rest) count in
    elim (passes_at xs end (is_symbol c)) as (λ (b : Bool). option_map (inner_behind t) (option_map (prefixed (take (first - place) rest)) (cond b (Some (take (end - (first + 1)) (drop (first + 1) xs), drop (end + 1) xs)) None)) ≡ cond b (Some (take (end - place) (drop place xs), drop (end + 1) xs)) None) [
      | true ↦ ap (λ (ys : List Token). Some (t ∷ ys, drop (end + 1) xs)) whole ∙ ap (λ (ys : List Token). Some (ys, drop (end + 1) xs)) (front xs place t end got (omega arith))
      | false ↦ refl
    ]

end-opener : (c : ℕ) (xs : List Token) (place : ℕ) (t : Token) (k first end : ℕ) (closes : Bool) → slice_get xs place ≡ Some t → bracket t ≡ Opens k → place + 1 ≤ first → first ≤ length xs → EndOf k xs first (place + 1)
    → passes_at xs first (is_symbol k) ≡ closes → (closes ≡ false → end ≡ length xs) → (closes ≡ true → EndOf c xs end (first + 1) × (first + 1 ≤ end)) → EndOf c xs end place
end-opener c xs place t k first end true got is le within inner passes none some =
    let rest = drop (place + 1) xs in
    let found : inside (k ∷ []) rest ≡ Some (take (first - (place + 1)) rest, drop (first + 1) xs) = inner ∙ ap (λ (b : Bool). cond b (Some (take (first - (place + 1)) rest, drop (first + 1) xs)) None) passes in
    let size : length (take (first - (place + 1)) rest) + 1 ≡ first - place = omega (arith, length-take-le (first - (place + 1)) rest (omega (arith, length-drop (place + 1) xs))) in
    inside-front c xs place t (Opens k) got is
    ∙ ap (option_map (inner_behind t)) (inside-split rest k [] c [] ∙ ap (passed c [] rest) found)
    ∙ ap (λ n. option_map (inner_behind t) (option_map (prefixed (take n rest)) (inside (c ∷ []) (drop (first + 1) xs)))) size
    ∙ ap (λ (o : Option Parted). option_map (inner_behind t) (option_map (prefixed (take (first - place) rest)) o)) (some refl).0
    ∙ joined-end c xs place t first end got le (some refl).1
end-opener c xs place t k first end false got is le within inner passes none some =
    let rest = drop (place + 1) xs in
    let found : inside (k ∷ []) rest ≡ None = inner ∙ ap (λ (b : Bool). cond b (Some (take (first - (place + 1)) rest, drop (first + 1) xs)) None) passes in
    inside-front c xs place t (Opens k) got is
    ∙ ap (option_map (inner_behind t)) (inside-split rest k [] c [] ∙ ap (passed c [] rest) found)
    ∙ ap (λ (b : Bool). cond b (Some (take (end - place) (drop place xs), drop (end + 1) xs)) None) (sym (ap (λ n. passes_at xs n (is_symbol c)) (none refl) ∙ passes-end xs (is_symbol c)))

-- which brackets a token closes or opens
not_both : (kind : Bool) (text : List ℕ) → (kind && is_byte 41 text) ≡ true → (kind && is_byte 125 text) ≡ false
not_both false text h = refl
not_both true [] h = refl
not_both true (b ∷ []) h = let same : b ≡ 41 = eqb-true b 41 h in ap (λ n. eqb n 125) same
not_both true (b ∷ d ∷ text) h = refl

closes-by : (k : ℕ) (a b c d : Bool) → cond a (Closes 41) (cond b (Closes 125) (cond c (Opens 41) (cond d (Opens 125) Neither))) ≡ Closes k → ((k ≡ 41) × (a ≡ true)) ⊎ ((k ≡ 125) × (a ≡ false) × (b ≡ true))
closes-by k true b c d h = inl (let e : k ≡ 41 = cc in e, refl)
closes-by k false true c d h = inr (let e : k ≡ 125 = cc in e, refl, refl)
closes-by k false false true d h = let wrong : Opens 41 ≡ Closes k = h in cc
closes-by k false false false true h = let wrong : Opens 125 ≡ Closes k = h in cc
closes-by k false false false false h = let wrong : Neither ≡ Closes k = h in cc

opens-by : (k : ℕ) (a b c d : Bool) → cond a (Closes 41) (cond b (Closes 125) (cond c (Opens 41) (cond d (Opens 125) Neither))) ≡ Opens k → (k ≡ 41) ⊎ (k ≡ 125)
opens-by k true b c d h = let wrong : Closes 41 ≡ Opens k = h in cc
opens-by k false true c d h = let wrong : Closes 125 ≡ Opens k = h in cc
opens-by k false false true d h = inl (let e : k ≡ 41 = cc in e)
opens-by k false false false true h = inr (let e : k ≡ 125 = cc in e)
opens-by k false false false false h = let wrong : Neither ≡ Opens k = h in cc

closed-by : (t : Token) (k : ℕ) → ((k ≡ 41) × (is_symbol 41 t ≡ true)) ⊎ ((k ≡ 125) × (is_symbol 41 t ≡ false) × (is_symbol 125 t ≡ true)) → (is_symbol 41 t ≡ eqb k 41) × (is_symbol 125 t ≡ eqb k 125)
closed-by t k (inl h) = (h.1 ∙ sym (ap (λ n. eqb n 41) h.0), not_both (is_of_kind Sym t) t.text h.1 ∙ sym (ap (λ n. eqb n 125) h.0))
closed-by t k (inr h) = (h.1 ∙ sym (ap (λ n. eqb n 41) h.0), h.2 ∙ sym (ap (λ n. eqb n 125) h.0))

pub ends-neither : (xs : List Token) (place : ℕ) (t : Token) (end : ℕ) → slice_get xs place ≡ Some t → bracket t ≡ Neither → EndsAt xs end (place + 1) → EndsAt xs end place
ends-neither xs place t end got is h = (end-neither 41 xs place t end got is h.2 h.0, end-neither 125 xs place t end got is h.2 h.1, omega (arith, h.2), h.3)

pub ends-closer : (xs : List Token) (place : ℕ) (t : Token) (k : ℕ) → slice_get xs place ≡ Some t → bracket t ≡ Closes k → EndsAt xs place place
ends-closer xs place t k got is =
    let same = closed-by t k (closes-by k (is_symbol 41 t) (is_symbol 125 t) (is_symbol 40 t) (is_symbol 123 t) is) in
    let below : place < length xs = slice_get-below xs place t got in
    (end-closer 41 xs place t k got is same.0, end-closer 125 xs place t k got is same.1, omega arith, omega arith)

opener-ends : (xs : List Token) (place : ℕ) (t : Token) (k first end : ℕ) (closes : Bool) → slice_get xs place ≡ Some t → bracket t ≡ Opens k → place + 1 ≤ first → first ≤ length xs → EndOf k xs first (place + 1)
    → passes_at xs first (is_symbol k) ≡ closes → (closes ≡ false → end ≡ length xs) → (closes ≡ true → EndsAt xs end (first + 1)) → EndsAt xs end place
opener-ends xs place t k first end true got is le within inner passes none some = (
  end-opener 41 xs place t k first end true got is le within inner passes none (λ e. ((some e).0, (some e).2)),
  end-opener 125 xs place t k first end true got is le within inner passes none (λ e. ((some e).1, (some e).2)),
  omega (arith, (some refl).2),
  (some refl).3,
)
opener-ends xs place t k first end false got is le within inner passes none some = (
  end-opener 41 xs place t k first end false got is le within inner passes none (λ e. let wrong : false ≡ true = e in cc),
  end-opener 125 xs place t k first end false got is le within inner passes none (λ e. let wrong : false ≡ true = e in cc),
  omega (arith, none refl),
  omega (arith, none refl),
)

pub ends-opener : (xs : List Token) (ends : List ℕ) (place : ℕ) (t : Token) (k end : ℕ) → slice_get xs place ≡ Some t → bracket t ≡ Opens k → HasEndsFrom xs ends (place + 1) → EndsBehind xs ends k place end → EndsAt xs end place
ends-opener xs ends place t k end got is h e =
    let below : place < length xs = slice_get-below xs place t got in
    let first = slice_index ends (place + 1) in
    let at = h.1 (place + 1) (omega arith) (omega arith) in
    let inner : EndOf k xs first (place + 1) = ⊎_elim (λ (s : k ≡ 41). subst (λ c. EndOf c xs first (place + 1)) (sym s) at.0) (λ (s : k ≡ 125). subst (λ c. EndOf c xs first (place + 1)) (sym s) at.1) (opens-by k (is_symbol 41 t) (is_symbol 125 t) (is_symbol 40 t) (is_symbol 123 t) is) in
    opener-ends xs place t k first end (passes_at xs first (is_symbol k)) got is at.2 at.3 inner refl
    (λ f. e ∙ ap (λ (b : Bool). cond b (slice_index ends (first + 1)) (length xs)) f)
    (λ p. let inside_it : first < length xs = slice_get-below xs first (passes_at-some xs first (is_symbol k) p).0 (passes_at-some xs first (is_symbol k) p).1 in
    subst (λ n. EndsAt xs n (first + 1)) (sym (e ∙ ap (λ (b : Bool). cond b (slice_index ends (first + 1)) (length xs)) p)) (h.1 (first + 1) (omega (arith, at.2)) (omega arith)))

-- the ends, with that of one place more
pub ends-more : (xs : List Token) (ends : List ℕ) (place next e : ℕ) → place < length xs → next ≡ place + 1 → HasEndsFrom xs ends next → EndsAt xs e place → HasEndsFrom xs (set ends place e) place
ends-more xs ends place next e below is h at =
    let size : length (set ends place e) ≡ length ends = length-set ends place e in
    let within : place < length ends = omega (arith, h.0) in (
      size ∙ h.0,
      λ q le last. ⊎_elim
          (λ (same : q ≡ place). let here : slice_index (set ends place e) q ≡ e = ap (λ n. slice_index (set ends place e) n) same ∙ get_or-set_same {A = ℕ} ends place e 0 within in
          subst (λ n. EndsAt xs n q) (sym here) (subst (λ n. EndsAt xs e n) (sym same) at))
          (λ (other : q ≢ place). let there : slice_index (set ends place e) q ≡ slice_index ends q = get_or-set_other {A = ℕ} ends place q e 0 other in
          subst (λ n. EndsAt xs n q) (sym there) (h.1 q (let far : q ≢ place = other in omega arith) last))
          (cases_eq q place),
    )

-- Strings in which variables are replaced.
use Rattle.std.proofs.Common.{◌≡◌, ℕ, zero, suc, ◌+◌, ◌-◌, ◌<◌, ◌≤◌, ⊎_elim, Bool, false, cond, eqb, List, [], ◌∷◌, ◌++◌, length, take, drop, get_or, Option, Some, None, refl, ap, sym, ◌∙◌, arith, subst, append_assoc}
use Rattle.std.proofs.Math.Seq.{drop-cons}
use Rattle.std.proofs.lemmas.List.{length-append, drop-drop}
use Rattle.std.proofs.lemmas.Bool.{cases_lt}
use Rattle.std.proofs.lemmas.Bool.Decides.{nat_tests}
use Rattle.std.specs.Option.{option_map}
use Rattle.sg_lex.specs.declared.token.Token.{Token}
use Rattle.sg_block.specs.Values.{Values, reached, spaced, joined, variable_length, text_behind, replaced, IsCapped}

pub capped-exact : (room : ℕ) (made kept : List ℕ) → length kept ≤ room → IsCapped room made kept → (kept ≡ made) × (length made ≤ room)
capped-exact room made kept le h =
    ⊎_elim (λ (over : room < length made). let more : room < length kept = h.1 over in absurd (omega arith))
    (λ (fits : length made ≤ room). (h.0 fits, fits))
    (cases_lt room (length made))

pub capped-over : (room : ℕ) (made kept : List ℕ) → room < length kept → IsCapped room made kept → room < length made
capped-over room made kept over h =
    ⊎_elim (λ (more : room < length made). more)
    (λ (fits : length made ≤ room). let same : length kept ≡ length made = ap length (h.0 fits) in absurd (omega arith))
    (cases_lt room (length made))

pub capped-more : (room : ℕ) (made kept bytes : List ℕ) → length kept ≤ room → IsCapped room made kept → IsCapped room (made ++ bytes) (kept ++ bytes)
capped-more room made kept bytes le h =
    let same = (capped-exact room made kept le h).0 in
    (λ fits. ap (λ (xs : List ℕ). xs ++ bytes) same, λ over. subst (λ (xs : List ℕ). room < length (xs ++ bytes)) (sym same) over)

pub capped-kept : (room : ℕ) (made kept bytes : List ℕ) → room < length kept → IsCapped room made kept → IsCapped room (made ++ bytes) kept
capped-kept room made kept bytes over h =
    let more : room < length made = capped-over room made kept over h in
    (λ fits. let size = length-append made bytes in absurd (omega arith), λ _. over)

-- the spaced texts, one more
spaced-push : (xs : List Token) (t : Token) → spaced (xs ++ t ∷ []) ≡ spaced xs ++ 32 ∷ t.text
spaced-push [] t = append-none (32 ∷ t.text)
  where
    append-none : (bytes : List ℕ) → bytes ++ [] ≡ bytes
    append-none [] = refl
    append-none (b ∷ bytes) = ap (λ (ys : List ℕ). b ∷ ys) (append-none bytes)
spaced-push (x ∷ xs) t = ap (λ (ys : List ℕ). (32 ∷ x.text) ++ ys) (spaced-push xs t) ∙ sym (append_assoc (32 ∷ x.text) (spaced xs) (32 ∷ t.text))

pub spaced-more : (xs : List Token) (t : Token) (made : List ℕ) → (made ++ spaced xs ++ 32 ∷ []) ++ t.text ≡ made ++ spaced (xs ++ t ∷ [])
spaced-more xs t made =
    append_assoc (made ++ spaced xs) (32 ∷ []) t.text
    ∙ append_assoc made (spaced xs) (32 ∷ t.text)
    ∙ ap (λ (ys : List ℕ). made ++ ys) (sym (spaced-push xs t))

pub replaced-skip : (scope variables : Values) (skip : ℕ) (bytes : List ℕ) → replaced scope variables skip bytes ≡ replaced scope variables 0 (drop skip bytes)
replaced-skip scope variables zero bytes = refl
replaced-skip scope variables (suc skip) [] = refl
replaced-skip scope variables (suc skip) (b ∷ bytes) = replaced-skip scope variables skip bytes

abbrev pub FrontTokens : List ℕ → Option (List ℕ) → Option (List ℕ)
FrontTokens made found = option_map (λ (rest : List ℕ). made ++ rest) found

front-byte : (made : List ℕ) (b : ℕ) (found : Option (List ℕ)) → FrontTokens made (option_map (λ (text : List ℕ). b ∷ text) found) ≡ FrontTokens (made ++ b ∷ []) found
front-byte made b None = refl
front-byte made b (Some rest) = ap Some (sym (append_assoc made (b ∷ []) rest))

front-value : (made value : List ℕ) (found : Option (List ℕ)) → FrontTokens made (option_map (λ (bytes : List ℕ). value ++ bytes) found) ≡ FrontTokens (made ++ value) found
front-value made value None = refl
front-value made value (Some rest) = ap Some (sym (append_assoc made value rest))

place-front : (text : List ℕ) (place : ℕ) → place < length text → drop place text ≡ get_or text place 0 ∷ drop (place + 1) text
place-front text place within =
    let next : suc place ≡ place + 1 = omega arith in
    drop-cons text place 0 within ∙ ap (λ n. get_or text place 0 ∷ drop n text) next

byte-step : (scope variables : Values) (made : List ℕ) (b : ℕ) (bytes : List ℕ) → variable_length (b ∷ bytes) ≡ 0 → FrontTokens made (replaced scope variables 0 (b ∷ bytes)) ≡ FrontTokens (made ++ b ∷ []) (replaced scope variables 0 bytes)
byte-step scope variables made b bytes none =
    ap (λ n. FrontTokens made (cond (eqb n 0) (option_map (λ (text : List ℕ). b ∷ text) (replaced scope variables 0 bytes)) (text_behind (reached scope variables (take (variable_length (b ∷ bytes)) bytes)) (replaced scope variables (variable_length (b ∷ bytes) + 1) bytes)))) none
    ∙ front-byte made b (replaced scope variables 0 bytes)

pub replaced-byte : (scope variables : Values) (made text : List ℕ) (place : ℕ) → place < length text → variable_length (drop place text) ≡ 0 → FrontTokens made (replaced scope variables 0 (drop place text)) ≡ FrontTokens (made ++ get_or text place 0 ∷ []) (replaced scope variables 0 (drop (place + 1) text))
replaced-byte scope variables made text place within none =
    let front = place-front text place within in
    ap (λ (bytes : List ℕ). FrontTokens made (replaced scope variables 0 bytes)) front
    ∙ byte-step scope variables made (get_or text place 0) (drop (place + 1) text) (sym (ap variable_length front) ∙ none)

positive : (n : ℕ) → eqb (suc n) 0 ≡ false
positive n = grind (arith, nat_tests)

variable-step : (scope variables : Values) (b : ℕ) (bytes : List ℕ) (count : ℕ) → variable_length (b ∷ bytes) ≡ suc count → replaced scope variables 0 (b ∷ bytes) ≡ text_behind (reached scope variables (take (suc count) bytes)) (replaced scope variables 0 (drop (suc count + 1) bytes))
variable-step scope variables b bytes count is =
    ap (λ n. cond (eqb n 0) (option_map (λ (text : List ℕ). b ∷ text) (replaced scope variables 0 bytes)) (text_behind (reached scope variables (take n bytes)) (replaced scope variables (n + 1) bytes))) is
    ∙ ap (λ (c : Bool). cond c (option_map (λ (text : List ℕ). b ∷ text) (replaced scope variables 0 bytes)) (text_behind (reached scope variables (take (suc count) bytes)) (replaced scope variables (suc count + 1) bytes))) (positive count)
    ∙ ap (text_behind (reached scope variables (take (suc count) bytes))) (replaced-skip scope variables (suc count + 1) bytes)

-- a variable at a place
pub replaced-variable : (scope variables : Values) (text : List ℕ) (place count : ℕ) → place < length text → 0 < count → variable_length (drop place text) ≡ count → replaced scope variables 0 (drop place text) ≡ text_behind (reached scope variables (take count (drop (place + 1) text))) (replaced scope variables 0 (drop (place + count + 2) text))
replaced-variable scope variables text place zero within some is = absurd (omega arith)
replaced-variable scope variables text place (suc count) within some is =
    let front = place-front text place within in
    let next : place + 1 + (suc count + 1) ≡ place + suc count + 2 = omega arith in
    ap (replaced scope variables 0) front
    ∙ variable-step scope variables (get_or text place 0) (drop (place + 1) text) count (sym (ap variable_length front) ∙ is)
    ∙ ap (λ (bytes : List ℕ). text_behind (reached scope variables (take (suc count) (drop (place + 1) text))) (replaced scope variables 0 bytes)) (drop-drop (suc count + 1) (place + 1) text ∙ ap (λ n. drop n text) next)

pub behind-some : (made : List ℕ) (value : List Token) (found : Option (List Token)) (rest : Option (List ℕ)) → found ≡ Some value → FrontTokens made (text_behind found rest) ≡ FrontTokens (made ++ joined value) rest
behind-some made value found rest is = ap (λ (o : Option (List Token)). FrontTokens made (text_behind o rest)) is ∙ front-value made (joined value) rest

pub behind-none : (made : List ℕ) (found : Option (List Token)) (rest : Option (List ℕ)) → found ≡ None → FrontTokens made (text_behind found rest) ≡ None
behind-none made found rest is = ap (λ (o : Option (List Token)). FrontTokens made (text_behind o rest)) is

pub front-none : (found : Option (List ℕ)) → found ≡ FrontTokens [] found
front-none None = refl
front-none (Some text) = refl

-- the byte at a place, as a slice of it is written
pub slice-one : (text : List ℕ) (place : ℕ) → place < length text → take (place + 1 - place) (drop place text) ≡ get_or text place 0 ∷ []
slice-one text place within =
    let one : place + 1 - place ≡ 1 = omega arith in
    ap (λ n. take n (drop place text)) one ∙ ap (take 1) (place-front text place within)

pub slice-name : (text : List ℕ) (place count : ℕ) → take (place + 1 + count - (place + 1)) (drop (place + 1) text) ≡ take count (drop (place + 1) text)
slice-name text place count = let e : place + 1 + count - (place + 1) ≡ count = omega arith in ap (λ n. take n (drop (place + 1) text)) e

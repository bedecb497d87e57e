-- What comes out, some tokens more.
use Rattle.std.proofs.Common.{◌≡◌, ℕ, ◌+◌, ◌<◌, ◌≤◌, ⊎_elim, Bool, cond, List, [], ◌∷◌, ◌++◌, length, take, drop, get_or, Result, Ok, Err, ap, sym, subst, ◌∙◌, append_assoc}
use Rattle.std.proofs.lemmas.Bool.{cases_lt, le-leb, lt-leb}
use Rattle.std.proofs.lemmas.List.{take_more, drop_more, take-append-drop}
use Rattle.sg_lex.specs.declared.token.Token.{Token}
use Rattle.sg_block.specs.declared.token.FileLine.{FileLine}
use Rattle.sg_block.specs.Tokens.{token_size, line_of}
use Rattle.sg_expand.specs.declared.fault.ExpandStop.{ExpandStop}
use Rattle.sg_expand.specs.declared.fault.ExpandStop.TheVariants.{Fault, ReadFault, NoMemory}
use Rattle.sg_expand.specs.Total.{Emits, counted}

-- a token with which the total is within the limit
fits : (total : ℕ) (token : Token) (tokens : List Token) → total + token_size token ≤ 1048576 → counted total (token ∷ tokens) ≡ counted (total + token_size token) tokens
fits total token tokens h = ap (λ (b : Bool). cond b (counted (total + token_size token) tokens) (Err (line_of token))) (le-leb (total + token_size token) 1048576 h)

-- a token with which the total passes the limit
over : (total : ℕ) (token : Token) (tokens : List Token) → 1048576 < total + token_size token → counted total (token ∷ tokens) ≡ Err (line_of token)
over total token tokens h = ap (λ (b : Bool). cond b (counted (total + token_size token) tokens) (Err (line_of token))) (lt-leb (total + token_size token) 1048576 h)

-- some tokens are counted, and then others
counted-more : (total next : ℕ) (xs ys : List Token) → counted total xs ≡ Ok next → counted total (xs ++ ys) ≡ counted next ys
counted-more total next [] ys h = let same : total ≡ next = cc in ap (λ n. counted n ys) same
counted-more total next (x ∷ xs) ys h =
    ⊎_elim (λ (passed : 1048576 < total + token_size x). let wrong : Err (line_of x) ≡ Ok next = sym (over total x xs passed) ∙ h in cc)
    (λ (within : total + token_size x ≤ 1048576). fits total x (xs ++ ys) within ∙ counted-more (total + token_size x) next xs ys (sym (fits total x xs within) ∙ h))
    (cases_lt 1048576 (total + token_size x))

-- where some tokens pass the limit, so do more of them
counted-stops : (total : ℕ) (line : FileLine) (xs ys : List Token) → counted total xs ≡ Err line → counted total (xs ++ ys) ≡ Err line
counted-stops total line [] ys h = let wrong : Ok total ≡ Err line = h in cc
counted-stops total line (x ∷ xs) ys h =
    ⊎_elim (λ (passed : 1048576 < total + token_size x). over total x (xs ++ ys) passed ∙ (sym (over total x xs passed) ∙ h))
    (λ (within : total + token_size x ≤ 1048576). fits total x (xs ++ ys) within ∙ counted-stops (total + token_size x) line xs ys (sym (fits total x xs within) ∙ h))
    (cases_lt 1048576 (total + token_size x))

-- one token more of those that come out
pub put-step : (tokens : List Token) (place : ℕ) (token : Token) (first out next : List Token) → place < length tokens → token ≡ get_or tokens place token
    → out ≡ first ++ take place tokens → next ≡ out ++ token ∷ [] → next ≡ first ++ take (place + 1) tokens
put-step tokens place token first out next within is so more =
    let grown : take place tokens ++ token ∷ [] ≡ take (place + 1) tokens = ap (λ (t : Token). take place tokens ++ t ∷ []) is ∙ sym (take_more tokens place token within) in
    more ∙ ap (λ (xs : List Token). xs ++ token ∷ []) so ∙ append_assoc first (take place tokens) (token ∷ []) ∙ ap (λ (xs : List Token). first ++ xs) grown

-- one token more of those that are counted
pub count-step : (first total next : ℕ) (tokens : List Token) (place : ℕ) (token : Token) → place < length tokens → token ≡ get_or tokens place token
    → counted first (take place tokens) ≡ Ok total → counted total (token ∷ []) ≡ Ok next → counted first (take (place + 1) tokens) ≡ Ok next
count-step first total next tokens place token within is so more =
    let grown : take (place + 1) tokens ≡ take place tokens ++ token ∷ [] = take_more tokens place token within ∙ ap (λ (t : Token). take place tokens ++ t ∷ []) (sym is) in
    ap (counted first) grown ∙ counted-more first total (take place tokens) (token ∷ []) so ∙ more

-- the token with which the total passes the limit
count-stop : (first total : ℕ) (line : FileLine) (tokens : List Token) (place : ℕ) (token : Token) → place < length tokens → token ≡ get_or tokens place token
    → counted first (take place tokens) ≡ Ok total → counted total (token ∷ []) ≡ Err line → counted first tokens ≡ Err line
count-stop first total line tokens place token within is so more =
    let rest : drop place tokens ≡ token ∷ drop (place + 1) tokens = drop_more tokens place token within ∙ ap (λ (t : Token). t ∷ drop (place + 1) tokens) (sym is) in
    ap (counted first) (sym (take-append-drop place tokens) ∙ ap (λ (xs : List Token). take place tokens ++ xs) rest)
    ∙ counted-more first total (take place tokens) (token ∷ drop (place + 1) tokens) so
    ∙ counted-stops total line (token ∷ []) (drop (place + 1) tokens) more

-- what stops a token stops those with which it comes
pub emits-stop : (tokens : List Token) (place : ℕ) (token : Token) (first out next : List Token) (start total total' : ℕ) (stop : ExpandStop) (result : Result Unit ExpandStop) → result ≡ Err stop → place < length tokens → token ≡ get_or tokens place token
    → counted start (take place tokens) ≡ Ok total → Emits (token ∷ []) out total next total' (Err stop) → Emits tokens first start next total' result
emits-stop tokens place token first out next start total total' stop result is within at so stops =
    subst (λ (r : Result Unit ExpandStop). Emits tokens first start next total' r) (sym is) (by stop stops)
  where
    by : (stop : ExpandStop) → Emits (token ∷ []) out total next total' (Err stop) → Emits tokens first start next total' (Err stop)
    by (Fault fault) h = (h.0, count-stop start total h.0 tokens place token within at so h.1, h.2)
    by (ReadFault name) h = h
    by NoMemory h = tt

-- Arguments as they are read.
use Rattle.std.proofs.Common.{◌≡◌, ℕ, eqb, zero, suc, ◌+◌, ◌-◌, ◌<◌, ◌≤◌, Bool, true, false, List, [], ◌∷◌, ◌++◌, length, Option, Some, None, refl, ap, sym, ◌∙◌, arith, subst, append_assoc}
use Rattle.std.proofs.lemmas.List.{length-append}
use Rattle.std.specs.Option.{option_map}
use Rattle.sg_lex.specs.declared.token.Token.{Token}
use Rattle.sg_block.specs.declared.argument.Argument.{Argument}
use Rattle.sg_block.specs.Forms.{Next, next_argument, and_others, TakesArgument, arguments_within, arguments}

abbrev AfterForm : List Argument → Option (List Argument) → Option (List Argument)
AfterForm found others = option_map (λ (more : List Argument). found ++ more) others

after-more : (found : List Argument) (argument : Argument) (others : Option (List Argument)) → AfterForm found (option_map (λ (more : List Argument). argument ∷ more) others) ≡ AfterForm (found ++ argument ∷ []) others
after-more found argument None = refl
after-more found argument (Some others) = ap Some (sym (append_assoc found (argument ∷ []) others))

one-step : (fuel : ℕ) (rest : List Token) (next : Option Next) → 0 < length rest → next ≡ next_argument rest → arguments_within (suc fuel) rest ≡ and_others next (arguments_within fuel)
one-step fuel [] next some is = absurd (omega arith)
one-step fuel (t ∷ ts) next some is = ap (λ (o : Option Next). and_others o (arguments_within fuel)) (sym is)

append-none : {A : Type 0} (xs : List A) → xs ++ [] ≡ xs
append-none [] = refl
append-none (x ∷ xs) = ap (λ ys. x ∷ ys) (append-none xs)

-- the first step
pub arguments-start : (tokens : List Token) (found : List Argument) → found ≡ [] → arguments tokens ≡ AfterForm found (arguments_within (length tokens - length found) tokens)
arguments-start tokens found is =
    subst (λ (xs : List Argument). arguments tokens ≡ AfterForm xs (arguments_within (length tokens - length xs) tokens)) (sym is)
    (let e : length tokens ≡ length tokens - 0 = omega arith in ap (λ n. arguments_within n tokens) e ∙ front (arguments_within (length tokens - 0) tokens))
  where
    front : (o : Option (List Argument)) → o ≡ AfterForm [] o
    front None = refl
    front (Some xs) = refl

-- an argument more
pub arguments-more : (tokens rest : List Token) (found grown : List Argument) (next : Next) → arguments tokens ≡ AfterForm found (arguments_within (length tokens - length found) rest) → length rest + length found ≤ length tokens → 0 < length rest
    → Some next ≡ next_argument rest → grown ≡ found ++ next.0 ∷ [] → arguments tokens ≡ AfterForm grown (arguments_within (length tokens - length grown) next.1)
arguments-more tokens rest found grown next value within some is grows =
    let size : length grown ≡ length found + 1 = ap length grows ∙ length-append found (next.0 ∷ []) in
    let fuel : length tokens - length found ≡ suc (length tokens - length grown) = omega arith in
    value
    ∙ ap (λ n. AfterForm found (arguments_within n rest)) fuel
    ∙ ap (AfterForm found) (one-step (length tokens - length grown) rest (Some next) some is)
    ∙ after-more found next.0 (arguments_within (length tokens - length grown) next.1)
    ∙ ap (λ (xs : List Argument). AfterForm xs (arguments_within (length tokens - length grown) next.1)) (sym grows)

-- something else
pub arguments-none : (tokens rest : List Token) (found : List Argument) → arguments tokens ≡ AfterForm found (arguments_within (length tokens - length found) rest) → length rest + length found ≤ length tokens → 0 < length rest → None ≡ next_argument rest → None ≡ arguments tokens
arguments-none tokens rest found value within some is =
    let fuel : length tokens - length found ≡ suc (length tokens - length found - 1) = omega arith in
    sym (value ∙ ap (λ n. AfterForm found (arguments_within n rest)) fuel ∙ ap (AfterForm found) (one-step (length tokens - length found - 1) rest None some is))

-- the end
pub arguments-end : (tokens rest : List Token) (found : List Argument) → arguments tokens ≡ AfterForm found (arguments_within (length tokens - length found) rest) → length rest ≡ 0 → Some found ≡ arguments tokens
arguments-end tokens [] found value none = sym (value ∙ ended (length tokens - length found))
  where
    ended : (n : ℕ) → AfterForm found (arguments_within n []) ≡ Some found
    ended zero = ap Some (append-none found)
    ended (suc n) = ap Some (append-none found)
arguments-end tokens (t ∷ ts) found value none = absurd (omega arith)

pub nonempty : (n : ℕ) → eqb n 0 ≡ false → 0 < n
nonempty zero e = let wrong : true ≡ false = e in cc
nonempty (suc n) e = omega arith

-- an argument that is taken off
pub taken-more : (tokens rest later : List Token) (found grown : List Argument) (b : Bool) → b ≡ true → TakesArgument found rest grown later b → arguments tokens ≡ AfterForm found (arguments_within (length tokens - length found) rest) → length rest + length found ≤ length tokens → 0 < length rest
    → (arguments tokens ≡ AfterForm grown (arguments_within (length tokens - length grown) later)) × (length later + length grown ≤ length tokens) × (length later < length rest)
taken-more tokens rest later found grown true e taken value within some =
    let next = taken.0 in
    let size : length grown ≡ length found + 1 = ap length taken.1.1.0 ∙ length-append found (next.0 ∷ []) in
    let shorter : length later < length rest = taken.1.1.1.1 in
    (arguments-more tokens rest found grown next value within some taken.1.0 taken.1.1.0 ∙ ap (λ (xs : List Token). AfterForm grown (arguments_within (length tokens - length grown) xs)) (sym taken.1.1.1.0), omega arith, shorter)
taken-more tokens rest later found grown false e taken value within some = let wrong : false ≡ true = e in cc

pub taken-none : (tokens rest later : List Token) (found grown : List Argument) (b : Bool) → b ≡ false → TakesArgument found rest grown later b → arguments tokens ≡ AfterForm found (arguments_within (length tokens - length found) rest) → length rest + length found ≤ length tokens → 0 < length rest → None ≡ arguments tokens
taken-none tokens rest later found grown false e taken value within some = arguments-none tokens rest found value within some taken
taken-none tokens rest later found grown true e taken value within some = let wrong : true ≡ false = e in cc

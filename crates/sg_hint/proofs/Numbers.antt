-- Tokens with their places in the list.
use Rattle.std.proofs.Common.{◌≡◌, ◌++◌, ◌∙◌, sym, refl, ap, ℕ, List, [], ◌∷◌}
use Rattle.sg_lex.specs.declared.token.Token.{Token}
use Rattle.sg_hint.specs.Lines.{more}
use Rattle.sg_hint.specs.Listed.{numbered}

-- the place behind tokens
abbrev pub counted : ℕ → List Token → ℕ
counted n [] = n
counted n (token ∷ tokens) = counted (more n) tokens

pub counted_push : (n : ℕ) (tokens : List Token) (token : Token)
    → counted n (tokens ++ token ∷ []) ≡ more (counted n tokens)
counted_push n [] token = refl
counted_push n (first ∷ tokens) token = counted_push (more n) tokens token

pub numbered_push : (n : ℕ) (tokens : List Token) (token : Token)
    → numbered n (tokens ++ token ∷ []) ≡ numbered n tokens ++ (record token { line = more (counted n tokens) }) ∷ []
numbered_push n [] token = refl
numbered_push n (first ∷ tokens) token = ap (λ ts. (record first { line = more n }) ∷ ts) (numbered_push (more n) tokens token)

-- one more token
pub counted_next : (tokens : List Token) (token : Token) (count new : ℕ) → count ≡ counted 0 tokens → new ≡ more count
    → new ≡ counted 0 (tokens ++ token ∷ [])
counted_next tokens token count new a b = b ∙ (ap more a ∙ sym (counted_push 0 tokens token))

pub numbered_next : (tokens : List Token) (token : Token) (items new : List Token) (count : ℕ) → items ≡ numbered 0 tokens
    → count ≡ counted 0 tokens → new ≡ items ++ (record token { line = more count }) ∷ []
    → new ≡ numbered 0 (tokens ++ token ∷ [])
numbered_next tokens token items new count a b c = c
    ∙ (ap (λ (front : List Token). front ++ (record token { line = more count }) ∷ []) a
    ∙ (ap (λ (n : ℕ). numbered 0 tokens ++ (record token { line = more n }) ∷ []) b ∙ sym (numbered_push 0 tokens token)))

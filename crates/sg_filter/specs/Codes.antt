-- A decision as a list: what follows a check where it holds, what follows where it doesn't, and then the check.
use Rattle.std.specs.Prelude.{◌≡◌, ◌⊎◌, Bool, false, List, [], ◌∷◌, ◌++◌, refl}
use Rattle.std.specs.Coded.{Coded, code_by, coded_bool, coded_list, coded⊎}
use mathlib.Core.Logic.{inl, inr}
use mathlib.Core.Path.{ap, ◌∙◌}
use Rattle.sg_filter.specs.contracts.check.Predicate as row
use Rattle.sg_filter.specs.declared.check.Predicate.{Predicate}
use Rattle.sg_filter.specs.Decisions.{Decision, answer, ask}

abbrev Word : Type 0
Word = Bool ⊎ Predicate

abbrev words : Decision → List Word
words (answer b) = inl b ∷ []
words (ask check pass fail) = words pass ++ (words fail ++ inr check ∷ [])

-- one word, over the decisions that were read before it, the last first
abbrev taken : Word → List Decision → List Decision
taken (inl b) seen = answer b ∷ seen
taken (inr check) [] = []
taken (inr check) (fail ∷ []) = fail ∷ []
taken (inr check) (fail ∷ pass ∷ seen) = ask check pass fail ∷ seen

abbrev all_taken : List Word → List Decision → List Decision
all_taken [] seen = seen
all_taken (word ∷ more) seen = all_taken more (taken word seen)

abbrev first : List Decision → Decision
first [] = answer false
first (d ∷ ds) = d

all_taken-append : (xs ys : List Word) (seen : List Decision)
    → all_taken (xs ++ ys) seen ≡ all_taken ys (all_taken xs seen)
all_taken-append [] ys seen = refl
all_taken-append (x ∷ xs) ys seen = all_taken-append xs ys (taken x seen)

pub words-taken : (d : Decision) (seen : List Decision) → all_taken (words d) seen ≡ d ∷ seen
words-taken (answer b) seen = refl
words-taken (ask check pass fail) seen =
    all_taken-append (words pass) (words fail ++ inr check ∷ []) seen
    ∙ ap (all_taken (words fail ++ inr check ∷ [])) (words-taken pass seen)
    ∙ all_taken-append (words fail) (inr check ∷ []) (pass ∷ seen)
    ∙ ap (all_taken (inr check ∷ [])) (words-taken fail (pass ∷ seen))

-- it is stored as that list
abbrev pub decision_code : Coded Decision
decision_code = code_by (List Word) (coded_list (coded⊎ coded_bool row.the_row.coded)) words
    (λ ws. first (all_taken ws [])) (λ d. ap first (words-taken d []))

-- Texts under the paths at their places.
use Rattle.std.proofs.Common.{◌≡◌, ◌<◌, ℕ, zero, suc, ◌+◌, get_or, List, [], ◌∷◌, ◌++◌, length, take, refl, ap, ◌∙◌, arith}
use Rattle.std.specs.List.{All}
use Rattle.sg_device.specs.Paths.{PathText}
use Rattle.sg_by_path.specs.Each.{under_places}

-- a text and the path at its place
abbrev pub text_at : List (List ℕ) → ℕ → List ℕ → PathText
text_at paths place text = record { path = get_or paths place []; text = text }

-- as many as the texts
pub length-places : (paths : List (List ℕ)) (places : List ℕ) (texts : List (List ℕ)) → length places ≡ length texts → length (under_places paths places texts) ≡ length texts
length-places paths [] [] many = refl
length-places paths [] (text ∷ texts) many = absurd (omega (arith, many))
length-places paths (place ∷ places) [] many = absurd (omega (arith, many))
length-places paths (place ∷ places) (text ∷ texts) many = ap suc (length-places paths places texts (omega (arith, many)))

-- the first of them are those of the first texts
pub first-places : (k : ℕ) (paths : List (List ℕ)) (places : List ℕ) (texts : List (List ℕ)) → take k (under_places paths places texts) ≡ under_places paths (take k places) (take k texts)
first-places zero paths places texts = refl
first-places (suc k) paths [] texts = refl
first-places (suc k) paths (place ∷ places) [] = refl
first-places (suc k) paths (place ∷ places) (text ∷ texts) = ap (λ (l : List PathText). text_at paths place text ∷ l) (first-places k paths places texts)

-- one more of them
pub more-places : (i : ℕ) (paths : List (List ℕ)) (places : List ℕ) (texts : List (List ℕ)) → i < length places → i < length texts → take (i + 1) (under_places paths places texts) ≡ take i (under_places paths places texts) ++ text_at paths (get_or places i 0) (get_or texts i []) ∷ []
more-places i paths [] texts inside near = absurd (omega (arith, inside))
more-places i paths (place ∷ places) [] inside near = absurd (omega (arith, near))
more-places zero paths (place ∷ places) (text ∷ texts) inside near = refl
more-places (suc i) paths (place ∷ places) (text ∷ texts) inside near =
    let next : suc i + 1 ≡ suc (i + 1) = omega arith in
    ap (λ (n : ℕ). take n (under_places paths (place ∷ places) (text ∷ texts))) next
    ∙ ap (λ (l : List PathText). text_at paths place text ∷ l) (more-places i paths places texts (omega (arith, inside)) (omega (arith, near)))

-- a text behind the others
pub last-places : (paths : List (List ℕ)) (places : List ℕ) (place : ℕ) (texts : List (List ℕ)) (text : List ℕ) → length places ≡ length texts → under_places paths (places ++ place ∷ []) (texts ++ text ∷ []) ≡ under_places paths places texts ++ text_at paths place text ∷ []
last-places paths [] place [] text many = refl
last-places paths [] place (t ∷ texts) text many = absurd (omega (arith, many))
last-places paths (p ∷ places) place [] text many = absurd (omega (arith, many))
last-places paths (p ∷ places) place (t ∷ texts) text many = ap (λ (l : List PathText). text_at paths p t ∷ l) (last-places paths places place texts text (omega (arith, many)))

-- all places are inside of a list, and one behind them too
pub inside-last : (bound : ℕ) (places : List ℕ) (place : ℕ) → All (λ p. p < bound) places → place < bound → All (λ p. p < bound) (places ++ place ∷ [])
inside-last bound [] place all last zero d near = last
inside-last bound [] place all last (suc k) d near = absurd (omega (arith, near))
inside-last bound (p ∷ places) place all last zero d near = all zero d (omega arith)
inside-last bound (p ∷ places) place all last (suc k) d near = inside-last bound places place (λ j e lt. all (suc j) e (omega (arith, lt))) last k d (omega (arith, near))

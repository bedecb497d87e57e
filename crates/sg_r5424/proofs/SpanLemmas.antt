-- Parts of an item by their places.
use Rattle.std.proofs.Common.{◌≡◌, ◌≤◌, ℕ, ◌+◌, ◌-◌, List, [], ◌∷◌, ◌++◌, length, take, drop, refl, sym, ap, subst, ◌∙◌, append_assoc, arith}
use Rattle.std.proofs.lemmas.List.{drop-drop, length-drop}
use Rattle.sg_r5424.specs.Grammar.{IsField}
use Rattle.sg_r5424.specs.declared.take.Span.{Span}
use Rattle.sg_r5424.specs.Spans.{span_text, IsWithin, EndsItem, TakesSpan}

-- what was taken off a text that the item ends with stands at its place in the item
pub span-said : (item old new : List ℕ) (end len : ℕ) (span : Span) → length item ≡ end → EndsItem item old → TakesSpan end old new len span → span_text item span ≡ take len old
span-said item old new end len span whole ends taken =
    let size : span.to - span.from ≡ len = omega (arith, taken.to) in
    let at : span.from ≡ length item - length old = taken.from ∙ ap (λ (n : ℕ). n - length old) (sym whole) in
    ap (λ (n : ℕ). take n (drop span.from item)) size
    ∙ ap (λ (n : ℕ). take len (drop n item)) at
    ∙ ap (λ (l : List ℕ). take len l) (sym ends.rest)

pub span-within : (old new : List ℕ) (end len : ℕ) (span : Span) → length old ≤ end → len ≤ length old → TakesSpan end old new len span → IsWithin end span
span-within old new end len span shorter within taken = record { rises = omega (arith, taken.to); ends = omega (arith, taken.from, taken.to, shorter, within) }

-- what is left is what the item ends with
pub ends-more : (item old : List ℕ) (n : ℕ) → EndsItem item old → n ≤ length old → EndsItem item (drop n old)
ends-more item old n ends within =
    let left : length (drop n old) ≡ length old - n = length-drop n old in
    let at : (length item - length old) + n ≡ length item - length (drop n old) = omega (arith, left, ends.shorter, within) in
    record {
      shorter = omega (arith, left, ends.shorter);
      rest = ap (λ (l : List ℕ). drop n l) ends.rest ∙ drop-drop n (length item - length old) item ∙ ap (λ (m : ℕ). drop m item) at;
    }

-- what stands behind a front of it is what the item ends with
behind-front : (front rest : List ℕ) → drop (length front) (front ++ rest) ≡ rest
behind-front [] rest = refl
behind-front (b ∷ front) rest = behind-front front rest

front-shorter : (front rest : List ℕ) → length front ≤ length (front ++ rest)
front-shorter [] rest = omega arith
front-shorter (b ∷ front) rest = let further = front-shorter front rest in omega (arith, further)

pub ends-front : (item old front new : List ℕ) → old ≡ front ++ new → EndsItem item old → EndsItem item new
ends-front item old front new is ends =
    let behind : drop (length front) old ≡ new = ap (λ (l : List ℕ). drop (length front) l) is ∙ behind-front front new in
    let within : length front ≤ length old = subst (λ (l : List ℕ). length front ≤ length l) (sym is) (front-shorter front new) in
    subst (EndsItem item) behind (ends-more item old (length front) ends within)

pub ends-field : (item old : List ℕ) (most : ℕ) (field new : List ℕ) → IsField most old field new → EndsItem item old → EndsItem item new
ends-field item old most field new is ends = ends-front item old (field ++ 32 ∷ []) new (is.is_text ∙ sym (append_assoc field (32 ∷ []) new)) ends

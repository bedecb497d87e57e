use Rattle.std.proofs.Common.{◌≡◌, ◌+◌, ◌<◌, ◌≤◌, ◌^◌, ◌∙◌, length-append, ◌/◌, ◌%◌, ◌==◌, ◌||◌, ◌&&◌, ◌++◌, refl, sym, ap, arith, if◌then◌else◌, Bool, true, false, ℕ, zero, suc, List, [], ◌∷◌, map, replicate, length, decimal}
use Rattle.std.proofs.lemmas.Grind.{common_steps}
use Rattle.std.proofs.lemmas.Fmt.{decimal_by_steps, length-decimal-le}
use Rattle.std.proofs.lemmas.List.{length-map, length-replicate}
use Rattle.std.proofs.lemmas.List.Folds.{list_all-append}
use Rattle.std.specs.List.{list_all}
use Rattle.sg_hint.specs.Shown.{is_printable, is_told, shown_byte, IsTellable}

and-true : (a b : Bool) → a ≡ true → b ≡ true → (a && b) ≡ true
and-true a b e f = grind (arith, common_steps, e, f)

digit-told : (n : ℕ) → n < 10 → is_told (48 + n) ≡ true
digit-told n small = grind (arith, common_steps)

pub decimal-told : (n : ℕ) → n < 2 ^ 64 → list_all is_told (decimal n) ≡ true
decimal-told n small = decimal_by_steps (λ k ds. list_all is_told ds ≡ true)
    (λ k one. grind (arith, common_steps, digit-told k one))
    (λ k ds wide h. grind (arith, common_steps, list_all-append is_told ds ((48 + k % 10) ∷ []), h, digit-told (k % 10) (omega arith)))
    n small

shown-told : (byte : ℕ) → is_told (shown_byte byte) ≡ true
shown-told byte = grind (arith, common_steps)

pub bytes-told : (text : List ℕ) → list_all is_told (map shown_byte text) ≡ true
bytes-told [] = refl
bytes-told (byte ∷ text) = grind (arith, common_steps, shown-told byte, bytes-told text)

pub blanks-told : (n : ℕ) → list_all is_told (replicate n 32) ≡ true
blanks-told zero = refl
blanks-told (suc n) = blanks-told n

-- ---- texts that may be told, and are no longer than so many bytes

pub told-both : (a b : List ℕ) (m n most : ℕ) → IsTellable m a → IsTellable n b → m + n ≤ most → IsTellable most (a ++ b)
told-both a b m n most h k le = (
  list_all-append is_told a b ∙ and-true (list_all is_told a) (list_all is_told b) h.0 k.0,
  (let sum = length-append a b in omega (arith, sum, h.1, k.1, le)),
)

pub told-bytes : (text : List ℕ) (most : ℕ) → length text ≤ most → IsTellable most (map shown_byte text)
told-bytes text most le = (bytes-told text, (let same = length-map text shown_byte in omega (arith, same, le)))

pub told-blanks : (count most : ℕ) → count ≤ most → IsTellable most (replicate count 32)
told-blanks count most le = (blanks-told count, (let same = length-replicate {A = ℕ} count 32 in omega (arith, same, le)))

pub told-decimal : (n : ℕ) → n < 2 ^ 32 → IsTellable 10 (decimal n)
told-decimal n small = (
  decimal-told n (omega (arith, small)),
  length-decimal-le 10 n (omega arith) (omega (arith, small)) (omega (arith, small)),
)

pub told-more : (text : List ℕ) (less most : ℕ) → less ≤ most → IsTellable less text → IsTellable most text
told-more text less most le h = (h.0, (let few = h.1 in omega (arith, le, few)))

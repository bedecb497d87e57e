-- Lemmas on items and trimmed lines.
use Rattle.std.proofs.Common.{◌≡◌, ℕ, suc, ◌+◌, ◌-◌, ◌<◌, ◌≤◌, List, [], ◌∷◌, ◌++◌, length, take, get_or, true, false, refl, ap, sym, ◌∙◌, arith, append_assoc, ◌⊎◌, inl, inr, if◌then◌else◌}
use Rattle.std.proofs.Math.Seq.{take-length}
use Rattle.std.proofs.lemmas.List.{take_more}
use Rattle.std.proofs.lemmas.Grind.{common_steps}
use Rattle.sg_device.specs.Inlet.{Stamped}
use Rattle.sg_frame.specs.Items.{Form, Bad, is_trailing, trimmed, trimmed_onto, item_at, open_at, items, open_after}

-- the items of bytes are those of a first part, and those of the rest behind what the part left open
pub items-append : (limit place : ℕ) (form : Form) (xs ys : List Stamped)
    → items limit place form (xs ++ ys) ≡ items limit place form xs ++ items limit (place + length xs) (open_after limit place form xs) ys
items-append limit place form [] ys =
    let e : place ≡ place + 0 = omega arith in ap (λ n. items limit n form ys) e
items-append limit place form (x ∷ xs) ys =
    let e : place + 1 + length xs ≡ place + suc (length xs) = omega arith in
    ap (λ r. item_at limit place form x ++ r) (items-append limit (place + 1) (open_at limit place form x.0) xs ys)
    ∙ sym (append_assoc (item_at limit place form x) (items limit (place + 1) (open_at limit place form x.0) xs) (items limit (place + 1 + length xs) (open_after limit (place + 1) (open_at limit place form x.0) xs) ys))
    ∙ ap (λ n. (item_at limit place form x ++ items limit (place + 1) (open_at limit place form x.0) xs) ++ items limit n (open_after limit (place + 1) (open_at limit place form x.0) xs) ys) e

pub open_after-append : (limit place : ℕ) (form : Form) (xs ys : List Stamped)
    → open_after limit place form (xs ++ ys) ≡ open_after limit (place + length xs) (open_after limit place form xs) ys
open_after-append limit place form [] ys =
    let e : place ≡ place + 0 = omega arith in ap (λ n. open_after limit n form ys) e
open_after-append limit place form (x ∷ xs) ys =
    let e : place + 1 + length xs ≡ place + suc (length xs) = omega arith in
    open_after-append limit (place + 1) (open_at limit place form x.0) xs ys
    ∙ ap (λ n. open_after limit n (open_after limit (place + 1) (open_at limit place form x.0) xs) ys) e

-- behind a bad byte nothing is an item
pub items-bad : (limit place bad : ℕ) (bytes : List Stamped) → items limit place (Bad bad) bytes ≡ []
items-bad limit place bad [] = refl
items-bad limit place bad (b ∷ bytes) = items-bad limit (place + 1) bad bytes

pub open_after-bad : (limit place bad : ℕ) (bytes : List Stamped) → open_after limit place (Bad bad) bytes ≡ Bad bad
open_after-bad limit place bad [] = refl
open_after-bad limit place bad (b ∷ bytes) = open_after-bad limit (place + 1) bad bytes

pub trimmed-blank : (text : List ℕ) (b : ℕ) → is_trailing b ≡ true → trimmed (text ++ b ∷ []) ≡ trimmed text
trimmed-blank [] b h = rw h refl
trimmed-blank (c ∷ text) b h = ap (trimmed_onto c) (trimmed-blank text b h)

onto-full : (c : ℕ) (text : List ℕ) (b : ℕ) → trimmed_onto c (text ++ b ∷ []) ≡ c ∷ (text ++ b ∷ [])
onto-full c [] b = refl
onto-full c (d ∷ text) b = refl

pub trimmed-kept : (text : List ℕ) (b : ℕ) → is_trailing b ≡ false → trimmed (text ++ b ∷ []) ≡ text ++ b ∷ []
trimmed-kept [] b h = rw h refl
trimmed-kept (c ∷ text) b h = ap (trimmed_onto c) (trimmed-kept text b h) ∙ onto-full c text b

last-split : (text : List ℕ) → 0 < length text → text ≡ take (length text - 1) text ++ get_or text (length text - 1) 0 ∷ []
last-split text h =
    let one : length text ≡ length text - 1 + 1 = omega arith in
    let below : length text - 1 < length text = omega arith in
    sym (take-length text) ∙ ap (λ n. take n text) one ∙ take_more text (length text - 1) 0 below

pub trimmed-last_kept : (text : List ℕ) → 0 < length text → is_trailing (get_or text (length text - 1) 0) ≡ false → trimmed text ≡ text
trimmed-last_kept text h kept = ap trimmed (last-split text h) ∙ trimmed-kept (take (length text - 1) text) (get_or text (length text - 1) 0) kept ∙ sym (last-split text h)

pub trimmed-last_blank : (text : List ℕ) → 0 < length text → is_trailing (get_or text (length text - 1) 0) ≡ true → trimmed (take (length text - 1) text) ≡ trimmed text
trimmed-last_blank text h blank = sym (trimmed-blank (take (length text - 1) text) (get_or text (length text - 1) 0) blank) ∙ sym (ap trimmed (last-split text h))

pub is_trailing-no : (b : ℕ) → (b ≡ 13 → ⊥) → (b ≡ 0 → ⊥) → is_trailing b ≡ false
is_trailing-no b h k = grind (arith, common_steps)

pub is_trailing-yes : (b : ℕ) → (b ≡ 13) ⊎ (b ≡ 0) → is_trailing b ≡ true
is_trailing-yes b (inl h) = rw h refl
is_trailing-yes b (inr h) = rw h refl

-- a trimmed line is the front of the line
onto-front : (b : ℕ) (text rest : List ℕ) → take (length rest) text ≡ rest → take (length (trimmed_onto b rest)) (b ∷ text) ≡ trimmed_onto b rest
onto-front b text [] h = elim (is_trailing b) as (λ t. take (length (if t then [] else b ∷ [])) (b ∷ text) ≡ (if t then [] else b ∷ [])) [ true ↦ refl | false ↦ refl ]
onto-front b text (c ∷ rest) h = ap (λ r. b ∷ r) h

pub take-trimmed : (line : List ℕ) → take (length (trimmed line)) line ≡ trimmed line
take-trimmed [] = refl
take-trimmed (b ∷ line) = onto-front b line (trimmed line) (take-trimmed line)

onto-short : (b : ℕ) (rest : List ℕ) (n : ℕ) → length rest ≤ n → length (trimmed_onto b rest) ≤ suc n
onto-short b [] n h = elim (is_trailing b) as (λ t. length (if t then [] else b ∷ []) ≤ suc n) [ true ↦ omega arith | false ↦ omega arith ]
onto-short b (c ∷ rest) n h = omega arith

pub length-trimmed-le : (line : List ℕ) → length (trimmed line) ≤ length line
length-trimmed-le [] = omega arith
length-trimmed-le (b ∷ line) = onto-short b (trimmed line) (length line) (length-trimmed-le line)

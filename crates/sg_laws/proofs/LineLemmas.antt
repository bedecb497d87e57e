-- The items of a file that is read by lines end where a record of it may end.
use Rattle.std.proofs.Common.{◌≡◌, ℕ, ◌+◌, ◌-◌, ◌<◌, ◌≤◌, List, [], ◌∷◌, ◌++◌, length, take, drop, map, Bool, true, false, not, ◌&&◌, ◌||◌, refl, sym, ap, ◌∙◌, subst, arith, inl, inr, if◌then◌else◌, append_assoc}
use Rattle.std.specs.Prelude.{ℤ, pos, ◌^◌, ◌==◌, nat_lt, nat_le, slice_index, Contains}
use Rattle.std.specs.List.{list_all}
use Rattle.std.proofs.lemmas.List.{append-nil, length-append, length_push}
use Rattle.sg_device.specs.DiskBytes.{part}
use Rattle.sg_device.specs.Inlet.{Stamped, stamped}
use Rattle.sg_outside.specs.World.{is_record_end, place_in}
use Rattle.sg_frame.specs.declared.kind.FrameKind.TheVariants.{Lines}
use Rattle.sg_frame.specs.Items.{Item, Text, trimmed, items}
use Rattle.sg_frame.specs.Scans.{plain}
use Rattle.sg_machine.proofs.RunLemmas.{both-true}
use Rattle.sg_laws.specs.Pieces.{Piece, piece_of}
use Rattle.sg_laws.specs.Resuming.{IsReadingBegun}
use Rattle.sg_laws.proofs.HasLemmas.{has-nil, has-cons}
use Rattle.sg_laws.proofs.PieceLemmas.{true-lt}
use Rattle.sg_machine.proofs.WindowLaws.{both-join}

-- a record of the file may end at this place
abbrev IsLineEnd : ℕ → List ℕ → ℕ → Type 0
IsLineEnd limit bytes place = (is_record_end limit bytes place ≡ true) × (place ≤ length bytes)

abbrev is_text : ℕ → Bool
is_text byte = not (byte == 10)

le-true : (a b : ℕ) → a ≤ b → nat_le a b ≡ true
le-true a b h = grind (arith, h)

-- Behind an LF.

ends-if : (a b c : Bool) → b ≡ true → (a || (b || c)) ≡ true
ends-if true b c h = refl
ends-if false b c h = rw h refl

index-behind : (seen : List ℕ) (b : ℕ) (rest : List ℕ) → slice_index (seen ++ b ∷ rest) (length seen) ≡ b
index-behind [] b rest = refl
index-behind (x ∷ seen) b rest = index-behind seen b rest

end-lf : (limit : ℕ) (seen : List ℕ) (b : ℕ) (rest : List ℕ) → (b == 10) ≡ true → IsLineEnd limit (seen ++ b ∷ rest) (length seen + 1)
end-lf limit seen b rest q =
    let bytes = seen ++ b ∷ rest in
    let n = length seen + 1 in
    let back : n - 1 ≡ length seen = omega arith in
    let is : (slice_index bytes (n - 1) == 10) ≡ true = ap (λ (k : ℕ). slice_index bytes k == 10) back ∙ ap (λ (x : ℕ). x == 10) (index-behind seen b rest) ∙ q in
    let long = length-append seen (b ∷ rest) in
    (ends-if (n == 0) (slice_index bytes (n - 1) == 10) (nat_le limit n && list_all is_text (part (n - limit) limit bytes)) is, omega (arith, long))

-- Behind a piece of a line that was cut.

ends-cut-if : (a b c d : Bool) → c ≡ true → d ≡ true → (a || (b || (c && d))) ≡ true
ends-cut-if true b c d h k = refl
ends-cut-if false true c d h k = refl
ends-cut-if false false c d h k = rw (h, k) refl

drop-first : (xs ys : List ℕ) → drop (length xs) (xs ++ ys) ≡ ys
drop-first [] ys = refl
drop-first (x ∷ xs) ys = drop-first xs ys

take-first : (xs ys : List ℕ) → take (length xs) (xs ++ ys) ≡ xs
take-first [] ys = refl
take-first (x ∷ xs) ys = ap (λ (zs : List ℕ). x ∷ zs) (take-first xs ys)

end-cut : (limit : ℕ) (before line rest : List ℕ) → length line ≡ limit → list_all is_text line ≡ true → IsLineEnd limit ((before ++ line) ++ rest) (length (before ++ line))
end-cut limit before line rest full clear =
    let bytes = (before ++ line) ++ rest in
    let n = length (before ++ line) in
    let long = length-append before line in
    let all = length-append (before ++ line) rest in
    let at : n - limit ≡ length before = omega (arith, long, full) in
    let is : part (n - limit) limit bytes ≡ line =
    ap (λ (k : ℕ). take limit (drop k bytes)) at
    ∙ ap (λ (bs : List ℕ). take limit (drop (length before) bs)) (append_assoc before line rest)
    ∙ ap (take limit) (drop-first before (line ++ rest))
    ∙ ap (λ (k : ℕ). take k (line ++ rest)) (sym full)
    ∙ take-first line rest in
    let low = le-true limit n (omega (arith, long, full)) in
    (ends-cut-if (n == 0) (slice_index bytes (n - 1) == 10) (nat_le limit n) (list_all is_text (part (n - limit) limit bytes)) low (ap (list_all is_text) is ∙ clear), omega (arith, all))

-- Lines.

clear-push : (line : List ℕ) (b : ℕ) → list_all is_text line ≡ true → (b == 10) ≡ false → list_all is_text (line ++ b ∷ []) ≡ true
clear-push [] b h q = rw q refl
clear-push (x ∷ line) b h q =
    let p = both-true (is_text x) (list_all is_text line) h in
    both-join (is_text x) (list_all is_text (line ++ b ∷ [])) p.0 (clear-push line b p.1 q)

-- so it is of an item behind the next byte, whatever stands open of a line then
abbrev EndsLater : ℕ → List ℕ → ℕ → List Stamped → Piece → Type 0
EndsLater limit bytes place rest x = (before line : List ℕ) → (before ++ line) ++ plain rest ≡ bytes → length (before ++ line) ≡ place → list_all is_text line ≡ true → Contains (map piece_of (items limit place (Text line) rest)) x → IsLineEnd limit bytes x.end

-- one byte on, by whether it is an LF, and whether the line is as long as it may be
line-ends-if : (limit : ℕ) (bytes before line : List ℕ) (place : ℕ) (b : Stamped) (rest : List Stamped) (x : Piece) (lf full : Bool) → (b.0 == 10) ≡ lf → (length line == limit) ≡ full → (before ++ line) ++ plain (b ∷ rest) ≡ bytes → length (before ++ line) ≡ place
    → list_all is_text line ≡ true → Contains (map piece_of (items limit place (Text line) (b ∷ rest))) x → EndsLater limit bytes (place + 1) rest x → IsLineEnd limit bytes x.end
line-ends-if limit bytes before line place b rest x true full q r are at clear c later =
    let seen = before ++ line in
    let item : Item = record { text = trimmed line; at = b.1; end = place + 1 } in
    let others = items limit (place + 1) (Text []) rest in
    let one : items limit place (Text line) (b ∷ rest) ≡ item ∷ others = rw q refl in
    let P : List Item → Type 0 = λ xs. Contains (map piece_of xs) x in
    let E : ℕ → Type 0 = λ n. IsLineEnd limit bytes n in
    let B : List ℕ → Type 0 = λ bs. IsLineEnd limit bs (length seen + 1) in
    let more : length (seen ++ b.0 ∷ []) ≡ place + 1 = length_push seen b.0 ∙ ap (λ (n : ℕ). n + 1) at in
    let whole = append-nil (seen ++ b.0 ∷ []) in
    elim (has-cons (piece_of item) (map piece_of others) x (subst P one c)) [
      | inl e ↦ (
          let end : length seen + 1 ≡ x.end = ap (λ (n : ℕ). n + 1) at ∙ ap (λ (y : Piece). y.end) e in
          subst E end (subst B are (end-lf limit seen b.0 (plain rest) q)))
      | inr t ↦ later (seen ++ b.0 ∷ []) [] (ap (λ (bs : List ℕ). bs ++ plain rest) whole ∙ append_assoc seen (b.0 ∷ []) (plain rest) ∙ are) (ap length whole ∙ more) refl t
    ]
line-ends-if limit bytes before line place b rest x false true q r are at clear c later =
    let seen = before ++ line in
    let full : length line ≡ limit = grind (arith, r) in
    let item : Item = record { text = trimmed line; at = b.1; end = place } in
    let others = items limit (place + 1) (Text (b.0 ∷ [])) rest in
    let one : items limit place (Text line) (b ∷ rest) ≡ item ∷ others = rw (q, r) refl in
    let P : List Item → Type 0 = λ xs. Contains (map piece_of xs) x in
    let E : ℕ → Type 0 = λ n. IsLineEnd limit bytes n in
    let B : List ℕ → Type 0 = λ bs. IsLineEnd limit bs (length seen) in
    let more : length (seen ++ b.0 ∷ []) ≡ place + 1 = length_push seen b.0 ∙ ap (λ (n : ℕ). n + 1) at in
    elim (has-cons (piece_of item) (map piece_of others) x (subst P one c)) [
      | inl e ↦ (
          let end : length seen ≡ x.end = at ∙ ap (λ (y : Piece). y.end) e in
          subst E end (subst B are (end-cut limit before line (plain (b ∷ rest)) full clear)))
      | inr t ↦ later seen (b.0 ∷ []) (append_assoc seen (b.0 ∷ []) (plain rest) ∙ are) more (clear-push [] b.0 refl q) t
    ]
line-ends-if limit bytes before line place b rest x false false q r are at clear c later =
    let none : items limit place (Text line) (b ∷ rest) ≡ items limit (place + 1) (Text (line ++ b.0 ∷ [])) rest = rw (q, r) refl in
    let P : List Item → Type 0 = λ xs. Contains (map piece_of xs) x in
    let same : before ++ (line ++ b.0 ∷ []) ≡ (before ++ line) ++ b.0 ∷ [] = sym (append_assoc before line (b.0 ∷ [])) in
    later before (line ++ b.0 ∷ []) (ap (λ (bs : List ℕ). bs ++ plain rest) same ∙ append_assoc (before ++ line) (b.0 ∷ []) (plain rest) ∙ are)
    (ap length same ∙ length_push (before ++ line) b.0 ∙ ap (λ (n : ℕ). n + 1) at) (clear-push line b.0 clear q) (subst P none c)

-- an item of the bytes from here on, where so much stands open of a line
line-ends : (limit : ℕ) (bytes : List ℕ) (place : ℕ) (rest : List Stamped) (x : Piece) → EndsLater limit bytes place rest x
line-ends limit bytes place [] x before line are at clear c = absurd (has-nil x c)
line-ends limit bytes place (b ∷ rest) x before line are at clear c =
    line-ends-if limit bytes before line place b rest x (b.0 == 10) (length line == limit) refl refl are at clear c (line-ends limit bytes (place + 1) rest x)

plain-stamped : (xs : List ℕ) (at : ℤ) → plain (stamped xs at) ≡ xs
plain-stamped [] at = refl
plain-stamped (x ∷ xs) at = ap (λ (ys : List ℕ). x ∷ ys) (plain-stamped xs at)

begun-end : (limit : ℕ) (bytes : List ℕ) (place : ℕ) → IsReadingBegun Lines limit bytes place → IsLineEnd limit bytes place
begun-end limit bytes place (inl none) = let E : ℕ → Type 0 = λ n. IsLineEnd limit bytes n in let first : E 0 = (refl, omega arith) in subst E (sym none) first
begun-end limit bytes place (inr y) = let E : ℕ → Type 0 = λ n. IsLineEnd limit bytes n in subst E y.1.1 (line-ends limit bytes 0 (stamped bytes (pos 0)) y.0 [] [] (plain-stamped bytes (pos 0)) refl refl y.1.0)

place-if : (a b c : Bool) (n : ℕ) → a ≡ true → b ≡ true → c ≡ true → (let at : ℕ = (if a && (b && c) then n else 0) in at ≡ n)
place-if a b c n h k l = rw (h, k, l) refl

-- so that the file is read on from there
pub read-on-from : (limit : ℕ) (bytes : List ℕ) (place : ℕ) → IsReadingBegun Lines limit bytes place → place < 2 ^ 63 → place_in limit bytes place ≡ place
read-on-from limit bytes place begun low =
    let e = begun-end limit bytes place begun in
    place-if (nat_le place (length bytes)) (nat_lt place (2 ^ 63)) (is_record_end limit bytes place) place (le-true place (length bytes) e.1) (true-lt place (2 ^ 63) low) e.0

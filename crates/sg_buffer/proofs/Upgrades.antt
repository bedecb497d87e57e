-- Entries of format 1 in format 2.
use Rattle.std.proofs.Common.{◌≡◌, ℕ, zero, suc, ◌+◌, ◌^◌, ◌≤◌, Bool, true, false, cond, leb, List, [], ◌∷◌, length, Result, Ok, Err, refl, ap, ◌∙◌, arith}
use Rattle.std.specs.Prelude.{◌&&◌}
use Rattle.std.proofs.lemmas.Bool.{leb-true, le-leb, and_parts, and_from}
use Rattle.sg_codec.specs.declared.kept.Kept.{Kept}
use Rattle.sg_msg.specs.Length.{encoded_len}
use Rattle.sg_codec.specs.Reading.{entry_at, placed, reading}
use Rattle.sg_codec.specs.Spelling.{spelling2, Spells1, Spells2}
use Rattle.sg_buffer.specs.Formats.{is_format1, is_older, is_payload, payload_or, renewed, upgraded}
use Rattle.sg_codec.proofs.WriteLemmas.{length-spelling}
use Rattle.sg_buffer.proofs.Lengths.{format1-len}

placed-ok : (count : ℕ) (r : Result Kept ℕ) (kept : Kept) → placed count r ≡ Ok kept → r ≡ Ok kept
placed-ok count (Ok k) kept e = e
placed-ok count (Err left) kept e = absurd cc

first-len : (bytes : List ℕ) (kept : Kept) → is_format1 bytes ≡ true → entry_at bytes ≡ Ok kept → encoded_len kept.message ≤ length bytes + 14
unfolding entry_at
first-len [] kept is e = absurd cc
first-len (zero ∷ rest) kept is e = absurd cc
first-len (suc zero ∷ rest) kept is e = omega (arith, format1-len rest kept e)
first-len (suc (suc other) ∷ rest) kept is e = absurd cc

-- in format 2 an entry of format 1 has at most 14 bytes more
pub entry-len : (bytes : List ℕ) (kept : Kept) → is_format1 bytes ≡ true → reading bytes ≡ Ok kept → encoded_len kept.message ≤ length bytes + 14
unfolding reading
entry-len bytes kept is e = first-len bytes kept is (placed-ok (length bytes) (entry_at bytes) kept e)

-- the first byte of a spelling
pub spells1-first : (kept : Kept) (bytes : List ℕ) → Spells1 kept bytes → is_format1 bytes ≡ true
spells1-first kept bytes one = ap is_format1 one.spelled

pub spells2-first : (kept : Kept) (bytes : List ℕ) → Spells2 kept bytes → is_format1 bytes ≡ false
spells2-first kept bytes two = ap is_format1 two.spelled

-- an entry of format 1 is no longer than a payload in format 2
pub older-len : (bytes : List ℕ) (kept : Kept) → is_older bytes ≡ true → reading bytes ≡ Ok kept → encoded_len kept.message ≤ 2 ^ 30 + 64
unfolding reading
older-len bytes kept is e =
    let parts = and_parts (is_format1 bytes) (leb (length bytes) (2 ^ 30)) is in
    omega (arith, leb-true (length bytes) (2 ^ 30) parts.1, first-len bytes kept parts.0 (placed-ok (length bytes) (entry_at bytes) kept e))

chosen : (test : Bool) (new old : List ℕ) → test ≡ true → cond test new old ≡ new
chosen true new old e = refl
chosen false new old e = absurd cc

others : (test : Bool) (new old : List ℕ) → test ≡ false → cond test new old ≡ old
others true new old e = absurd cc
others false new old e = refl

same : (test : Bool) (bytes : List ℕ) → cond test bytes bytes ≡ bytes
same true bytes = refl
same false bytes = refl

-- an entry of format 1 is in format 2
pub upgraded-entry : (bytes : List ℕ) (kept : Kept) → is_older bytes ≡ true → reading bytes ≡ Ok kept → upgraded bytes ≡ spelling2 kept
unfolding upgraded
upgraded-entry bytes kept is e =
    let new = spelling2 kept in
    let some : leb 1 (length new) ≡ true = le-leb 1 (length new) (omega (arith, length-spelling kept)) in
    let limit : leb (length new) (2 ^ 30 + 64) ≡ true = le-leb (length new) (2 ^ 30 + 64) (omega (arith, length-spelling kept, older-len bytes kept is e)) in
    let found : cond (is_older bytes) (renewed bytes (reading bytes)) bytes ≡ new = chosen (is_older bytes) (renewed bytes (reading bytes)) bytes is ∙ ap (λ (r : Result Kept ℕ). renewed bytes r) e in
    ap (λ (n : List ℕ). payload_or bytes n) found ∙ chosen (is_payload new) new bytes (and_from (leb 1 (length new)) (leb (length new) (2 ^ 30 + 64)) some limit)

-- bytes that are no entry stay
pub upgraded-damaged : (bytes : List ℕ) (place : ℕ) → is_older bytes ≡ true → reading bytes ≡ Err place → upgraded bytes ≡ bytes
unfolding upgraded
upgraded-damaged bytes place is e =
    let found : cond (is_older bytes) (renewed bytes (reading bytes)) bytes ≡ bytes = chosen (is_older bytes) (renewed bytes (reading bytes)) bytes is ∙ ap (λ (r : Result Kept ℕ). renewed bytes r) e in
    ap (λ (n : List ℕ). payload_or bytes n) found ∙ same (is_payload bytes) bytes

-- all other bytes stay
pub upgraded-same : (bytes : List ℕ) → is_older bytes ≡ false → upgraded bytes ≡ bytes
unfolding upgraded
upgraded-same bytes is =
    let found : cond (is_older bytes) (renewed bytes (reading bytes)) bytes ≡ bytes = others (is_older bytes) (renewed bytes (reading bytes)) bytes is in
    ap (λ (n : List ℕ). payload_or bytes n) found ∙ same (is_payload bytes) bytes

-- an entry of format 1 begins as one
pub spells1-older : (kept : Kept) (bytes : List ℕ) → Spells1 kept bytes → length bytes ≤ 2 ^ 30 → is_older bytes ≡ true
spells1-older kept bytes one few =
    let first : is_format1 bytes ≡ true = ap is_format1 one.spelled in
    and_from (is_format1 bytes) (leb (length bytes) (2 ^ 30)) first (le-leb (length bytes) (2 ^ 30) few)

not-both : (a b : Bool) → a ≡ false → (a && b) ≡ false
not-both true b e = absurd cc
not-both false b e = refl

-- an entry of format 2 doesn't
pub spells2-newer : (kept : Kept) (bytes : List ℕ) → Spells2 kept bytes → is_older bytes ≡ false
spells2-newer kept bytes two =
    let first : is_format1 bytes ≡ false = ap is_format1 two.spelled in
    not-both (is_format1 bytes) (leb (length bytes) (2 ^ 30)) first

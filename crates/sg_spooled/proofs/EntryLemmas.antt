-- Entries, one behind another, and their lines.
use Rattle.std.proofs.Common.{◌≡◌, ℕ, ◌+◌, true, false, Option, Some, None, List, [], ◌∷◌, ◌++◌, length, refl, sym, ◌∙◌, ap, subst, arith, append_assoc}
use Rattle.std.proofs.lemmas.List.{append-nil}
use Rattle.sg_codec.specs.declared.kept.Kept.{Kept}
use Rattle.sg_spool.specs.Ring.{Entries}
use Rattle.sg_spooled.specs.Entries.{SpooledRow, IsPayloadRow, IsNoEntry, AreRowsStored, payloads_of, row_line, row_lines}

-- one entry more

pub stored-more : (rows : List SpooledRow) (row : SpooledRow) → AreRowsStored rows → IsPayloadRow row.kept row.payload → AreRowsStored (rows ++ row ∷ [])
stored-more [] row all one = (one, tt)
stored-more (first ∷ rows) row all one = (all.0, stored-more rows row all.1 one)

pub payloads-before : (rows : List SpooledRow) (row : SpooledRow) (rest : Entries) → payloads_of (rows ++ row ∷ []) ++ rest ≡ payloads_of rows ++ row.payload ∷ rest
payloads-before [] row rest = refl
payloads-before (first ∷ rows) row rest = ap (λ (xs : Entries). first.payload ∷ xs) (payloads-before rows row rest)

pub payloads-more : (rows : List SpooledRow) (row : SpooledRow) → payloads_of (rows ++ row ∷ []) ≡ payloads_of rows ++ row.payload ∷ []
payloads-more [] row = refl
payloads-more (first ∷ rows) row = ap (λ (xs : Entries). first.payload ∷ xs) (payloads-more rows row)

pub count-payloads : (rows : List SpooledRow) → length (payloads_of rows) ≡ length rows
count-payloads [] = refl
count-payloads (row ∷ rows) = (let same = count-payloads rows in omega (arith, same))

pub lines-more : (number : ℕ) (rows : List SpooledRow) (row : SpooledRow) → row_lines number (rows ++ row ∷ []) ≡ row_lines number rows ++ row_line (number + length rows) row
lines-more number [] row =
    let same : number + 0 ≡ number = omega arith in
    append-nil (row_line number row) ∙ ap (λ (n : ℕ). row_line n row) (sym same)
lines-more number (first ∷ rows) row =
    let same : number + 1 + length rows ≡ number + length (first ∷ rows) = omega arith in
    ap (λ (xs : List ℕ). row_line number first ++ xs) (lines-more (number + 1) rows row)
    ∙ (sym (append_assoc (row_line number first) (row_lines (number + 1) rows) (row_line (number + 1 + length rows) row))
    ∙ ap (λ (n : ℕ). (row_line number first ++ row_lines (number + 1) rows) ++ row_line n row) same)

-- what is an entry or a frame isn't neither
no-row : (kept : Option Kept) (payload : List ℕ) → IsPayloadRow kept payload → IsNoEntry payload → ⊥
no-row (Some kept) payload row bad = bad.0 kept row
no-row None payload row bad = let wrong : true ≡ false = sym row ∙ bad.1 in cc

-- an entry of a list of entries is one
pub stored-among : (rows others : List SpooledRow) (payload : List ℕ) (rest : Entries) → AreRowsStored others → payloads_of others ≡ payloads_of rows ++ payload ∷ rest → IsNoEntry payload → ⊥
stored-among [] [] payload rest all same bad = cc
stored-among [] (other ∷ others) payload rest all same bad =
    let is : other.payload ≡ payload = cc in
    no-row other.kept payload (subst (IsPayloadRow other.kept) is all.0) bad
stored-among (row ∷ rows) [] payload rest all same bad = cc
stored-among (row ∷ rows) (other ∷ others) payload rest all same bad =
    let behind : payloads_of others ≡ payloads_of rows ++ payload ∷ rest = cc in
    stored-among rows others payload rest all.1 behind bad

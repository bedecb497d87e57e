-- The lines of source drivers are those of their sums.
use Rattle.std.proofs.Common.{◌≡◌, ◌<◌, ℕ, ◌+◌, ◌^◌, zero, suc, Bool, true, false, ◌==◌, if◌then◌else◌, List, [], ◌∷◌, ◌++◌, refl, ap, sym, ◌∙◌, arith, inl, inr}
use Rattle.std.specs.List.{sum_by}
use Rattle.std.proofs.lemmas.List.Sums.{sum_by_push, sum_by-cons}
use Rattle.sg_report.specs.declared.line.SourceLine.{SourceLine}
use Rattle.sg_report.specs.Report.{joined, sum_of, line_text, driver_lines}
use Rattle.sg_report.specs.Sums.{inlets_of, total, position_in, summed, driver_texts, Ascend, AreCounts, SumsUp}

-- one inlet more
total-push : (count : SourceLine → ℕ) (inlets : List SourceLine) (inlet : SourceLine) → sum_of (total count inlets) (count inlet) ≡ total count (inlets ++ inlet ∷ [])
total-push count inlets inlet = let more : sum_by count (inlets ++ inlet ∷ []) ≡ sum_by count inlets + count inlet = sum_by_push count inlets inlet in omega arith

position-push : (first : SourceLine) (inlets : List SourceLine) (inlet : SourceLine) → position_in ((first ∷ inlets) ++ inlet ∷ []) ≡ first.position
position-push first inlets inlet = refl

summed-push : (driver : ℕ) (first : SourceLine) (inlets : List SourceLine) (inlet : SourceLine)
    → joined (summed driver (first ∷ inlets)) inlet ≡ summed driver ((first ∷ inlets) ++ inlet ∷ [])
summed-push driver first inlets inlet =
    rw (total-push (λ i. i.records) (first ∷ inlets) inlet, total-push (λ i. i.bad_frames) (first ∷ inlets) inlet) refl

total-one : (count : SourceLine → ℕ) (inlet : SourceLine) → count inlet < 2 ^ 64 → total count (inlet ∷ []) ≡ count inlet
total-one count inlet less = let one : sum_by count (inlet ∷ []) ≡ count inlet + 0 = sum_by-cons count inlet [] in omega arith

summed-one : (driver : ℕ) (inlet : SourceLine) → inlet.driver ≡ driver → inlet.records < 2 ^ 64 → inlet.bad_frames < 2 ^ 64 → summed driver (inlet ∷ []) ≡ inlet
summed-one driver inlet is records bad =
    rw (total-one (λ i. i.records) inlet records, total-one (λ i. i.bad_frames) inlet bad, sym is) refl

-- an inlet of the driver, and one of another
if-so : {A : Type 0} (b : Bool) (x y : A) → b ≡ true → (if b then x else y) ≡ x
if-so true x y is = refl
if-so false x y is = absurd (let wrong : false ≡ true = is in cc)

if-not : {A : Type 0} (b : Bool) (x y : A) → b ≡ false → (if b then x else y) ≡ y
if-not true x y is = absurd (let wrong : true ≡ false = is in cc)
if-not false x y is = refl

inlets-same : (driver : ℕ) (inlet : SourceLine) (inlets : List SourceLine) → inlet.driver ≡ driver → inlets_of driver (inlet ∷ inlets) ≡ inlet ∷ inlets_of driver inlets
inlets-same driver inlet inlets is = if-so (inlet.driver == driver) (inlet ∷ inlets_of driver inlets) (inlets_of driver inlets) (grind arith)

inlets-other : (driver other : ℕ) (inlet : SourceLine) (inlets : List SourceLine) → inlet.driver ≡ other → (other ≡ driver → ⊥) → inlets_of driver (inlet ∷ inlets) ≡ inlets_of driver inlets
inlets-other driver other inlet inlets is differs = if-not (inlet.driver == driver) (inlet ∷ inlets_of driver inlets) (inlets_of driver inlets) (grind arith)

-- an inlet of an earlier driver
texts-later : (driver count other : ℕ) (inlet : SourceLine) (inlets : List SourceLine) → inlet.driver ≡ other → other < driver
    → driver_texts driver count (inlet ∷ inlets) ≡ driver_texts driver count inlets
texts-later driver zero other inlet inlets is less = refl
texts-later driver (suc n) other inlet inlets is less =
    ap (λ own. line_text (summed driver own) ++ driver_texts (driver + 1) n (inlet ∷ inlets)) (inlets-other driver other inlet inlets is (λ e. omega (arith, e, less)))
    ∙ ap (λ rest. line_text (summed driver (inlets_of driver inlets)) ++ rest) (texts-later (driver + 1) n other inlet inlets is (omega (arith, less)))

-- none is left of a driver behind which another one began
none-left : (driver at more : ℕ) (inlets : List SourceLine) → driver < at → Ascend at more inlets → inlets_of driver inlets ≡ []
none-left driver at zero [] less h = refl
none-left driver at (suc n) [] less h = absurd h
none-left driver at zero (inlet ∷ inlets) less h =
    inlets-other driver at inlet inlets h.0 (λ e. omega (arith, e, less)) ∙ none-left driver at zero inlets less h.1
none-left driver at (suc n) (inlet ∷ inlets) less (inl h) =
    inlets-other driver at inlet inlets h.0 (λ e. omega (arith, e, less)) ∙ none-left driver at (suc n) inlets less h.1
none-left driver at (suc n) (inlet ∷ inlets) less (inr h) =
    inlets-other driver (at + 1) inlet inlets h.0 (λ e. omega (arith, e, less)) ∙ none-left driver (at + 1) n inlets (omega (arith, less)) h.1

append-none : (xs : List SourceLine) → xs ++ [] ≡ xs
append-none [] = refl
append-none (x ∷ xs) = ap (λ rest. x ∷ rest) (append-none xs)

append-more : (xs : List SourceLine) (y : SourceLine) (ys : List SourceLine) → (xs ++ y ∷ []) ++ ys ≡ xs ++ (y ∷ ys)
append-more [] y ys = refl
append-more (x ∷ xs) y ys = ap (λ rest. x ∷ rest) (append-more xs y ys)

bytes-none : (xs : List ℕ) → xs ++ [] ≡ xs
bytes-none [] = refl
bytes-none (x ∷ xs) = ap (λ rest. x ∷ rest) (bytes-none xs)

-- what is said of a driver and of those behind it, where these of its inlets were joined
abbrev all-texts : (driver more : ℕ) → List SourceLine → List SourceLine → List ℕ
all-texts driver more own inlets = line_text (summed driver (own ++ inlets_of driver inlets)) ++ driver_texts (driver + 1) more inlets

-- another inlet of the driver
same-driver : (driver more : ℕ) (first : SourceLine) (own : List SourceLine) (inlet : SourceLine) (inlets : List SourceLine) → inlet.driver ≡ driver
    → driver_lines (summed driver ((first ∷ own) ++ inlet ∷ [])) inlets ≡ all-texts driver more ((first ∷ own) ++ inlet ∷ []) inlets
    → driver_lines (summed driver (first ∷ own)) (inlet ∷ inlets) ≡ all-texts driver more (first ∷ own) (inlet ∷ inlets)
same-driver driver more first own inlet inlets is before =
    let sum : SourceLine = summed driver (first ∷ own) in
    if-so (inlet.driver == driver) (driver_lines (joined sum inlet) inlets) (line_text sum ++ driver_lines inlet inlets) (grind arith)
    ∙ ap (λ s. driver_lines s inlets) (summed-push driver first own inlet)
    ∙ before
    ∙ ap (λ all. line_text (summed driver all) ++ driver_texts (driver + 1) more inlets)
    (append-more (first ∷ own) inlet (inlets_of driver inlets) ∙ ap (λ rest. (first ∷ own) ++ rest) (sym (inlets-same driver inlet inlets is)))
    ∙ ap (λ rest. line_text (summed driver ((first ∷ own) ++ inlets_of driver (inlet ∷ inlets))) ++ rest)
    (sym (texts-later (driver + 1) more driver inlet inlets is (omega arith)))

-- the first inlet of the next driver
next-driver : (driver more : ℕ) (first : SourceLine) (own : List SourceLine) (inlet : SourceLine) (inlets : List SourceLine) → inlet.driver ≡ driver + 1 → Ascend (driver + 1) more inlets
    → inlet.records < 2 ^ 64 → inlet.bad_frames < 2 ^ 64
    → driver_lines (summed (driver + 1) (inlet ∷ [])) inlets ≡ all-texts (driver + 1) more (inlet ∷ []) inlets
    → driver_lines (summed driver (first ∷ own)) (inlet ∷ inlets) ≡ all-texts driver (suc more) (first ∷ own) (inlet ∷ inlets)
next-driver driver more first own inlet inlets is h records bad before =
    let sum : SourceLine = summed driver (first ∷ own) in
    let other : inlets_of driver (inlet ∷ inlets) ≡ [] =
    inlets-other driver (driver + 1) inlet inlets is (λ e. omega (arith, e)) ∙ none-left driver (driver + 1) more inlets (omega arith) h in
    if-not (inlet.driver == driver) (driver_lines (joined sum inlet) inlets) (line_text sum ++ driver_lines inlet inlets) (grind arith)
    ∙ ap (λ rest. line_text sum ++ rest) (
    ap (λ l. driver_lines l inlets) (sym (summed-one (driver + 1) inlet is records bad))
    ∙ before
    ∙ ap (λ all. line_text (summed (driver + 1) all) ++ driver_texts (driver + 1 + 1) more inlets) (sym (inlets-same (driver + 1) inlet inlets is))
    ∙ ap (λ rest. line_text (summed (driver + 1) (inlets_of (driver + 1) (inlet ∷ inlets))) ++ rest)
    (sym (texts-later (driver + 1 + 1) more (driver + 1) inlet inlets is (omega arith))))
    ∙ ap (λ all. line_text (summed driver all) ++ driver_texts (driver + 1) (suc more) (inlet ∷ inlets))
    (sym (ap (λ rest. (first ∷ own) ++ rest) other ∙ append-none (first ∷ own)))

lines-summed : (driver more : ℕ) (first : SourceLine) (own inlets : List SourceLine) → Ascend driver more inlets → AreCounts inlets
    → driver_lines (summed driver (first ∷ own)) inlets ≡ all-texts driver more (first ∷ own) inlets
lines-summed driver zero first own [] h counts =
    ap (λ all. line_text (summed driver all)) (sym (append-none (first ∷ own))) ∙ sym (bytes-none (line_text (summed driver ((first ∷ own) ++ []))))
lines-summed driver (suc n) first own [] h counts = absurd h
lines-summed driver zero first own (inlet ∷ inlets) h counts =
    same-driver driver zero first own inlet inlets h.0 (lines-summed driver zero first (own ++ inlet ∷ []) inlets h.1 counts.2)
lines-summed driver (suc n) first own (inlet ∷ inlets) (inl h) counts =
    same-driver driver (suc n) first own inlet inlets h.0 (lines-summed driver (suc n) first (own ++ inlet ∷ []) inlets h.1 counts.2)
lines-summed driver (suc n) first own (inlet ∷ inlets) (inr h) counts =
    next-driver driver n first own inlet inlets h.0 h.1 counts.0 counts.1 (lines-summed (driver + 1) n inlet [] inlets h.1 counts.2)

pub sums-up : SumsUp
sums-up more inlet inlets is h counts =
    ap (λ l. driver_lines l inlets) (sym (summed-one 0 inlet is counts.0 counts.1))
    ∙ lines-summed 0 more inlet [] inlets h counts.2
    ∙ ap (λ all. line_text (summed 0 all) ++ driver_texts 1 more inlets) (sym (inlets-same 0 inlet inlets is))
    ∙ ap (λ rest. line_text (summed 0 (inlets_of 0 (inlet ∷ inlets))) ++ rest) (sym (texts-later 1 more 0 inlet inlets is (omega arith)))

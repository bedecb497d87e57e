-- The lines of a report, one inlet on.
use Rattle.std.proofs.Common.{◌≡◌, ℕ, ◌+◌, ◌≤◌, Bool, List, [], ◌∷◌, ◌++◌, length, drop, Some, None, refl, ap, sym, ◌∙◌, arith, suc, zero, slice_get}
use Rattle.std.proofs.lemmas.List.{drop_all}
use Rattle.sg_list.proofs.ListLemmas.{drop-get}
use Rattle.sg_machine.specs.declared.tally.SourceTally.{SourceTally}
use Rattle.sg_machine.specs.declared.tally.Tally.{Tally}
use Rattle.sg_report.specs.declared.line.SourceLine.{SourceLine}
use Rattle.sg_report.specs.declared.shown.Shown.{Shown}
use Rattle.sg_report.specs.Report.{HasAll, line_of, lines_of, lines, line_text, driver_lines, source_lines}

pub lines-get : (ds : List ℕ) (fs : List Bool) (bs : List ℕ) (ss : List SourceTally) (k d : ℕ) (f : Bool) (b : ℕ) (s : SourceTally)
    → slice_get ds k ≡ Some d → slice_get fs k ≡ Some f → slice_get bs k ≡ Some b → slice_get ss k ≡ Some s
    → slice_get (lines_of ds fs bs ss) k ≡ Some (line_of d f b s)
lines-get [] fs bs ss k d f b s e1 e2 e3 e4 = let wrong : None ≡ Some d = e1 in cc
lines-get (x ∷ ds) [] bs ss k d f b s e1 e2 e3 e4 = let wrong : None ≡ Some f = e2 in cc
lines-get (x ∷ ds) (y ∷ fs) [] ss k d f b s e1 e2 e3 e4 = let wrong : None ≡ Some b = e3 in cc
lines-get (x ∷ ds) (y ∷ fs) (z ∷ bs) [] k d f b s e1 e2 e3 e4 = let wrong : None ≡ Some s = e4 in cc
lines-get (x ∷ ds) (y ∷ fs) (z ∷ bs) (w ∷ ss) zero d f b s e1 e2 e3 e4 =
    let d' : Some x ≡ Some d = e1 in
    let f' : Some y ≡ Some f = e2 in
    let b' : Some z ≡ Some b = e3 in
    let s' : Some w ≡ Some s = e4 in
    let goal : Some (line_of x y z w) ≡ Some (line_of d f b s) = cc in
    goal
lines-get (x ∷ ds) (y ∷ fs) (z ∷ bs) (w ∷ ss) (suc k) d f b s e1 e2 e3 e4 = lines-get ds fs bs ss k d f b s e1 e2 e3 e4

pub length-lines : (ds : List ℕ) (fs : List Bool) (bs : List ℕ) (ss : List SourceTally)
    → length ds ≡ length ss → length fs ≡ length ss → length bs ≡ length ss → length (lines_of ds fs bs ss) ≡ length ss
length-lines [] fs bs [] e1 e2 e3 = refl
length-lines [] fs bs (w ∷ ss) e1 e2 e3 = omega (arith, e1)
length-lines (x ∷ ds) fs bs [] e1 e2 e3 = omega (arith, e1)
length-lines (x ∷ ds) [] bs (w ∷ ss) e1 e2 e3 = omega (arith, e2)
length-lines (x ∷ ds) (y ∷ fs) [] (w ∷ ss) e1 e2 e3 = omega (arith, e3)
length-lines (x ∷ ds) (y ∷ fs) (z ∷ bs) (w ∷ ss) e1 e2 e3 = ap suc (length-lines ds fs bs ss (omega (arith, e1)) (omega (arith, e2)) (omega (arith, e3)))

-- the lines of all inlets
pub length-all : (tally : Tally) (shown : Shown) → HasAll tally shown → length (lines tally shown) ≡ length tally.sources
length-all tally shown all = length-lines shown.drivers shown.files shown.bad_frames tally.sources all.drivers all.files all.bad_frames

-- from the line at this place on
pub drop-line : (all : List SourceLine) (k : ℕ) (line : SourceLine) → Some line ≡ slice_get all k → drop k all ≡ line ∷ drop (k + 1) all
drop-line all k line e = drop-get all k line (sym e)

pub lines-first : (all : List SourceLine) (line : SourceLine) → Some line ≡ slice_get all 0 → driver_lines line (drop 1 all) ≡ source_lines all
lines-first [] line e = let wrong : Some line ≡ None = e in cc
lines-first (x ∷ all) line e = let same : Some line ≡ Some x = e in let goal : driver_lines line all ≡ driver_lines x all = cc in goal

pub lines-next : (text text' front all : List ℕ) (lines : List SourceLine) (k : ℕ) (sum line next : SourceLine) → Some line ≡ slice_get lines k
    → ((rest : List SourceLine) → text' ++ driver_lines next rest ≡ text ++ driver_lines sum (line ∷ rest))
    → text ++ driver_lines sum (drop k lines) ≡ front ++ all
    → text' ++ driver_lines next (drop (k + 1) lines) ≡ front ++ all
lines-next text text' front all lines k sum line next e step before =
    step (drop (k + 1) lines) ∙ (ap (λ (rest : List SourceLine). text ++ driver_lines sum rest) (sym (drop-line lines k line e)) ∙ before)

pub lines-end : (lines : List SourceLine) (k : ℕ) (sum : SourceLine) → length lines ≤ k → driver_lines sum (drop k lines) ≡ line_text sum
lines-end lines k sum h = ap (λ (rest : List SourceLine). driver_lines sum rest) (drop_all k lines h)

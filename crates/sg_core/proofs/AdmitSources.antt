-- The sources of a core, once records are in.
use Rattle.std.proofs.Common.{◌≡◌, ◌≢◌, ℕ, ◌+◌, ◌-◌, ◌<◌, ◌≤◌, List, [], ◌∷◌, ◌++◌, length, Option, Some, None, refl, sym, ap, ◌∙◌, arith, suc, zero, slice_get, subst, append_assoc}
use Rattle.std.proofs.lemmas.List.{append-nil, length_push}
use Rattle.sg_list.specs.Lists.{change}
use Rattle.sg_list.proofs.ListLemmas.{some-same, get-change-same}
use Rattle.sg_window.specs.Window.{Window, window_of, after_begin}
use Rattle.sg_window.specs.declared.tracker.BegunRecord.{BegunRecord}
use Rattle.sg_window.proofs.WindowLemmas.{stands-begin, outstanding-length}
use Rattle.sg_machine.specs.declared.event.Admission.{Admission}
use Rattle.sg_machine.specs.declared.state.Dest.{Dest}
use Rattle.sg_machine.specs.declared.state.InletRecords.{InletRecords}
use Rattle.sg_machine.specs.Effects.{ends_of, admitted}
use Rattle.sg_machine.specs.Running.{owed, records_from}
use Rattle.sg_machine.proofs.OwedLemmas.{records-same, records-length}
use Rattle.sg_machine.proofs.MoveLemmas.{change-twice}
use Rattle.sg_standing.specs.Sources.{HasCredit, begun_at, begun_all}
use Rattle.sg_standing.specs.Standing.{source_of, sources_from}
use Rattle.sg_standing.specs.declared.source.Source.{Source}
use Rattle.sg_machine.proofs.RecordLemmas.{records-below}

-- Records begun one after another.

abbrev of_records : Source → List BegunRecord → Source
of_records source rs = record source { tracker = window_of source.tracker.limit (length rs) 0 rs }

begins-all : (source : Source) (rs bs : List BegunRecord) → begun_all bs (of_records source rs) ≡ of_records source (rs ++ bs)
begins-all source rs [] = ap (of_records source) (sym (append-nil rs))
begins-all source rs (b ∷ bs) =
    let w : Window = window_of source.tracker.limit (length rs) 0 rs in
    let one : after_begin w b.end b.left ≡ window_of source.tracker.limit (length (rs ++ b ∷ [])) 0 (rs ++ b ∷ []) = stands-begin w b.end b.left 0 rs refl in
    ap (λ (t : Window). begun_all bs (record source { tracker = t })) one ∙ begins-all source (rs ++ b ∷ []) bs ∙ ap (of_records source) (append_assoc rs (b ∷ []) bs)

records-append : (ds : List Dest) (i n : ℕ) (xs ys : List ℕ) → records_from ds i n (xs ++ ys) ≡ records_from ds i n xs ++ records_from ds i (n + length xs) ys
records-append ds i n [] ys = ap (λ (k : ℕ). records_from ds i k ys) (omega arith)
records-append ds i n (x ∷ xs) ys =
    let at : n + 1 + length xs ≡ n + suc (length xs) = omega arith in
    ap (λ (rs : List BegunRecord). record { end = x; left = owed ds i n } ∷ rs) (records-append ds i (n + 1) xs ys ∙ ap (λ (k : ℕ). records_from ds i (n + 1) xs ++ records_from ds i k ys) at)

sources-above : (ds fs : List Dest) (i : ℕ) (inlets : List InletRecords) → ((j n : ℕ) → i ≤ j → owed fs j n ≡ owed ds j n) → sources_from fs i inlets ≡ sources_from ds i inlets
sources-above ds fs i [] h = refl
sources-above ds fs i (x ∷ inlets) h = rw (records-same ds fs i 0 x.ends (λ j l. h i j (omega arith)), sources-above ds fs (i + 1) inlets (λ j n l. h j n (omega arith))) refl

-- one inlet with more records
source-more : (ds fs : List Dest) (i : ℕ) (x : InletRecords) (records : List Admission) (bs : List BegunRecord) → ((n : ℕ) → n < length x.ends → owed fs i n ≡ owed ds i n) → records_from fs i (length x.ends) (ends_of records) ≡ bs
    → source_of fs i (admitted records x) ≡ begun_all bs (source_of ds i x)
source-more ds fs i x records bs same new =
    let rs = records_from ds i 0 x.ends in
    let old = records-below ds fs i 0 x.ends (λ j l. same j (omega arith)) in
    let zero_n : 0 + length x.ends ≡ length x.ends = omega arith in
    let all : records_from fs i 0 (x.ends ++ ends_of records) ≡ rs ++ bs =
    records-append fs i 0 x.ends (ends_of records) ∙ ap (λ (qs : List BegunRecord). qs ++ records_from fs i (0 + length x.ends) (ends_of records)) old
    ∙ ap (λ (k : ℕ). rs ++ records_from fs i k (ends_of records)) zero_n ∙ ap (λ (qs : List BegunRecord). rs ++ qs) new in
    let count : length (x.ends ++ ends_of records) ≡ length (rs ++ bs) = sym (records-length fs i 0 (x.ends ++ ends_of records)) ∙ ap length all in
    let start : source_of ds i x ≡ of_records (source_of ds i x) rs = ap (λ (n : ℕ). record (source_of ds i x) { tracker = window_of x.setup.window n 0 rs }) (sym (records-length ds i 0 x.ends)) in
    ap (λ (qs : List BegunRecord). record (source_of ds i x) { tracker = window_of x.setup.window (length (x.ends ++ ends_of records)) 0 qs }) all
    ∙ ap (λ (n : ℕ). record (source_of ds i x) { tracker = window_of x.setup.window n 0 (rs ++ bs) }) count
    ∙ sym (begins-all (source_of ds i x) rs bs) ∙ ap (begun_all bs) (sym start)

pub sources-more : (ds fs : List Dest) (j k i : ℕ) (inlets : List InletRecords) (x : InletRecords) (records : List Admission) (bs : List BegunRecord) → j + k ≡ i → slice_get inlets k ≡ Some x → ((m n : ℕ) → m ≢ i → owed fs m n ≡ owed ds m n)
    → ((n : ℕ) → n < length x.ends → owed fs i n ≡ owed ds i n) → records_from fs i (length x.ends) (ends_of records) ≡ bs
    → sources_from fs j (change inlets k (admitted records)) ≡ change (sources_from ds j inlets) k (begun_all bs)
sources-more ds fs j k i [] x records bs at there others same new = let wrong : None ≡ Some x = there in cc
sources-more ds fs j zero i (y ∷ inlets) x records bs at there others same new =
    let is : j ≡ i = omega arith in
    let is_x = some-same y x there in
    let one : source_of fs i (admitted records x) ≡ begun_all bs (source_of ds i x) = source-more ds fs i x records bs same new in
    let here : source_of fs j (admitted records y) ≡ begun_all bs (source_of ds j y) = rw (is, is_x) one in
    let rest = sources-above ds fs (j + 1) inlets (λ m n l. others m n (omega arith)) in
    ap (λ (s : Source). s ∷ sources_from fs (j + 1) inlets) here ∙ ap (λ (ss : List Source). begun_all bs (source_of ds j y) ∷ ss) rest
sources-more ds fs j (suc k) i (y ∷ inlets) x records bs at there others same new =
    let ne : j ≢ i = omega arith in
    let here = records-same ds fs j 0 y.ends (λ n l. others j n ne) in
    let first : source_of fs j y ≡ source_of ds j y = rw here refl in
    let rest = sources-more ds fs (j + 1) k i inlets x records bs (omega arith) there others same new in
    ap (λ (s : Source). s ∷ sources_from fs (j + 1) (change inlets k (admitted records))) first ∙ ap (λ (ss : List Source). source_of ds j y ∷ ss) rest

-- Begun one at a time.

pub begin-step : (olds mids news : List Source) (i : ℕ) (r : BegunRecord) (rs : List BegunRecord) → news ≡ change mids i (begun_at r.end r.left) → change mids i (begun_all (r ∷ rs)) ≡ olds → change news i (begun_all rs) ≡ olds
begin-step olds mids news i r rs n h = ap (λ (xs : List Source). change xs i (begun_all rs)) n ∙ change-twice mids i (begun_at r.end r.left) (begun_all rs) ∙ h

credit-one : (source : Source) (n : ℕ) (r : BegunRecord) → HasCredit (Some source) (n + 1) → HasCredit (Some (begun_at r.end r.left source)) n
credit-one source n r h =
    let w = source.tracker.waiting ++ record { end = r.end; left = r.left } ∷ [] in
    let fewer = outstanding-length w in
    let more = length_push source.tracker.waiting (record { end = r.end; left = r.left }) in
    let a = h.0 in
    let b = h.1 in
    (omega arith, omega arith)

credit-by : (sources news : List Source) (i n : ℕ) (r : BegunRecord) (o : Option Source) → slice_get sources i ≡ o → news ≡ change sources i (begun_at r.end r.left) → HasCredit o (n + 1) → HasCredit (slice_get news i) n
credit-by sources news i n r None e h c = absurd c
credit-by sources news i n r (Some source) e h c =
    let there : slice_get news i ≡ Some (begun_at r.end r.left source) = ap (λ (xs : List Source). slice_get xs i) h ∙ get-change-same sources i (begun_at r.end r.left) source e in
    subst (λ (o : Option Source). HasCredit o n) (sym there) (credit-one source n r c)

pub credit-step : (sources news : List Source) (i n : ℕ) (r : BegunRecord) → news ≡ change sources i (begun_at r.end r.left) → HasCredit (slice_get sources i) (n + 1) → HasCredit (slice_get news i) n
credit-step sources news i n r h c = credit-by sources news i n r (slice_get sources i) refl h c

less-by : (o : Option Source) (n m : ℕ) → m ≤ n → HasCredit o n → HasCredit o m
less-by None n m l h = h
less-by (Some s) n m l h = (let a = h.0 in omega arith, let b = h.1 in omega arith)

pub credit-less : (sources : List Source) (i n m : ℕ) → m ≤ n → HasCredit (slice_get sources i) n → HasCredit (slice_get sources i) m
credit-less sources i n m l h = less-by (slice_get sources i) n m l h

none-more : (sources : List Source) (i : ℕ) → change sources i (begun_all []) ≡ sources
none-more [] i = refl
none-more (s ∷ ss) zero = refl
none-more (s ∷ ss) (suc i) = ap (λ (xs : List Source). s ∷ xs) (none-more ss i)

pub begin-done : (olds news : List Source) (i : ℕ) (rs : List BegunRecord) → rs ≡ [] → change news i (begun_all rs) ≡ olds → news ≡ olds
begin-done olds news i rs e h = sym (none-more news i) ∙ ap (λ (xs : List BegunRecord). change news i (begun_all xs)) (sym e) ∙ h

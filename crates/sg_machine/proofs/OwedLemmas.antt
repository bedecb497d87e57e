-- What records need, and how far they are acknowledged.
use Rattle.std.proofs.Common.{◌≡◌, ◌≢◌, ℕ, ◌+◌, ◌-◌, ◌<◌, ◌≤◌, List, [], ◌∷◌, ◌++◌, length, drop, Some, None, Option, Bool, true, false, ◌&&◌, refl, ap, ◌∙◌, arith, suc, zero, slice_get, count_by, if◌then◌else◌, add-zero, inl, inr}
use Rattle.std.specs.Prelude.{◌==◌}
use Rattle.std.proofs.lemmas.Bool.{cases_lt}
use Rattle.std.proofs.lemmas.List.Sums.{sum_by-cons}
use Rattle.sg_list.specs.Lists.{change}
use Rattle.sg_list.proofs.ListLemmas.{some-same}
use Rattle.sg_window.specs.Window.{mark_from, left_at, one_less}
use Rattle.sg_window.specs.declared.tracker.BegunRecord.{BegunRecord}
use Rattle.sg_machine.specs.declared.state.InletRecords.{InletRecords}
use Rattle.sg_machine.specs.declared.state.Dest.{Dest}
use Rattle.sg_machine.specs.declared.state.DestEntry.{DestEntry}
use Rattle.sg_machine.specs.declared.state.State.{State}
use Rattle.sg_machine.specs.Marks.{is_owed_to}
use Rattle.sg_machine.specs.Running.{owed, records_from, acked_in, source_run, source_runs, slip_of, ends_at, IsSoundReplay}
use Rattle.sg_machine.specs.Turns.{acked_one, acks}

abbrev pub one_if : Bool → ℕ
one_if b = if b then 1 else 0

pub count_by-cons : (p : DestEntry → Bool) (e : DestEntry) (es : List DestEntry) → count_by p (e ∷ es) ≡ one_if (p e) + count_by p es
count_by-cons p e es = sum_by-cons (λ x. if p x then 1 else 0) e es

-- Prefixes of acknowledged records.

pub acked-behind : (rs qs : List BegunRecord) → acked_in (rs ++ qs) ≡ acked_in rs + acked_in (drop (acked_in rs) (rs ++ qs))
acked-behind [] qs = omega arith
acked-behind (r ∷ rs) qs = grind (arith, acked-behind rs qs)

pub mark-behind : (from : ℕ) (rs qs : List BegunRecord) → mark_from from (rs ++ qs) ≡ mark_from (mark_from from rs) (drop (acked_in rs) (rs ++ qs))
mark-behind from [] qs = refl
mark-behind from (r ∷ rs) qs = grind (arith, mark-behind r.end rs qs)

pub acked-change : (rs : List BegunRecord) (n : ℕ) (f : BegunRecord → BegunRecord) → acked_in rs ≤ n → acked_in (change rs n f) ≡ acked_in rs + acked_in (drop (acked_in rs) (change rs n f))
acked-change [] n f h = omega arith
acked-change (r ∷ rs) zero f h = grind arith
acked-change (r ∷ rs) (suc n) f h = grind (arith, acked-change rs n f)

pub mark-change : (from : ℕ) (rs : List BegunRecord) (n : ℕ) (f : BegunRecord → BegunRecord) → acked_in rs ≤ n → mark_from from (change rs n f) ≡ mark_from (mark_from from rs) (drop (acked_in rs) (change rs n f))
mark-change from [] n f h = refl
mark-change from (r ∷ rs) zero f h = grind arith
mark-change from (r ∷ rs) (suc n) f h = grind (arith, mark-change r.end rs n f)

-- a record that something is owed to is behind the prefix
pub acked-owed : (rs : List BegunRecord) (n : ℕ) → 0 < left_at rs n → acked_in rs ≤ n
acked-owed [] n h = absurd (omega arith)
acked-owed (r ∷ rs) zero h = grind arith
acked-owed (r ∷ rs) (suc n) h = grind (arith, acked-owed rs n)

-- Records before and after a change of the destinations.

-- a change of one destination that owes so much less
pub owed-change : (ds : List Dest) (d : ℕ) (f : Dest → Dest) (dest : Dest) (k i n : ℕ) → slice_get ds d ≡ Some dest
    → count_by (is_owed_to i n) dest.left ≡ k + count_by (is_owed_to i n) (f dest).left → owed ds i n ≡ k + owed (change ds d f) i n
owed-change [] d f dest k i n g h = let wrong : None ≡ Some dest = g in cc
owed-change (x ∷ ds) zero f dest k i n g h = rw (some-same x dest g) (omega arith)
owed-change (x ∷ ds) (suc d) f dest k i n g h = let rest = owed-change ds d f dest k i n g h in omega arith

pub records-same : (ds fs : List Dest) (i n : ℕ) (ends : List ℕ) → ((j : ℕ) → n ≤ j → owed fs i j ≡ owed ds i j) → records_from fs i n ends ≡ records_from ds i n ends
records-same ds fs i n [] h = refl
records-same ds fs i n (x ∷ ends) h =
    let here : owed fs i n ≡ owed ds i n = h n (omega arith) in
    let rest = records-same ds fs i (n + 1) ends (λ j l. h j (omega arith)) in
    rw (here, rest) refl

-- one less is owed to one record
pub records-less : (ds fs : List Dest) (i n k m : ℕ) (ends : List ℕ) → n + k ≡ m → ((j : ℕ) → j ≢ m → owed fs i j ≡ owed ds i j) → owed fs i m ≡ owed ds i m - 1
    → records_from fs i n ends ≡ change (records_from ds i n ends) k one_less
records-less ds fs i n k m [] at others less = refl
records-less ds fs i n zero m (x ∷ ends) at others less =
    let same : n ≡ m = omega arith in
    let here : owed fs i n ≡ owed ds i n - 1 = rw same less in
    let rest = records-same ds fs i (n + 1) ends (λ j l. others j (omega arith)) in
    rw (here, rest) refl
records-less ds fs i n (suc k) m (x ∷ ends) at others less =
    let here : owed fs i n ≡ owed ds i n = others n (omega arith) in
    let rest = records-less ds fs i (n + 1) k m ends (omega arith) others less in
    rw (here, rest) refl

pub records-length : (ds : List Dest) (i n : ℕ) (ends : List ℕ) → length (records_from ds i n ends) ≡ length ends
records-length ds i n [] = refl
records-length ds i n (x ∷ ends) = ap suc (records-length ds i (n + 1) ends)

pub records-get : (ds : List Dest) (i n k : ℕ) (ends : List ℕ) → k < length ends → left_at (records_from ds i n ends) k ≡ owed ds i (n + k)
records-get ds i n k [] h = absurd (omega arith)
records-get ds i n zero (x ∷ ends) h = rw add-zero refl
records-get ds i n (suc k) (x ∷ ends) h = records-get ds i (n + 1) k ends (omega arith) ∙ ap (λ j. owed ds i j) (omega arith)

-- an inlet of which one record is owed one less
pub source-less : (ds fs : List Dest) (i n : ℕ) (x : InletRecords) → n < length x.ends → 0 < owed ds i n
    → ((j : ℕ) → j ≢ n → owed fs i j ≡ owed ds i j) → owed fs i n ≡ owed ds i n - 1 → source_run fs i x ≡ acked_one n (source_run ds i x)
source-less ds fs i n x l h others less =
    let rs = records_from ds i 0 x.ends in
    let r = records-less ds fs i 0 n n x.ends (omega arith) others less in
    let got = records-get ds i 0 n x.ends l in
    let zero_n : 0 + n ≡ n = omega arith in
    let owing : 0 < left_at rs n = rw (got, zero_n) h in
    let k = acked-owed rs n owing in
    rw (r, acked-change rs n one_less k, mark-change x.opening rs n one_less k) refl

pub sources-same : (ds fs : List Dest) (i : ℕ) (inlets : List InletRecords) → ((j n : ℕ) → owed fs j n ≡ owed ds j n) → source_runs fs i inlets ≡ source_runs ds i inlets
sources-same ds fs i [] h = refl
sources-same ds fs i (x ∷ inlets) h = rw (records-same ds fs i 0 x.ends (λ j l. h i j), sources-same ds fs (i + 1) inlets h) refl

-- the sources from that inlet on stay
pub sources-above : (ds fs : List Dest) (i : ℕ) (inlets : List InletRecords) → ((j n : ℕ) → i ≤ j → owed fs j n ≡ owed ds j n) → source_runs fs i inlets ≡ source_runs ds i inlets
sources-above ds fs i [] h = refl
sources-above ds fs i (x ∷ inlets) h = rw (records-same ds fs i 0 x.ends (λ j l. h i j (omega arith)), sources-above ds fs (i + 1) inlets (λ j n l. h j n (omega arith))) refl

pub sources-less : (ds fs : List Dest) (i k m n : ℕ) (inlets : List InletRecords) → i + k ≡ m → n < length (ends_at inlets k) → 0 < owed ds m n
    → ((j o : ℕ) → j ≢ m → owed fs j o ≡ owed ds j o) → ((o : ℕ) → o ≢ n → owed fs m o ≡ owed ds m o) → owed fs m n ≡ owed ds m n - 1
    → source_runs fs i inlets ≡ change (source_runs ds i inlets) k (acked_one n)
sources-less ds fs i k m n [] at l h apart others less = refl
sources-less ds fs i zero m n (x ∷ inlets) at l h apart others less =
    let same : i ≡ m = omega arith in
    let w = source-less ds fs i n x l (rw same h) (rw same others) (rw same less) in
    let rest = sources-above ds fs (i + 1) inlets (λ j o g. apart j o (omega arith)) in
    rw (w, rest) refl
sources-less ds fs i (suc k) m n (x ∷ inlets) at l h apart others less =
    let ne : i ≢ m = omega arith in
    let here = records-same ds fs i 0 x.ends (λ j g. apart i j ne) in
    let rest = sources-less ds fs (i + 1) k m n inlets (omega arith) l h apart others less in
    rw (here, rest) refl

-- An entry that leaves those that wait.

not-flow : (e : DestEntry) (i n : ℕ) → e.flow ≡ false → is_owed_to i n e ≡ false
not-flow e i n h = grind arith

not-numbered : (e : DestEntry) (i n : ℕ) → e.number ≡ None → is_owed_to i n e ≡ false
not-numbered e i n h = grind arith

owing-to : (e : DestEntry) (m i n : ℕ) → e.number ≡ Some m → e.spooled ≡ false → e.flow ≡ true → is_owed_to i n e ≡ ((e.inlet == i) && (m == n))
owing-to e m i n number memory flow = grind arith

pub admitted-owed : (s : State) (i n : ℕ) → IsSoundReplay s → 0 < owed s.dests i n → n < length (ends_at s.inlets i)
admitted-owed s i n sound h =
    elim (cases_lt n (length (ends_at s.inlets i))) [
      | inl l ↦ l
      | inr l ↦ (let none = sound.admitted i n l in absurd (omega arith))
    ]

-- a change of a destination takes this from what an entry owes
abbrev pub Lessens : Dest → Dest → DestEntry → Type 0
Lessens old new e = (i n : ℕ) → count_by (is_owed_to i n) old.left ≡ one_if (is_owed_to i n e) + count_by (is_owed_to i n) new.left

lessens-by : (s : State) (d : ℕ) (f : Dest → Dest) (dest : Dest) (e : DestEntry) → slice_get s.dests d ≡ Some dest → Lessens dest (f dest) e → (i n : ℕ) (b : Bool) → is_owed_to i n e ≡ b
    → owed s.dests i n ≡ one_if b + owed (change s.dests d f) i n
lessens-by s d f dest e g h i n b q = rw (← q) (owed-change s.dests d f dest (one_if (is_owed_to i n e)) i n g (h i n))

ack-numbered : (s : State) (d : ℕ) (f : Dest → Dest) (dest : Dest) (e : DestEntry) → IsSoundReplay s → slice_get s.dests d ≡ Some dest → e.spooled ≡ false → e.flow ≡ true → Lessens dest (f dest) e → (m : ℕ) → e.number ≡ Some m
    → source_runs (change s.dests d f) 0 s.inlets ≡ change (source_runs s.dests 0 s.inlets) e.inlet (acked_one m)
ack-numbered s d f dest e sound g memory flow h m number =
    let hit : is_owed_to e.inlet m e ≡ true = owing-to e m e.inlet m number memory flow ∙ grind arith in
    let a = lessens-by s d f dest e g h e.inlet m true hit in
    let l = admitted-owed s e.inlet m sound (omega arith) in
    sources-less s.dests (change s.dests d f) 0 e.inlet e.inlet m s.inlets (omega arith) l (omega arith)
    (λ j n ne. let b : is_owed_to j n e ≡ false = owing-to e m j n number memory flow ∙ grind arith in let z = lessens-by s d f dest e g h j n false b in omega arith)
    (λ n ne. let b : is_owed_to e.inlet n e ≡ false = owing-to e m e.inlet n number memory flow ∙ grind arith in let z = lessens-by s d f dest e g h e.inlet n false b in omega arith)
    (omega arith)

sources-none : (s : State) (d : ℕ) (f : Dest → Dest) (dest : Dest) (e : DestEntry) → slice_get s.dests d ≡ Some dest → Lessens dest (f dest) e → ((i n : ℕ) → is_owed_to i n e ≡ false)
    → source_runs (change s.dests d f) 0 s.inlets ≡ source_runs s.dests 0 s.inlets
sources-none s d f dest e g h none = sources-same s.dests (change s.dests d f) 0 s.inlets (λ j n. let a = lessens-by s d f dest e g h j n false (none j n) in omega arith)

ack-flow : (s : State) (d : ℕ) (f : Dest → Dest) (dest : Dest) (e : DestEntry) → IsSoundReplay s → slice_get s.dests d ≡ Some dest → e.spooled ≡ false → e.flow ≡ true → Lessens dest (f dest) e → (o : Option ℕ) → e.number ≡ o
    → source_runs (change s.dests d f) 0 s.inlets ≡ acks (slip_of e) (source_runs s.dests 0 s.inlets)
ack-flow s d f dest e sound g memory flow h None number = rw (flow, number) (sources-none s d f dest e g h (λ i n. not-numbered e i n number))
ack-flow s d f dest e sound g memory flow h (Some m) number = rw (flow, number) (ack-numbered s d f dest e sound g memory flow h m number)

ack-by : (s : State) (d : ℕ) (f : Dest → Dest) (dest : Dest) (e : DestEntry) → IsSoundReplay s → slice_get s.dests d ≡ Some dest → e.spooled ≡ false → Lessens dest (f dest) e → (b : Bool) → e.flow ≡ b
    → source_runs (change s.dests d f) 0 s.inlets ≡ acks (slip_of e) (source_runs s.dests 0 s.inlets)
ack-by s d f dest e sound g memory h false flow = rw flow (sources-none s d f dest e g h (λ i n. not-flow e i n flow))
ack-by s d f dest e sound g memory h true flow = ack-flow s d f dest e sound g memory flow h e.number refl

-- where an entry that waits is settled or spooled, its record waits for one less
pub sources-ack : (s : State) (d : ℕ) (f : Dest → Dest) (dest : Dest) (e : DestEntry) → IsSoundReplay s → slice_get s.dests d ≡ Some dest → e.spooled ≡ false → Lessens dest (f dest) e
    → source_runs (change s.dests d f) 0 s.inlets ≡ acks (slip_of e) (source_runs s.dests 0 s.inlets)
sources-ack s d f dest e sound g memory h = ack-by s d f dest e sound g memory h e.flow refl

-- a spooled one owes nothing
pub sources-spooled : (s : State) (d : ℕ) (f : Dest → Dest) (dest : Dest) (e : DestEntry) → slice_get s.dests d ≡ Some dest → e.spooled ≡ true → Lessens dest (f dest) e
    → source_runs (change s.dests d f) 0 s.inlets ≡ source_runs s.dests 0 s.inlets
sources-spooled s d f dest e g spooled h = sources-none s d f dest e g h (λ i n. grind arith)

-- no record is owed more
pub admitted-less : (s : State) (d : ℕ) (f : Dest → Dest) (dest : Dest) (e : DestEntry) → IsSoundReplay s → slice_get s.dests d ≡ Some dest → Lessens dest (f dest) e
    → (i n : ℕ) → length (ends_at s.inlets i) ≤ n → owed (change s.dests d f) i n ≡ 0
admitted-less s d f dest e sound g h i n l =
    let none = sound.admitted i n l in
    let a = lessens-by s d f dest e g h i n (is_owed_to i n e) refl in
    omega arith

-- Events, in the state and in what `replay` keeps of it.
use Rattle.std.proofs.Common.{◌≡◌, ℕ, ◌+◌, ◌-◌, ◌≤◌, List, [], ◌∷◌, ◌++◌, length, map, Some, None, Option, Bool, true, false, not, ◌&&◌, ◌||◌, refl, sym, ap, ◌∙◌, arith, suc, zero, slice_get, count_by, if◌then◌else◌}
use Rattle.std.specs.Prelude.{◌==◌, nat_lt, nat_le, option_and_then}
use Rattle.std.specs.Option.{option_map, option_map_or}
use Rattle.std.specs.List.{list_any}
use Rattle.std.proofs.lemmas.List.{append-nil, length-map, length-append}
use Rattle.sg_list.specs.Lists.{change, passes_at}
use Rattle.sg_list.proofs.ListLemmas.{some-same, passes_at-some}
use Rattle.sg_window.specs.Window.{mark_from}
use Rattle.sg_machine.specs.declared.event.Admission.{Admission}
use Rattle.sg_machine.specs.declared.event.Verdict.{Verdict}
use Rattle.sg_machine.specs.declared.event.Act.{Act}
use Rattle.sg_machine.specs.declared.event.Act.TheVariants.{Admit, Settle, Refill, Store, Rewind, Look}
use Rattle.sg_machine.specs.declared.setup.BufferSetup.{BufferSetup}
use Rattle.sg_machine.specs.declared.state.DestEntry.{DestEntry}
use Rattle.sg_machine.specs.declared.state.InletRecords.{InletRecords}
use Rattle.sg_machine.specs.declared.state.Dest.{Dest}
use Rattle.sg_machine.specs.declared.state.State.{State}
use Rattle.sg_machine.specs.declared.running.SourceRun.{SourceRun}
use Rattle.sg_machine.specs.declared.running.DestRun.{DestRun}
use Rattle.sg_machine.specs.declared.running.Run.{Run}
use Rattle.sg_machine.specs.Verdicts.{claims_of, judged}
use Rattle.sg_machine.specs.Marks.{is_owed_to, is_acked, outstanding, mark}
use Rattle.sg_machine.specs.Legal.{store_of, is_this, works, is_nil, is_same_list, at_most_this, at_most_one, fit_in_turn, may_admit, may_settle, may_refill, may_store, may_rewind, is_legal_act}
use Rattle.sg_machine.specs.Effects.{next_of, refilled_some, stored_at, rewound, after_act}
use Rattle.sg_machine.specs.Running.{owed, records_from, acked_in, source_run, source_runs, slip_of, dest_run, run_of, ends_at, IsSoundReplay}
use Rattle.sg_machine.specs.Turns.{stored_run, rewound_run, record_turns}
use Rattle.sg_machine.specs.Needs.{store_number, fails_one_run, may_admit_run, may_settle_run, may_store_run, may_rewind_run}
use Rattle.sg_machine.specs.Steps.{with_failed, if_failed, refill_at, act_step}
use Rattle.sg_machine.proofs.RunLemmas.{both-true}
use Rattle.sg_machine.proofs.OfferLemmas.{is_same_list-true}
use Rattle.sg_machine.proofs.OwedLemmas.{one_if, count_by-cons, records-length}
use Rattle.sg_machine.proofs.MoveLemmas.{with_dests, SettlesSomeEntries, settle-some, move-some}
use Rattle.sg_machine.proofs.RecordLemmas.{with_records, number-ends, admits}

-- Marks and outstanding records.

any-count-by : (b rest : Bool) (k : ℕ) → not rest ≡ (k == 0) → not (b || rest) ≡ (one_if b + k == 0)
any-count-by true rest k h = grind arith
any-count-by false rest k h = rw h (grind arith)

any-count : (p : DestEntry → Bool) (es : List DestEntry) → not (list_any p es) ≡ (count_by p es == 0)
any-count p [] = refl
any-count p (e ∷ es) = rw (count_by-cons p e es) (any-count-by (p e) (list_any p es) (count_by p es) (any-count p es))

both-zero : (n m : ℕ) (a b : Bool) → a ≡ (n == 0) → b ≡ (m == 0) → (a && b) ≡ (n + m == 0)
both-zero zero m a b h g = rw (h, g) (grind arith)
both-zero (suc n) m a b h g = rw (h, g) (grind arith)

pub acked-owes : (ds : List Dest) (i n : ℕ) → is_acked ds i n ≡ (owed ds i n == 0)
acked-owes [] i n = refl
acked-owes (d ∷ ds) i n = both-zero (count_by (is_owed_to i n) d.left) (owed ds i n) (not (list_any (is_owed_to i n) d.left)) (is_acked ds i n) (any-count (is_owed_to i n) d.left) (acked-owes ds i n)

pub mark-same : (ds : List Dest) (i n from : ℕ) (ends : List ℕ) → mark ds i n from ends ≡ mark_from from (records_from ds i n ends)
mark-same ds i n from [] = refl
mark-same ds i n from (x ∷ ends) = rw (acked-owes ds i n) (ap (λ m. if owed ds i n == 0 then m else from) (mark-same ds i (n + 1) x ends))

left-if : (b : Bool) (rest len acked n : ℕ) → rest ≡ len - acked → len ≡ n → (if b then rest else suc n) ≡ suc len - (if b then suc acked else 0)
left-if true rest len acked n h e = h ∙ omega arith
left-if false rest len acked n h e = omega arith

pub outstanding-same : (ds : List Dest) (i n : ℕ) (ends : List ℕ) → outstanding ds i n ends ≡ length (records_from ds i n ends) - acked_in (records_from ds i n ends)
outstanding-same ds i n [] = refl
outstanding-same ds i n (x ∷ ends) =
    let rs = records_from ds i (n + 1) ends in
    rw (acked-owes ds i n) (left-if (owed ds i n == 0) (outstanding ds i (n + 1) ends) (length rs) (acked_in rs) (length ends) (outstanding-same ds i (n + 1) ends) (records-length ds i (n + 1) ends))

-- Look-ups.

at-source : (ds : List Dest) (i k : ℕ) (inlets : List InletRecords) → slice_get (source_runs ds i inlets) k ≡ option_map (source_run ds (i + k)) (slice_get inlets k)
at-source ds i k [] = refl
at-source ds i zero (x ∷ inlets) = ap (λ j. Some (source_run ds j x)) (let e : i ≡ i + 0 = omega arith in e)
at-source ds i (suc k) (x ∷ inlets) = at-source ds (i + 1) k inlets ∙ ap (λ j. option_map (source_run ds j) (slice_get inlets k)) (let e : i + 1 + k ≡ i + suc k = omega arith in e)

at-source-of : (s : State) (i : ℕ) → slice_get (source_runs s.dests 0 s.inlets) i ≡ option_map (source_run s.dests i) (slice_get s.inlets i)
at-source-of s i = at-source s.dests 0 i s.inlets ∙ ap (λ j. option_map (source_run s.dests j) (slice_get s.inlets i)) (let e : 0 + i ≡ i = omega arith in e)

at-dest : (ds : List Dest) (k : ℕ) → slice_get (map dest_run ds) k ≡ option_map dest_run (slice_get ds k)
at-dest [] k = refl
at-dest (d ∷ ds) zero = refl
at-dest (d ∷ ds) (suc k) = at-dest ds k

passes-same : {A B : Type 0} (o : Option A) (f : A → B) (p : B → Bool) (q : A → Bool) → ((x : A) → p (f x) ≡ q x) → option_map_or p (option_map f o) false ≡ option_map_or q o false
passes-same None f p q h = refl
passes-same (Some x) f p q h = h x

passes-source : (s : State) (i : ℕ) (p : SourceRun → Bool) (q : InletRecords → Bool) → ((x : InletRecords) → p (source_run s.dests i x) ≡ q x) → passes_at (source_runs s.dests 0 s.inlets) i p ≡ passes_at s.inlets i q
passes-source s i p q h = rw (at-source-of s i) (passes-same (slice_get s.inlets i) (source_run s.dests i) p q h)

passes-dest : (ds : List Dest) (d : ℕ) (p : DestRun → Bool) (q : Dest → Bool) → ((x : Dest) → p (dest_run x) ≡ q x) → passes_at (map dest_run ds) d p ≡ passes_at ds d q
passes-dest ds d p q h = rw (at-dest ds d) (passes-same (slice_get ds d) dest_run p q h)

-- Needs.

may-admit : (s : State) (i : ℕ) (records : List Admission) (x : InletRecords) → may_admit_run records (source_run s.dests i x) ≡ may_admit s i records x
may-admit s i records x = rw (outstanding-same s.dests i 0 x.ends) refl

pub left-length : (x : Dest) → length (map slip_of (x.settled ++ x.left)) - length x.settled ≡ length x.left
left-length x = let a = length-map (x.settled ++ x.left) slip_of in let b = length-append x.settled x.left in omega arith

may-settle : (failed new : List ℕ) (n : ℕ) (x : Dest) → (may_settle_run n (dest_run x) && at_most_this failed (store_number (dest_run x)) new) ≡ (may_settle n x && at_most_this failed (store_of x) new)
may-settle failed new n x = rw (left-length x) refl

may-store : (s : State) (i w : ℕ) (x : InletRecords) → may_store_run s.failed w (source_run s.dests i x) ≡ may_store s i w x
may-store s i w x = rw (mark-same s.dests i 0 x.opening x.ends) refl

may-rewind : (s : State) (i : ℕ) (x : InletRecords) → may_rewind_run s.failed (source_run s.dests i x) ≡ may_rewind s.failed x
may-rewind s i x = rw (records-length s.dests i 0 x.ends) refl

any-source : (ds : List Dest) (i n : ℕ) (inlets : List InletRecords) → list_any (λ (x : SourceRun). is_this n x.setup.store) (source_runs ds i inlets) ≡ list_any (λ (x : InletRecords). is_this n x.setup.store) inlets
any-source ds i n [] = refl
any-source ds i n (x ∷ inlets) = ap (λ b. is_this n x.setup.store || b) (any-source ds (i + 1) n inlets)

any-dest : (n : ℕ) (ds : List Dest) → list_any (λ (x : DestRun). is_this n (store_number x)) (map dest_run ds) ≡ list_any (λ (x : Dest). is_this n (store_of x)) ds
any-dest n [] = refl
any-dest n (x ∷ ds) = ap (λ b. is_this n (store_of x) || b) (any-dest n ds)

fails-one : (s : State) (failed : List ℕ) → fails_one_run (run_of s) failed ≡ at_most_one s failed
fails-one s [] = refl
fails-one s (n ∷ []) = rw (any-source s.dests 0 n s.inlets, any-dest n s.dests) refl
fails-one s (n ∷ (m ∷ ns)) = refl

-- Acts.

pub record StepsState (s : State) (act : Act) (failed : List ℕ) : Type 0 where
  pub at : act_step act failed (run_of s) ≡ (if is_legal_act s act failed then Some (run_of (after_act s act failed)) else None)
  pub sound : is_legal_act s act failed ≡ true → IsSoundReplay (after_act s act failed)

if-same : {A : Type 0} (b c : Bool) (x y : A) → b ≡ c → (c ≡ true → x ≡ y) → (if b then Some x else None) ≡ (if c then Some y else None)
if-same b true x y e h = rw (e, h refl) refl
if-same b false x y e h = rw e refl

nil-is : (xs : List ℕ) → is_nil xs ≡ true → xs ≡ []
nil-is [] h = refl
nil-is (x ∷ xs) h = absurd (let wrong : false ≡ true = (let z : (suc (length xs) == 0) ≡ false = grind arith in sym z ∙ h) in cc)

-- a look

step-look : (s : State) (failed : List ℕ) → IsSoundReplay s → StepsState s Look failed
step-look s failed sound = record { at = rw (fails-one s failed) refl; sound = λ l. record { admitted = sound.admitted; split = sound.split } }

-- a settle

lt-le : (n m : ℕ) (b : Bool) → (nat_lt 0 n && nat_le n m && b) ≡ true → n ≤ m
lt-le n m b h =
    let p = both-true (nat_lt 0 n && nat_le n m) b h in
    let q = both-true (nat_lt 0 n) (nat_le n m) p.0 in
    let r = q.1 in
    grind arith

step-settle : (s : State) (d n : ℕ) (failed : List ℕ) → IsSoundReplay s → StepsState s (Settle d n) failed
step-settle s d n failed sound =
    let p : Dest → Bool = λ x. may_settle n x && at_most_this s.failed (store_of x) failed in
    let same = passes-dest s.dests d (λ (x : DestRun). may_settle_run n x && at_most_this s.failed (store_number x) failed) p (may-settle s.failed failed n) in
    let some : passes_at s.dests d p ≡ true → SettlesSomeEntries s d n = λ l. (
    let there = passes_at-some s.dests d p l in
    settle-some s d n there.0 sound there.1 (lt-le n (length (there.0).left) (at_most_this s.failed (store_of there.0) failed) there.2)) in
    record {
      at = if-same _ _ _ _ same (λ l. ap (with_failed failed) (some l).at);
      sound = λ l. (let a = (some l).sound in record { admitted = a.admitted; split = a.split });
    }

-- a refill

if-none : (n : Bool) (x y : Run) → (if true && n then (if false then Some x else None) else None) ≡ (if true && false && n then Some y else None)
if-none true x y = refl
if-none false x y = refl

refill-if : (a f n : Bool) (x y : Run) → (n ≡ true → x ≡ y) → (if a && n then (if f then Some x else None) else None) ≡ (if a && f && n then Some y else None)
refill-if true true true x y h = rw (h refl) refl
refill-if true true false x y h = refl
refill-if true false n x y h = if-none n x y
refill-if false f n x y h = refl

refill-buffer : (s : State) (d n : ℕ) (failed : List ℕ) (dest : Dest) (buffer : Option BufferSetup) → IsSoundReplay s → slice_get s.dests d ≡ Some dest → dest.setup.buffer ≡ buffer
    → refill_at d n failed (run_of s) (dest_run dest) ≡ (if may_refill n s.failed dest && is_nil failed then Some (run_of (after_act s (Refill d n) failed)) else None)
refill-buffer s d n failed dest None sound g q = rw q refl
refill-buffer s d n failed dest (Some b) sound g q =
    let m = move-some s d n b.capacity dest sound g in
    rw (q, m.at) (refill-if _ (fit_in_turn n b.capacity dest.left) (is_nil failed) _ _
    (λ e. let none = nil-is failed e in rw none (ap (λ xs. record (run_of (with_dests (change s.dests d (refilled_some n)) s)) { failed = xs }) (sym (append-nil s.failed)))))

refill-at : (s : State) (d n : ℕ) (failed : List ℕ) (o : Option Dest) → IsSoundReplay s → slice_get s.dests d ≡ o
    → option_and_then (refill_at d n failed (run_of s)) (option_map dest_run o) ≡ (if option_map_or (may_refill n s.failed) o false && is_nil failed then Some (run_of (after_act s (Refill d n) failed)) else None)
refill-at s d n failed None sound g = refl
refill-at s d n failed (Some dest) sound g = refill-buffer s d n failed dest dest.setup.buffer sound g refl

fits-by : (s : State) (d n : ℕ) (dest : Dest) (buffer : Option BufferSetup) → option_map_or (λ (b : BufferSetup). fit_in_turn n b.capacity dest.left) buffer false ≡ true → (b : BufferSetup) × (fit_in_turn n b.capacity dest.left ≡ true)
fits-by s d n dest None h = let wrong : false ≡ true = h in cc
fits-by s d n dest (Some b) h = (b, h)

step-refill : (s : State) (d n : ℕ) (failed : List ℕ) → IsSoundReplay s → StepsState s (Refill d n) failed
step-refill s d n failed sound = record {
  at = rw (at-dest s.dests d) (refill-at s d n failed (slice_get s.dests d) sound refl);
  sound = λ l. (
      let p = both-true (passes_at s.dests d (may_refill n s.failed)) (is_nil failed) l in
      let there = passes_at-some s.dests d (may_refill n s.failed) p.0 in
      let q = both-true _ (option_map_or (λ (b : BufferSetup). fit_in_turn n b.capacity (there.0).left) (there.0).setup.buffer false) there.2 in
      let f = fits-by s d n there.0 (there.0).setup.buffer q.1 in
      let a = (move-some s d n (f.0).capacity there.0 sound there.1).sound f.1 in
      record { admitted = a.admitted; split = a.split });
}

-- what is stored

pub ends-kept : (f : InletRecords → InletRecords) → ((x : InletRecords) → (f x).ends ≡ x.ends) → (inlets : List InletRecords) (k j : ℕ) → ends_at (change inlets k f) j ≡ ends_at inlets j
ends-kept f h [] k j = refl
ends-kept f h (x ∷ inlets) zero zero = h x
ends-kept f h (x ∷ inlets) zero (suc j) = refl
ends-kept f h (x ∷ inlets) (suc k) zero = refl
ends-kept f h (x ∷ inlets) (suc k) (suc j) = ends-kept f h inlets k j

sound-kept : (s : State) (i : ℕ) (f : InletRecords → InletRecords) (failed : List ℕ) → IsSoundReplay s → ((x : InletRecords) → (f x).ends ≡ x.ends) → IsSoundReplay (record s { inlets = change s.inlets i f; failed = failed })
sound-kept s i f failed sound h = record {
  admitted = λ j n l. sound.admitted j n (let e = ends-kept f h s.inlets i j in rw e at l);
  split = sound.split;
}

sources-stored : (ds : List Dest) (j k w : ℕ) (inlets : List InletRecords) → change (source_runs ds j inlets) k (stored_run w) ≡ source_runs ds j (change inlets k (stored_at w))
sources-stored ds j k w [] = refl
sources-stored ds j zero w (x ∷ inlets) = refl
sources-stored ds j (suc k) w (x ∷ inlets) = ap (λ xs. source_run ds j x ∷ xs) (sources-stored ds (j + 1) k w inlets)

rewound-one : (ds : List Dest) (j : ℕ) (x : InletRecords) → x.ends ≡ [] → rewound_run (source_run ds j x) ≡ source_run ds j (rewound x)
rewound-one ds j x e = rw e refl

sources-rewound : (ds : List Dest) (j k : ℕ) (inlets : List InletRecords) (x : InletRecords) → slice_get inlets k ≡ Some x → x.ends ≡ [] → change (source_runs ds j inlets) k rewound_run ≡ source_runs ds j (change inlets k rewound)
sources-rewound ds j k [] x h e = refl
sources-rewound ds j zero (y ∷ inlets) x h e =
    let none : y.ends ≡ [] = ap (λ (z : InletRecords). z.ends) (some-same y x h) ∙ e in
    ap (λ r. r ∷ source_runs ds (j + 1) inlets) (rewound-one ds j y none)
sources-rewound ds j (suc k) (y ∷ inlets) x h e = ap (λ xs. source_run ds j y ∷ xs) (sources-rewound ds (j + 1) k inlets x h e)

abbrev run_with : State → List SourceRun → List ℕ → Run
run_with s sources failed = record { sources = sources; dests = map dest_run s.dests; failed = failed }

failed-none : (s : State) (failed : List ℕ) → is_nil failed ≡ true → s.failed ≡ s.failed ++ failed
failed-none s failed h = let none = nil-is failed h in rw none (sym (append-nil s.failed))

step-store : (s : State) (i w : ℕ) (failed : List ℕ) → IsSoundReplay s → StepsState s (Store i w) failed
step-store s i w failed sound =
    let same = passes-source s i (may_store_run s.failed w) (may_store s i w) (may-store s i w) in
    record {
      at = if-same _ _ _ _ (ap (λ b. b && is_nil failed) same) (λ l. (
          let p = both-true (passes_at s.inlets i (may_store s i w)) (is_nil failed) l in
          ap (λ xs. run_with s xs s.failed) (sources-stored s.dests 0 i w s.inlets) ∙ ap (λ xs. run_with s (source_runs s.dests 0 (change s.inlets i (stored_at w))) xs) (failed-none s failed p.1)));
      sound = λ l. sound-kept s i (stored_at w) (s.failed ++ failed) sound (λ x. refl);
    }

step-rewind : (s : State) (i : ℕ) (failed : List ℕ) → IsSoundReplay s → StepsState s (Rewind i) failed
step-rewind s i failed sound =
    let same = passes-source s i (may_rewind_run s.failed) (may_rewind s.failed) (may-rewind s i) in
    record {
      at = if-same _ _ _ _ (ap (λ b. b && is_nil failed) same) (λ l. (
          let p = both-true (passes_at s.inlets i (may_rewind s.failed)) (is_nil failed) l in
          let there = passes_at-some s.inlets i (may_rewind s.failed) p.0 in
          let q = both-true (works s.failed (there.0).setup.store && is_nil (there.0).ends) (not ((there.0).stored == 0)) there.2 in
          let none = nil-is (there.0).ends (both-true (works s.failed (there.0).setup.store) (is_nil (there.0).ends) q.0).1 in
          ap (λ xs. run_with s xs s.failed) (sources-rewound s.dests 0 i s.inlets there.0 there.1 none) ∙ ap (λ xs. run_with s (source_runs s.dests 0 (change s.inlets i rewound)) xs) (failed-none s failed p.1)));
      sound = λ l. sound-kept s i rewound (s.failed ++ failed) sound (λ x. refl);
    }

-- an admit

admit-none : (p : Bool) (q : List ℕ → Bool) (x : Run) → (let none : Option Run = None in if p then none else none) ≡ (if p && false then Some x else None)
admit-none true q x = refl
admit-none false q x = refl

admit-if : (p q : Bool) (x y : Run) → (p ≡ true → q ≡ true → x ≡ y) → (if p then (if q then Some x else None) else None) ≡ (if p && q then Some y else None)
admit-if true true x y h = rw (h refl refl) refl
admit-if true false x y h = refl
admit-if false q x y h = refl

admit-judged : (s : State) (i : ℕ) (records : List Admission) (vs : List Verdict) (failed : List ℕ) (p : Bool) (o : Option (List ℕ))
    → (if p then option_and_then (if_failed (s.failed ++ failed)) (option_map (λ f. run_of (with_records s i (next_of s i) 0 records vs f)) o) else None)
    ≡ (if p && option_map_or (is_same_list (s.failed ++ failed)) o false then Some (run_of (after_act s (Admit i records vs) failed)) else None)
admit-judged s i records vs failed p None = admit-none p (is_same_list (s.failed ++ failed)) _
admit-judged s i records vs failed p (Some f) =
    admit-if p (is_same_list (s.failed ++ failed) f) _ _
    (λ _ e. ap (λ xs. run_of (with_records s i (next_of s i) 0 records vs xs)) (sym (is_same_list-true (s.failed ++ failed) f e)))

mapped-is : (o : Option (List ℕ)) (p : List ℕ → Bool) → option_map_or p o false ≡ true → (x : List ℕ) × (o ≡ Some x) × (p x ≡ true)
mapped-is None p h = let wrong : false ≡ true = h in cc
mapped-is (Some x) p h = (x, refl, h)

next-ends : (s : State) (i : ℕ) → next_of s i + 0 ≡ length (ends_at s.inlets i)
next-ends s i = let n = number-ends s.inlets i in omega arith

admit-there : (s : State) (i : ℕ) (records : List Admission) (vs : List Verdict) (failed : List ℕ) (o : Option InletRecords) → IsSoundReplay s → slice_get s.inlets i ≡ o
    → (if option_map_or (may_admit s i records) o false then option_and_then (if_failed (s.failed ++ failed)) (record_turns i failed (run_of s) records vs) else None)
    ≡ (if option_map_or (may_admit s i records) o false && option_map_or (is_same_list (s.failed ++ failed)) (judged i (next_of s i) failed s.dests s.failed (claims_of records) vs) false
    then Some (run_of (after_act s (Admit i records vs) failed)) else None)
admit-there s i records vs failed None sound g = refl
admit-there s i records vs failed (Some inlet) sound g =
    let a = admits s i (next_of s i) 0 failed inlet records vs sound g (next-ends s i) in
    rw a.at (admit-judged s i records vs failed (may_admit s i records inlet) (judged i (next_of s i) failed s.dests s.failed (claims_of records) vs))

step-admit : (s : State) (i : ℕ) (records : List Admission) (vs : List Verdict) (failed : List ℕ) → IsSoundReplay s → StepsState s (Admit i records vs) failed
step-admit s i records vs failed sound =
    let same = passes-source s i (may_admit_run records) (may_admit s i records) (may-admit s i records) in
    let j = judged i (next_of s i) failed s.dests s.failed (claims_of records) vs in
    record {
      at = rw same (admit-there s i records vs failed (slice_get s.inlets i) sound refl);
      sound = λ l. (
          let p = both-true (passes_at s.inlets i (may_admit s i records)) (option_map_or (is_same_list (s.failed ++ failed)) j false) l in
          let there = passes_at-some s.inlets i (may_admit s i records) p.0 in
          let m = mapped-is j (is_same_list (s.failed ++ failed)) p.1 in
          let a = (admits s i (next_of s i) 0 failed there.0 records vs sound there.1 (next-ends s i)).sound m.0 m.1 in
          record { admitted = a.admitted; split = a.split });
    }

pub step-same : (s : State) (act : Act) (failed : List ℕ) → IsSoundReplay s → StepsState s act failed
step-same s (Admit i records vs) failed sound = step-admit s i records vs failed sound
step-same s (Settle d n) failed sound = step-settle s d n failed sound
step-same s (Refill d n) failed sound = step-refill s d n failed sound
step-same s (Store i w) failed sound = step-store s i w failed sound
step-same s (Rewind i) failed sound = step-rewind s i failed sound
step-same s Look failed sound = step-look s failed sound

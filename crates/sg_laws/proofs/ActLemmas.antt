-- What an act changes of what is counted of an inlet.
use Rattle.std.proofs.Common.{◌≡◌, ◌≢◌, ℕ, ◌+◌, ◌-◌, ◌≤◌, ◌<◌, List, [], ◌++◌, length, length-append, true, false, not, ◌&&◌, refl, sym, ap, ◌∙◌, arith, ◌⊎◌, inl, inr, subst, Option, Some, None}
use Rattle.std.proofs.lemmas.List.{append-nil}
use Rattle.std.specs.Prelude.{◌==◌, nat_lt, nat_le, slice_get}
use Rattle.std.specs.List.{list_all}
use Rattle.std.specs.Option.{option_map_or}
use Rattle.std.proofs.lemmas.Bool.{eq-eqb}
use Rattle.sg_list.specs.Lists.{passes_at}
use Rattle.sg_list.proofs.ListLemmas.{get-change-same, get-change-other, passes_at-some}
use Rattle.sg_machine.specs.declared.event.Act.TheVariants.{Admit, Settle, Refill, Store}
use Rattle.sg_machine.specs.declared.event.Admission.{Admission}
use Rattle.sg_machine.specs.declared.event.Verdict.{Verdict}
use Rattle.sg_machine.specs.declared.state.Dest.{Dest}
use Rattle.sg_machine.specs.declared.state.InletRecords.{InletRecords}
use Rattle.sg_machine.specs.declared.state.State.{State}
use Rattle.sg_machine.specs.Effects.{next_of, ends_of, admitted, stored_at, after_act}
use Rattle.sg_machine.specs.Legal.{works, is_nil, is_same_list, is_admissible, may_admit, may_store, is_legal_act}
use Rattle.sg_machine.specs.Marks.{is_acked, outstanding_of, mark_of}
use Rattle.sg_machine.specs.Verdicts.{claims_of, take_claims, judged}
use Rattle.sg_machine.proofs.RunLemmas.{both-true}
use Rattle.sg_machine.proofs.WindowLaws.{acked-settle, acked-refill, acked-claims, length-ends, other-number}
use Rattle.sg_actor.specs.Reading.{one_if}
use Rattle.sg_laws.specs.Counts.{offers_of}
use Rattle.sg_laws.proofs.OwedLemmas.{owed_in, AllFall, all-same, all-settle, all-refill, all-claims, claims-more, claims-length, kept_in, kept-settle, kept-refill, kept-claims}
use Rattle.sg_laws.proofs.MarkLemmas.{outstanding-same, acked_from, acked-more, acked_of, unstored_of, unstored-more}

-- the window of an inlet less its outstanding records
abbrev pub credit_at : State → ℕ → ℕ
credit_at state i = option_map_or (λ inlet. inlet.setup.window - outstanding_of state.dests i inlet) (slice_get state.inlets i) 0

-- how many of its records are acknowledged from the first on
abbrev pub acked_at : State → ℕ → ℕ
acked_at state i = option_map_or (acked_of state.dests i) (slice_get state.inlets i) 0

-- whether its mark isn't stored
abbrev pub unstored_at : State → ℕ → ℕ
unstored_at state i = option_map_or (unstored_of state.dests i) (slice_get state.inlets i) 0

-- What a step changes where so many records came in of the inlet, with so many offers, its position was written so often, and so many
-- offers came in of any.
pub record GoesByAct (i : ℕ) (s t : State) (came offers written all : ℕ) : Type 0 where
  pub credit : (credit_at t i ≡ credit_at s i) ⊎ (owed_in i t.dests + 1 ≤ owed_in i s.dests + came + offers)
  pub owed : owed_in i t.dests ≤ owed_in i s.dests + offers
  pub marks : written + unstored_at t i + acked_at s i ≤ unstored_at s i + acked_at t i
  pub records : next_of t i ≤ next_of s i + came
  pub kept : kept_in t.dests ≤ kept_in s.dests + all

-- Steps that leave the inlet as it is.

credit-same-by : (o : Option InletRecords) (ds fs : List Dest) (i : ℕ) → ((k : ℕ) → is_acked ds i k ≡ true → is_acked fs i k ≡ true) → ((k : ℕ) → is_acked fs i k ≡ true → is_acked ds i k ≡ true)
    → option_map_or (λ (inlet : InletRecords). inlet.setup.window - outstanding_of fs i inlet) o 0 ≡ option_map_or (λ (inlet : InletRecords). inlet.setup.window - outstanding_of ds i inlet) o 0
credit-same-by None ds fs i forth back = refl
credit-same-by (Some inlet) ds fs i forth back = ap (λ n. inlet.setup.window - n) (outstanding-same ds fs i 0 inlet.ends forth back)

acked-stays : (ds fs : List Dest) (i : ℕ) (ends : List ℕ) → ((k : ℕ) → is_acked ds i k ≡ true → is_acked fs i k ≡ true) → acked_from ds i 0 ends ≤ acked_from fs i 0 ends
acked-stays ds fs i ends forth = subst (λ es. acked_from ds i 0 ends ≤ acked_from fs i 0 es) (append-nil ends) (acked-more ds fs i 0 ends [] (λ k l m a. forth k a))

marks-by : (o : Option InletRecords) (ds fs : List Dest) (i : ℕ) → ((k : ℕ) → is_acked ds i k ≡ true → is_acked fs i k ≡ true)
    → option_map_or (unstored_of fs i) o 0 + option_map_or (acked_of ds i) o 0 ≤ option_map_or (unstored_of ds i) o 0 + option_map_or (acked_of fs i) o 0
marks-by None ds fs i forth = omega arith
marks-by (Some x) ds fs i forth =
    subst (λ es. acked_from ds i 0 x.ends ≤ acked_from fs i 0 es → one_if (not (x.stored == mark_of fs i (record x { ends = es }))) + acked_from ds i 0 x.ends ≤ one_if (not (x.stored == mark_of ds i x)) + acked_from fs i 0 es)
    (append-nil x.ends) (λ h. unstored-more ds fs i x.stored x.opening x.ends [] h) (acked-stays ds fs i x.ends forth)

pub goes-falls : (i : ℕ) (s t : State) (all : ℕ) → slice_get t.inlets i ≡ slice_get s.inlets i → ((k : ℕ) → is_acked s.dests i k ≡ true → is_acked t.dests i k ≡ true) → AllFall i s.dests t.dests
    → kept_in t.dests ≤ kept_in s.dests + all → GoesByAct i s t 0 0 0 all
goes-falls i s t all same forth falls kept =
    let fewer = falls.fewer in
    let o = slice_get s.inlets i in
    let marks = marks-by o s.dests t.dests i forth in
    record {
      credit = elim falls.clears [
        | inl l ↦ inr (omega (arith, l))
        | inr back ↦ inl (ap (λ (x : Option InletRecords). option_map_or (λ (inlet : InletRecords). inlet.setup.window - outstanding_of t.dests i inlet) x 0) same ∙ credit-same-by o s.dests t.dests i forth back)
      ];
      owed = omega (arith, fewer);
      marks = subst (λ (x : Option InletRecords). 0 + option_map_or (unstored_of t.dests i) x 0 + option_map_or (acked_of s.dests i) o 0 ≤ option_map_or (unstored_of s.dests i) o 0 + option_map_or (acked_of t.dests i) x 0) (sym same) (omega (arith, marks));
      records = (let is = ap (λ (x : Option InletRecords). option_map_or (λ inlet. length inlet.ends) x 0) same in omega (arith, is));
      kept = kept;
    }

pub goes-still : (i : ℕ) (s t : State) → t.inlets ≡ s.inlets → t.dests ≡ s.dests → GoesByAct i s t 0 0 0 0
goes-still i s t inlets dests =
    goes-falls i s t 0 (ap (λ xs. slice_get xs i) inlets) (λ k a. subst (λ ds. is_acked ds i k ≡ true) (sym dests) a)
    (subst (λ ds. AllFall i s.dests ds) (sym dests) (all-same i s.dests)) (let is = ap kept_in dests in omega (arith, is))

pub goes-settle : (i d n : ℕ) (s : State) (failed : List ℕ) → GoesByAct i s (after_act s (Settle d n) failed) 0 0 0 0
goes-settle i d n s failed =
    goes-falls i s (after_act s (Settle d n) failed) 0 refl (λ k a. acked-settle s.dests d n i k a) (all-settle i s.dests d n) (let h = kept-settle s.dests d n in omega (arith, h))

pub goes-refill : (i d n : ℕ) (s : State) (failed : List ℕ) → GoesByAct i s (after_act s (Refill d n) failed) 0 0 0 0
goes-refill i d n s failed =
    goes-falls i s (after_act s (Refill d n) failed) 0 refl (λ k a. acked-refill s.dests d n i k a) (all-refill i s.dests d n) (let h = kept-refill s.dests d n in omega (arith, h))

unequal : (i j : ℕ) → (i == j) ≡ false → i ≢ j
unequal i j h = grind arith

turned-round : (i j : ℕ) → (i == j) ≡ false → (j == i) ≡ false
turned-round i j h = grind arith

apart : (i j n m : ℕ) → (i == j) ≡ false → (j == i && n == m) ≡ false
apart i j n m h = let flip = turned-round i j h in rw flip refl

-- records of another inlet
pub goes-others : (i j : ℕ) (records : List Admission) (vs : List Verdict) (s : State) (failed : List ℕ) → (i == j) ≡ false → GoesByAct i s (after_act s (Admit j records vs) failed) 0 0 0 (offers_of records)
goes-others i j records vs s failed miss =
    goes-falls i s (after_act s (Admit j records vs) failed) (offers_of records) (get-change-other s.inlets j i (admitted records) (unequal i j miss))
    (λ k a. acked-claims j (next_of s j) s.dests (claims_of records) vs i k (λ place. apart i j (next_of s j + place) k miss) a)
    (all-claims i j (next_of s j) s.dests (claims_of records) vs (turned-round i j miss))
    (let h = kept-claims j (next_of s j) s.dests (claims_of records) vs in let many = claims-length records in omega (arith, h, many))

-- the position of another inlet
pub goes-stored : (i j w : ℕ) (s : State) (failed : List ℕ) → (i == j) ≡ false → GoesByAct i s (after_act s (Store j w) failed) 0 0 0 0
goes-stored i j w s failed miss =
    goes-falls i s (after_act s (Store j w) failed) 0 (get-change-other s.inlets j i (stored_at w) (unequal i j miss)) (λ k a. a) (all-same i s.dests) (omega arith)

-- Its own records.

below-next : (next place k : ℕ) → k < next → (next + place == k) ≡ false
below-next next place k h = grind (arith, h)

record MayAdmit (s : State) (i : ℕ) (records : List Admission) : Type 0 where
  inlet : InletRecords
  there : slice_get s.inlets i ≡ Some inlet
  some : 0 < length records

may-admit : (s : State) (i : ℕ) (records : List Admission) (vs : List Verdict) (failed : List ℕ) → is_legal_act s (Admit i records vs) failed ≡ true → MayAdmit s i records
may-admit s i records vs failed l =
    let j = option_map_or (is_same_list (s.failed ++ failed)) (judged i (next_of s i) failed s.dests s.failed (claims_of records) vs) false in
    let passes = (both-true (passes_at s.inlets i (may_admit s i records)) j l).0 in
    let x = passes_at-some s.inlets i (may_admit s i records) passes in
    let a = nat_lt 0 (length records) && nat_le (length records) 1000 in
    let room = nat_le (outstanding_of s.dests i x.0 + length records) x.0.setup.window in
    let both = (both-true a room ((both-true (a && room) (list_all is_admissible records) x.2).0)).0 in
    let lt = (both-true (nat_lt 0 (length records)) (nat_le (length records) 1000) both).0 in
    record { inlet = x.0; there = x.1; some = grind (arith, lt) }

pub goes-admit : (i : ℕ) (records : List Admission) (vs : List Verdict) (s : State) (failed : List ℕ) → is_legal_act s (Admit i records vs) failed ≡ true
    → GoesByAct i s (after_act s (Admit i records vs) failed) (length records) (offers_of records) 0 (offers_of records)
goes-admit i records vs s failed l =
    let may = may-admit s i records vs failed l in
    let x = may.inlet in
    let some = may.some in
    let cs = claims_of records in
    let next = next_of s i in
    let fs = take_claims i next s.dests cs vs in
    let t = after_act s (Admit i records vs) failed in
    let more = claims-more i i next s.dests cs vs in
    let many = claims-length records in
    let kept = kept-claims i next s.dests cs vs in
    let number : next ≡ length x.ends = ap (λ (o : Option InletRecords). option_map_or (λ inlet. length inlet.ends) o 0) may.there in
    let now : slice_get t.inlets i ≡ Some (admitted records x) = get-change-same s.inlets i (admitted records) x may.there in
    let long = length-append x.ends (ends_of records) in
    let ends = length-ends records in
    let acked = acked-more s.dests fs i 0 x.ends (ends_of records) (λ k z b a.
    acked-claims i next s.dests cs vs i k (λ place. other-number (i == i) (next + place == k) (below-next next place k (omega (arith, number, b)))) a) in
    let marks = unstored-more s.dests fs i x.stored x.opening x.ends (ends_of records) acked in
    record {
      credit = inr (omega (arith, more, many, some));
      owed = omega (arith, more, many);
      marks =
          subst (λ (o : Option InletRecords). 0 + option_map_or (unstored_of fs i) o 0 + acked_at s i ≤ unstored_at s i + option_map_or (acked_of fs i) o 0) (sym now)
          (subst (λ (o : Option InletRecords). 0 + unstored_of fs i (admitted records x) + option_map_or (acked_of s.dests i) o 0 ≤ option_map_or (unstored_of s.dests i) o 0 + acked_of fs i (admitted records x)) (sym may.there) (omega (arith, marks)));
      records = (let behind = ap (λ (o : Option InletRecords). option_map_or (λ inlet. length inlet.ends) o 0) now in omega (arith, behind, number, long, ends));
      kept = omega (arith, kept, many);
    }

-- Its own position.

record MayStore (s : State) (i w : ℕ) : Type 0 where
  inlet : InletRecords
  there : slice_get s.inlets i ≡ Some inlet
  mark : w ≡ mark_of s.dests i inlet
  news : not (w == inlet.stored) ≡ true

equal-of : (a b : ℕ) → (a == b) ≡ true → a ≡ b
equal-of a b h = grind arith

may-store : (s : State) (i w : ℕ) (failed : List ℕ) → is_legal_act s (Store i w) failed ≡ true → MayStore s i w
may-store s i w failed l =
    let passes = (both-true (passes_at s.inlets i (may_store s i w)) (is_nil failed) l).0 in
    let x = passes_at-some s.inlets i (may_store s i w) passes in
    let a = works s.failed x.0.setup.store in
    let m = w == mark_of s.dests i x.0 in
    let both = both-true (a && m) (not (w == x.0.stored)) x.2 in
    record { inlet = x.0; there = x.1; mark = equal-of w (mark_of s.dests i x.0) ((both-true a m both.0).1); news = both.1 }

flipped : (a b : ℕ) → not (a == b) ≡ true → not (b == a) ≡ true
flipped a b h = grind arith

equal-now : (a b : ℕ) → a ≡ b → one_if (not (a == b)) ≡ 0
equal-now a b h = ap (λ t. one_if (not t)) (eq-eqb a b h)

pub goes-store : (i w : ℕ) (s : State) (failed : List ℕ) → is_legal_act s (Store i w) failed ≡ true → GoesByAct i s (after_act s (Store i w) failed) 0 0 1 0
goes-store i w s failed l =
    let may = may-store s i w failed l in
    let x = may.inlet in
    let t = after_act s (Store i w) failed in
    let now : slice_get t.inlets i ≡ Some (stored_at w x) = get-change-same s.inlets i (stored_at w) x may.there in
    let was : one_if (not (x.stored == mark_of s.dests i x)) ≡ 1 = ap (λ m. one_if (not (x.stored == m))) (sym may.mark) ∙ ap one_if (flipped w x.stored may.news) in
    let is : one_if (not (w == mark_of s.dests i x)) ≡ 0 = equal-now w (mark_of s.dests i x) may.mark in
    record {
      credit = inl (ap (λ (o : Option InletRecords). option_map_or (λ (inlet : InletRecords). inlet.setup.window - outstanding_of s.dests i inlet) o 0) now
          ∙ sym (ap (λ (o : Option InletRecords). option_map_or (λ (inlet : InletRecords). inlet.setup.window - outstanding_of s.dests i inlet) o 0) may.there));
      owed = omega arith;
      marks =
          subst (λ (o : Option InletRecords). 1 + option_map_or (unstored_of s.dests i) o 0 + acked_at s i ≤ unstored_at s i + option_map_or (acked_of s.dests i) o 0) (sym now)
          (subst (λ (o : Option InletRecords). 1 + unstored_of s.dests i (stored_at w x) + option_map_or (acked_of s.dests i) o 0 ≤ option_map_or (unstored_of s.dests i) o 0 + acked_of s.dests i (stored_at w x)) (sym may.there) (omega (arith, was, is)));
      records = (let behind = ap (λ (o : Option InletRecords). option_map_or (λ inlet. length inlet.ends) o 0) now in let before = ap (λ (o : Option InletRecords). option_map_or (λ inlet. length inlet.ends) o 0) may.there in omega (arith, behind, before));
      kept = omega arith;
    }

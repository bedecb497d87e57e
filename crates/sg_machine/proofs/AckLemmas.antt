-- Marks and outstanding records are what the events say.
use Rattle.std.proofs.Common.{◌≡◌, ℕ, ◌+◌, List, [], ◌∷◌, ◌++◌, length, Some, None, Bool, true, false, not, ◌&&◌, ◌||◌, refl, sym, ap, ◌∙◌, arith, map, take, drop, slice_get, subst, inl, inr, append_assoc, if◌then◌else◌, zero, suc}
use Rattle.std.specs.Prelude.{◌==◌}
use Rattle.std.specs.List.{list_any}
use Rattle.std.specs.Option.{option_map_or}
use Rattle.std.proofs.lemmas.List.{map-append, map_push, append-nil, length-append}
use Rattle.std.proofs.lemmas.Bool.{cases_eq}
use Rattle.sg_list.specs.Lists.{change, passes_at}
use Rattle.sg_list.proofs.ListLemmas.{get-change-same, get-change-other, length-change, some-same, passes_at-some}
use Rattle.sg_msg.specs.declared.offer.Offer.{Offer}
use Rattle.sg_machine.specs.declared.event.Admission.{Admission}
use Rattle.sg_machine.specs.declared.event.Verdict.{Verdict}
use Rattle.sg_machine.specs.declared.event.Verdict.TheVariants.{Queued, Spooled, Waits, DroppedFull, DroppedDisk}
use Rattle.sg_machine.specs.declared.event.Act.{Act}
use Rattle.sg_machine.specs.declared.event.Act.TheVariants.{Admit, Settle, Refill, Store, Rewind, Look}
use Rattle.sg_machine.specs.declared.event.Event.{Event}
use Rattle.sg_machine.specs.declared.state.InletRecords.{InletRecords}
use Rattle.sg_machine.specs.declared.state.Dest.{Dest}
use Rattle.sg_machine.specs.declared.state.DestEntry.{DestEntry}
use Rattle.sg_machine.specs.declared.state.Origin.{Origin}
use Rattle.sg_machine.specs.declared.state.State.{State}
use Rattle.sg_machine.specs.Verdicts.{Claim, claims_of, origin_of, entry_from, take_offer, take_claim, take_claims}
use Rattle.sg_machine.specs.Marks.{is_owed_to, is_acked, outstanding, mark}
use Rattle.sg_machine.specs.Legal.{may_admit, is_legal, is_legal_act}
use Rattle.sg_machine.specs.Effects.{next_of, ends_of, admitted, settled_some, spool_first, spool_some, refilled_some, stored_at, rewound, after, after_act}
use Rattle.sg_machine.specs.Runs.{after_all, are_legal}
use Rattle.sg_machine.specs.Counts.{is_dropped, is_kept_at, is_spooled, ends_by, ends_admitted, opening_from}
use Rattle.sg_machine.specs.Acks.{Claimed, claimed_by, claimed_offers, claims_at, claimed_from, any_owing, owes_none, all_acked, is_acked_by, outstanding_by, marked_by, CountsMark}
use Rattle.sg_machine.proofs.RunLemmas.{both-true}
use Rattle.sg_machine.proofs.CountLemmas.{take-drop, counts-dest}
use Rattle.sg_machine.proofs.InletLemmas.{counts-inlet}

abbrev all_of : Dest → List DestEntry
all_of dest = dest.settled ++ dest.left

abbrev claimed_in : Dest → List Claimed
claimed_in dest = map claimed_by (all_of dest)

-- Offers.

abbrev claimed_if : Bool → Origin → Offer → Verdict → List Claimed
claimed_if b origin o v = if b && not (is_dropped v) then record { inlet = origin.inlet; number = Some origin.number; flow = o.flow } ∷ [] else []

claimed-push : (dest : Dest) (e : DestEntry) → claimed_in (record dest { left = dest.left ++ e ∷ [] }) ≡ claimed_in dest ++ claimed_by e ∷ []
claimed-push dest e = ap (map claimed_by) (sym (append_assoc dest.settled dest.left (e ∷ []))) ∙ map_push claimed_by (all_of dest) e

claimed-offer : (origin : Origin) (o : Offer) (v : Verdict) (dest : Dest) → claimed_in (take_offer origin o v dest) ≡ claimed_in dest ++ claimed_if true origin o v
claimed-offer origin o Queued dest = claimed-push dest (entry_from origin o false)
claimed-offer origin o Spooled dest = claimed-push dest (entry_from origin o true)
claimed-offer origin o Waits dest = claimed-push dest (entry_from origin o false)
claimed-offer origin o DroppedFull dest = sym (append-nil (claimed_in dest))
claimed-offer origin o DroppedDisk dest = sym (append-nil (claimed_in dest))

if-cons : (b : Bool) (x : Claimed) (xs : List Claimed) → (if b then x ∷ [] else []) ++ xs ≡ (if b then x ∷ xs else xs)
if-cons true x xs = refl
if-cons false x xs = refl

skip-cons : (a b : Bool) (x : Claimed) (xs : List Claimed) → a ≡ false → (if a && b then x ∷ xs else xs) ≡ xs
skip-cons a b x xs h = rw h refl

claimed-claims : (i next : ℕ) (ds : List Dest) (cs : List Claim) (vs : List Verdict) (d : ℕ) (old : Dest) → slice_get ds d ≡ Some old
    → (new : Dest) × (slice_get (take_claims i next ds cs vs) d ≡ Some new) × (claimed_in new ≡ claimed_in old ++ claimed_offers d i next cs vs)
claimed-claims i next ds [] [] d old h = (old, h, sym (append-nil (claimed_in old)))
claimed-claims i next ds [] (v ∷ vs) d old h = (old, h, sym (append-nil (claimed_in old)))
claimed-claims i next ds (c ∷ cs) [] d old h = (old, h, sym (append-nil (claimed_in old)))
claimed-claims i next ds (c ∷ cs) (v ∷ vs) d old h =
    let o = c.offer in
    let origin = origin_of i next c in
    let f = take_offer origin o v in
    let x : Claimed = record { inlet = i; number = Some (next + c.place); flow = o.flow } in
    elim (cases_eq o.dest d) [
      | inl e ↦ (
          let hit : (o.dest == d) ≡ true = grind arith in
          let here : slice_get (change ds o.dest f) d ≡ Some (f old) = rw e (get-change-same ds d f old h) in
          let rest = claimed-claims i next (change ds o.dest f) cs vs d (f old) here in
          let one : claimed_in (f old) ≡ claimed_in old ++ claimed_if (o.dest == d) origin o v = rw hit (claimed-offer origin o v old) in
          let both = rest.2 ∙ ap (λ ks. ks ++ claimed_offers d i next cs vs) one ∙ append_assoc (claimed_in old) (claimed_if (o.dest == d) origin o v) (claimed_offers d i next cs vs) in
          (rest.0, rest.1, both ∙ ap (λ ks. claimed_in old ++ ks) (if-cons (is_kept_at d o v) x (claimed_offers d i next cs vs))))
      | inr ne ↦ (
          let miss : (o.dest == d) ≡ false = grind arith in
          let there : slice_get (change ds o.dest f) d ≡ Some old = get-change-other ds o.dest d f (λ e. ne (sym e)) ∙ h in
          let rest = claimed-claims i next (change ds o.dest f) cs vs d old there in
          (rest.0, rest.1, rest.2 ∙ ap (λ ks. claimed_in old ++ ks) (sym (skip-cons (o.dest == d) (not (is_dropped v)) x (claimed_offers d i next cs vs) miss))))
    ]

-- Acts.

spool-if : (e : DestEntry) (es rest : List DestEntry) (b : Bool) → map claimed_by rest ≡ map claimed_by es → map claimed_by (if b then e ∷ rest else record e { spooled = true } ∷ es) ≡ claimed_by e ∷ map claimed_by es
spool-if e es rest true h = ap (λ ks. claimed_by e ∷ ks) h
spool-if e es rest false h = refl

claimed-spool : (es : List DestEntry) → map claimed_by (spool_first es) ≡ map claimed_by es
claimed-spool [] = refl
claimed-spool (e ∷ es) = spool-if e es (spool_first es) e.spooled (claimed-spool es)

claimed-spool-some : (n : ℕ) (es : List DestEntry) → map claimed_by (spool_some n es) ≡ map claimed_by es
claimed-spool-some zero es = refl
claimed-spool-some (suc n) es = claimed-spool-some n (spool_first es) ∙ claimed-spool es

claimed-refilled : (n : ℕ) (dest : Dest) → claimed_in (refilled_some n dest) ≡ claimed_in dest
claimed-refilled n dest =
    map-append claimed_by dest.settled (spool_some n dest.left) ∙ ap (λ ks. map claimed_by dest.settled ++ ks) (claimed-spool-some n dest.left) ∙ sym (map-append claimed_by dest.settled dest.left)

claimed-settled : (n : ℕ) (dest : Dest) → claimed_in (settled_some n dest) ≡ claimed_in dest
claimed-settled n dest =
    ap (map claimed_by) (append_assoc dest.settled (take n dest.left) (drop n dest.left) ∙ ap (λ es. dest.settled ++ es) (take-drop n dest.left))

-- a destination whose change keeps what is claimed
claimed-change : (ds : List Dest) (e d : ℕ) (f : Dest → Dest) (old : Dest) → ((x : Dest) → claimed_in (f x) ≡ claimed_in x) → slice_get ds d ≡ Some old
    → (new : Dest) × (slice_get (change ds e f) d ≡ Some new) × (claimed_in new ≡ claimed_in old ++ [])
claimed-change ds e d f old same h =
    elim (cases_eq e d) [
      | inl q ↦ (f old, rw q (get-change-same ds d f old h), same old ∙ sym (append-nil (claimed_in old)))
      | inr ne ↦ (old, get-change-other ds e d f (λ q. ne (sym q)) ∙ h, sym (append-nil (claimed_in old)))
    ]

claimed-act : (s : State) (act : Act) (failed : List ℕ) (next : ℕ → ℕ) (d : ℕ) (old : Dest) → ((i : ℕ) → next i ≡ next_of s i) → slice_get s.dests d ≡ Some old
    → (new : Dest) × (slice_get (after_act s act failed).dests d ≡ Some new) × (claimed_in new ≡ claimed_in old ++ claims_at next d act)
claimed-act s (Admit i records vs) failed next d old same h =
    let t = claimed-claims i (next_of s i) s.dests (claims_of records) vs d old h in
    (t.0, t.1, t.2 ∙ ap (λ n. claimed_in old ++ claimed_offers d i n (claims_of records) vs) (sym (same i)))
claimed-act s (Settle e n) failed next d old same h = claimed-change s.dests e d (settled_some n) old (claimed-settled n) h
claimed-act s (Refill e n) failed next d old same h = claimed-change s.dests e d (refilled_some n) old (claimed-refilled n) h
claimed-act s (Store i w) failed next d old same h = (old, h, sym (append-nil (claimed_in old)))
claimed-act s (Rewind i) failed next d old same h = (old, h, sym (append-nil (claimed_in old)))
claimed-act s Look failed next d old same h = (old, h, sym (append-nil (claimed_in old)))

-- the number of the next record of each inlet
next-kept : (xs : List InletRecords) (k j : ℕ) (f : InletRecords → InletRecords) → ((x : InletRecords) → length (f x).ends ≡ length x.ends)
    → option_map_or (λ (x : InletRecords). length x.ends) (slice_get (change xs k f) j) 0 ≡ option_map_or (λ (x : InletRecords). length x.ends) (slice_get xs j) 0
next-kept [] k j f same = refl
next-kept (x ∷ xs) zero zero f same = same x
next-kept (x ∷ xs) zero (suc j) f same = refl
next-kept (x ∷ xs) (suc k) zero f same = refl
next-kept (x ∷ xs) (suc k) (suc j) f same = next-kept xs k j f same

next-more : (xs : List InletRecords) (k : ℕ) (records : List Admission) (inlet : InletRecords) → slice_get xs k ≡ Some inlet
    → option_map_or (λ (x : InletRecords). length x.ends) (slice_get (change xs k (admitted records)) k) 0 ≡ option_map_or (λ (x : InletRecords). length x.ends) (slice_get xs k) 0 + length (ends_of records)
next-more [] k records inlet h = let wrong : None ≡ Some inlet = h in cc
next-more (x ∷ xs) zero records inlet h = length-append x.ends (ends_of records)
next-more (x ∷ xs) (suc k) records inlet h = next-more xs k records inlet h

next-act : (s : State) (act : Act) (failed : List ℕ) (j : ℕ) → is_legal_act s act failed ≡ true → next_of (after_act s act failed) j ≡ next_of s j + length (ends_by j act)
next-act s (Admit i records vs) failed j l =
    let p = both-true (passes_at s.inlets i (may_admit s i records)) _ l in
    let there = passes_at-some s.inlets i (may_admit s i records) p.0 in
    elim (cases_eq i j) [
      | inl e ↦ (
          let hit : (i == i) ≡ true = grind arith in
          rw (← e, hit) (next-more s.inlets i records there.0 there.1))
      | inr ne ↦ (
          let miss : (i == j) ≡ false = grind arith in
          let other = get-change-other s.inlets i j (admitted records) (λ q. ne (sym q)) in
          rw (miss, other) (omega arith))
    ]
next-act s (Settle d n) failed j l = omega arith
next-act s (Refill d n) failed j l = omega arith
next-act s (Store i w) failed j l = next-kept s.inlets i j (stored_at w) (λ x. refl) ∙ omega arith
next-act s (Rewind i) failed j l = next-kept s.inlets i j rewound (λ x. refl) ∙ omega arith
next-act s Look failed j l = omega arith

-- Events.

claimed-all : (s : State) (es : List Event) (next : ℕ → ℕ) (d : ℕ) (old : Dest) → ((i : ℕ) → next i ≡ next_of s i) → are_legal s es ≡ true → slice_get s.dests d ≡ Some old
    → (new : Dest) × (slice_get (after_all s es).dests d ≡ Some new) × (claimed_in new ≡ claimed_in old ++ claimed_from next d es)
claimed-all s [] next d old same l h = (old, h, sym (append-nil (claimed_in old)))
claimed-all s (e ∷ es) next d old same l h =
    let p = both-true (is_legal s e) (are_legal (after s e) es) l in
    let one = claimed-act s e.act e.failed next d old same h in
    let later : (i : ℕ) → next i + length (ends_by i e.act) ≡ next_of (after s e) i = λ i. ap (λ n. n + length (ends_by i e.act)) (same i) ∙ sym (next-act s e.act e.failed i p.0) in
    let rest = claimed-all (after s e) es (λ i. next i + length (ends_by i e.act)) d one.0 later p.1 one.1 in (
      rest.0,
      rest.1,
      rest.2 ∙ ap (λ ks. ks ++ claimed_from (λ i. next i + length (ends_by i e.act)) d es) one.2
          ∙ append_assoc (claimed_in old) (claims_at next d e.act) (claimed_from (λ i. next i + length (ends_by i e.act)) d es),
    )

-- Acknowledged records.

drop-behind : {A B : Type 0} (f : A → B) (xs ys : List A) → drop (length xs) (map f (xs ++ ys)) ≡ map f ys
drop-behind f [] ys = refl
drop-behind f (x ∷ xs) ys = drop-behind f xs ys

any-owed : (i n : ℕ) (es : List DestEntry) → list_any (is_owed_to i n) es ≡ any_owing i n (map claimed_by es) (map is_spooled es)
any-owed i n [] = refl
any-owed i n (e ∷ es) = ap (λ b. is_owed_to i n e || b) (any-owed i n es)

owes-same : (s : State) (es : List Event) (i n d : ℕ) (old : Dest) → are_legal s es ≡ true → slice_get s.dests d ≡ Some old
    → (new : Dest) × (slice_get (after_all s es).dests d ≡ Some new) × (not (list_any (is_owed_to i n) new.left) ≡ owes_none i n s es d old)
owes-same s es i n d old l h =
    let c = counts-dest s es d old l h in
    let t = claimed-all s es (next_of s) d old (λ i. refl) l h in
    let new = c.0 in
    let same : t.0 ≡ new = some-same t.0 new (sym t.1 ∙ c.1) in
    let all : claimed_in new ≡ claimed_in old ++ claimed_from (next_of s) d es = subst (λ (x : Dest). claimed_in x ≡ claimed_in old ++ claimed_from (next_of s) d es) same t.2 in
    let claims = sym (drop-behind claimed_by new.settled new.left) ∙ ap (λ ks. drop (length new.settled) ks) all in
    let marks = sym (drop-behind is_spooled new.settled new.left) ∙ ap (λ ks. drop (length new.settled) ks) c.2.spooled in
    let gone = c.2.settled in
    (new, c.1, ap not (any-owed i n new.left ∙ rw (claims, marks, gone) refl))

acked-from : (s : State) (es : List Event) (i n d : ℕ) (ds fs : List Dest) → length fs ≡ length ds
    → ((k : ℕ) (old : Dest) → slice_get ds k ≡ Some old → (new : Dest) × (slice_get fs k ≡ Some new) × (not (list_any (is_owed_to i n) new.left) ≡ owes_none i n s es (d + k) old))
    → is_acked fs i n ≡ all_acked i n s es d ds
acked-from s es i n d [] [] len each = refl
acked-from s es i n d [] (f ∷ fs) len each = absurd (let wrong : suc (length fs) ≡ 0 = len in omega arith)
acked-from s es i n d (x ∷ ds) [] len each = absurd (let wrong : 0 ≡ suc (length ds) = len in omega arith)
acked-from s es i n d (x ∷ ds) (f ∷ fs) len each =
    let first = each 0 x refl in
    let is : f ≡ first.0 = some-same f first.0 first.1 in
    let zero_d : d + 0 ≡ d = omega arith in
    let here : not (list_any (is_owed_to i n) f.left) ≡ owes_none i n s es d x = subst (λ (y : Dest). not (list_any (is_owed_to i n) y.left) ≡ owes_none i n s es d x) (sym is) (first.2 ∙ ap (λ k. owes_none i n s es k x) zero_d) in
    let rest = acked-from s es i n (d + 1) ds fs (omega arith) (λ k old g. (
    let r = each (suc k) old g in
    (r.0, r.1, r.2 ∙ ap (λ j. owes_none i n s es j old) (omega arith)))) in
    rw (here, rest) refl

pub length-claims : (i next : ℕ) (ds : List Dest) (cs : List Claim) (vs : List Verdict) → length (take_claims i next ds cs vs) ≡ length ds
length-claims i next ds [] vs = refl
length-claims i next ds (c ∷ cs) [] = refl
length-claims i next ds (c ∷ cs) (v ∷ vs) = length-claims i next (take_claim i next ds c v) cs vs ∙ length-change ds c.offer.dest (take_offer (origin_of i next c) c.offer v)

length-act : (s : State) (act : Act) (failed : List ℕ) → length (after_act s act failed).dests ≡ length s.dests
length-act s (Admit i records vs) failed = length-claims i (next_of s i) s.dests (claims_of records) vs
length-act s (Settle d n) failed = length-change s.dests d (settled_some n)
length-act s (Refill d n) failed = length-change s.dests d (refilled_some n)
length-act s (Store i w) failed = refl
length-act s (Rewind i) failed = refl
length-act s Look failed = refl

length-dests : (s : State) (es : List Event) → length (after_all s es).dests ≡ length s.dests
length-dests s [] = refl
length-dests s (e ∷ es) = length-dests (after s e) es ∙ length-act s e.act e.failed

acked-same : (s : State) (es : List Event) (i n : ℕ) → are_legal s es ≡ true → is_acked (after_all s es).dests i n ≡ is_acked_by s es i n
acked-same s es i n l =
    acked-from s es i n 0 s.dests (after_all s es).dests (length-dests s es) (λ k old g. (
    let r = owes-same s es i n k old l g in
    (r.0, r.1, r.2 ∙ ap (λ j. owes_none i n s es j old) (omega arith))))

-- Marks and outstanding records.

mark-read : (ds : List Dest) (acked : ℕ → Bool) (i n from : ℕ) (ends : List ℕ) → ((k : ℕ) → is_acked ds i k ≡ acked k) → mark ds i n from ends ≡ marked_by acked n from ends
mark-read ds acked i n from [] same = refl
mark-read ds acked i n from (x ∷ ends) same = rw (same n) (ap (λ m. if acked n then m else from) (mark-read ds acked i (n + 1) x ends same))

outstanding-read : (ds : List Dest) (acked : ℕ → Bool) (i n : ℕ) (ends : List ℕ) → ((k : ℕ) → is_acked ds i k ≡ acked k) → outstanding ds i n ends ≡ outstanding_by acked n ends
outstanding-read ds acked i n [] same = refl
outstanding-read ds acked i n (x ∷ ends) same = rw (same n) (ap (λ m. if acked n then m else suc (length ends)) (outstanding-read ds acked i (n + 1) ends same))

pub counts-mark : (s : State) (es : List Event) (i : ℕ) (old : InletRecords) → are_legal s es ≡ true → slice_get s.inlets i ≡ Some old
    → (new : InletRecords) × (slice_get (after_all s es).inlets i ≡ Some new) × CountsMark s old new i es
counts-mark s es i old l h =
    let c = counts-inlet s es i old l h in
    let ds = (after_all s es).dests in
    let acked : (k : ℕ) → is_acked ds i k ≡ is_acked_by s es i k = λ k. acked-same s es i k l in (
      c.0,
      c.1,
      record {
        mark = ap (λ p. mark ds i 0 p (c.0).ends) c.2.opening ∙ ap (λ xs. mark ds i 0 (opening_from i old.opening es) xs) c.2.ends ∙ mark-read ds (is_acked_by s es i) i 0 (opening_from i old.opening es) (old.ends ++ ends_admitted i es) acked;
        outstanding = ap (λ xs. outstanding ds i 0 xs) c.2.ends ∙ outstanding-read ds (is_acked_by s es i) i 0 (old.ends ++ ends_admitted i es) acked;
      },
    )

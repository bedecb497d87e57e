-- Records that come in, in the state and in what `replay` keeps of it.
use Rattle.std.proofs.Common.{◌≡◌, ◌≢◌, ℕ, ◌+◌, ◌<◌, ◌≤◌, List, [], ◌∷◌, ◌++◌, length, take, drop, Some, None, Option, false, refl, sym, ap, ◌∙◌, arith, suc, zero, slice_get, subst, append_assoc, inl, inr}
use Rattle.std.specs.Prelude.{option_and_then}
use Rattle.std.specs.Option.{option_map, option_map_or}
use Rattle.std.proofs.lemmas.Bool.{cases_eq}
use Rattle.std.proofs.lemmas.List.{append-nil, length_push}
use Rattle.sg_list.specs.Lists.{change}
use Rattle.sg_list.proofs.ListLemmas.{get-change-same}
use Rattle.sg_msg.specs.declared.offer.Offer.{Offer}
use Rattle.sg_window.specs.declared.tracker.BegunRecord.{BegunRecord}
use Rattle.sg_machine.specs.declared.event.Admission.{Admission}
use Rattle.sg_machine.specs.declared.event.Verdict.{Verdict}
use Rattle.sg_machine.specs.declared.state.InletRecords.{InletRecords}
use Rattle.sg_machine.specs.declared.state.Dest.{Dest}
use Rattle.sg_machine.specs.declared.state.State.{State}
use Rattle.sg_machine.specs.Verdicts.{Claim, claims_in, claims_from, judged_at, judged, take_claim, take_claims}
use Rattle.sg_machine.specs.Effects.{ends_of, admitted}
use Rattle.sg_machine.specs.Running.{owed, records_from, source_run, source_runs, run_of, ends_at, IsSoundReplay}
use Rattle.sg_machine.specs.Turns.{begun_one, begun_in, owing, record_taken, record_turn, record_turns}
use Rattle.sg_machine.proofs.OwedLemmas.{acked-behind, mark-behind, records-same, records-length, sources-above}
use Rattle.sg_machine.proofs.MoveLemmas.{change-twice, change-self}
use Rattle.sg_machine.proofs.TakeLemmas.{is_at, TakesEntry, judged-same, takes-all}

-- One more record.

records-push : (ds : List Dest) (i n : ℕ) (ends : List ℕ) (end m : ℕ) → n + length ends ≡ m → records_from ds i n (ends ++ end ∷ []) ≡ records_from ds i n ends ++ record { end = end; left = owed ds i m } ∷ []
records-push ds i n [] end m h = let e : n ≡ m = omega arith in rw e refl
records-push ds i n (x ∷ ends) end m h = ap (λ rs. record { end = x; left = owed ds i n } ∷ rs) (records-push ds i (n + 1) ends end m (omega arith))

pub records-below : (ds fs : List Dest) (i n : ℕ) (ends : List ℕ) → ((j : ℕ) → j < n + length ends → owed fs i j ≡ owed ds i j) → records_from fs i n ends ≡ records_from ds i n ends
records-below ds fs i n [] h = refl
records-below ds fs i n (x ∷ ends) h =
    let here : owed fs i n ≡ owed ds i n = h n (omega arith) in
    let rest = records-below ds fs i (n + 1) ends (λ j l. h j (omega arith)) in
    rw (here, rest) refl

abbrev one_record : ℕ → InletRecords → InletRecords
one_record end inlet = record inlet { ends = inlet.ends ++ end ∷ [] }

source-more : (ds fs : List Dest) (i : ℕ) (x : InletRecords) (end left : ℕ) → ((j : ℕ) → j < length x.ends → owed fs i j ≡ owed ds i j) → owed fs i (length x.ends) ≡ left
    → source_run fs i (one_record end x) ≡ begun_one end left (source_run ds i x)
source-more ds fs i x end left same new =
    let rs = records_from ds i 0 x.ends in
    let r : BegunRecord = record { end = end; left = left } in
    let push = records-push fs i 0 x.ends end (length x.ends) (omega arith) in
    let old = records-below ds fs i 0 x.ends (λ j l. same j (omega arith)) in
    rw (push, old, new, acked-behind rs (r ∷ []), mark-behind x.opening rs (r ∷ [])) refl

pub number-ends : (inlets : List InletRecords) (i : ℕ) → option_map_or (λ (x : InletRecords). length x.ends) (slice_get inlets i) 0 ≡ length (ends_at inlets i)
number-ends [] i = refl
number-ends (x ∷ inlets) zero = refl
number-ends (x ∷ inlets) (suc i) = number-ends inlets i

sources-more : (ds fs : List Dest) (i k m end left : ℕ) (inlets : List InletRecords) → i + k ≡ m
    → ((j n : ℕ) → j ≢ m → owed fs j n ≡ owed ds j n) → ((n : ℕ) → n < length (ends_at inlets k) → owed fs m n ≡ owed ds m n)
    → owed fs m (length (ends_at inlets k)) ≡ left
    → source_runs fs i (change inlets k (one_record end)) ≡ change (source_runs ds i inlets) k (begun_one end left)
sources-more ds fs i k m end left [] at others same new = refl
sources-more ds fs i zero m end left (x ∷ inlets) at others same new =
    let e : i ≡ m = omega arith in
    let w = source-more ds fs i x end left (λ j l. rw e (same j l)) (rw e new) in
    let rest = sources-above ds fs (i + 1) inlets (λ j n l. others j n (omega arith)) in
    rw (w, rest) refl
sources-more ds fs i (suc k) m end left (x ∷ inlets) at others same new =
    let ne : i ≢ m = omega arith in
    let here = records-same ds fs i 0 x.ends (λ j l. others i j ne) in
    let rest = sources-more ds fs (i + 1) k m end left inlets (omega arith) others same new in
    rw (here, rest) refl

ends-longer : (inlets : List InletRecords) (i end j : ℕ) → length (ends_at inlets j) ≤ length (ends_at (change inlets i (one_record end)) j)
ends-longer [] i end j = omega arith
ends-longer (x ∷ inlets) zero end zero = let l = length_push x.ends end in omega arith
ends-longer (x ∷ inlets) zero end (suc j) = omega arith
ends-longer (x ∷ inlets) (suc i) end zero = omega arith
ends-longer (x ∷ inlets) (suc i) end (suc j) = ends-longer inlets i end j

ends-itself : (inlets : List InletRecords) (i end : ℕ) (inlet : InletRecords) → slice_get inlets i ≡ Some inlet → length (ends_at (change inlets i (one_record end)) i) ≡ length (ends_at inlets i) + 1
ends-itself [] i end inlet h = let wrong : None ≡ Some inlet = h in cc
ends-itself (x ∷ inlets) zero end inlet h = length_push x.ends end
ends-itself (x ∷ inlets) (suc i) end inlet h = ends-itself inlets i end inlet h

pub apart-inlet : (i number j n : ℕ) → j ≢ i → is_at i number j n ≡ false
apart-inlet i number j n h = grind arith

pub apart-number : (i number j n : ℕ) → n ≢ number → is_at i number j n ≡ false
apart-number i number j n h = grind arith

-- the state behind one record of i, whose offers left these destinations and failed stores
abbrev pub with_record : State → ℕ → ℕ → List Dest → List ℕ → State
with_record s i end fs failed = record s { inlets = change s.inlets i (one_record end); dests = fs; failed = failed }

record BeginsRecord (s : State) (i : ℕ) (r : Admission) (vs : List Verdict) (fs : List Dest) (failed : List ℕ) : Type 0 where
  sound : IsSoundReplay (with_record s i r.end fs failed)
  at : record_taken i (run_of s) r vs failed ≡ run_of (with_record s i r.end fs failed)

begun-same : (ds : List Dest) (i k : ℕ) (inlets : List InletRecords) → begun_in (source_runs ds i inlets) k ≡ length (ends_at inlets k)
begun-same ds i k [] = refl
begun-same ds i zero (x ∷ inlets) = records-length ds i 0 x.ends
begun-same ds i (suc k) (x ∷ inlets) = begun-same ds (i + 1) k inlets

begins : (s : State) (i : ℕ) (inlet : InletRecords) (r : Admission) (vs : List Verdict) (fs : List Dest) (failed : List ℕ) (number : ℕ) → IsSoundReplay s → slice_get s.inlets i ≡ Some inlet → number ≡ length (ends_at s.inlets i)
    → TakesEntry i number s.dests fs r.offers vs → BeginsRecord s i r vs fs failed
begins s i inlet r vs fs failed number sound there num takes =
    let none : owed s.dests i number ≡ 0 = sound.admitted i number (omega arith) in
    let filled : owed fs i number ≡ owing r.offers vs = (let a = takes.itself in omega arith) in
    let new : owed fs i (length (ends_at s.inlets i)) ≡ owing r.offers vs = rw (← num) filled in
    let sources = sources-more s.dests fs 0 i i r.end (owing r.offers vs) s.inlets (omega arith)
    (λ j n ne. takes.others j n (apart-inlet i number j n ne))
    (λ n l. takes.others i n (apart-number i number i n (let ne : n ≢ number = omega arith in ne)))
    new in
    let begun = begun-same s.dests 0 i s.inlets in
    record {
      sound = record {
        admitted = λ j n l.
            let longer = ends-longer s.inlets i r.end j in
            let old : owed s.dests j n ≡ 0 = sound.admitted j n (omega arith) in
            elim (cases_eq j i) [
              | inl e ↦ (
                  let more = ends-itself s.inlets i r.end inlet there in
                  let here : length (ends_at (change s.inlets i (one_record r.end)) i) ≤ n = rw e at l in
                  let ne : n ≢ number = omega arith in
                  takes.others j n (apart-number i number j n ne) ∙ old)
              | inr ne ↦ takes.others j n (apart-inlet i number j n ne) ∙ old
            ];
        split = takes.split;
      };
      at = rw (begun, ← num, sources, takes.runs) refl;
    }

-- Claims of one record, before those of the next.

pub length-claims : (place end : ℕ) (os : List Offer) → length (claims_in place end os) ≡ length os
length-claims place end [] = refl
length-claims place end (o ∷ os) = ap suc (length-claims place end os)

pub judged-append : (i next : ℕ) (failing : List ℕ) (ds : List Dest) (failed : List ℕ) (place end : ℕ) (os : List Offer) (cs : List Claim) (vs : List Verdict)
    → judged i next failing ds failed (claims_in place end os ++ cs) vs
    ≡ option_and_then (λ f. judged i next failing (take_claims i next ds (claims_in place end os) (take (length os) vs)) f cs (drop (length os) vs)) (judged i next failing ds failed (claims_in place end os) (take (length os) vs))
judged-append i next failing ds failed place end [] cs vs = refl
judged-append i next failing ds failed place end (o ∷ os) cs [] = refl
judged-append i next failing ds failed place end (o ∷ os) cs (v ∷ vs) =
    let c : Claim = record { place = place; end = end; offer = o } in
    elim (judged_at (slice_get ds o.dest) failing failed o v) as (λ r.
    option_and_then (λ f. judged i next failing (take_claim i next ds c v) f (claims_in place end os ++ cs) vs) r
    ≡ option_and_then (λ f. judged i next failing (take_claims i next (take_claim i next ds c v) (claims_in place end os) (take (length os) vs)) f cs (drop (length os) vs))
    (option_and_then (λ f. judged i next failing (take_claim i next ds c v) f (claims_in place end os) (take (length os) vs)) r)) [
      | None ↦ refl
      | Some f ↦ judged-append i next failing (take_claim i next ds c v) f place end os cs vs
    ]

pub takes-append : (i next : ℕ) (ds : List Dest) (place end : ℕ) (os : List Offer) (cs : List Claim) (vs : List Verdict) → length (take (length os) vs) ≡ length os
    → take_claims i next ds (claims_in place end os ++ cs) vs ≡ take_claims i next (take_claims i next ds (claims_in place end os) (take (length os) vs)) cs (drop (length os) vs)
takes-append i next ds place end [] cs vs h = refl
takes-append i next ds place end (o ∷ os) cs [] h = absurd (omega arith)
takes-append i next ds place end (o ∷ os) cs (v ∷ vs) h =
    let c : Claim = record { place = place; end = end; offer = o } in
    takes-append i next (take_claim i next ds c v) place end os cs vs (omega arith)

-- Records in order.

-- the state behind records of i, the first of which has that place in its batch
abbrev pub with_records : State → ℕ → ℕ → ℕ → List Admission → List Verdict → List ℕ → State
with_records s i next place records vs failed = record s { inlets = change s.inlets i (admitted records); dests = take_claims i next s.dests (claims_from place records) vs; failed = failed }

pub record AdmitsRecords (s : State) (i next place : ℕ) (failing : List ℕ) (records : List Admission) (vs : List Verdict) : Type 0 where
  pub at : record_turns i failing (run_of s) records vs ≡ option_map (λ f. run_of (with_records s i next place records vs f)) (judged i next failing s.dests s.failed (claims_from place records) vs)
  pub sound : (z : List ℕ) → judged i next failing s.dests s.failed (claims_from place records) vs ≡ Some z → IsSoundReplay (with_records s i next place records vs z)

admit-none : (inlet : InletRecords) → admitted [] inlet ≡ inlet
admit-none inlet = rw (append-nil inlet.ends) refl

admit-more : (r : Admission) (rs : List Admission) (inlet : InletRecords) → admitted rs (one_record r.end inlet) ≡ admitted (r ∷ rs) inlet
admit-more r rs inlet = ap (λ (xs : List ℕ). record inlet { ends = xs }) (append_assoc inlet.ends (r.end ∷ []) (ends_of rs))

change-ext : {A : Type 0} (xs : List A) (k : ℕ) (f g : A → A) → ((x : A) → f x ≡ g x) → change xs k f ≡ change xs k g
change-ext [] k f g h = refl
change-ext (x ∷ xs) zero f g h = ap (λ y. y ∷ xs) (h x)
change-ext (x ∷ xs) (suc k) f g h = ap (λ ys. x ∷ ys) (change-ext xs k f g h)

inlets-more : (inlets : List InletRecords) (i : ℕ) (r : Admission) (rs : List Admission) → change (change inlets i (one_record r.end)) i (admitted rs) ≡ change inlets i (admitted (r ∷ rs))
inlets-more inlets i r rs = change-twice inlets i (one_record r.end) (admitted rs) ∙ change-ext inlets i (λ x. admitted rs (one_record r.end x)) (admitted (r ∷ rs)) (admit-more r rs)

some-is : {A : Type 0} (x y : A) → Some x ≡ Some y → x ≡ y
some-is x y h = cc

admits-none : (s : State) (i next place : ℕ) (failing : List ℕ) (inlet : InletRecords) (vs : List Verdict) → IsSoundReplay s → slice_get s.inlets i ≡ Some inlet → AdmitsRecords s i next place failing [] vs
admits-none s i next place failing inlet [] sound there =
    let same = change-self s.inlets i (admitted []) inlet there (admit-none inlet) in
    record { at = rw same refl; sound = λ z j. rw (same, ← some-is s.failed z j) sound }
admits-none s i next place failing inlet (v ∷ vs) sound there =
    record { at = grind arith; sound = λ z j. absurd (let wrong : None ≡ Some z = j in cc) }

mapped : {A B : Type 0} {f g : A → B} (o : Option A) → ((x : A) → f x ≡ g x) → option_map f o ≡ option_map g o
mapped None h = refl
mapped (Some x) h = ap Some (h x)

abbrev OtherInlets : ℕ → ℕ → List ℕ → List Admission → Type 0
OtherInlets i next failing rs = (t : State) (place : ℕ) (inlet : InletRecords) (vs : List Verdict) → IsSoundReplay t → slice_get t.inlets i ≡ Some inlet → next + place ≡ length (ends_at t.inlets i) → AdmitsRecords t i next place failing rs vs

admits-by : (s : State) (i next place : ℕ) (failing : List ℕ) (inlet : InletRecords) (r : Admission) (rs : List Admission) (vs : List Verdict) (first : Option (List ℕ)) → OtherInlets i next failing rs → IsSoundReplay s → slice_get s.inlets i ≡ Some inlet
    → next + place ≡ length (ends_at s.inlets i) → judged i next failing s.dests s.failed (claims_in place r.end r.offers) (take (length r.offers) vs) ≡ first → AdmitsRecords s i next place failing (r ∷ rs) vs
admits-by s i next place failing inlet r rs vs None others sound there num j =
    let n = length r.offers in
    let begun = begun-same s.dests 0 i s.inlets ∙ sym num in
    let same = judged-same i next place (next + place) r.end failing s.dests s.failed r.offers (take n vs) refl sound.split in
    let whole : judged i next failing s.dests s.failed (claims_from place (r ∷ rs)) vs ≡ None = judged-append i next failing s.dests s.failed place r.end r.offers (claims_from (place + 1) rs) vs ∙ rw j refl in
    record {
      at = rw (begun, same, j, whole) refl;
      sound = λ z w. absurd (let wrong : None ≡ Some z = sym whole ∙ w in cc);
    }
admits-by s i next place failing inlet r rs vs (Some f) others sound there num j =
    let n = length r.offers in
    let begun = begun-same s.dests 0 i s.inlets ∙ sym num in
    let same = judged-same i next place (next + place) r.end failing s.dests s.failed r.offers (take n vs) refl sound.split in
    let fs = take_claims i next s.dests (claims_in place r.end r.offers) (take n vs) in
    let takes = takes-all i next place (next + place) r.end failing s.dests s.failed r.offers (take n vs) f refl sound.split j in
    let one = begins s i inlet r (take n vs) fs f (next + place) sound there num takes in
    let s1 = with_record s i r.end fs f in
    let next_there = get-change-same s.inlets i (one_record r.end) inlet there in
    let num1 : next + (place + 1) ≡ length (ends_at s1.inlets i) = (let a = ends-itself s.inlets i r.end inlet there in omega arith) in
    let rest = others s1 (place + 1) (one_record r.end inlet) (drop n vs) one.sound next_there num1 in
    let dests = takes-append i next s.dests place r.end r.offers (claims_from (place + 1) rs) vs takes.verdicts in
    let inlets = inlets-more s.inlets i r rs in
    let whole : judged i next failing s.dests s.failed (claims_from place (r ∷ rs)) vs ≡ judged i next failing fs f (claims_from (place + 1) rs) (drop n vs) =
    judged-append i next failing s.dests s.failed place r.end r.offers (claims_from (place + 1) rs) vs ∙ rw j refl in
    let state : (z : List ℕ) → with_records s1 i next (place + 1) rs (drop n vs) z ≡ with_records s i next place (r ∷ rs) vs z = λ z. rw (inlets, dests) refl in
    let first : record_turn i failing (run_of s) r (take n vs) ≡ Some (run_of s1) = rw (begun, same, j) (ap Some one.at) in
    record {
      at = rw (first, whole) (rest.at ∙ mapped (judged i next failing fs f (claims_from (place + 1) rs) (drop n vs)) (λ z. ap run_of (state z)));
      sound = λ z w. subst IsSoundReplay (state z) (rest.sound z (sym whole ∙ w));
    }

pub admits : (s : State) (i next place : ℕ) (failing : List ℕ) (inlet : InletRecords) (records : List Admission) (vs : List Verdict) → IsSoundReplay s → slice_get s.inlets i ≡ Some inlet
    → next + place ≡ length (ends_at s.inlets i) → AdmitsRecords s i next place failing records vs
admits s i next place failing inlet [] vs sound there num = admits-none s i next place failing inlet vs sound there
admits s i next place failing inlet (r ∷ rs) vs sound there num =
    admits-by s i next place failing inlet r rs vs (judged i next failing s.dests s.failed (claims_in place r.end r.offers) (take (length r.offers) vs))
    (λ t p x ws sound_then there_then num_then. admits t i next p failing x rs ws sound_then there_then num_then) sound there num refl

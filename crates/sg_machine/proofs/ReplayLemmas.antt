-- What `replay` begins with, what bounds it, and what it adds up.
use Rattle.std.proofs.Common.{◌≡◌, ℕ, ◌+◌, ◌*◌, ◌^◌, ◌<◌, ◌≤◌, List, [], ◌∷◌, ◌++◌, length, get_or, map, take, drop, max, Some, None, Bool, true, false, ◌&&◌, refl, sym, ap, ◌∙◌, arith, suc, zero, if◌then◌else◌}
use Rattle.std.specs.Prelude.{nat_lt, nat_le}
use Rattle.std.specs.List.{list_all}
use Rattle.std.proofs.lemmas.List.{length-append, take_more, drop_more, take-append-drop}
use Rattle.sg_list.specs.Lists.{passes_at}
use Rattle.sg_msg.specs.declared.offer.Offer.{Offer}
use Rattle.sg_list.proofs.ListLemmas.{passes_at-some}
use Rattle.sg_machine.specs.declared.event.Admission.{Admission}
use Rattle.sg_machine.specs.declared.event.Verdict.{Verdict}
use Rattle.sg_machine.specs.declared.event.Act.{Act}
use Rattle.sg_machine.specs.declared.event.Act.TheVariants.{Admit, Settle, Refill, Store, Rewind, Look}
use Rattle.sg_machine.specs.declared.event.Event.{Event}
use Rattle.sg_machine.specs.declared.setup.SourceSetup.{SourceSetup}
use Rattle.sg_machine.specs.declared.setup.DestSetup.{DestSetup}
use Rattle.sg_machine.specs.declared.setup.Setup.{Setup}
use Rattle.sg_machine.specs.declared.state.InletRecords.{InletRecords}
use Rattle.sg_machine.specs.declared.state.Dest.{Dest}
use Rattle.sg_machine.specs.declared.state.State.{State}
use Rattle.sg_machine.specs.declared.running.Run.{Run}
use Rattle.sg_machine.specs.Verdicts.{Claim, claims_in, claims_from, claims_of, origin_of, take_claim, take_claims}
use Rattle.sg_machine.specs.Legal.{is_admissible, may_admit, is_legal_act, is_legal}
use Rattle.sg_machine.specs.Effects.{next_of, after_act, after}
use Rattle.sg_machine.specs.Runs.{opened_inlets, opened_dests, fresh, after_all, are_legal}
use Rattle.sg_machine.specs.Tallies.{source_tallies, dest_tally, tally_of}
use Rattle.sg_machine.specs.Running.{owed, source_runs, dest_run, run_of, are_split, IsSoundReplay}
use Rattle.sg_machine.specs.Turns.{most_run}
use Rattle.sg_machine.specs.Steps.{act_step}
use Rattle.sg_machine.specs.Fresh.{fresh_source, fresh_dest, fresh_run_of, source_sum, dest_sum, sum_of}
use Rattle.sg_machine.proofs.RunLemmas.{both-true, after_all-append, are_legal-append, are_legal-join}
use Rattle.sg_machine.proofs.OfferLemmas.{most_dropped, most_dropped-change, most_dropped-settle, most_dropped-refill, most_dropped-opened}
use Rattle.sg_machine.proofs.OwedLemmas.{records-length}
use Rattle.sg_machine.proofs.StepLemmas.{mark-same, left-length, step-same}

-- Fresh stores.

fresh-sources : (ds : List Dest) (i : ℕ) (ss : List SourceSetup) → map fresh_source ss ≡ source_runs ds i (opened_inlets ss [])
fresh-sources ds i [] = refl
fresh-sources ds i (s ∷ ss) = ap (λ xs. fresh_source s ∷ xs) (fresh-sources ds (i + 1) ss)

fresh-dests : (ss : List DestSetup) → map fresh_dest ss ≡ map dest_run (opened_dests ss [])
fresh-dests [] = refl
fresh-dests (s ∷ ss) = ap (λ xs. fresh_dest s ∷ xs) (fresh-dests ss)

pub fresh-same : (setup : Setup) → fresh_run_of setup ≡ run_of (fresh setup)
fresh-same setup = rw (fresh-sources (opened_dests setup.dests []) 0 setup.sources, fresh-dests setup.dests) refl

owed-fresh : (ss : List DestSetup) (i n : ℕ) → owed (opened_dests ss []) i n ≡ 0
owed-fresh [] i n = refl
owed-fresh (s ∷ ss) i n = let rest = owed-fresh ss i n in omega arith

split-fresh : (ss : List DestSetup) → are_split (opened_dests ss []) ≡ true
split-fresh [] = refl
split-fresh (s ∷ ss) = split-fresh ss

sound-fresh : (setup : Setup) → IsSoundReplay (fresh setup)
sound-fresh setup = record { admitted = λ i n l. owed-fresh setup.dests i n; split = split-fresh setup.dests }

pub sound-all : (s : State) (es : List Event) → IsSoundReplay s → are_legal s es ≡ true → IsSoundReplay (after_all s es)
sound-all s [] sound l = sound
sound-all s (e ∷ es) sound l =
    let p = both-true (is_legal s e) (are_legal (after s e) es) l in
    sound-all (after s e) es ((step-same s e.act e.failed sound).sound p.0) p.1

pub sound-at : (setup : Setup) (es : List Event) → are_legal (fresh setup) es ≡ true → IsSoundReplay (after_all (fresh setup) es)
sound-at setup es l = sound-all (fresh setup) es (sound-fresh setup) l

-- How many offers may be dropped.

pub most-run : (ds : List Dest) → most_run (map dest_run ds) ≡ most_dropped ds
most-run [] = refl
most-run (d ∷ ds) = ap (λ n. max (max d.dropped_full d.dropped_disk) n) (most-run ds)

dropped-claims : (i next : ℕ) (ds : List Dest) (cs : List Claim) (vs : List Verdict) → most_dropped (take_claims i next ds cs vs) ≤ most_dropped ds + length cs
dropped-claims i next ds [] vs = omega arith
dropped-claims i next ds (c ∷ cs) [] = omega arith
dropped-claims i next ds (c ∷ cs) (v ∷ vs) =
    let one = most_dropped-change (origin_of i next c) c.offer v ds c.offer.dest in
    let rest = dropped-claims i next (take_claim i next ds c v) cs vs in
    omega arith

count-claims : (place end : ℕ) (os : List Offer) → length (claims_in place end os) ≡ length os
count-claims place end [] = refl
count-claims place end (o ∷ os) = ap suc (count-claims place end os)

le-of : (n m : ℕ) → nat_le n m ≡ true → n ≤ m
le-of n m h = grind arith

most-claims : (place : ℕ) (rs : List Admission) → list_all is_admissible rs ≡ true → length (claims_from place rs) ≤ 1024 * length rs
most-claims place [] h = omega arith
most-claims place (r ∷ rs) h =
    let p = both-true (is_admissible r) (list_all is_admissible rs) h in
    let q = both-true (nat_lt r.end (2 ^ 63)) (nat_le (length r.offers) 1024) p.0 in
    let few = le-of (length r.offers) 1024 q.1 in
    let a = length-append (claims_in place r.end r.offers) (claims_from (place + 1) rs) in
    let b = count-claims place r.end r.offers in
    let rest = most-claims (place + 1) rs p.1 in
    omega arith

dropped-act : (s : State) (act : Act) (failed : List ℕ) → is_legal_act s act failed ≡ true → most_dropped (after_act s act failed).dests ≤ most_dropped s.dests + 1024000
dropped-act s (Admit i records vs) failed l =
    let p = both-true (passes_at s.inlets i (may_admit s i records)) _ l in
    let there = passes_at-some s.inlets i (may_admit s i records) p.0 in
    let q = both-true _ (list_all is_admissible records) there.2 in
    let r = both-true (nat_lt 0 (length records) && nat_le (length records) 1000) _ q.0 in
    let t = both-true (nat_lt 0 (length records)) (nat_le (length records) 1000) r.0 in
    let few = le-of (length records) 1000 t.1 in
    let many = most-claims 0 records q.1 in
    let all = dropped-claims i (next_of s i) s.dests (claims_of records) vs in
    omega arith
dropped-act s (Settle d n) failed l = let e = most_dropped-settle s.dests d n in omega arith
dropped-act s (Refill d n) failed l = let e = most_dropped-refill s.dests d n in omega arith
dropped-act s (Store i w) failed l = omega arith
dropped-act s (Rewind i) failed l = omega arith
dropped-act s Look failed l = omega arith

dropped-all : (s : State) (es : List Event) → are_legal s es ≡ true → most_dropped (after_all s es).dests ≤ most_dropped s.dests + 1024000 * length es
dropped-all s [] l = omega arith
dropped-all s (e ∷ es) l =
    let p = both-true (is_legal s e) (are_legal (after s e) es) l in
    let one = dropped-act s e.act e.failed p.0 in
    let rest = dropped-all (after s e) es p.1 in
    omega arith

pub dropped-at : (setup : Setup) (es : List Event) → are_legal (fresh setup) es ≡ true → most_run (map dest_run (after_all (fresh setup) es).dests) ≤ 1024000 * length es
dropped-at setup es l =
    let all = dropped-all (fresh setup) es l in
    let none = most_dropped-opened setup.dests [] in
    let same = most-run (after_all (fresh setup) es).dests in
    omega arith

-- What it comes to.

sum-dest : (d : Dest) → dest_sum (dest_run d) ≡ dest_tally d
sum-dest d = rw (left-length d) refl

sum-dests : (ds : List Dest) → map dest_sum (map dest_run ds) ≡ map dest_tally ds
sum-dests [] = refl
sum-dests (d ∷ ds) = rw (sum-dest d, sum-dests ds) refl

sum-sources : (ds : List Dest) (i : ℕ) (inlets : List InletRecords) → map source_sum (source_runs ds i inlets) ≡ source_tallies ds i inlets
sum-sources ds i [] = refl
sum-sources ds i (x ∷ inlets) = rw (records-length ds i 0 x.ends, sym (mark-same ds i 0 x.opening x.ends), sum-sources ds (i + 1) inlets) refl

pub sum-same : (s : State) → sum_of (run_of s) ≡ tally_of s
sum-same s = rw (sum-sources s.dests 0 s.inlets, sum-dests s.dests) refl

-- One event on.

take-length : (n : ℕ) (es : List Event) → length (take n es) ≤ n
take-length zero es = omega arith
take-length (suc n) [] = omega arith
take-length (suc n) (e ∷ es) = let rest = take-length n es in omega arith

pub few-dropped : (setup : Setup) (es : List Event) (k : ℕ) → are_legal (fresh setup) (take k es) ≡ true → most_run (map dest_run (after_all (fresh setup) (take k es)).dests) ≤ 1024000 * k
few-dropped setup es k l = let d = dropped-at setup (take k es) l in let t = take-length k es in omega arith

-- the same answer of both
pub agree : (a b : Bool) (x y : Run) → (if a then Some x else None) ≡ (if b then Some y else None) → (a ≡ b) × (a ≡ true → x ≡ y)
agree true true x y h = (refl, λ _. (let g : Some x ≡ Some y = h in cc))
agree true false x y h = absurd (let wrong : Some x ≡ None = h in cc)
agree false true x y h = absurd (let wrong : None ≡ Some y = h in cc)
agree false false x y h = (refl, λ w. absurd (let wrong : false ≡ true = w in cc))

pub step-agrees : (s : State) (e : Event) (run new : Run) (ok : Bool) → IsSoundReplay s → run ≡ run_of s → act_step e.act e.failed run ≡ (if ok then Some new else None)
    → (ok ≡ is_legal s e) × (ok ≡ true → new ≡ run_of (after s e))
step-agrees s e run new ok sound at h =
    let same : act_step e.act e.failed run ≡ (if is_legal s e then Some (run_of (after s e)) else None) = rw at (step-same s e.act e.failed sound).at in
    agree ok (is_legal s e) new (run_of (after s e)) (sym h ∙ same)

pub goes-on : (s : State) (es : List Event) (k : ℕ) (e : Event) → k < length es → e ≡ get_or es k e → are_legal s (take k es) ≡ true → is_legal (after_all s (take k es)) e ≡ true
    → (are_legal s (take (k + 1) es) ≡ true) × (after_all s (take (k + 1) es) ≡ after (after_all s (take k es)) e)
goes-on s es k e h g l one =
    let more : take (k + 1) es ≡ take k es ++ e ∷ [] = take_more es k e h ∙ ap (λ x. take k es ++ x ∷ []) (sym g) in
    (rw more (are_legal-join s (take k es) (e ∷ []) l (rw one refl)), rw more (after_all-append s (take k es) (e ∷ [])))

pub ends-there : (s : State) (es : List Event) (k : ℕ) (e : Event) → k < length es → e ≡ get_or es k e → are_legal s (take k es) ≡ true → is_legal (after_all s (take k es)) e ≡ false → are_legal s es ≡ false
ends-there s es k e h g l one =
    let parts : es ≡ take k es ++ drop k es = sym (take-append-drop k es) in
    let rest : drop k es ≡ e ∷ drop (k + 1) es = drop_more es k e h ∙ ap (λ x. x ∷ drop (k + 1) es) (sym g) in
    let bad : are_legal (after_all s (take k es)) (drop k es) ≡ false = rw (rest, one) refl in
    ap (are_legal s) parts ∙ are_legal-append s (take k es) (drop k es) ∙ rw (l, bad) refl

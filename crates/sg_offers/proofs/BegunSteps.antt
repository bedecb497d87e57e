-- What records need once a batch is in.
use Rattle.std.proofs.Common.{◌≡◌, ◌≢◌, ℕ, ◌+◌, ◌<◌, ◌≤◌, List, [], ◌∷◌, length, take, drop, Some, true, refl, sym, ap, ◌∙◌, arith, subst}
use Rattle.sg_machine.specs.declared.event.Admission.{Admission}
use Rattle.sg_machine.specs.declared.event.Verdict.{Verdict}
use Rattle.sg_machine.specs.declared.state.Dest.{Dest}
use Rattle.sg_machine.specs.Effects.{ends_of}
use Rattle.sg_machine.specs.Running.{owed, records_from, are_split}
use Rattle.sg_machine.specs.Turns.{owing}
use Rattle.sg_machine.specs.Verdicts.{claims_in, claims_from, judged, take_claims}
use Rattle.sg_machine.proofs.RecordLemmas.{judged-append, takes-append, apart-inlet, apart-number}
use Rattle.sg_machine.proofs.TakeLemmas.{TakesEntry, takes-all, then-some-of}
use Rattle.sg_window.specs.declared.tracker.BegunRecord.{BegunRecord}
use Rattle.sg_offers.specs.Answering.{begun_of}
use Rattle.sg_offers.specs.Laws.{BegunRecords}

-- records of i, the first of which has that place in the batch and this number
record Needs (i number : ℕ) (old new : List Dest) (records : List Admission) (vs : List Verdict) : Type 0 where
  others : (j n : ℕ) → j ≢ i → owed new j n ≡ owed old j n
  before : (n : ℕ) → n < number → owed new i n ≡ owed old i n
  begun : ((n : ℕ) → number ≤ n → owed old i n ≡ 0) → records_from new i number (ends_of records) ≡ begun_of records vs

needs-then : (i number : ℕ) (old between new : List Dest) (r : Admission) (rs : List Admission) (vs : List Verdict) → TakesEntry i number old between r.offers (take (length r.offers) vs)
    → Needs i (number + 1) between new rs (drop (length r.offers) vs) → Needs i number old new (r ∷ rs) vs
needs-then i number old between new r rs vs takes deep =
    let first = take (length r.offers) vs in
    let rest = drop (length r.offers) vs in
    record {
      others = λ j n ne. deep.others j n ne ∙ takes.others j n (apart-inlet i number j n ne);
      before = λ n l. deep.before n (omega arith) ∙ takes.others i n (apart-number i number i n (let ne : n ≢ number = omega arith in ne));
      begun = λ h.
          let here = deep.before number (omega arith) in
          let itself = takes.itself in
          let none = h number (omega arith) in
          let left : owed new i number ≡ owing r.offers first = omega arith in
          let later = deep.begun (λ n l. takes.others i n (apart-number i number i n (let ne : n ≢ number = omega arith in ne)) ∙ h n (omega arith)) in
          ap (λ (k : ℕ). record { end = r.end; left = k } ∷ records_from new i (number + 1) (ends_of rs)) left
          ∙ ap (λ (bs : List BegunRecord). record { end = r.end; left = owing r.offers first } ∷ bs) later;
    }

needs : (i next place number : ℕ) (failing : List ℕ) (dests : List Dest) (failed : List ℕ) (records : List Admission) (vs : List Verdict) (z : List ℕ) → next + place ≡ number → are_split dests ≡ true
    → judged i next failing dests failed (claims_from place records) vs ≡ Some z → Needs i number dests (take_claims i next dests (claims_from place records) vs) records vs
needs i next place number failing dests failed [] vs z at split j = record { others = λ k n ne. refl; before = λ n l. refl; begun = λ h. refl }
needs i next place number failing dests failed (r ∷ rs) vs z at split j =
    let first = take (length r.offers) vs in
    let rest = drop (length r.offers) vs in
    let ds = claims_from (place + 1) rs in
    let between = take_claims i next dests (claims_in place r.end r.offers) first in
    let parts = then-some-of (judged i next failing dests failed (claims_in place r.end r.offers) first) (λ f. judged i next failing between f ds rest) z
    (sym (judged-append i next failing dests failed place r.end r.offers ds vs) ∙ j) in
    let takes = takes-all i next place number r.end failing dests failed r.offers first parts.0 at split parts.1 in
    let next_at : next + (place + 1) ≡ number + 1 = omega arith in
    let deep = needs i next (place + 1) (number + 1) failing between parts.0 rs rest z next_at takes.split parts.2 in
    let whole = takes-append i next dests place r.end r.offers ds vs takes.verdicts in
    subst (λ (ks : List Dest). Needs i number dests ks (r ∷ rs) vs) (sym whole) (needs-then i number dests between (take_claims i next between ds rest) r rs vs takes deep)

pub begun-by : (i next : ℕ) (failing : List ℕ) (dests : List Dest) (failed : List ℕ) (records : List Admission) (vs : List Verdict) (z : List ℕ) → are_split dests ≡ true
    → judged i next failing dests failed (claims_from 0 records) vs ≡ Some z → BegunRecords i next dests records vs
begun-by i next failing dests failed records vs z split j =
    let at : next + 0 ≡ next = omega arith in
    let all = needs i next 0 next failing dests failed records vs z at split j in
    record { others = all.others; before = all.before; begun = all.begun }

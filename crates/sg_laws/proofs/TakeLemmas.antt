-- What is kept of the offers of passes is what they owe, less what was dropped.
use Rattle.std.proofs.Common.{◌≡◌, ℕ, suc, ◌+◌, ◌≤◌, List, [], ◌∷◌, ◌++◌, length, length-append, map, Some, Bool, true, false, not, ◌&&◌, refl, sym, ap, ◌∙◌, subst, arith, if◌then◌else◌, append_assoc, slice_get}
use Rattle.std.specs.Prelude.{◌==◌, filter}
use Rattle.std.specs.Option.{option_map_or}
use Rattle.sg_list.specs.Lists.{passes_at}
use Rattle.sg_list.proofs.ListLemmas.{slice_get-below, length-change}
use Rattle.sg_msg.specs.declared.offer.Offer.{Offer}
use Rattle.sg_machine.specs.declared.event.Act.{Act}
use Rattle.sg_machine.specs.declared.event.Act.TheVariants.{Admit, Settle, Refill, Store, Rewind, Look}
use Rattle.sg_machine.specs.declared.event.Admission.{Admission}
use Rattle.sg_machine.specs.declared.event.Event.{Event}
use Rattle.sg_machine.specs.declared.event.Verdict.{Verdict}
use Rattle.sg_machine.specs.declared.state.Dest.{Dest}
use Rattle.sg_machine.specs.declared.state.State.{State}
use Rattle.sg_machine.specs.Verdicts.{Claim, claims_in, claims_from, claims_of, origin_of, judged_at, judged, take_claim, take_offer}
use Rattle.sg_machine.specs.Legal.{is_same_list, may_admit, is_legal, is_legal_act}
use Rattle.sg_machine.specs.Effects.{next_of, after}
use Rattle.sg_machine.specs.Runs.{BufferedEntry, are_legal}
use Rattle.sg_machine.specs.Counts.{is_dropped, kept_offers, keeps_of, kept_of_inlet, flow_drops_of, flow_drops_by}
use Rattle.sg_machine.specs.Safe.{kept_from}
use Rattle.sg_machine.proofs.RunLemmas.{both-true}
use Rattle.sg_machine.proofs.FlowLemmas.{flow_drops-none, mapped-some, then-some}
use Rattle.sg_laws.specs.Covered.{Pass, Offers, entry_of}
use Rattle.sg_laws.specs.Passes.{AreRecordsRead, ReadsByAct, AreAdmitted}
use Rattle.sg_laws.specs.Once.{Given, AreGiven, owed_by, owed_to, dropped_of, dropped_by, dropped_in, less, AreEntriesUnflowed, TakesOnce}
use Rattle.sg_standing.proofs.Frozen.{length-dests}
use Rattle.sg_laws.proofs.TextLemmas.{suc-same, judged-lengths}
use Rattle.sg_laws.proofs.PassLemmas.{judged-there}

-- Joined.

pub takes-none : TakesOnce [] [] []
takes-none = record { each = refl; unflowed = tt; all = refl }

less-one : (m : Bool) (k : BufferedEntry) (xs ys zs : List BufferedEntry) → xs ≡ ys ++ zs → (if m then xs else k ∷ xs) ≡ (if m then ys else k ∷ ys) ++ zs
less-one true k xs ys zs h = h
less-one false k xs ys zs h = ap (λ (ks : List BufferedEntry). k ∷ ks) h

less-append : (ms ns : List Bool) (ks ls : List BufferedEntry) → length ms ≡ length ks → less (ms ++ ns) (ks ++ ls) ≡ less ms ks ++ less ns ls
less-append [] ns [] ls h = refl
less-append [] ns (k ∷ ks) ls h = absurd (omega (arith, h))
less-append (m ∷ ms) ns [] ls h = absurd (omega (arith, h))
less-append (m ∷ ms) ns (k ∷ ks) ls h = less-one m k (less (ms ++ ns) (ks ++ ls)) (less ms ks) (less ns ls) (less-append ms ns ks ls (suc-same (length ms) (length ks) h))

unflowed-append : (ms ns : List Bool) (ks ls : List BufferedEntry) → length ms ≡ length ks → AreEntriesUnflowed ms ks → AreEntriesUnflowed ns ls → AreEntriesUnflowed (ms ++ ns) (ks ++ ls)
unflowed-append [] ns [] ls h a b = b
unflowed-append [] ns (k ∷ ks) ls h a b = absurd (omega (arith, h))
unflowed-append (m ∷ ms) ns [] ls h a b = absurd (omega (arith, h))
unflowed-append (m ∷ ms) ns (k ∷ ks) ls h a b = (a.0, unflowed-append ms ns ks ls (suc-same (length ms) (length ks) h) a.1 b)

pub takes-append : (ms ns : List Bool) (ks ls xs ys : List BufferedEntry) → TakesOnce ms ks xs → TakesOnce ns ls ys → TakesOnce (ms ++ ns) (ks ++ ls) (xs ++ ys)
takes-append ms ns ks ls xs ys a b = record {
  each = length-append ms ns ∙ ap (λ (n : ℕ). n + length ns) a.each ∙ ap (λ (n : ℕ). length ks + n) b.each ∙ sym (length-append ks ls);
  unflowed = unflowed-append ms ns ks ls a.each a.unflowed b.unflowed;
  all = ap (λ (zs : List BufferedEntry). zs ++ ys) a.all ∙ ap (λ (zs : List BufferedEntry). less ms ks ++ zs) b.all ∙ sym (less-append ms ns ks ls a.each);
}

pub takes-same : (ms : List Bool) (ks ls xs ys : List BufferedEntry) → ks ≡ ls → xs ≡ ys → TakesOnce ms ks xs → TakesOnce ms ls ys
takes-same ms ks ls xs ys e f t =
    let P : List BufferedEntry → Type 0 = λ zs. TakesOnce ms zs xs in
    let Q : List BufferedEntry → Type 0 = λ zs. TakesOnce ms ls zs in
    subst Q f (subst P e t)

-- Claims.

-- what claims owe d
abbrev claims_owe : (d i : ℕ) → List Claim → List BufferedEntry
claims_owe d i [] = []
claims_owe d i (c ∷ cs) = if c.offer.dest == d then kept_from i c ∷ claims_owe d i cs else claims_owe d i cs

-- one claim more, by whether it is one to d, and whether it is dropped
takes-one : (b dropped : Bool) (k : BufferedEntry) (ms : List Bool) (ks xs : List BufferedEntry) → (dropped ≡ true → k.flow ≡ false) → TakesOnce ms ks xs
    → TakesOnce (if b then dropped ∷ ms else ms) (if b then k ∷ ks else ks) (if b && not dropped then k ∷ xs else xs)
takes-one false dropped k ms ks xs flow t = t
takes-one true true k ms ks xs flow t = record { each = ap suc t.each; unflowed = (flow, t.unflowed); all = t.all }
takes-one true false k ms ks xs flow t = record { each = ap suc t.each; unflowed = (flow, t.unflowed); all = ap (λ (zs : List BufferedEntry). k ∷ zs) t.all }

flow-of : (flow dropped : Bool) (n : ℕ) → (let one : ℕ = (if flow && dropped then 1 else 0) in one + n ≡ 0) → (dropped ≡ true → flow ≡ false) × (n ≡ 0)
flow-of true true n h = absurd (omega (arith, h))
flow-of true false n h = (λ e. (let wrong : false ≡ true = e in cc), omega (arith, h))
flow-of false dropped n h = (λ e. refl, omega (arith, h))

takes-claims : (d i : ℕ) (cs : List Claim) (vs : List Verdict) → length cs ≡ length vs → flow_drops_of cs vs ≡ 0 → TakesOnce (dropped_of d cs vs) (claims_owe d i cs) (kept_offers d i cs vs)
takes-claims d i [] vs h f = takes-none
takes-claims d i (c ∷ cs) [] h f = absurd (omega (arith, h))
takes-claims d i (c ∷ cs) (v ∷ vs) h f =
    let parts = flow-of c.offer.flow (is_dropped v) (flow_drops_of cs vs) f in
    takes-one (c.offer.dest == d) (is_dropped v) (kept_from i c) (dropped_of d cs vs) (claims_owe d i cs) (kept_offers d i cs vs) parts.0 (takes-claims d i cs vs (suc-same (length cs) (length vs) h) parts.1)

-- Passes.

-- the offers of records as those of their passes
abbrev given_by : List Admission → List Pass → List Given
given_by [] ps = []
given_by (r ∷ rs) [] = []
given_by (r ∷ rs) (p ∷ ps) = record { pass = p; offers = r.offers } ∷ given_by rs ps

are-given : (offers : Offers) (j : ℕ) (rs : List Admission) (ps : List Pass) → AreRecordsRead offers j rs ps → AreGiven offers ps (given_by rs ps)
are-given offers j [] [] h = tt
are-given offers j [] (p ∷ ps) h = absurd h
are-given offers j (r ∷ rs) [] h = absurd h
are-given offers j (r ∷ rs) (p ∷ ps) h = (refl, h.2, are-given offers j rs ps h.3)

abbrev entry_at : (i end : ℕ) → Offer → BufferedEntry
entry_at i end o = record { inlet = i; end = end; flow = o.flow; message = o.message }

owes-one : (b : Bool) (d i end : ℕ) (o : Offer) (os : List Offer) (xs ys : List BufferedEntry) → (o.dest == d) ≡ b → xs ≡ map (entry_at i end) (filter (λ (x : Offer). x.dest == d) os) ++ ys
    → (if o.dest == d then entry_at i end o ∷ xs else xs) ≡ map (entry_at i end) (filter (λ (x : Offer). x.dest == d) (o ∷ os)) ++ ys
owes-one true d i end o os xs ys h e = rw h (ap (λ (ks : List BufferedEntry). entry_at i end o ∷ ks) e)
owes-one false d i end o os xs ys h e = rw h e

claims-in-owe : (d i place end : ℕ) (os : List Offer) (cs : List Claim) → claims_owe d i (claims_in place end os ++ cs) ≡ map (entry_at i end) (filter (λ (x : Offer). x.dest == d) os) ++ claims_owe d i cs
claims-in-owe d i place end [] cs = refl
claims-in-owe d i place end (o ∷ os) cs = owes-one (o.dest == d) d i end o os (claims_owe d i (claims_in place end os ++ cs)) (claims_owe d i cs) refl (claims-in-owe d i place end os cs)

entries-same : (p : Pass) (os : List Offer) → map (entry_of p) os ≡ map (entry_at p.inlet p.end) os
entries-same p [] = refl
entries-same p (o ∷ os) = ap (λ (ks : List BufferedEntry). entry_of p o ∷ ks) (entries-same p os)

owed-here : (i d : ℕ) (p : Pass) (os : List Offer) (end : ℕ) → p.inlet ≡ i → p.end ≡ end → owed_by i d (record { pass = p; offers = os }) ≡ map (entry_at i end) (filter (λ (x : Offer). x.dest == d) os)
owed-here i d p os end e f =
    let same : (i == i) ≡ true = grind arith in
    let hit : (p.inlet == i) ≡ true = ap (λ (n : ℕ). n == i) e ∙ same in
    let xs = filter (λ (x : Offer). x.dest == d) os in
    let here : owed_by i d (record { pass = p; offers = os }) ≡ map (entry_of p) xs = rw hit refl in
    here ∙ entries-same p xs ∙ ap (λ (n : ℕ). map (entry_at n p.end) xs) e ∙ ap (λ (n : ℕ). map (entry_at i n) xs) f

owed-elsewhere : (i d : ℕ) (p : Pass) (os : List Offer) → (p.inlet == i) ≡ false → owed_by i d (record { pass = p; offers = os }) ≡ []
owed-elsewhere i d p os q = rw q refl

owed-same : (offers : Offers) (i d place : ℕ) (rs : List Admission) (ps : List Pass) → AreRecordsRead offers i rs ps → claims_owe d i (claims_from place rs) ≡ owed_to i d (given_by rs ps)
owed-same offers i d place [] [] h = refl
owed-same offers i d place [] (p ∷ ps) h = absurd h
owed-same offers i d place (r ∷ rs) [] h = absurd h
owed-same offers i d place (r ∷ rs) (p ∷ ps) h =
    claims-in-owe d i place r.end r.offers (claims_from (place + 1) rs)
    ∙ ap (λ (ks : List BufferedEntry). ks ++ claims_owe d i (claims_from (place + 1) rs)) (sym (owed-here i d p r.offers r.end h.0 h.1))
    ∙ ap (λ (ks : List BufferedEntry). owed_by i d (record { pass = p; offers = r.offers }) ++ ks) (owed-same offers i d (place + 1) rs ps h.3)

owed-other : (offers : Offers) (i j d : ℕ) (rs : List Admission) (ps : List Pass) → (j == i) ≡ false → AreRecordsRead offers j rs ps → owed_to i d (given_by rs ps) ≡ []
owed-other offers i j d [] [] q h = refl
owed-other offers i j d [] (p ∷ ps) q h = absurd h
owed-other offers i j d (r ∷ rs) [] q h = absurd h
owed-other offers i j d (r ∷ rs) (p ∷ ps) q h =
    let miss : (p.inlet == i) ≡ false = ap (λ (n : ℕ). n == i) h.0 ∙ q in
    ap (λ (ks : List BufferedEntry). ks ++ owed_to i d (given_by rs ps)) (owed-elsewhere i d p r.offers miss) ∙ owed-other offers i j d rs ps q h.3

-- Acts.

takes-if : (offers : Offers) (i j d : ℕ) (b : Bool) (rs : List Admission) (vs : List Verdict) (ps : List Pass) → (j == i) ≡ b → length (claims_of rs) ≡ length vs → flow_drops_of (claims_of rs) vs ≡ 0 → AreRecordsRead offers j rs ps
    → TakesOnce (if b then dropped_of d (claims_of rs) vs else []) (owed_to i d (given_by rs ps)) (if b then kept_offers d j (claims_of rs) vs else [])
takes-if offers i j d true rs vs ps q l f h =
    let same : j ≡ i = grind (arith, q) in
    let K : ℕ → Type 0 = λ n. AreRecordsRead offers n rs ps in
    let kept : kept_offers d i (claims_of rs) vs ≡ kept_offers d j (claims_of rs) vs = ap (λ (n : ℕ). kept_offers d n (claims_of rs) vs) (sym same) in
    takes-same (dropped_of d (claims_of rs) vs) (claims_owe d i (claims_of rs)) (owed_to i d (given_by rs ps)) (kept_offers d i (claims_of rs) vs) (kept_offers d j (claims_of rs) vs)
    (owed-same offers i d 0 rs ps (subst K same h)) kept (takes-claims d i (claims_of rs) vs l f)
takes-if offers i j d false rs vs ps q l f h = takes-same [] [] (owed_to i d (given_by rs ps)) [] [] (sym (owed-other offers i j d rs ps q h)) refl takes-none

-- the passes have offers, of which this was kept
pub record ActTakes (offers : Offers) (act : Act) (ps : List Pass) : Type 0 where
  pub given : List Given
  pub gives : AreGiven offers ps given
  pub takes : (i d : ℕ) → TakesOnce (dropped_by i d act) (owed_to i d given) (keeps_of i d act)

gives-none : (offers : Offers) (ps : List Pass) → ps ≡ [] → AreGiven offers ps []
gives-none offers ps h = let P : List Pass → Type 0 = λ qs. AreGiven offers qs [] in subst P (sym h) tt

act-takes : (offers : Offers) (s : State) (act : Act) (failed : List ℕ) (ps : List Pass) → is_legal_act s act failed ≡ true → flow_drops_by act ≡ 0 → ReadsByAct offers act ps → ActTakes offers act ps
act-takes offers s (Admit j records vs) failed ps l z h =
    let r = judged j (next_of s j) failed s.dests s.failed (claims_of records) vs in
    let right = (both-true (passes_at s.inlets j (may_admit s j records)) (option_map_or (is_same_list (s.failed ++ failed)) r false) l).1 in
    let x = mapped-some r (is_same_list (s.failed ++ failed)) right in
    let long = judged-lengths j (next_of s j) failed s.dests s.failed (claims_of records) vs x.0 x.1 in
    record {
      given = given_by records ps;
      gives = are-given offers j records ps h;
      takes = λ i d. takes-if offers i j d (j == i) records vs ps refl long z h;
    }
act-takes offers s (Settle e n) failed ps l z h = record { given = []; gives = gives-none offers ps h; takes = λ i d. takes-none }
act-takes offers s (Refill e n) failed ps l z h = record { given = []; gives = gives-none offers ps h; takes = λ i d. takes-none }
act-takes offers s (Store j w) failed ps l z h = record { given = []; gives = gives-none offers ps h; takes = λ i d. takes-none }
act-takes offers s (Rewind j) failed ps l z h = record { given = []; gives = gives-none offers ps h; takes = λ i d. takes-none }
act-takes offers s Look failed ps l z h = record { given = []; gives = gives-none offers ps h; takes = λ i d. takes-none }

-- Events.

pub given-append : (offers : Offers) (ps qs : List Pass) (gs hs : List Given) → AreGiven offers ps gs → AreGiven offers qs hs → AreGiven offers (ps ++ qs) (gs ++ hs)
given-append offers [] qs [] hs a b = b
given-append offers [] qs (g ∷ gs) hs a b = absurd a
given-append offers (p ∷ ps) qs [] hs a b = absurd a
given-append offers (p ∷ ps) qs (g ∷ gs) hs a b = (a.0, a.1, given-append offers ps qs gs hs a.2 b)

pub owed-append : (i d : ℕ) (gs hs : List Given) → owed_to i d (gs ++ hs) ≡ owed_to i d gs ++ owed_to i d hs
owed-append i d [] hs = refl
owed-append i d (g ∷ gs) hs = ap (λ (ks : List BufferedEntry). owed_by i d g ++ ks) (owed-append i d gs hs) ∙ sym (append_assoc (owed_by i d g) (owed_to i d gs) (owed_to i d hs))

pub record EventsTake (offers : Offers) (es : List Event) (ps : List Pass) : Type 0 where
  pub given : List Given
  pub gives : AreGiven offers ps given
  pub takes : (i d : ℕ) → TakesOnce (dropped_in i d es) (owed_to i d given) (kept_of_inlet i d es)

pub events-take : (offers : Offers) (s : State) (es : List Event) (ps : List Pass) → are_legal s es ≡ true → AreAdmitted offers es ps → EventsTake offers es ps
events-take offers s [] ps l h = record { given = []; gives = gives-none offers ps h; takes = λ i d. takes-none }
events-take offers s (e ∷ es) ps l h =
    let q = both-true (is_legal s e) (are_legal (after s e) es) l in
    let one : are_legal s (e ∷ []) ≡ true = (let first = q.0 in rw first refl) in
    let drops = flow_drops-none s (e ∷ []) one in
    let none : flow_drops_by e.act ≡ 0 = omega (arith, drops) in
    let a = act-takes offers s e.act e.failed h.0 q.0 none h.1.1.1 in
    let b = events-take offers (after s e) es h.1.0 q.1 h.1.1.2 in
    let P : List Pass → Type 0 = λ qs. AreGiven offers qs (a.given ++ b.given) in
    record {
      given = a.given ++ b.given;
      gives = subst P (sym h.1.1.0) (given-append offers h.0 h.1.0 a.given b.given a.gives b.gives);
      takes = λ i d. takes-same (dropped_in i d (e ∷ es)) (owed_to i d a.given ++ owed_to i d b.given) (owed_to i d (a.given ++ b.given)) (kept_of_inlet i d (e ∷ es)) (kept_of_inlet i d (e ∷ es)) (sym (owed-append i d a.given b.given)) refl
          (takes-append (dropped_by i d e.act) (dropped_in i d es) (owed_to i d a.given) (owed_to i d b.given) (keeps_of i d e.act) (kept_of_inlet i d es) (a.takes i d) (b.takes i d));
    }

-- Where there is no destination, nothing is kept.

kept-nowhere : (i next : ℕ) (failing : List ℕ) (ds : List Dest) (failed : List ℕ) (cs : List Claim) (vs : List Verdict) (x : List ℕ) (j d : ℕ) → judged i next failing ds failed cs vs ≡ Some x → length ds ≤ d → kept_offers d j cs vs ≡ []
kept-nowhere i next failing ds failed [] vs x j d h l = refl
kept-nowhere i next failing ds failed (c ∷ cs) [] x j d h l = refl
kept-nowhere i next failing ds failed (c ∷ cs) (v ∷ vs) x j d h l =
    let parts = then-some (judged_at (slice_get ds c.offer.dest) failing failed c.offer v) (λ f. judged i next failing (take_claim i next ds c v) f cs vs) x h in
    let there = judged-there (slice_get ds c.offer.dest) failing failed c.offer v parts.0 parts.1 in
    let below = slice_get-below ds c.offer.dest there.0 there.1 in
    let miss : (c.offer.dest == d) ≡ false = grind (arith, below, l) in
    let long = length-change ds c.offer.dest (take_offer (origin_of i next c) c.offer v) in
    let here : kept_offers d j (c ∷ cs) (v ∷ vs) ≡ kept_offers d j cs vs = rw miss refl in
    here ∙ kept-nowhere i next failing (take_claim i next ds c v) parts.0 cs vs x j d parts.2 (omega (arith, long, l))

nowhere-if : (b : Bool) (ks : List BufferedEntry) → ks ≡ [] → (let none : List BufferedEntry = [] in (if b then ks else []) ≡ none)
nowhere-if true ks h = h
nowhere-if false ks h = refl

act-nowhere : (s : State) (act : Act) (failed : List ℕ) (i d : ℕ) → is_legal_act s act failed ≡ true → length s.dests ≤ d → keeps_of i d act ≡ []
act-nowhere s (Admit j records vs) failed i d l low =
    let r = judged j (next_of s j) failed s.dests s.failed (claims_of records) vs in
    let right = (both-true (passes_at s.inlets j (may_admit s j records)) (option_map_or (is_same_list (s.failed ++ failed)) r false) l).1 in
    let x = mapped-some r (is_same_list (s.failed ++ failed)) right in
    nowhere-if (j == i) (kept_offers d j (claims_of records) vs) (kept-nowhere j (next_of s j) failed s.dests s.failed (claims_of records) vs x.0 j d x.1 low)
act-nowhere s (Settle e n) failed i d l low = refl
act-nowhere s (Refill e n) failed i d l low = refl
act-nowhere s (Store j w) failed i d l low = refl
act-nowhere s (Rewind j) failed i d l low = refl
act-nowhere s Look failed i d l low = refl

pub events-nowhere : (s : State) (es : List Event) (i d : ℕ) → are_legal s es ≡ true → length s.dests ≤ d → kept_of_inlet i d es ≡ []
events-nowhere s [] i d l low = refl
events-nowhere s (e ∷ es) i d l low =
    let q = both-true (is_legal s e) (are_legal (after s e) es) l in
    let long = length-dests s e.act e.failed in
    ap (λ (ks : List BufferedEntry). ks ++ kept_of_inlet i d es) (act-nowhere s e.act e.failed i d q.0 low) ∙ events-nowhere (after s e) es i d q.1 (omega (arith, long, low))

-- The passes of what came in.
use Rattle.std.proofs.Common.{◌≡◌, ℕ, ◌+◌, ◌<◌, List, [], ◌∷◌, ◌++◌, length, map, Some, None, Option, Bool, true, false, ◌&&◌, refl, sym, ap, ◌∙◌, subst, arith, inl, inr, if◌then◌else◌, append_assoc, slice_get}
use Rattle.std.specs.Prelude.{Contains, ◌==◌, filter}
use Rattle.std.specs.Option.{option_map_or}
use Rattle.std.proofs.lemmas.List.{map-append}
use Rattle.std.proofs.lemmas.List.Elements.{filter-append, Contains-append_left, Contains-append_right, Contains-append_cases}
use Rattle.sg_list.specs.Lists.{passes_at}
use Rattle.sg_list.proofs.ListLemmas.{length-change, slice_get-below}
use Rattle.sg_msg.specs.declared.offer.Offer.{Offer}
use Rattle.sg_machine.specs.declared.event.Act.{Act}
use Rattle.sg_machine.specs.declared.event.Act.TheVariants.{Admit, Settle, Refill, Store, Rewind, Look}
use Rattle.sg_machine.specs.declared.event.Admission.{Admission}
use Rattle.sg_machine.specs.declared.event.Event.{Event}
use Rattle.sg_machine.specs.declared.event.Verdict.{Verdict}
use Rattle.sg_machine.specs.declared.state.Dest.{Dest}
use Rattle.sg_machine.specs.declared.state.State.{State}
use Rattle.sg_machine.specs.Verdicts.{Claim, claims_in, claims_from, claims_of, origin_of, judged_at, judged, take_claim, take_offer}
use Rattle.sg_machine.specs.Legal.{is_same_list, may_admit, is_legal, is_legal_act}
use Rattle.sg_machine.specs.Effects.{next_of, ends_of, after}
use Rattle.sg_machine.specs.Runs.{BufferedEntry, are_legal}
use Rattle.sg_machine.specs.Counts.{is_dropped, is_kept_at, kept_offers, keeps, kept_entries, ends_by, ends_admitted, flow_drops_of, flow_drops_by}
use Rattle.sg_machine.specs.Safe.{kept_from}
use Rattle.sg_machine.proofs.RunLemmas.{both-true}
use Rattle.sg_machine.proofs.FlowLemmas.{flow_drops-none, mapped-some, then-some}
use Rattle.sg_laws.specs.Pieces.{Piece}
use Rattle.sg_laws.specs.Covered.{Pass, Offers, entry_of}
use Rattle.sg_laws.specs.Passes.{AreRecordsRead, ReadsByAct, AreAdmitted, pass_piece, pieces_of}
use Rattle.sg_standing.proofs.Frozen.{length-dests}
use Rattle.sg_laws.proofs.HasLemmas.{has-nil, has-here, has-there, has-cons, has-mapped, has-filtered}
use Rattle.sg_laws.proofs.PieceLemmas.{ends, ends-append}

-- The passes of events, and of more of them.

pub admitted-split : (offers : Offers) (es fs : List Event) (passes : List Pass) → AreAdmitted offers (es ++ fs) passes
    → (a : List Pass) × ((b : List Pass) × ((passes ≡ a ++ b) × AreAdmitted offers es a × AreAdmitted offers fs b))
admitted-split offers [] fs passes h = ([], (passes, (refl, refl, h)))
admitted-split offers (e ∷ es) fs passes h =
    let now = h.0 in
    let r = admitted-split offers es fs h.1.0 h.1.1.2 in (
      now ++ r.0,
      (
        r.1.0,
        (
          h.1.1.0 ∙ ap (λ (xs : List Pass). now ++ xs) r.1.1.0 ∙ sym (append_assoc now r.0 r.1.0),
          (now, (r.0, (refl, h.1.1.1, r.1.1.1))),
          r.1.1.2,
        ),
      ),
    )

-- Ends.

pub pieces-append : (i : ℕ) (a b : List Pass) → pieces_of i (a ++ b) ≡ pieces_of i a ++ pieces_of i b
pieces-append i a b = ap (map pass_piece) (filter-append (λ (p : Pass). p.inlet == i) a b) ∙ map-append pass_piece (filter (λ (p : Pass). p.inlet == i) a) (filter (λ (p : Pass). p.inlet == i) b)

read-ends-if : (offers : Offers) (i j : ℕ) (b : Bool) → (j == i) ≡ b → (rs : List Admission) (ps : List Pass) → AreRecordsRead offers j rs ps → ends (pieces_of i ps) ≡ (if b then ends_of rs else [])
read-ends-if offers i j true q [] [] h = refl
read-ends-if offers i j false q [] [] h = refl
read-ends-if offers i j b q [] (p ∷ ps) h = absurd h
read-ends-if offers i j b q (r ∷ rs) [] h = absurd h
read-ends-if offers i j true q (r ∷ rs) (p ∷ ps) h =
    let hit : (p.inlet == i) ≡ true = ap (λ (n : ℕ). n == i) h.0 ∙ q in
    let here : pieces_of i (p ∷ ps) ≡ pass_piece p ∷ pieces_of i ps = rw hit refl in
    ap ends here ∙ ap (λ (n : ℕ). n ∷ ends (pieces_of i ps)) h.1 ∙ ap (λ (ns : List ℕ). r.end ∷ ns) (read-ends-if offers i j true q rs ps h.3)
read-ends-if offers i j false q (r ∷ rs) (p ∷ ps) h =
    let miss : (p.inlet == i) ≡ false = ap (λ (n : ℕ). n == i) h.0 ∙ q in
    let here : pieces_of i (p ∷ ps) ≡ pieces_of i ps = rw miss refl in
    ap ends here ∙ read-ends-if offers i j false q rs ps h.3

none-ends : (i : ℕ) (ps : List Pass) → ps ≡ [] → ends (pieces_of i ps) ≡ []
none-ends i ps h = ap (λ (qs : List Pass). ends (pieces_of i qs)) h

reads-ends : (offers : Offers) (i : ℕ) (act : Act) (ps : List Pass) → ReadsByAct offers act ps → ends (pieces_of i ps) ≡ ends_by i act
reads-ends offers i (Admit j records vs) ps h = read-ends-if offers i j (j == i) refl records ps h
reads-ends offers i (Settle d n) ps h = none-ends i ps h
reads-ends offers i (Refill d n) ps h = none-ends i ps h
reads-ends offers i (Store j w) ps h = none-ends i ps h
reads-ends offers i (Rewind j) ps h = none-ends i ps h
reads-ends offers i Look ps h = none-ends i ps h

-- the ends of the passes of i are those of its records
pub admitted-ends : (offers : Offers) (i : ℕ) (es : List Event) (ps : List Pass) → AreAdmitted offers es ps → ends (pieces_of i ps) ≡ ends_admitted i es
admitted-ends offers i [] ps h = none-ends i ps h
admitted-ends offers i (e ∷ es) ps h =
    let now = h.0 in
    let later = h.1.0 in
    ap (λ (qs : List Pass). ends (pieces_of i qs)) h.1.1.0
    ∙ ap ends (pieces-append i now later)
    ∙ ends-append (pieces_of i now) (pieces_of i later)
    ∙ ap (λ (xs : List ℕ). xs ++ ends (pieces_of i later)) (reads-ends offers i e.act now h.1.1.1)
    ∙ ap (λ (xs : List ℕ). ends_by i e.act ++ xs) (admitted-ends offers i es later h.1.1.2)

-- an item of the passes of i is that of one of them
pub piece-pass : (i : ℕ) (ps : List Pass) (x : Piece) → Contains (pieces_of i ps) x → (p : Pass) × (Contains ps p × ((p.inlet ≡ i) × (pass_piece p ≡ x)))
piece-pass i ps x h =
    let m = has-mapped pass_piece (filter (λ (p : Pass). p.inlet == i) ps) x h in
    let f = has-filtered (λ (p : Pass). p.inlet == i) ps m.0 m.1.0 in
    let hit = f.1 in
    (m.0, (f.0, ((grind (arith, hit)), m.1.1)))

-- Offers.

-- a record's pass, among those of an inlet's records
record OfRecord (offers : Offers) (j : ℕ) (rs : List Admission) (p : Pass) : Type 0 where
  r : Admission
  among : Contains rs r
  inlet : p.inlet ≡ j
  end : p.end ≡ r.end
  gives : offers p r.offers

read-record : (offers : Offers) (j : ℕ) (rs : List Admission) (ps : List Pass) (p : Pass) → AreRecordsRead offers j rs ps → Contains ps p → OfRecord offers j rs p
read-record offers j [] [] p h c = absurd (has-nil p c)
read-record offers j [] (q ∷ ps) p h c = absurd h
read-record offers j (r ∷ rs) [] p h c = absurd h
read-record offers j (r ∷ rs) (q ∷ ps) p h c =
    elim (has-cons q ps p c) [
      | inl e ↦ (
          let P : Pass → Type 0 = λ z. OfRecord offers j (r ∷ rs) z in
          let first : OfRecord offers j (r ∷ rs) q = record { r = r; among = has-here r rs; inlet = h.0; end = h.1; gives = h.2 } in
          subst P e first)
      | inr t ↦ (
          let o = read-record offers j rs ps p h.3 t in
          record { r = o.r; among = has-there r rs o.r o.among; inlet = o.inlet; end = o.end; gives = o.gives })
    ]

-- a claim of an offer of a record
record OfOffer (cs : List Claim) (place : ℕ) (o : Offer) : Type 0 where
  c : Claim
  among : Contains cs c
  end : c.end ≡ place
  offer : c.offer ≡ o

claim-in : (place end : ℕ) (os : List Offer) (o : Offer) → Contains os o → OfOffer (claims_in place end os) end o
claim-in place end [] o h = absurd (has-nil o h)
claim-in place end (x ∷ os) o h =
    let c : Claim = record { place = place; end = end; offer = x } in
    elim (has-cons x os o h) [
      | inl e ↦ (let first : OfOffer (claims_in place end (x ∷ os)) end o = record { c = c; among = has-here c (claims_in place end os); end = refl; offer = e } in first)
      | inr t ↦ (let r = claim-in place end os o t in record { c = r.c; among = has-there c (claims_in place end os) r.c r.among; end = r.end; offer = r.offer })
    ]

claim-from : (place : ℕ) (rs : List Admission) (r : Admission) (o : Offer) → Contains rs r → Contains r.offers o → OfOffer (claims_from place rs) r.end o
claim-from place [] r o h k = absurd (has-nil r h)
claim-from place (x ∷ rs) r o h k =
    let first = claims_in place x.end x.offers in
    let rest = claims_from (place + 1) rs in
    elim (has-cons x rs r h) [
      | inl e ↦ (
          let P : Admission → Type 0 = λ z. Contains z.offers o → OfOffer (first ++ rest) z.end o in
          let here : Contains x.offers o → OfOffer (first ++ rest) x.end o =
          λ m. (let q = claim-in place x.end x.offers o m in record { c = q.c; among = Contains-append_left first rest q.c q.among; end = q.end; offer = q.offer }) in
          subst P e here k)
      | inr t ↦ (let q = claim-from (place + 1) rs r o t k in record { c = q.c; among = Contains-append_right first rest q.c q.among; end = q.end; offer = q.offer })
    ]

-- and each claim is of an offer of a record
pub record OfClaim (rs : List Admission) (c : Claim) : Type 0 where
  pub r : Admission
  pub among : Contains rs r
  pub end : c.end ≡ r.end
  pub offer : Contains r.offers c.offer

in-offer : (place end : ℕ) (os : List Offer) (c : Claim) → Contains (claims_in place end os) c → (c.end ≡ end) × Contains os c.offer
in-offer place end [] c h = absurd (has-nil c h)
in-offer place end (x ∷ os) c h =
    elim (has-cons (record { place = place; end = end; offer = x }) (claims_in place end os) c h) [
      | inl e ↦ (
          let P : Claim → Type 0 = λ z. (z.end ≡ end) × Contains (x ∷ os) z.offer in
          let first : P (record { place = place; end = end; offer = x }) = (refl, has-here x os) in
          subst P e first)
      | inr t ↦ (let q = in-offer place end os c t in (q.0, has-there x os c.offer q.1))
    ]

pub claim-record : (place : ℕ) (rs : List Admission) (c : Claim) → Contains (claims_from place rs) c → OfClaim rs c
claim-record place [] c h = absurd (has-nil c h)
claim-record place (r ∷ rs) c h =
    elim (Contains-append_cases (claims_in place r.end r.offers) (claims_from (place + 1) rs) c h) [
      | inl a ↦ (let q = in-offer place r.end r.offers c a in let first : OfClaim (r ∷ rs) c = record { r = r; among = has-here r rs; end = q.0; offer = q.1 } in first)
      | inr b ↦ (let q = claim-record (place + 1) rs c b in record { r = q.r; among = has-there r rs q.r q.among; end = q.end; offer = q.offer })
    ]

-- a record's pass is among the passes
pub record-pass : (offers : Offers) (j : ℕ) (rs : List Admission) (ps : List Pass) (r : Admission) → AreRecordsRead offers j rs ps → Contains rs r → (p : Pass) × (Contains ps p × ((p.inlet ≡ j) × ((p.end ≡ r.end) × offers p r.offers)))
record-pass offers j [] ps r h c = absurd (has-nil r c)
record-pass offers j (x ∷ rs) [] r h c = absurd h
record-pass offers j (x ∷ rs) (p ∷ ps) r h c =
    elim (has-cons x rs r c) [
      | inl e ↦ (
          let P : Admission → Type 0 = λ z. (q : Pass) × (Contains (p ∷ ps) q × ((q.inlet ≡ j) × ((q.end ≡ z.end) × offers q z.offers))) in
          let first : P x = (p, (has-here p ps, (h.0, (h.1, h.2)))) in
          subst P e first)
      | inr t ↦ (let q = record-pass offers j rs ps r h.3 t in (q.0, (has-there p ps q.0 q.1.0, q.1.1)))
    ]

-- Offers with flow-control are kept.

pub judged-there : (o : Option Dest) (failing failed : List ℕ) (offer : Offer) (v : Verdict) (z : List ℕ) → judged_at o failing failed offer v ≡ Some z → (dest : Dest) × (o ≡ Some dest)
judged-there None failing failed offer v z h = let wrong : None ≡ Some z = h in cc
judged-there (Some dest) failing failed offer v z h = (dest, refl)

kept-first : (d i : ℕ) (c : Claim) (cs : List Claim) (v : Verdict) (vs : List Verdict) → is_kept_at d c.offer v ≡ true → Contains (kept_offers d i (c ∷ cs) (v ∷ vs)) (kept_from i c)
kept-first d i c cs v vs h =
    let here : kept_offers d i (c ∷ cs) (v ∷ vs) ≡ kept_from i c ∷ kept_offers d i cs vs = rw h refl in
    let P : List BufferedEntry → Type 0 = λ ks. Contains ks (kept_from i c) in
    subst P (sym here) (has-here (kept_from i c) (kept_offers d i cs vs))

kept-later-if : (b : Bool) (x k : BufferedEntry) (ks : List BufferedEntry) → Contains ks k → Contains (if b then x ∷ ks else ks) k
kept-later-if true x k ks h = has-there x ks k h
kept-later-if false x k ks h = h

zero-parts : (a b : ℕ) → a + b ≡ 0 → (a ≡ 0) × (b ≡ 0)
zero-parts a b h = (omega (arith, h), omega (arith, h))

not-dropped : (flow dropped : Bool) → flow ≡ true → (let n : ℕ = (if flow && dropped then 1 else 0) in n ≡ 0) → dropped ≡ false
not-dropped true true f h = absurd (omega (arith, h))
not-dropped true false f h = refl
not-dropped false dropped f h = let wrong : false ≡ true = f in cc

keeps-claim : (i next : ℕ) (failing : List ℕ) (ds : List Dest) (failed : List ℕ) (cs : List Claim) (vs : List Verdict) (x : List ℕ) (c : Claim) → judged i next failing ds failed cs vs ≡ Some x → flow_drops_of cs vs ≡ 0
    → Contains cs c → c.offer.flow ≡ true → Contains (kept_offers c.offer.dest i cs vs) (kept_from i c) × (c.offer.dest < length ds)
keeps-claim i next failing ds failed [] vs x c j z h f = absurd (has-nil c h)
keeps-claim i next failing ds failed (y ∷ cs) [] x c j z h f = let wrong : None ≡ Some x = j in cc
keeps-claim i next failing ds failed (y ∷ cs) (v ∷ vs) x c j z h f =
    let parts = then-some (judged_at (slice_get ds y.offer.dest) failing failed y.offer v) (λ g. judged i next failing (take_claim i next ds y v) g cs vs) x j in
    let zs = zero-parts (if y.offer.flow && is_dropped v then 1 else 0) (flow_drops_of cs vs) z in
    elim (has-cons y cs c h) [
      | inl e ↦ (
          let flow : y.offer.flow ≡ true = ap (λ (a : Claim). a.offer.flow) e ∙ f in
          let dropped = not-dropped y.offer.flow (is_dropped v) flow zs.0 in
          let same : (y.offer.dest == y.offer.dest) ≡ true = grind arith in
          let kept : is_kept_at y.offer.dest y.offer v ≡ true = rw (same, dropped) refl in
          let there = judged-there (slice_get ds y.offer.dest) failing failed y.offer v parts.0 parts.1 in
          let P : Claim → Type 0 = λ a. Contains (kept_offers a.offer.dest i (y ∷ cs) (v ∷ vs)) (kept_from i a) × (a.offer.dest < length ds) in
          let first : P y = (kept-first y.offer.dest i y cs v vs kept, slice_get-below ds y.offer.dest there.0 there.1) in
          subst P e first)
      | inr t ↦ (
          let r = keeps-claim i next failing (take_claim i next ds y v) parts.0 cs vs x c parts.2 zs.1 t f in
          let long = length-change ds y.offer.dest (take_offer (origin_of i next y) y.offer v) in
          let below = r.1 in
          (kept-later-if (is_kept_at c.offer.dest y.offer v) (kept_from i y) (kept_from i c) (kept_offers c.offer.dest i cs vs) r.0, omega (arith, long, below)))
    ]

-- an offer of a pass, as it is kept
pub record IsKeptBy (offers : Offers) (es : List Event) (many : ℕ) (p : Pass) : Type 0 where
  pub given : List Offer
  pub gives : offers p given
  pub kept : (o : Offer) → Contains given o → o.flow ≡ true → Contains (kept_entries o.dest es) (entry_of p o) × (o.dest < many)

read-kept : (offers : Offers) (s : State) (i : ℕ) (records : List Admission) (vs : List Verdict) (failed : List ℕ) (es : List Event) (ps : List Pass) (p : Pass) → is_legal_act s (Admit i records vs) failed ≡ true
    → flow_drops_of (claims_of records) vs ≡ 0 → AreRecordsRead offers i records ps → Contains ps p → IsKeptBy offers (record { act = Admit i records vs; failed = failed } ∷ es) (length s.dests) p
read-kept offers s i records vs failed es ps p l z h c =
    let j = judged i (next_of s i) failed s.dests s.failed (claims_of records) vs in
    let right = (both-true (passes_at s.inlets i (may_admit s i records)) (option_map_or (is_same_list (s.failed ++ failed)) j false) l).1 in
    let x = mapped-some j (is_same_list (s.failed ++ failed)) right in
    let r = read-record offers i records ps p h c in
    record {
      given = r.r.offers;
      gives = r.gives;
      kept = λ o a f.
          (let m = claim-from 0 records r.r o r.among a in
          let P : Offer → Type 0 = λ y. Contains (kept_offers y.dest i (claims_of records) vs) (record { inlet = i; end = m.c.end; flow = y.flow; message = y.message }) × (y.dest < length s.dests) in
          let flow : m.c.offer.flow ≡ true = ap (λ (y : Offer). y.flow) m.offer ∙ f in
          let q = keeps-claim i (next_of s i) failed s.dests s.failed (claims_of records) vs x.0 m.c x.1 z m.among flow in
          let at : P o = subst P m.offer q in
          let same : record { inlet = i; end = m.c.end; flow = o.flow; message = o.message } ≡ entry_of p o =
          ap (λ (n : ℕ). let k : BufferedEntry = record { inlet = n; end = m.c.end; flow = o.flow; message = o.message } in k) (sym r.inlet)
          ∙ ap (λ (n : ℕ). let k : BufferedEntry = record { inlet = p.inlet; end = n; flow = o.flow; message = o.message } in k) (m.end ∙ sym r.end) in
          let Q : BufferedEntry → Type 0 = λ k. Contains (kept_offers o.dest i (claims_of records) vs) k in
          (Contains-append_left (kept_offers o.dest i (claims_of records) vs) (kept_entries o.dest es) (entry_of p o) (subst Q same at.0), at.1));
    }

reads-kept : (offers : Offers) (s : State) (act : Act) (failed : List ℕ) (es : List Event) (ps : List Pass) (p : Pass) → is_legal_act s act failed ≡ true → flow_drops_by act ≡ 0 → ReadsByAct offers act ps → Contains ps p
    → IsKeptBy offers (record { act = act; failed = failed } ∷ es) (length s.dests) p
reads-kept offers s (Admit i records vs) failed es ps p l z h c = read-kept offers s i records vs failed es ps p l z h c
reads-kept offers s (Settle d n) failed es ps p l z h c = let P : List Pass → Type 0 = λ qs. Contains qs p in absurd (has-nil p (subst P h c))
reads-kept offers s (Refill d n) failed es ps p l z h c = let P : List Pass → Type 0 = λ qs. Contains qs p in absurd (has-nil p (subst P h c))
reads-kept offers s (Store i w) failed es ps p l z h c = let P : List Pass → Type 0 = λ qs. Contains qs p in absurd (has-nil p (subst P h c))
reads-kept offers s (Rewind i) failed es ps p l z h c = let P : List Pass → Type 0 = λ qs. Contains qs p in absurd (has-nil p (subst P h c))
reads-kept offers s Look failed es ps p l z h c = let P : List Pass → Type 0 = λ qs. Contains qs p in absurd (has-nil p (subst P h c))

-- each pass has offers, of which those with flow-control are kept
pub admitted-kept : (offers : Offers) (s : State) (es : List Event) (ps : List Pass) (p : Pass) → are_legal s es ≡ true → AreAdmitted offers es ps → Contains ps p → IsKeptBy offers es (length s.dests) p
admitted-kept offers s [] ps p l h c = let P : List Pass → Type 0 = λ qs. Contains qs p in absurd (has-nil p (subst P h c))
admitted-kept offers s (e ∷ es) ps p l h c =
    let q = both-true (is_legal s e) (are_legal (after s e) es) l in
    let P : List Pass → Type 0 = λ qs. Contains qs p in
    let one : are_legal s (e ∷ []) ≡ true = (let first = q.0 in rw first refl) in
    let drops = flow_drops-none s (e ∷ []) one in
    let none : flow_drops_by e.act ≡ 0 = omega (arith, drops) in
    elim (Contains-append_cases h.0 h.1.0 p (subst P h.1.1.0 c)) [
      | inl a ↦ reads-kept offers s e.act e.failed es h.0 p q.0 none h.1.1.1 a
      | inr b ↦ (
          let r = admitted-kept offers (after s e) es h.1.0 p q.1 h.1.1.2 b in
          let long = length-dests s e.act e.failed in
          record {
            given = r.given;
            gives = r.gives;
            kept = λ o m f. (let k = r.kept o m f in let below = k.1 in (Contains-append_right (keeps o.dest e.act) (kept_entries o.dest es) (entry_of p o) k.0, omega (arith, long, below)));
          })
    ]

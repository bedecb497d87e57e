-- The verdicts of offers at the core's destinations are those that the machine judges right.
use Rattle.std.proofs.Common.{◌≡◌, ◌≢◌, ℕ, List, [], ◌∷◌, ◌++◌, length, Option, Some, None, Bool, true, false, ◌&&◌, ◌||◌, not, refl, sym, ap, ◌∙◌, arith, suc, zero, slice_get, subst, append_assoc, inl, inr}
use Rattle.std.proofs.lemmas.List.{append-nil}
use Rattle.sg_list.specs.Lists.{change}
use Rattle.sg_list.proofs.ListLemmas.{length-change, slice_get-some, slice_get-map, some-same, get-change}
use Rattle.sg_msg.specs.declared.offer.Offer.{Offer}
use Rattle.sg_machine.specs.declared.event.Verdict.{Verdict}
use Rattle.sg_machine.specs.declared.setup.BufferSetup.{BufferSetup}
use Rattle.sg_machine.specs.declared.setup.DestSetup.{DestSetup}
use Rattle.sg_machine.specs.declared.state.Dest.{Dest}
use Rattle.sg_machine.specs.declared.state.Origin.{Origin}
use Rattle.sg_machine.specs.Legal.{store_of}
use Rattle.sg_machine.specs.Verdicts.{Claim, origin_of, is_listed, judged_by, judged_at, judged, take_offer, take_claim, take_claims}
use Rattle.sg_sinks.specs.States.{SinkState}
use Rattle.sg_sinks.specs.Offers.{would_spool, broken_then, verdict_of}
use Rattle.sg_sinks.specs.Standing.{sink_of, IsSplit}
use Rattle.sg_sinks.specs.Laws.{is_listed_in, failed_by}
use Rattle.sg_sinks.proofs.JudgeLemmas.{judging}
use Rattle.sg_sinks.proofs.OfferSteps.{offering, same-setup}
use Rattle.sg_offers.specs.Answering.{fails_at, verdict_at, offered_by, sinks_then, sinks_after, verdicts_from, failing_by, failing_at, failing_in, AreClaimsWithin}
use Rattle.sg_offers.specs.Batches.{sinks_at, AreSplit, buffer_in, AreBuffersApart}
use Rattle.sg_offers.proofs.ListSteps.{map-change-two}

-- The machine's destinations keep their setups.

pub same-buffer : (origin : Origin) (offer : Offer) (v : Verdict) (dest : Dest) → (take_offer origin offer v dest).setup.buffer ≡ dest.setup.buffer
same-buffer origin offer v dest = ap (λ (s : DestSetup). s.buffer) (same-setup origin offer v dest)

pub buffer-in-change : (dests : List Dest) (k d : ℕ) (f : Dest → Dest) → ((x : Dest) → store_of (f x) ≡ store_of x) → buffer_in (change dests k f) d ≡ buffer_in dests d
buffer-in-change [] k d f h = refl
buffer-in-change (x ∷ xs) zero zero f h = h x
buffer-in-change (x ∷ xs) zero (suc d) f h = refl
buffer-in-change (x ∷ xs) (suc k) zero f h = refl
buffer-in-change (x ∷ xs) (suc k) (suc d) f h = buffer-in-change xs k d f h

store-same : (origin : Origin) (offer : Offer) (v : Verdict) (dest : Dest) → store_of (take_offer origin offer v dest) ≡ store_of dest
store-same origin offer v dest = rw (same-setup origin offer v dest) refl

pub apart-then : (i next : ℕ) (dests : List Dest) (c : Claim) (v : Verdict) → AreBuffersApart dests → AreBuffersApart (take_claim i next dests c v)
apart-then i next dests c v h = λ d e s p q.
    let f = take_offer (origin_of i next c) c.offer v in
    let same = λ (x : ℕ). buffer-in-change dests c.offer.dest x f (λ y. store-same (origin_of i next c) c.offer v y) in
    h d e s (sym (same d) ∙ p) (sym (same e) ∙ q)

-- Stores that have failed.

pub listed-append : (n : ℕ) (xs ys : List ℕ) → is_listed n (xs ++ ys) ≡ (is_listed n xs || is_listed n ys)
listed-append n [] ys = refl
listed-append n (x ∷ xs) ys = grind (arith, listed-append n xs ys)

failed-as : (buffer : Option BufferSetup) (failed : List ℕ) (w : Bool) → failed_by buffer failed w ≡ failed ++ failing_by buffer w
failed-as None failed w = sym (append-nil failed)
failed-as (Some b) failed true = refl
failed-as (Some b) failed false = sym (append-nil failed)

-- without a disk-buffer nothing is spooled
listed-then-by : (buffer : Option BufferSetup) (failed : List ℕ) (w : Bool) → (buffer ≡ None → w ≡ false) → is_listed_in buffer (failed ++ failing_by buffer w) ≡ (is_listed_in buffer failed || w)
listed-then-by None failed w h = sym (h refl)
listed-then-by (Some b) failed true h =
    let here : is_listed b.store (b.store ∷ []) ≡ true = grind arith in
    listed-append b.store failed (b.store ∷ []) ∙ ap (λ x. is_listed b.store failed || x) here
listed-then-by (Some b) failed false h = listed-append b.store failed []

and-false : (b : Bool) → (b && false) ≡ false
and-false true = refl
and-false false = refl

none-spools : (fail : Bool) (sink : SinkState) (o : Offer) → sink.setup.buffer ≡ None → (fail && would_spool sink o) ≡ false
none-spools fail sink o h = rw (h, and-false (not sink.broken)) (and-false fail)

or-false : (b : Bool) → (b || false) ≡ b
or-false true = refl
or-false false = refl

-- the store of another disk-buffer hasn't failed
listed-other-by : (a b : Option BufferSetup) (failed : List ℕ) (w : Bool) → ((x y : BufferSetup) → a ≡ Some x → b ≡ Some y → x.store ≡ y.store → ⊥)
    → is_listed_in a (failed ++ failing_by b w) ≡ is_listed_in a failed
listed-other-by None b failed w h = refl
listed-other-by (Some x) None failed w h = ap (is_listed x.store) (append-nil failed)
listed-other-by (Some x) (Some y) failed true h =
    let ne : x.store ≢ y.store = h x y refl refl in
    let miss : is_listed x.store (y.store ∷ []) ≡ false = grind arith in
    listed-append x.store failed (y.store ∷ []) ∙ ap (λ z. is_listed x.store failed || z) miss ∙ or-false (is_listed x.store failed)
listed-other-by (Some x) (Some y) failed false h = ap (is_listed x.store) (append-nil failed)

-- One offer.

abbrev seen_by : List ℕ → Dest → SinkState
seen_by failed dest = sink_of (is_listed_in dest.setup.buffer failed) dest

one-judged : (dest : Dest) (failing failed : List ℕ) (fail : Bool) (o : Offer) → IsSplit dest → is_listed_in dest.setup.buffer failing ≡ fail
    → judged_by dest.setup.buffer dest.setup.fifo dest.left failing failed o (verdict_of fail (seen_by failed dest) o) ≡ Some (failed ++ failing_by dest.setup.buffer (fail && would_spool (seen_by failed dest) o))
one-judged dest failing failed fail o split agree =
    let P : Bool → Type 0 = λ f. judged_by dest.setup.buffer dest.setup.fifo dest.left failing failed o (verdict_of f (seen_by failed dest) o) ≡ Some (failed_by dest.setup.buffer failed (f && would_spool (seen_by failed dest) o)) in
    subst P agree (judging dest failing failed o split) ∙ ap Some (failed-as dest.setup.buffer failed (fail && would_spool (seen_by failed dest) o))

abbrev pub Agree : List ℕ → List Bool → List Dest → Type 0
Agree failing fails dests = (d : ℕ) (dest : Dest) → slice_get dests d ≡ Some dest → is_listed_in dest.setup.buffer failing ≡ fails_at fails d

-- what is known at one offer, where the destination is this, and the verdict and the failing store are these
record Here (fails : List Bool) (i next : ℕ) (failing : List ℕ) (dests : List Dest) (failed : List ℕ) (c : Claim) (v : Verdict) (new : List ℕ) (dest : Dest) : Type 0 where
  there : slice_get dests c.offer.dest ≡ Some dest
  verdict : v ≡ verdict_of (fails_at fails c.offer.dest) (seen_by failed dest) c.offer
  fresh : new ≡ failing_by dest.setup.buffer (fails_at fails c.offer.dest && would_spool (seen_by failed dest) c.offer)

-- one offer is judged right
right-at : (fails : List Bool) (i next : ℕ) (failing : List ℕ) (dests : List Dest) (failed : List ℕ) (c : Claim) (v : Verdict) (new : List ℕ) (dest : Dest) → Here fails i next failing dests failed c v new dest
    → AreSplit dests → Agree failing fails dests → judged_at (slice_get dests c.offer.dest) failing failed c.offer v ≡ Some (failed ++ new)
right-at fails i next failing dests failed c v new dest h split agree =
    rw (h.there, h.verdict, h.fresh) (one-judged dest failing failed (fails_at fails c.offer.dest) c.offer (split c.offer.dest dest h.there) (agree c.offer.dest dest h.there))

-- the destination behind it
seen-here : (fails : List Bool) (i next : ℕ) (failing : List ℕ) (dests : List Dest) (failed : List ℕ) (c : Claim) (v : Verdict) (new : List ℕ) (dest : Dest) → Here fails i next failing dests failed c v new dest → IsSplit dest
    → seen_by (failed ++ new) (take_offer (origin_of i next c) c.offer v dest) ≡ offered_by fails i next c (seen_by failed dest)
seen-here fails i next failing dests failed c v new dest h split =
    let o = c.offer in
    let fail = fails_at fails o.dest in
    let sink = seen_by failed dest in
    let w = fail && would_spool sink o in
    let t = take_offer (origin_of i next c) o (verdict_of fail sink o) dest in
    let offered = offering dest (is_listed_in dest.setup.buffer failed) fail (origin_of i next c) o split in
    let buffer : t.setup.buffer ≡ dest.setup.buffer = same-buffer (origin_of i next c) o (verdict_of fail sink o) dest in
    let listed : is_listed_in t.setup.buffer (failed ++ failing_by dest.setup.buffer w) ≡ broken_then fail sink o =
    ap (λ b. is_listed_in b (failed ++ failing_by dest.setup.buffer w)) buffer ∙ listed-then-by dest.setup.buffer failed w (none-spools fail sink o) in
    rw (h.verdict, h.fresh) (ap (λ b. sink_of b t) listed ∙ offered.seen)

seen-other : (dests : List Dest) (failed : List ℕ) (w : Bool) (d e : ℕ) (x y : Dest) → AreBuffersApart dests → slice_get dests d ≡ Some x → slice_get dests e ≡ Some y → e ≢ d
    → seen_by (failed ++ failing_by x.setup.buffer w) y ≡ seen_by failed y
seen-other dests failed w d e x y apart gx gy ne =
    ap (λ b. sink_of b y) (listed-other-by y.setup.buffer x.setup.buffer failed w (λ a b p q s.
    let there : buffer_in dests e ≡ Some a.store = rw (gy, p) refl in
    let other : buffer_in dests d ≡ Some a.store = rw (gx, q) (ap Some (sym s)) in
    ne (apart e d a.store there other)))

-- all destinations behind it
sinks-at-then : (fails : List Bool) (i next : ℕ) (failing : List ℕ) (dests : List Dest) (failed : List ℕ) (c : Claim) (v : Verdict) (new : List ℕ) (dest : Dest) → Here fails i next failing dests failed c v new dest
    → AreSplit dests → AreBuffersApart dests → sinks_at (failed ++ new) (take_claim i next dests c v) ≡ sinks_then fails i next (sinks_at failed dests) c
sinks-at-then fails i next failing dests failed c v new dest h split apart =
    map-change-two (seen_by failed) (seen_by (failed ++ new)) (take_offer (origin_of i next c) c.offer v) (offered_by fails i next c) dests c.offer.dest dest h.there
    (seen-here fails i next failing dests failed c v new dest h (split c.offer.dest dest h.there))
    (λ e y g ne. rw h.fresh (seen-other dests failed (fails_at fails c.offer.dest && would_spool (seen_by failed dest) c.offer) c.offer.dest e dest y apart h.there g ne))

split-then : (fails : List Bool) (i next : ℕ) (failing : List ℕ) (dests : List Dest) (failed : List ℕ) (c : Claim) (v : Verdict) (new : List ℕ) (dest : Dest) → Here fails i next failing dests failed c v new dest
    → AreSplit dests → AreSplit (take_claim i next dests c v)
split-then fails i next failing dests failed c v new dest h split = λ d y g.
    let f = take_offer (origin_of i next c) c.offer v in
    let r = get-change dests c.offer.dest d f y g in
    elim r.2 [
      | inl p ↦ (
          let at : slice_get dests d ≡ Some dest = rw p.0 h.there in
          let same : r.0 ≡ dest = some-same r.0 dest (sym r.1 ∙ at) in
          let offered = offering dest (is_listed_in dest.setup.buffer failed) (fails_at fails c.offer.dest) (origin_of i next c) c.offer (split c.offer.dest dest h.there) in
          let is : y ≡ take_offer (origin_of i next c) c.offer (verdict_of (fails_at fails c.offer.dest) (seen_by failed dest) c.offer) dest = p.1 ∙ rw (same, h.verdict) refl in
          subst IsSplit (sym is) offered.split)
      | inr p ↦ subst IsSplit (sym p.1) (split d r.0 r.1)
    ]

agree-then : (fails : List Bool) (i next : ℕ) (failing : List ℕ) (dests : List Dest) (c : Claim) (v : Verdict) → Agree failing fails dests → Agree failing fails (take_claim i next dests c v)
agree-then fails i next failing dests c v agree = λ d y g.
    let f = take_offer (origin_of i next c) c.offer v in
    let r = get-change dests c.offer.dest d f y g in
    let was = agree d r.0 r.1 in
    elim r.2 [
      | inl p ↦ (let buffer : y.setup.buffer ≡ r.0.setup.buffer = ap (λ (x : Dest). x.setup.buffer) p.1 ∙ same-buffer (origin_of i next c) c.offer v r.0 in ap (λ b. is_listed_in b failing) buffer ∙ was)
      | inr p ↦ (let buffer : y.setup.buffer ≡ r.0.setup.buffer = ap (λ (x : Dest). x.setup.buffer) p.1 in ap (λ b. is_listed_in b failing) buffer ∙ was)
    ]

-- All offers.

pub record JudgedRest (fails : List Bool) (i next : ℕ) (failing : List ℕ) (dests : List Dest) (failed : List ℕ) (sinks : List SinkState) (cs : List Claim) : Type 0 where
  pub right : judged i next failing dests failed cs (verdicts_from fails i next sinks cs) ≡ Some (failed ++ failing_in fails i next sinks cs)
  pub seen : sinks_at (failed ++ failing_in fails i next sinks cs) (take_claims i next dests cs (verdicts_from fails i next sinks cs)) ≡ sinks_after fails i next sinks cs
  pub split : AreSplit (take_claims i next dests cs (verdicts_from fails i next sinks cs))

find-here : (fails : List Bool) (i next : ℕ) (failing : List ℕ) (dests : List Dest) (failed : List ℕ) (sinks : List SinkState) (c : Claim) (dest : Dest) → sinks_at failed dests ≡ sinks → slice_get dests c.offer.dest ≡ Some dest
    → Here fails i next failing dests failed c (verdict_at fails sinks c.offer) (failing_at fails sinks c.offer) dest
find-here fails i next failing dests failed sinks c dest at there =
    let got : slice_get sinks c.offer.dest ≡ Some (seen_by failed dest) = rw (← at) (slice_get-map (seen_by failed) dests c.offer.dest dest there) in
    record { there = there; verdict = rw got refl; fresh = rw got refl }

pub judged-rest : (fails : List Bool) (i next : ℕ) (failing : List ℕ) (dests : List Dest) (failed : List ℕ) (sinks : List SinkState) (cs : List Claim) → sinks_at failed dests ≡ sinks → AreSplit dests → AreBuffersApart dests
    → AreClaimsWithin (length dests) cs → Agree failing fails dests → JudgedRest fails i next failing dests failed sinks cs
judged-rest fails i next failing dests failed sinks [] at split apart within agree =
    record { right = ap Some (sym (append-nil failed)); seen = rw (append-nil failed) at; split = split }
judged-rest fails i next failing dests failed sinks (c ∷ cs) at split apart within agree =
    let there = slice_get-some dests c.offer.dest within.0 in
    let v = verdict_at fails sinks c.offer in
    let new = failing_at fails sinks c.offer in
    let here = find-here fails i next failing dests failed sinks c there.0 at there.1 in
    let right = right-at fails i next failing dests failed c v new there.0 here split agree in
    let at_then : sinks_at (failed ++ new) (take_claim i next dests c v) ≡ sinks_then fails i next sinks c =
    sinks-at-then fails i next failing dests failed c v new there.0 here split apart ∙ ap (λ ks. sinks_then fails i next ks c) at in
    let length_then = length-change dests c.offer.dest (take_offer (origin_of i next c) c.offer v) in
    let W : ℕ → Type 0 = λ n. AreClaimsWithin n cs in
    let rest = judged-rest fails i next failing (take_claim i next dests c v) (failed ++ new) (sinks_then fails i next sinks c) cs at_then
    (split-then fails i next failing dests failed c v new there.0 here split)
    (apart-then i next dests c v apart)
    (subst W (sym length_then) within.1)
    (agree-then fails i next failing dests c v agree) in
    let assoc = append_assoc failed new (failing_in fails i next (sinks_then fails i next sinks c) cs) in
    record {
      right = rw right (rest.right ∙ ap Some assoc);
      seen = rw (← assoc) rest.seen;
      split = rest.split;
    }

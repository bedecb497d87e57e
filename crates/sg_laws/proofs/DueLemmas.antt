-- Each drop is due.
use Rattle.std.proofs.Common.{◌≡◌, ◌≤◌, ℕ, zero, suc, List, [], ◌∷◌, ◌++◌, Some, None, Option, Bool, true, false, not, ◌||◌, refl, sym, ap, ◌∙◌, arith, subst, if◌then◌else◌, ◌⊎◌, inl, inr}
use Rattle.std.specs.Prelude.{◌==◌, nat_lt, slice_get}
use Rattle.std.specs.Option.{option_map_or}
use Rattle.sg_list.specs.Lists.{passes_at}
use Rattle.sg_list.proofs.ListLemmas.{some-same, get-change}
use Rattle.sg_msg.specs.declared.offer.Offer.{Offer}
use Rattle.sg_machine.specs.declared.event.Act.TheVariants.{Admit}
use Rattle.sg_machine.specs.declared.event.Admission.{Admission}
use Rattle.sg_machine.specs.declared.event.Event.{Event}
use Rattle.sg_machine.specs.declared.event.Verdict.{Verdict}
use Rattle.sg_machine.specs.declared.event.Verdict.TheVariants.{Queued, Spooled, Waits, DroppedFull, DroppedDisk}
use Rattle.sg_machine.specs.declared.setup.BufferSetup.{BufferSetup}
use Rattle.sg_machine.specs.declared.setup.DestSetup.{DestSetup}
use Rattle.sg_machine.specs.declared.state.Dest.{Dest}
use Rattle.sg_machine.specs.declared.state.DestEntry.{DestEntry}
use Rattle.sg_machine.specs.declared.state.Origin.{Origin}
use Rattle.sg_machine.specs.declared.state.State.{State}
use Rattle.sg_machine.specs.Effects.{next_of, after}
use Rattle.sg_machine.specs.Entries.{fits, any_waits, unflowed}
use Rattle.sg_machine.specs.Legal.{is_same_list, may_admit, is_legal, is_legal_act}
use Rattle.sg_machine.specs.Runs.{after_all, are_legal}
use Rattle.sg_machine.specs.Verdicts.{Claim, claims_of, is_listed, same_verdict, queue_verdict, disk_verdict, fails_at, judged_by, judged_at, judged, origin_of, take_offer, take_claim}
use Rattle.sg_machine.proofs.FlowLemmas.{mapped-some, then-some}
use Rattle.sg_machine.proofs.OfferLemmas.{is_same_list-true}
use Rattle.sg_machine.proofs.RunLemmas.{both-true, are_legal-parts}
use Rattle.sg_laws.proofs.TurnLemmas.{either-false}
use Rattle.sg_laws.specs.Drops.{HasBufferFailed, IsDue, IsDueAt, AreOffersDue, DropsAreDue}

-- Stores that have failed.

listed-one : (n m : ℕ) (b : Bool) → (m == n || b) ≡ true → ((m == n) ≡ true) ⊎ (b ≡ true)
listed-one n m true h = inr refl
listed-one n m false h = inl (grind arith)

or-right : (a b : Bool) → b ≡ true → (a || b) ≡ true
or-right true b h = refl
or-right false b h = h

or-left : (a b : Bool) → a ≡ true → (a || b) ≡ true
or-left true b h = refl
or-left false b h = let wrong : false ≡ true = h in cc

listed-more : (n : ℕ) (ns ms : List ℕ) → is_listed n ns ≡ true → is_listed n (ns ++ ms) ≡ true
listed-more n [] ms h = let wrong : false ≡ true = h in cc
listed-more n (x ∷ ns) ms h =
    elim (listed-one n x (is_listed n ns) h) [
      | inl e ↦ or-left (x == n) (is_listed n (ns ++ ms)) e
      | inr e ↦ or-right (x == n) (is_listed n (ns ++ ms)) (listed-more n ns ms e)
    ]

listed-last : (n : ℕ) (ns : List ℕ) → is_listed n (ns ++ n ∷ []) ≡ true
listed-last n [] = or-left (n == n) false (grind arith)
listed-last n (x ∷ ns) = or-right (x == n) (is_listed n (ns ++ n ∷ [])) (listed-last n ns)

-- the stores listed in the first are listed in the second
abbrev WithinDue : List ℕ → List ℕ → Type 0
WithinDue ns ms = (b : ℕ) → is_listed b ns ≡ true → is_listed b ms ≡ true

none-some : {A : Type 0} (x : A) → None ≡ Some x → ⊥
none-some x h = cc

-- what a judgement gives
gives-one : (f p q : Bool) (a b y : List ℕ) → (if f then (if p then Some a else None) else (if q then Some b else None)) ≡ Some y → (a ≡ y) ⊎ (b ≡ y)
gives-one true true q a b y h = inl (some-same a y h)
gives-one true false q a b y h = absurd (none-some y h)
gives-one false p true a b y h = inr (some-same b y h)
gives-one false p false a b y h = absurd (none-some y h)

queue-gives : (p : Bool) (a y : List ℕ) → (if p then Some a else None) ≡ Some y → a ≡ y
queue-gives true a y h = some-same a y h
queue-gives false a y h = absurd (none-some y h)

by-more : (buffer : Option BufferSetup) (fifo : ℕ) (left : List DestEntry) (failing failed : List ℕ) (o : Offer) (v : Verdict) (y : List ℕ) → judged_by buffer fifo left failing failed o v ≡ Some y → WithinDue failed y
by-more None fifo left failing failed o v y h = λ b l. subst (λ ns. is_listed b ns ≡ true) (queue-gives (same_verdict v (queue_verdict fifo left o)) failed y h) l
by-more (Some buffer) fifo left failing failed o v y h = λ b l.
    elim (gives-one (fails_at buffer left failing failed o) (same_verdict v (disk_verdict buffer left true o)) (same_verdict v (disk_verdict buffer left (is_listed buffer.store failed) o)) (failed ++ buffer.store ∷ []) failed y h) [
      | inl e ↦ subst (λ ns. is_listed b ns ≡ true) e (listed-more b failed (buffer.store ∷ []) l)
      | inr e ↦ subst (λ ns. is_listed b ns ≡ true) e l
    ]

at-more : (dest : Option Dest) (failing failed : List ℕ) (o : Offer) (v : Verdict) (y : List ℕ) → judged_at dest failing failed o v ≡ Some y → WithinDue failed y
at-more None failing failed o v y h = absurd (none-some y h)
at-more (Some dest) failing failed o v y h = by-more dest.setup.buffer dest.setup.fifo dest.left failing failed o v y h

judged-more : (i next : ℕ) (failing : List ℕ) (ds : List Dest) (failed : List ℕ) (cs : List Claim) (vs : List Verdict) (x : List ℕ) → judged i next failing ds failed cs vs ≡ Some x → WithinDue failed x
judged-more i next failing ds failed [] [] x h = λ b l. subst (λ ns. is_listed b ns ≡ true) (some-same failed x h) l
judged-more i next failing ds failed [] (v ∷ vs) x h = absurd (none-some x h)
judged-more i next failing ds failed (c ∷ cs) [] x h = absurd (none-some x h)
judged-more i next failing ds failed (c ∷ cs) (v ∷ vs) x h =
    let parts = then-some (judged_at (slice_get ds c.offer.dest) failing failed c.offer v) (λ f. judged i next failing (take_claim i next ds c v) f cs vs) x h in λ b l.
    judged-more i next failing (take_claim i next ds c v) parts.0 cs vs x parts.2 b (at-more (slice_get ds c.offer.dest) failing failed c.offer v parts.0 parts.1 b l)

-- One verdict.

full-queue : (b : Bool) (a y : List ℕ) → (if same_verdict DroppedFull (if b then Queued else DroppedFull) then Some a else None) ≡ Some y → b ≡ false
full-queue true a y h = absurd (none-some y h)
full-queue false a y h = refl

disk-queue : (b : Bool) (a y : List ℕ) → (if same_verdict DroppedDisk (if b then Queued else DroppedFull) then Some a else None) ≡ Some y → ⊥
disk-queue true a y h = none-some y h
disk-queue false a y h = none-some y h

-- the verdict of a disk-buffer, by whether it is broken, has no room, and the offer has flow-control
abbrev verdict : Bool → Bool → Bool → Verdict
verdict broken full flow = if broken then (if flow then Waits else DroppedDisk) else if full then (if flow then Waits else DroppedFull) else Spooled

abbrev judgement : Verdict → Bool → Bool → Bool → Bool → List ℕ → List ℕ → Option (List ℕ)
judgement v fails broken full flow a b = if fails then (if same_verdict v (verdict true full flow) then Some a else None) else (if same_verdict v (verdict broken full flow) then Some b else None)

full-disk : (fails broken full flow : Bool) (a b y : List ℕ) → judgement DroppedFull fails broken full flow a b ≡ Some y → (flow ≡ false) × (full ≡ true)
full-disk true broken full true a b y h = absurd (none-some y h)
full-disk true broken full false a b y h = absurd (none-some y h)
full-disk false true full true a b y h = absurd (none-some y h)
full-disk false true full false a b y h = absurd (none-some y h)
full-disk false false true true a b y h = absurd (none-some y h)
full-disk false false true false a b y h = (refl, refl)
full-disk false false false flow a b y h = absurd (none-some y h)

disk-disk : (fails broken full flow : Bool) (a b y : List ℕ) → judgement DroppedDisk fails broken full flow a b ≡ Some y → (flow ≡ false) × ((a ≡ y) ⊎ ((broken ≡ true) × (b ≡ y)))
disk-disk true broken full true a b y h = absurd (none-some y h)
disk-disk true broken full false a b y h = (refl, inl (some-same a y h))
disk-disk false true full true a b y h = absurd (none-some y h)
disk-disk false true full false a b y h = (refl, inr (refl, some-same b y h))
disk-disk false false true true a b y h = absurd (none-some y h)
disk-disk false false true false a b y h = absurd (none-some y h)
disk-disk false false false flow a b y h = absurd (none-some y h)

full-of : (waits fit : Bool) → (waits || not fit) ≡ true → (waits ≡ true) ⊎ (fit ≡ false)
full-of true fit h = inl refl
full-of false true h = let wrong : false ≡ true = h in cc
full-of false false h = inr refl

no-room : (n fifo : ℕ) → nat_lt n fifo ≡ false → fifo ≤ n
no-room n fifo h = grind arith

due-by : (buffer : Option BufferSetup) (fifo : ℕ) (left : List DestEntry) (failing failed : List ℕ) (o : Offer) (v : Verdict) (y finals : List ℕ) → judged_by buffer fifo left failing failed o v ≡ Some y → WithinDue y finals
    → IsDue buffer fifo left finals o v
due-by None fifo left failing failed o DroppedFull y finals h w =
    let both = either-false o.flow (nat_lt (unflowed left) fifo) (full-queue (o.flow || nat_lt (unflowed left) fifo) failed y h) in
    (both.0, no-room (unflowed left) fifo both.1)
due-by None fifo left failing failed o DroppedDisk y finals h w = absurd (disk-queue (o.flow || nat_lt (unflowed left) fifo) failed y h)
due-by (Some buffer) fifo left failing failed o DroppedFull y finals h w =
    let fit = fits buffer.capacity left o.message in
    let both = full-disk (fails_at buffer left failing failed o) (is_listed buffer.store failed) (any_waits left || not fit) o.flow (failed ++ buffer.store ∷ []) failed y h in
    (both.0, full-of (any_waits left) fit both.1)
due-by (Some buffer) fifo left failing failed o DroppedDisk y finals h w =
    let fit = fits buffer.capacity left o.message in
    let both = disk-disk (fails_at buffer left failing failed o) (is_listed buffer.store failed) (any_waits left || not fit) o.flow (failed ++ buffer.store ∷ []) failed y h in
    let listed : is_listed buffer.store y ≡ true =
    elim both.1 [
      | inl e ↦ subst (λ ns. is_listed buffer.store ns ≡ true) e (listed-last buffer.store failed)
      | inr e ↦ subst (λ ns. is_listed buffer.store ns ≡ true) e.1 e.0
    ] in
    (both.0, w buffer.store listed)
due-by buffer fifo left failing failed o Queued y finals h w = tt
due-by buffer fifo left failing failed o Spooled y finals h w = tt
due-by buffer fifo left failing failed o Waits y finals h w = tt

due-at : (dest : Option Dest) (failing failed : List ℕ) (o : Offer) (v : Verdict) (y finals : List ℕ) → judged_at dest failing failed o v ≡ Some y → WithinDue y finals → IsDueAt dest finals o v
due-at None failing failed o v y finals h w = absurd (none-some y h)
due-at (Some dest) failing failed o v y finals h w = due-by dest.setup.buffer dest.setup.fifo dest.left failing failed o v y finals h w

-- All verdicts.

are-due : (i next : ℕ) (failing : List ℕ) (ds : List Dest) (failed : List ℕ) (cs : List Claim) (vs : List Verdict) (x finals : List ℕ) → judged i next failing ds failed cs vs ≡ Some x → WithinDue x finals → AreOffersDue i next ds finals cs vs
are-due i next failing ds failed [] vs x finals h w = tt
are-due i next failing ds failed (c ∷ cs) [] x finals h w = tt
are-due i next failing ds failed (c ∷ cs) (v ∷ vs) x finals h w =
    let parts = then-some (judged_at (slice_get ds c.offer.dest) failing failed c.offer v) (λ f. judged i next failing (take_claim i next ds c v) f cs vs) x h in
    let on = judged-more i next failing (take_claim i next ds c v) parts.0 cs vs x parts.2 in (
      due-at (slice_get ds c.offer.dest) failing failed c.offer v parts.0 finals parts.1 (λ b l. w b (on b l)),
      are-due i next failing (take_claim i next ds c v) parts.0 cs vs x finals parts.2 w,
    )

pub act-due : (s : State) (i : ℕ) (records : List Admission) (vs : List Verdict) (failed : List ℕ) → is_legal_act s (Admit i records vs) failed ≡ true → AreOffersDue i (next_of s i) s.dests (s.failed ++ failed) (claims_of records) vs
act-due s i records vs failed legal =
    let cs = claims_of records in
    let answer = judged i (next_of s i) failed s.dests s.failed cs vs in
    let right = (both-true (passes_at s.inlets i (may_admit s i records)) (option_map_or (is_same_list (s.failed ++ failed)) answer false) legal).1 in
    let x = mapped-some answer (is_same_list (s.failed ++ failed)) right in
    let same = is_same_list-true (s.failed ++ failed) x.0 x.2 in
    are-due i (next_of s i) failed s.dests s.failed cs vs x.0 (s.failed ++ failed) x.1 (λ b h. subst (λ ns. is_listed b ns ≡ true) (sym same) h)

pub drops-due : DropsAreDue
drops-due start before later i records vs failed l =
    let s = after_all start before in
    let e : Event = record { act = Admit i records vs; failed = failed } in
    act-due s i records vs failed (both-true (is_legal s e) (are_legal (after s e) later) (are_legal-parts start before (e ∷ later) l).1).0

-- One drop.

some-due : (o : Option Dest) (failed : List ℕ) (offer : Offer) → IsDueAt o failed offer DroppedDisk → (x : Dest) × ((o ≡ Some x) × HasBufferFailed x.setup.buffer failed)
some-due None failed offer h = absurd h
some-due (Some x) failed offer h = (x, (refl, h.1))

taken-setup : (origin : Origin) (offer : Offer) (v : Verdict) (x : Dest) → (take_offer origin offer v x).setup ≡ x.setup
taken-setup origin offer Queued x = refl
taken-setup origin offer Spooled x = refl
taken-setup origin offer Waits x = refl
taken-setup origin offer DroppedFull x = refl
taken-setup origin offer DroppedDisk x = refl

-- the store of the destination has failed where an offer is dropped for that
pub drop-due : (i next : ℕ) (ds : List Dest) (failed : List ℕ) (cs : List Claim) (vs : List Verdict) (k : ℕ) (c : Claim) → AreOffersDue i next ds failed cs vs → slice_get cs k ≡ Some c → slice_get vs k ≡ Some DroppedDisk
    → (x : Dest) × ((slice_get ds c.offer.dest ≡ Some x) × HasBufferFailed x.setup.buffer failed)
drop-due i next ds failed [] vs k c due at_claim at_verdict = absurd (none-some c at_claim)
drop-due i next ds failed (d ∷ cs) [] k c due at_claim at_verdict = absurd (none-some DroppedDisk at_verdict)
drop-due i next ds failed (d ∷ cs) (v ∷ vs) zero c due at_claim at_verdict =
    some-due (slice_get ds c.offer.dest) failed c.offer (subst (λ (e : Claim). IsDueAt (slice_get ds e.offer.dest) failed e.offer DroppedDisk) (some-same d c at_claim)
    (subst (λ w. IsDueAt (slice_get ds d.offer.dest) failed d.offer w) (some-same v DroppedDisk at_verdict) due.0))
drop-due i next ds failed (d ∷ cs) (v ∷ vs) (suc k) c due at_claim at_verdict =
    let r = drop-due i next (take_claim i next ds d v) failed cs vs k c due.1 at_claim at_verdict in
    let was = get-change ds d.offer.dest c.offer.dest (take_offer (origin_of i next d) d.offer v) r.0 r.1.0 in
    let same : (r.0).setup ≡ (was.0).setup = elim was.2 [
      | inl p ↦ ap (λ (x : Dest). x.setup) p.1 ∙ taken-setup (origin_of i next d) d.offer v was.0
      | inr p ↦ ap (λ (x : Dest). x.setup) p.1
    ] in
    (was.0, (was.1, subst (λ (x : DestSetup). HasBufferFailed x.buffer failed) same r.1.1))

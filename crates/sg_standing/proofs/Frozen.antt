-- What an event leaves of an inlet and of a destination whose store has failed.
use Rattle.std.proofs.Common.{◌≡◌, ◌≢◌, ℕ, ◌≤◌, List, [], ◌∷◌, ◌++◌, length, Some, None, Option, Bool, true, false, ◌&&◌, ◌||◌, not, if◌then◌else◌, refl, sym, ap, ◌∙◌, arith, suc, take, drop, slice_get, subst, inl, inr, append_assoc}
use Rattle.std.specs.Prelude.{◌==◌, nat_lt, nat_le}
use Rattle.std.specs.Option.{option_map_or}
use Rattle.std.proofs.lemmas.Bool.{cases_eq}
use Rattle.std.proofs.lemmas.List.{append-nil}
use Rattle.sg_list.specs.Lists.{change, passes_at}
use Rattle.sg_list.proofs.ListLemmas.{some-same, get-change-same, get-change-other, length-change, passes_at-some, get-change}
use Rattle.sg_msg.specs.declared.offer.Offer.{Offer}
use Rattle.sg_machine.specs.declared.event.Act.{Act}
use Rattle.sg_machine.specs.declared.event.Act.TheVariants.{Admit, Settle, Refill, Store, Rewind, Look}
use Rattle.sg_machine.specs.declared.event.Admission.{Admission}
use Rattle.sg_machine.specs.declared.event.Verdict.{Verdict}
use Rattle.sg_machine.specs.declared.event.Verdict.TheVariants.{Queued, Spooled, Waits, DroppedFull, DroppedDisk}
use Rattle.sg_machine.specs.declared.setup.BufferSetup.{BufferSetup}
use Rattle.sg_machine.specs.declared.setup.DestSetup.{DestSetup}
use Rattle.sg_machine.specs.declared.setup.SourceSetup.{SourceSetup}
use Rattle.sg_machine.specs.declared.state.Dest.{Dest}
use Rattle.sg_machine.specs.declared.state.DestEntry.{DestEntry}
use Rattle.sg_machine.specs.declared.state.InletRecords.{InletRecords}
use Rattle.sg_machine.specs.declared.state.Origin.{Origin}
use Rattle.sg_machine.specs.declared.state.State.{State}
use Rattle.sg_machine.specs.Effects.{next_of, admitted, settled_some, refilled_some, stored_at, rewound, after_act}
use Rattle.sg_machine.specs.Legal.{is_legal_act, is_same_list, is_nil, fit_in_turn, store_of, works, may_admit, may_refill, may_store, may_rewind}
use Rattle.sg_machine.specs.Marks.{mark_of}
use Rattle.sg_machine.specs.Runs.{BufferedEntry}
use Rattle.sg_machine.specs.Safe.{IsSafeList, spooled_of, settled_by, has_failed, running_position, kept_from, spooled_offers, appends}
use Rattle.sg_machine.specs.Verdicts.{Claim, claims_of, origin_of, is_listed, same_verdict, disk_verdict, queue_verdict, judged_by, judged_at, judged, take_offer, take_claim, take_claims, entry_from}
use Rattle.sg_machine.proofs.BatchLemmas.{failing-appends, none-is}
use Rattle.sg_machine.proofs.CountLemmas.{take-drop}
use Rattle.sg_machine.proofs.FlowLemmas.{mapped-some, then-some}
use Rattle.sg_machine.proofs.RunLemmas.{both-true}
use Rattle.sg_standing.proofs.Safes.{spooled-append}
use Rattle.sg_machine.proofs.AckLemmas.{length-claims}

-- Lists of stores.

pub listed-front : (u : ℕ) (xs ys : List ℕ) → is_listed u xs ≡ true → is_listed u (xs ++ ys) ≡ true
listed-front u [] ys h = let wrong : false ≡ true = h in cc
listed-front u (x ∷ xs) ys h = let rest = listed-front u xs ys in grind (arith, rest)

pub listed-behind : (u : ℕ) (xs ys : List ℕ) → is_listed u ys ≡ true → is_listed u (xs ++ ys) ≡ true
listed-behind u [] ys h = h
listed-behind u (x ∷ xs) ys h = let rest = listed-behind u xs ys h in rw rest (grind arith)

or-assoc : (p q r : Bool) → (p || (q || r)) ≡ ((p || q) || r)
or-assoc true q r = refl
or-assoc false q r = refl

pub listed-either : (u : ℕ) (xs ys : List ℕ) (b : Bool) → is_listed u xs ≡ b → is_listed u (xs ++ ys) ≡ (b || is_listed u ys)
listed-either u [] ys b h = let e : false ≡ b = h in rw (← e) refl
listed-either u (x ∷ xs) ys b h =
    let P : Bool → Type 0 = λ c. ((x == u) || is_listed u (xs ++ ys)) ≡ (c || is_listed u ys) in
    let rest = listed-either u xs ys (is_listed u xs) refl in
    subst P h (rw rest (or-assoc (x == u) (is_listed u xs) (is_listed u ys)))

-- Destinations.

-- the destination has settled no more, and spooled nothing
pub record Froze (old new : Dest) : Type 0 where
  pub setup : new.setup ≡ old.setup
  pub settled : new.settled ≡ old.settled
  pub spooled : spooled_of (new.settled ++ new.left) ≡ spooled_of (old.settled ++ old.left)

froze-refl : (x : Dest) → Froze x x
froze-refl x = record { setup = refl; settled = refl; spooled = refl }

froze-then : (x y z : Dest) → Froze x y → Froze y z → Froze x z
froze-then x y z p q = record { setup = q.setup ∙ p.setup; settled = q.settled ∙ p.settled; spooled = q.spooled ∙ p.spooled }

froze-keep : (x : Dest) (e : DestEntry) → e.spooled ≡ false → Froze x (record x { left = x.left ++ e ∷ [] })
froze-keep x e memory =
    let none : spooled_of (e ∷ []) ≡ [] = rw memory refl in
    record {
      setup = refl;
      settled = refl;
      spooled = ap spooled_of (sym (append_assoc x.settled x.left (e ∷ []))) ∙ spooled-append (x.settled ++ x.left) (e ∷ [])
          ∙ ap (λ ks. spooled_of (x.settled ++ x.left) ++ ks) none ∙ append-nil (spooled_of (x.settled ++ x.left));
    }

froze-offer : (origin : Origin) (o : Offer) (v : Verdict) (x : Dest) → same_verdict Spooled v ≡ false → Froze x (take_offer origin o v x)
froze-offer origin o Queued x h = froze-keep x (entry_from origin o false) refl
froze-offer origin o Spooled x h = let wrong : true ≡ false = h in cc
froze-offer origin o Waits x h = froze-keep x (entry_from origin o false) refl
froze-offer origin o DroppedFull x h = record { setup = refl; settled = refl; spooled = refl }
froze-offer origin o DroppedDisk x h = record { setup = refl; settled = refl; spooled = refl }

cons-none : (k : BufferedEntry) (ks : List BufferedEntry) → k ∷ ks ≡ [] → ⊥
cons-none k ks h = cc

-- nothing is spooled here, nor by the rest
none-spooled : (p q : Bool) (k : BufferedEntry) (ks : List BufferedEntry) → (if p && q then k ∷ ks else ks) ≡ [] → (ks ≡ []) × (p ≡ true → q ≡ false)
none-spooled true true k ks h = absurd (cons-none k ks h)
none-spooled true false k ks h = (h, λ p. refl)
none-spooled false q k ks h = (h, λ p. let wrong : false ≡ true = p in cc)

pub froze-claims : (i next : ℕ) (ds : List Dest) (cs : List Claim) (vs : List Verdict) (d : ℕ) (x : Dest) → slice_get ds d ≡ Some x → spooled_offers d i cs vs ≡ []
    → (y : Dest) × (slice_get (take_claims i next ds cs vs) d ≡ Some y) × Froze x y
froze-claims i next ds [] vs d x h none = (x, h, froze-refl x)
froze-claims i next ds (c ∷ cs) [] d x h none = (x, h, froze-refl x)
froze-claims i next ds (c ∷ cs) (v ∷ vs) d x h none =
    let o = c.offer in
    let f = take_offer (origin_of i next c) o v in
    let parts = none-spooled (o.dest == d) (same_verdict Spooled v) (kept_from i c) (spooled_offers d i cs vs) none in
    elim (cases_eq o.dest d) [
      | inl e ↦ (
          let hit : (o.dest == d) ≡ true = grind arith in
          let here : slice_get (take_claim i next ds c v) d ≡ Some (f x) = rw e (get-change-same ds d f x h) in
          let rest = froze-claims i next (take_claim i next ds c v) cs vs d (f x) here parts.0 in
          (rest.0, rest.1, froze-then x (f x) rest.0 (froze-offer (origin_of i next c) o v x (parts.1 hit)) rest.2))
      | inr ne ↦ (
          let there : slice_get (take_claim i next ds c v) d ≡ Some x = get-change-other ds o.dest d f (λ e. ne (sym e)) ∙ h in
          froze-claims i next (take_claim i next ds c v) cs vs d x there parts.0)
    ]

-- A store that has failed before an offer spools nothing of it.

broken-verdict : (flow : Bool) → same_verdict Spooled (if flow then Waits else DroppedDisk) ≡ false
broken-verdict true = refl
broken-verdict false = refl

when-false : (p q : Bool) (y z : Option (List ℕ)) → q ≡ false → (if p && q then y else z) ≡ z
when-false true q y z h = rw h refl
when-false false q y z h = refl

unspooled : (b : BufferSetup) (fifo : ℕ) (left : List DestEntry) (failing failed : List ℕ) (o : Offer) (v : Verdict) (x : List ℕ) → is_listed b.store failed ≡ true → judged_by (Some b) fifo left failing failed o v ≡ Some x
    → same_verdict Spooled v ≡ false
unspooled b fifo left failing failed o Queued x l j = refl
unspooled b fifo left failing failed o Spooled x l j =
    let never : same_verdict Spooled (disk_verdict b left true o) ≡ false = broken-verdict o.flow in
    let none : judged_by (Some b) fifo left failing failed o Spooled ≡ None = rw (l, never) (when-false (is_listed b.store failing) false _ None refl) in
    absurd (none-is x (sym none ∙ j))
unspooled b fifo left failing failed o Waits x l j = refl
unspooled b fifo left failing failed o DroppedFull x l j = refl
unspooled b fifo left failing failed o DroppedDisk x l j = refl

-- the stores that have failed stay so

if-some : (b : Bool) (y x : List ℕ) → (if b then Some y else None) ≡ Some x → y ≡ x
if-some true y x h = some-same y x h
if-some false y x h = absurd (none-is x h)

grows-if : (u : ℕ) (a b c : Bool) (failed x : List ℕ) (s : ℕ) → is_listed u failed ≡ true → (if a then (if b then Some (failed ++ s ∷ []) else None) else (if c then Some failed else None)) ≡ Some x → is_listed u x ≡ true
grows-if u true b c failed x s l h = rw (← (if-some b (failed ++ s ∷ []) x h)) (listed-front u failed (s ∷ []) l)
grows-if u false b c failed x s l h = rw (← (if-some c failed x h)) l

grows-by : (o : Option BufferSetup) (fifo : ℕ) (left : List DestEntry) (failing failed : List ℕ) (offer : Offer) (v : Verdict) (x : List ℕ) (u : ℕ) → is_listed u failed ≡ true → judged_by o fifo left failing failed offer v ≡ Some x
    → is_listed u x ≡ true
grows-by None fifo left failing failed offer v x u l j = rw (← (if-some (same_verdict v (queue_verdict fifo left offer)) failed x j)) l
grows-by (Some b) fifo left failing failed offer v x u l j =
    grows-if u (is_listed b.store failing && same_verdict Spooled (disk_verdict b left (is_listed b.store failed) offer)) (same_verdict v (disk_verdict b left true offer)) (same_verdict v (disk_verdict b left (is_listed b.store failed) offer)) failed x b.store l j

grows-at : (o : Option Dest) (failing failed : List ℕ) (offer : Offer) (v : Verdict) (x : List ℕ) (u : ℕ) → is_listed u failed ≡ true → judged_at o failing failed offer v ≡ Some x → is_listed u x ≡ true
grows-at None failing failed offer v x u l j = absurd (none-is x j)
grows-at (Some y) failing failed offer v x u l j = grows-by y.setup.buffer y.setup.fifo y.left failing failed offer v x u l j

offer-buffer : (origin : Origin) (o : Offer) (v : Verdict) (x : Dest) (b : Option BufferSetup) → x.setup.buffer ≡ b → (take_offer origin o v x).setup.buffer ≡ b
offer-buffer origin o Queued x b h = h
offer-buffer origin o Spooled x b h = h
offer-buffer origin o Waits x b h = h
offer-buffer origin o DroppedFull x b h = h
offer-buffer origin o DroppedDisk x b h = h

judged-here : (ds : List Dest) (k d : ℕ) (x : Dest) (b : BufferSetup) (failing failed : List ℕ) (o : Offer) (v : Verdict) (z : List ℕ) → k ≡ d → slice_get ds d ≡ Some x → x.setup.buffer ≡ Some b
    → judged_at (slice_get ds k) failing failed o v ≡ Some z → judged_by (Some b) x.setup.fifo x.left failing failed o v ≡ Some z
judged-here ds k d x b failing failed o v z e h q j =
    let P : Option Dest → Type 0 = λ y. judged_at y failing failed o v ≡ Some z in
    let at : slice_get ds k ≡ Some x = rw e h in
    let Q : Option BufferSetup → Type 0 = λ y. judged_by y x.setup.fifo x.left failing failed o v ≡ Some z in
    subst Q q (subst P at j)

skip-if : (p q : Bool) (k : BufferedEntry) (ks : List BufferedEntry) → (p ≡ true → q ≡ false) → (if p && q then k ∷ ks else ks) ≡ ks
skip-if true q k ks h = rw (h refl) refl
skip-if false q k ks h = refl

broken-spools : (i next : ℕ) (failing : List ℕ) (ds : List Dest) (failed : List ℕ) (cs : List Claim) (vs : List Verdict) (z : List ℕ) (d : ℕ) (x : Dest) (b : BufferSetup)
    → judged i next failing ds failed cs vs ≡ Some z → slice_get ds d ≡ Some x → x.setup.buffer ≡ Some b → is_listed b.store failed ≡ true → spooled_offers d i cs vs ≡ []
broken-spools i next failing ds failed [] vs z d x b j h q l = refl
broken-spools i next failing ds failed (c ∷ cs) [] z d x b j h q l = refl
broken-spools i next failing ds failed (c ∷ cs) (v ∷ vs) z d x b j h q l =
    let o = c.offer in
    let f = take_offer (origin_of i next c) o v in
    let parts = then-some (judged_at (slice_get ds o.dest) failing failed o v) (λ y. judged i next failing (take_claim i next ds c v) y cs vs) z j in
    let grown = grows-at (slice_get ds o.dest) failing failed o v parts.0 b.store l parts.1 in
    elim (cases_eq o.dest d) [
      | inl e ↦ (
          let not_now = unspooled b x.setup.fifo x.left failing failed o v parts.0 l (judged-here ds o.dest d x b failing failed o v parts.0 e h q parts.1) in
          let here : slice_get (take_claim i next ds c v) d ≡ Some (f x) = rw e (get-change-same ds d f x h) in
          skip-if (o.dest == d) (same_verdict Spooled v) (kept_from i c) (spooled_offers d i cs vs) (λ p. not_now)
          ∙ broken-spools i next failing (take_claim i next ds c v) parts.0 cs vs z d (f x) b parts.2 here (offer-buffer (origin_of i next c) o v x (Some b) q) grown)
      | inr ne ↦ (
          let miss : (o.dest == d) ≡ false = grind arith in
          let there : slice_get (take_claim i next ds c v) d ≡ Some x = get-change-other ds o.dest d f (λ e. ne (sym e)) ∙ h in
          skip-if (o.dest == d) (same_verdict Spooled v) (kept_from i c) (spooled_offers d i cs vs) (λ p. let wrong : false ≡ true = sym miss ∙ p in cc)
          ∙ broken-spools i next failing (take_claim i next ds c v) parts.0 cs vs z d x b parts.2 there q grown)
    ]

-- an Admit spools nothing at a store that has failed once it is over
broken-appends : (s : State) (i : ℕ) (records : List Admission) (vs : List Verdict) (failed : List ℕ) (d : ℕ) (x : Dest) (b : BufferSetup) → is_legal_act s (Admit i records vs) failed ≡ true → slice_get s.dests d ≡ Some x
    → x.setup.buffer ≡ Some b → is_listed b.store (s.failed ++ failed) ≡ true → (before : Bool) → is_listed b.store s.failed ≡ before → spooled_offers d i (claims_of records) vs ≡ []
broken-appends s i records vs failed d x b legal h q l true before =
    let parts = both-true (passes_at s.inlets i (may_admit s i records)) _ legal in
    let m = mapped-some (judged i (next_of s i) failed s.dests s.failed (claims_of records) vs) (is_same_list (s.failed ++ failed)) parts.1 in
    broken-spools i (next_of s i) failed s.dests s.failed (claims_of records) vs m.0 d x b m.1 h q before
broken-appends s i records vs failed d x b legal h q l false before =
    let now : is_listed b.store failed ≡ true = sym (listed-either b.store s.failed failed false before) ∙ l in
    failing-appends s i records vs failed d x b legal h q now

-- after an act: settled as it says, and nothing spooled
pub record Freezes (old new : Dest) (d : ℕ) (act : Act) : Type 0 where
  pub setup : new.setup ≡ old.setup
  pub settled : new.settled ≡ settled_by act d old
  pub spooled : spooled_of (new.settled ++ new.left) ≡ spooled_of (old.settled ++ old.left)

freezes-same : (x : Dest) (d : ℕ) (act : Act) → settled_by act d x ≡ x.settled → Freezes x x d act
freezes-same x d act h = record { setup = refl; settled = sym h; spooled = refl }

not-works : (failed : List ℕ) (x : Dest) (b : BufferSetup) → x.setup.buffer ≡ Some b → is_listed b.store failed ≡ true → works failed (store_of x) ≡ true → ⊥
not-works failed x b q l w =
    let none : works failed (store_of x) ≡ false = rw (q, l) refl in
    let wrong : false ≡ true = sym none ∙ w in
    cc

none-failed : (failed new : List ℕ) (u : ℕ) → is_nil new ≡ true → is_listed u (failed ++ new) ≡ true → is_listed u failed ≡ true
none-failed failed [] u n l = rw (append-nil failed) at l
none-failed failed (x ∷ new) u n l = let wrong : (suc (length new) == 0) ≡ true = n in let right : (suc (length new) == 0) ≡ false = grind arith in absurd (let no : false ≡ true = sym right ∙ wrong in cc)

and-head : (p q : Bool) → (p && q) ≡ true → p ≡ true
and-head true q h = refl
and-head false q h = h

refill-works : (n : ℕ) (failed : List ℕ) (x : Dest) → may_refill n failed x ≡ true → works failed (store_of x) ≡ true
refill-works n failed x h =
    let w = works failed (store_of x) in
    let fits = option_map_or (λ (b : BufferSetup). fit_in_turn n b.capacity x.left) x.setup.buffer false in
    and-head w (nat_lt 0 n) (and-head (w && nat_lt 0 n) (nat_le n 1000) (and-head (w && nat_lt 0 n && nat_le n 1000) fits h))

pub freezes : (s : State) (act : Act) (failed : List ℕ) (d : ℕ) (old : Dest) (b : BufferSetup) → is_legal_act s act failed ≡ true → slice_get s.dests d ≡ Some old → old.setup.buffer ≡ Some b → is_listed b.store (s.failed ++ failed) ≡ true
    → (new : Dest) × (slice_get (after_act s act failed).dests d ≡ Some new) × Freezes old new d act
freezes s (Admit i records vs) failed d old b legal h q l =
    let none = broken-appends s i records vs failed d old b legal h q l (is_listed b.store s.failed) refl in
    let r = froze-claims i (next_of s i) s.dests (claims_of records) vs d old h none in
    (r.0, r.1, record { setup = r.2.setup; settled = r.2.settled; spooled = r.2.spooled })
freezes s (Settle e n) failed d old b legal h q l =
    elim (cases_eq e d) [
      | inl p ↦ (
          let hit : (e == d) ≡ true = grind arith in
          let here : slice_get (change s.dests e (settled_some n)) d ≡ Some (settled_some n old) = rw p (get-change-same s.dests d (settled_some n) old h) in (
            settled_some n old,
            here,
            record {
              setup = refl;
              settled = rw hit refl;
              spooled = ap spooled_of (append_assoc old.settled (take n old.left) (drop n old.left) ∙ ap (λ es. old.settled ++ es) (take-drop n old.left));
            },
          ))
      | inr ne ↦ (
          let miss : (e == d) ≡ false = grind arith in
          (old, get-change-other s.dests e d (settled_some n) (λ p. ne (sym p)) ∙ h, freezes-same old d (Settle e n) (rw miss refl)))
    ]
freezes s (Refill e n) failed d old b legal h q l =
    elim (cases_eq e d) [
      | inl p ↦ (
          let parts = both-true (passes_at s.dests e (may_refill n s.failed)) (is_nil failed) legal in
          let before = none-failed s.failed failed b.store parts.1 l in
          let at : passes_at s.dests d (may_refill n s.failed) ≡ true = rw p at parts.0 in
          let passes = passes_at-some s.dests d (may_refill n s.failed) at in
          let same : passes.0 ≡ old = some-same passes.0 old (sym passes.1 ∙ h) in
          let may : may_refill n s.failed old ≡ true = subst (λ (x : Dest). may_refill n s.failed x ≡ true) same passes.2 in
          let w = refill-works n s.failed old may in
          absurd (not-works s.failed old b q before w))
      | inr ne ↦ (old, get-change-other s.dests e d (refilled_some n) (λ p. ne (sym p)) ∙ h, freezes-same old d (Refill e n) refl)
    ]
freezes s (Store i w) failed d old b legal h q l = (old, h, freezes-same old d (Store i w) refl)
freezes s (Rewind i) failed d old b legal h q l = (old, h, freezes-same old d (Rewind i) refl)
freezes s Look failed d old b legal h q l = (old, h, freezes-same old d Look refl)

pub length-dests : (s : State) (act : Act) (failed : List ℕ) → length (after_act s act failed).dests ≡ length s.dests
length-dests s (Admit i records vs) failed = length-claims i (next_of s i) s.dests (claims_of records) vs
length-dests s (Settle d n) failed = length-change s.dests d (settled_some n)
length-dests s (Refill d n) failed = length-change s.dests d (refilled_some n)
length-dests s (Store i w) failed = refl
length-dests s (Rewind i) failed = refl
length-dests s Look failed = refl

-- The setup of a destination stays.

offer-setup : (origin : Origin) (o : Offer) (v : Verdict) (x : Dest) → (take_offer origin o v x).setup ≡ x.setup
offer-setup origin o Queued x = refl
offer-setup origin o Spooled x = refl
offer-setup origin o Waits x = refl
offer-setup origin o DroppedFull x = refl
offer-setup origin o DroppedDisk x = refl

setup-change : (ds : List Dest) (e d : ℕ) (f : Dest → Dest) (x : Dest) → ((z : Dest) → (f z).setup ≡ z.setup) → slice_get ds d ≡ Some x → (y : Dest) × (slice_get (change ds e f) d ≡ Some y) × (y.setup ≡ x.setup)
setup-change ds e d f x keeps h =
    elim (cases_eq e d) [
      | inl p ↦ (f x, rw p (get-change-same ds d f x h), keeps x)
      | inr ne ↦ (x, get-change-other ds e d f (λ p. ne (sym p)) ∙ h, refl)
    ]

setup-claims : (i next : ℕ) (ds : List Dest) (cs : List Claim) (vs : List Verdict) (d : ℕ) (x : Dest) → slice_get ds d ≡ Some x → (y : Dest) × (slice_get (take_claims i next ds cs vs) d ≡ Some y) × (y.setup ≡ x.setup)
setup-claims i next ds [] vs d x h = (x, h, refl)
setup-claims i next ds (c ∷ cs) [] d x h = (x, h, refl)
setup-claims i next ds (c ∷ cs) (v ∷ vs) d x h =
    let one = setup-change ds c.offer.dest d (take_offer (origin_of i next c) c.offer v) x (offer-setup (origin_of i next c) c.offer v) h in
    let rest = setup-claims i next (take_claim i next ds c v) cs vs d one.0 one.1 in
    (rest.0, rest.1, rest.2 ∙ one.2)

pub kept-setup : (s : State) (act : Act) (failed : List ℕ) (d : ℕ) (x : Dest) → slice_get s.dests d ≡ Some x → (y : Dest) × (slice_get (after_act s act failed).dests d ≡ Some y) × (y.setup ≡ x.setup)
kept-setup s (Admit i records vs) failed d x h = setup-claims i (next_of s i) s.dests (claims_of records) vs d x h
kept-setup s (Settle e n) failed d x h = setup-change s.dests e d (settled_some n) x (λ z. refl) h
kept-setup s (Refill e n) failed d x h = setup-change s.dests e d (refilled_some n) x (λ z. refl) h
kept-setup s (Store i w) failed d x h = (x, h, refl)
kept-setup s (Rewind i) failed d x h = (x, h, refl)
kept-setup s Look failed d x h = (x, h, refl)

-- a list that was safe within the act is safe after it
pub safe-after : (old new : Dest) (d : ℕ) (act : Act) (failed : List ℕ) (tried list : List BufferedEntry) → Freezes old new d act → has_failed failed (store_of old) ≡ true → IsSafeList old d act failed tried list → IsSafeList new d Look failed tried list
safe-after old new d act failed tried list f broken h =
    let store : store_of new ≡ store_of old = ap (λ (x : DestSetup). option_map_or (λ (y : BufferSetup). Some y.store) x.buffer None) f.setup in
    let still : has_failed failed (store_of new) ≡ true = ap (has_failed failed) store ∙ broken in
    record {
      gone = h.gone;
      added = h.added;
      parts =
          let P : Bool → Type 0 = λ b. list ≡ drop h.gone (spooled_of (old.settled ++ old.left)) ++ take h.added (if b then tried else appends act d old) in
          let Q : Bool → Type 0 = λ b. list ≡ drop h.gone (spooled_of (new.settled ++ new.left)) ++ take h.added (if b then tried else []) in
          let R : List BufferedEntry → Type 0 = λ ks. list ≡ drop h.gone ks ++ take h.added tried in
          subst Q (sym still) (subst R (sym f.spooled) (subst P broken h.parts));
      settled = subst (λ (xs : List DestEntry). h.gone ≤ length (spooled_of xs)) (sym f.settled) h.settled;
      all_settled = λ no s. let wrong : true ≡ false = sym still ∙ no in cc;
    }

-- Inlets.

-- an inlet whose store has failed was there before, and nothing is written
pub record WasThere (s : State) (act : Act) (i : ℕ) (new : InletRecords) : Type 0 where
  pub old : InletRecords
  pub there : slice_get s.inlets i ≡ Some old
  pub setup : old.setup ≡ new.setup
  pub stored : old.stored ≡ new.stored
  pub quiet : running_position act i ≡ None

not-works-inlet : (failed : List ℕ) (store : Option ℕ) (u : ℕ) → store ≡ Some u → is_listed u failed ≡ true → works failed store ≡ true → ⊥
not-works-inlet failed store u q l w =
    let none : works failed store ≡ false = rw (q, l) refl in
    let wrong : false ≡ true = sym none ∙ w in
    cc

-- where an act writes the position of j, its store works
never : (s : State) (j i u : ℕ) (failed : List ℕ) (f : InletRecords → InletRecords) (p : InletRecords → Bool) (new : InletRecords) → ((x : InletRecords) → (f x).setup ≡ x.setup) → ((x : InletRecords) → p x ≡ true → works s.failed x.setup.store ≡ true)
    → passes_at s.inlets j p ≡ true → is_nil failed ≡ true → slice_get (change s.inlets j f) i ≡ Some new → new.setup.store ≡ Some u → is_listed u (s.failed ++ failed) ≡ true
    → (old : InletRecords) × (slice_get s.inlets i ≡ Some old) × (new ≡ old) × (j ≢ i)
never s j i u failed f p new setup working passes nil h has l =
    let g = get-change s.inlets j i f new h in
    elim g.2 [
      | inl q ↦ (
          let r = passes_at-some s.inlets j p passes in
          let at_j : slice_get s.inlets j ≡ Some g.0 = ap (λ k. slice_get s.inlets k) (sym q.0) ∙ g.1 in
          let same : r.0 ≡ g.0 = some-same r.0 g.0 (sym r.1 ∙ at_j) in
          let store : (r.0).setup.store ≡ Some u = ap (λ (x : InletRecords). x.setup.store) same ∙ ap (λ (x : SourceSetup). x.store) (sym (setup g.0)) ∙ ap (λ (x : InletRecords). x.setup.store) (sym q.1) ∙ has in
          absurd (not-works-inlet s.failed (r.0).setup.store u store (none-failed s.failed failed u nil l) (working r.0 r.2)))
      | inr q ↦ (g.0, g.1, q.1, λ e. q.0 (sym e))
    ]

store-works : (s : State) (j w : ℕ) (x : InletRecords) → may_store s j w x ≡ true → works s.failed x.setup.store ≡ true
store-works s j w x h = and-head (works s.failed x.setup.store) (w == mark_of s.dests j x) (and-head (works s.failed x.setup.store && w == mark_of s.dests j x) (not (w == x.stored)) h)

rewind-works : (failed : List ℕ) (x : InletRecords) → may_rewind failed x ≡ true → works failed x.setup.store ≡ true
rewind-works failed x h = and-head (works failed x.setup.store) (is_nil x.ends) (and-head (works failed x.setup.store && is_nil x.ends) (not (x.stored == 0)) h)

pub was-there : (s : State) (act : Act) (failed : List ℕ) (i u : ℕ) (new : InletRecords) → is_legal_act s act failed ≡ true → slice_get (after_act s act failed).inlets i ≡ Some new → new.setup.store ≡ Some u → is_listed u (s.failed ++ failed) ≡ true
    → WasThere s act i new
was-there s (Admit j records vs) failed i u new legal h has l =
    let g = get-change s.inlets j i (admitted records) new h in
    elim g.2 [
      | inl p ↦ record { old = g.0; there = g.1; setup = ap (λ (x : InletRecords). x.setup) (sym p.1); stored = ap (λ (x : InletRecords). x.stored) (sym p.1); quiet = refl }
      | inr p ↦ record { old = g.0; there = g.1; setup = ap (λ (x : InletRecords). x.setup) (sym p.1); stored = ap (λ (x : InletRecords). x.stored) (sym p.1); quiet = refl }
    ]
was-there s (Settle d n) failed i u new legal h has l = record { old = new; there = h; setup = refl; stored = refl; quiet = refl }
was-there s (Refill d n) failed i u new legal h has l = record { old = new; there = h; setup = refl; stored = refl; quiet = refl }
was-there s (Store j w) failed i u new legal h has l =
    let parts = both-true (passes_at s.inlets j (may_store s j w)) (is_nil failed) legal in
    let r = never s j i u failed (stored_at w) (may_store s j w) new (λ x. refl) (λ x p. store-works s j w x p) parts.0 parts.1 h has l in
    let miss : (j == i) ≡ false = grind (arith, r.3) in
    record { old = r.0; there = r.1; setup = ap (λ (x : InletRecords). x.setup) (sym r.2); stored = ap (λ (x : InletRecords). x.stored) (sym r.2); quiet = rw miss refl }
was-there s (Rewind j) failed i u new legal h has l =
    let parts = both-true (passes_at s.inlets j (may_rewind s.failed)) (is_nil failed) legal in
    let r = never s j i u failed rewound (may_rewind s.failed) new (λ x. refl) (λ x p. rewind-works s.failed x p) parts.0 parts.1 h has l in
    let miss : (j == i) ≡ false = grind (arith, r.3) in
    record { old = r.0; there = r.1; setup = ap (λ (x : InletRecords). x.setup) (sym r.2); stored = ap (λ (x : InletRecords). x.stored) (sym r.2); quiet = rw miss refl }
was-there s Look failed i u new legal h has l = record { old = new; there = h; setup = refl; stored = refl; quiet = refl }

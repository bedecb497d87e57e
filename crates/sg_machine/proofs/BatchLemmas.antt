-- A store fails within an Admit at the first offer that it would spool, and what would be spooled is spooled where it works.
use Rattle.std.proofs.Common.{◌≡◌, ℕ, List, [], ◌∷◌, ◌++◌, Some, None, Option, Bool, true, false, ◌&&◌, ◌||◌, refl, sym, ap, ◌∙◌, arith, slice_get, subst, inl, inr, if◌then◌else◌}
use Rattle.std.specs.Prelude.{◌==◌}
use Rattle.std.specs.Option.{option_map_or}
use Rattle.std.proofs.lemmas.Bool.{cases_eq}
use Rattle.sg_msg.specs.declared.offer.Offer.{Offer}
use Rattle.sg_list.specs.Lists.{passes_at}
use Rattle.sg_list.proofs.ListLemmas.{get-change-same, get-change-other, some-same}
use Rattle.sg_machine.specs.declared.event.Admission.{Admission}
use Rattle.sg_machine.specs.declared.event.Verdict.{Verdict}
use Rattle.sg_machine.specs.declared.event.Verdict.TheVariants.{Queued, Spooled, Waits, DroppedFull, DroppedDisk}
use Rattle.sg_machine.specs.declared.event.Act.TheVariants.{Admit}
use Rattle.sg_machine.specs.declared.setup.BufferSetup.{BufferSetup}
use Rattle.sg_machine.specs.declared.setup.DestSetup.{DestSetup}
use Rattle.sg_machine.specs.declared.state.Dest.{Dest}
use Rattle.sg_machine.specs.declared.state.DestEntry.{DestEntry}
use Rattle.sg_machine.specs.declared.state.Origin.{Origin}
use Rattle.sg_machine.specs.declared.state.State.{State}
use Rattle.sg_machine.specs.Verdicts.{Claim, claims_of, origin_of, is_listed, same_verdict, queue_verdict, disk_verdict, judged_by, judged_at, judged, take_offer, take_claim}
use Rattle.sg_machine.specs.Legal.{is_same_list, may_admit, is_legal_act}
use Rattle.sg_machine.specs.Effects.{next_of}
use Rattle.sg_machine.specs.Runs.{BufferedEntry}
use Rattle.sg_machine.specs.Safe.{kept_from, spooled_offers, would_spool, appends, tried_by}
use Rattle.sg_machine.proofs.RunLemmas.{both-true}
use Rattle.sg_machine.proofs.FlowLemmas.{mapped-some, then-some}

offer-setup : (origin : Origin) (o : Offer) (v : Verdict) (dest : Dest) → (take_offer origin o v dest).setup ≡ dest.setup
offer-setup origin o Queued dest = refl
offer-setup origin o Spooled dest = refl
offer-setup origin o Waits dest = refl
offer-setup origin o DroppedFull dest = refl
offer-setup origin o DroppedDisk dest = refl

offer-buffer : (origin : Origin) (o : Offer) (v : Verdict) (dest : Dest) (b : Option BufferSetup) → dest.setup.buffer ≡ b → (take_offer origin o v dest).setup.buffer ≡ b
offer-buffer origin o v dest b h = ap (λ (s : DestSetup). s.buffer) (offer-setup origin o v dest) ∙ h

broken-if : (flow : Bool) → same_verdict Spooled (if flow then Waits else DroppedDisk) ≡ false
broken-if true = refl
broken-if false = refl

none-when : (p : Bool) (y z : List ℕ) → (if true && p then (if false then Some y else None) else (if p then Some z else None)) ≡ None
none-when true y z = refl
none-when false y z = refl

pub none-is : (x : List ℕ) → None ≡ Some x → ⊥
none-is x h = cc

-- a store that fails within the event spools nothing in it
failing-spools : (b : BufferSetup) (fifo : ℕ) (left : List DestEntry) (failing failed : List ℕ) (o : Offer) (v : Verdict) (x : List ℕ) → is_listed b.store failing ≡ true → judged_by (Some b) fifo left failing failed o v ≡ Some x
    → same_verdict Spooled v ≡ false
failing-spools b fifo left failing failed o Queued x l j = refl
failing-spools b fifo left failing failed o Spooled x l j =
    let never : same_verdict Spooled (disk_verdict b left true o) ≡ false = broken-if o.flow in
    let none : judged_by (Some b) fifo left failing failed o Spooled ≡ None = rw (l, never) (none-when (same_verdict Spooled (disk_verdict b left (is_listed b.store failed) o)) (failed ++ b.store ∷ []) failed) in
    absurd (none-is x (sym none ∙ j))
failing-spools b fifo left failing failed o Waits x l j = refl
failing-spools b fifo left failing failed o DroppedFull x l j = refl
failing-spools b fifo left failing failed o DroppedDisk x l j = refl

judged-here : (ds : List Dest) (k d : ℕ) (dest : Dest) (b : BufferSetup) (failing failed : List ℕ) (o : Offer) (v : Verdict) (x : List ℕ) → k ≡ d → slice_get ds d ≡ Some dest → dest.setup.buffer ≡ Some b
    → judged_at (slice_get ds k) failing failed o v ≡ Some x → judged_by (Some b) dest.setup.fifo dest.left failing failed o v ≡ Some x
judged-here ds k d dest b failing failed o v x e h q j =
    let P : Option Dest → Type 0 = λ y. judged_at y failing failed o v ≡ Some x in
    let at : slice_get ds k ≡ Some dest = rw e h in
    let Q : Option BufferSetup → Type 0 = λ y. judged_by y dest.setup.fifo dest.left failing failed o v ≡ Some x in
    subst Q q (subst P at j)

skip-if : (p q : Bool) (k : BufferedEntry) (ks : List BufferedEntry) → (p && q) ≡ false → (if p && q then k ∷ ks else ks) ≡ ks
skip-if p q k ks h = rw h refl

and-right : (p q : Bool) → q ≡ false → (p && q) ≡ false
and-right true q h = h
and-right false q h = refl

and-left : (p q : Bool) → p ≡ false → (p && q) ≡ false
and-left p q h = rw h refl

none-spooled : (i next : ℕ) (failing : List ℕ) (ds : List Dest) (failed : List ℕ) (cs : List Claim) (vs : List Verdict) (x : List ℕ) (d : ℕ) (dest : Dest) (b : BufferSetup)
    → judged i next failing ds failed cs vs ≡ Some x → slice_get ds d ≡ Some dest → dest.setup.buffer ≡ Some b → is_listed b.store failing ≡ true → spooled_offers d i cs vs ≡ []
none-spooled i next failing ds failed [] vs x d dest b j h q l = refl
none-spooled i next failing ds failed (c ∷ cs) [] x d dest b j h q l = refl
none-spooled i next failing ds failed (c ∷ cs) (v ∷ vs) x d dest b j h q l =
    let o = c.offer in
    let f = take_offer (origin_of i next c) o v in
    let parts = then-some (judged_at (slice_get ds o.dest) failing failed o v) (λ y. judged i next failing (take_claim i next ds c v) y cs vs) x j in
    elim (cases_eq o.dest d) [
      | inl e ↦ (
          let not_now = failing-spools b dest.setup.fifo dest.left failing failed o v parts.0 l (judged-here ds o.dest d dest b failing failed o v parts.0 e h q parts.1) in
          let here : slice_get (take_claim i next ds c v) d ≡ Some (f dest) = rw e (get-change-same ds d f dest h) in
          skip-if (o.dest == d) (same_verdict Spooled v) (kept_from i c) (spooled_offers d i cs vs) (and-right (o.dest == d) (same_verdict Spooled v) not_now)
          ∙ none-spooled i next failing (take_claim i next ds c v) parts.0 cs vs x d (f dest) b parts.2 here (offer-buffer (origin_of i next c) o v dest (Some b) q) l)
      | inr ne ↦ (
          let miss : (o.dest == d) ≡ false = grind arith in
          let there : slice_get (take_claim i next ds c v) d ≡ Some dest = get-change-other ds o.dest d f (λ e. ne (sym e)) ∙ h in
          skip-if (o.dest == d) (same_verdict Spooled v) (kept_from i c) (spooled_offers d i cs vs) (and-left (o.dest == d) (same_verdict Spooled v) miss)
          ∙ none-spooled i next failing (take_claim i next ds c v) parts.0 cs vs x d dest b parts.2 there q l)
    ]

pub failing-appends : (s : State) (i : ℕ) (records : List Admission) (vs : List Verdict) (failed : List ℕ) (d : ℕ) (dest : Dest) (b : BufferSetup) → is_legal_act s (Admit i records vs) failed ≡ true → slice_get s.dests d ≡ Some dest
    → dest.setup.buffer ≡ Some b → is_listed b.store failed ≡ true → appends (Admit i records vs) d dest ≡ []
failing-appends s i records vs failed d dest b l h q f =
    let j = judged i (next_of s i) failed s.dests s.failed (claims_of records) vs in
    let right = (both-true (passes_at s.inlets i (may_admit s i records)) (option_map_or (is_same_list (s.failed ++ failed)) j false) l).1 in
    let x = mapped-some j (is_same_list (s.failed ++ failed)) right in
    none-spooled i (next_of s i) failed s.dests s.failed (claims_of records) vs x.0 d dest b x.1 h q f

-- where the store works

pub same-is : (v w : Verdict) → same_verdict v w ≡ true → v ≡ w
same-is Queued Queued h = refl
same-is Queued Spooled h = let wrong : false ≡ true = h in cc
same-is Queued Waits h = let wrong : false ≡ true = h in cc
same-is Queued DroppedFull h = let wrong : false ≡ true = h in cc
same-is Queued DroppedDisk h = let wrong : false ≡ true = h in cc
same-is Spooled Queued h = let wrong : false ≡ true = h in cc
same-is Spooled Spooled h = refl
same-is Spooled Waits h = let wrong : false ≡ true = h in cc
same-is Spooled DroppedFull h = let wrong : false ≡ true = h in cc
same-is Spooled DroppedDisk h = let wrong : false ≡ true = h in cc
same-is Waits Queued h = let wrong : false ≡ true = h in cc
same-is Waits Spooled h = let wrong : false ≡ true = h in cc
same-is Waits Waits h = refl
same-is Waits DroppedFull h = let wrong : false ≡ true = h in cc
same-is Waits DroppedDisk h = let wrong : false ≡ true = h in cc
same-is DroppedFull Queued h = let wrong : false ≡ true = h in cc
same-is DroppedFull Spooled h = let wrong : false ≡ true = h in cc
same-is DroppedFull Waits h = let wrong : false ≡ true = h in cc
same-is DroppedFull DroppedFull h = refl
same-is DroppedFull DroppedDisk h = let wrong : false ≡ true = h in cc
same-is DroppedDisk Queued h = let wrong : false ≡ true = h in cc
same-is DroppedDisk Spooled h = let wrong : false ≡ true = h in cc
same-is DroppedDisk Waits h = let wrong : false ≡ true = h in cc
same-is DroppedDisk DroppedFull h = let wrong : false ≡ true = h in cc
same-is DroppedDisk DroppedDisk h = refl

-- what a judgement leaves failed
kept-if : (p : Bool) (ys x : List ℕ) → (if p then Some ys else None) ≡ Some x → (p ≡ true) × (Some ys ≡ Some x)
kept-if true ys x h = (refl, h)
kept-if false ys x h = absurd (none-is x h)

list-same : (xs ys : List ℕ) → Some xs ≡ Some ys → xs ≡ ys
list-same xs ys h = some-same xs ys h

or-false : (p q : Bool) → (p || q) ≡ false → (p ≡ false) × (q ≡ false)
or-false true q h = let wrong : true ≡ false = h in cc
or-false false q h = (refl, h)

listed-push : (n m : ℕ) (xs : List ℕ) → is_listed n xs ≡ false → (m == n) ≡ false → is_listed n (xs ++ m ∷ []) ≡ false
listed-push n m [] h k = rw k refl
listed-push n m (x ∷ xs) h k = let p = or-false (x == n) (is_listed n xs) h in rw (p.0, listed-push n m xs p.1 k) refl

true-is-not : true ≡ false → ⊥
true-is-not h = cc

other-store : (n m : ℕ) (failing : List ℕ) → is_listed m failing ≡ true → is_listed n failing ≡ false → (m == n) ≡ false
other-store n m failing l k =
    elim (cases_eq m n) [
      | inl e ↦ (let P : ℕ → Type 0 = λ y. is_listed y failing ≡ true in absurd (true-is-not (sym (subst P e l) ∙ k)))
      | inr ne ↦ grind arith
    ]

failed-if : (n m : ℕ) (failing failed x : List ℕ) (listed p q r : Bool) → is_listed m failing ≡ listed → is_listed n failing ≡ false → is_listed n failed ≡ false
    → (if listed && p then (if q then Some (failed ++ m ∷ []) else None) else (if r then Some failed else None)) ≡ Some x → is_listed n x ≡ false
failed-if n m failing failed x true true q r l k f j =
    let P : List ℕ → Type 0 = λ y. is_listed n y ≡ false in
    subst P (list-same (failed ++ m ∷ []) x (kept-if q (failed ++ m ∷ []) x j).1) (listed-push n m failed f (other-store n m failing l k))
failed-if n m failing failed x true false q r l k f j = let P : List ℕ → Type 0 = λ y. is_listed n y ≡ false in subst P (list-same failed x (kept-if r failed x j).1) f
failed-if n m failing failed x false p q r l k f j = let P : List ℕ → Type 0 = λ y. is_listed n y ≡ false in subst P (list-same failed x (kept-if r failed x j).1) f

works-on : (n : ℕ) (buffer : Option BufferSetup) (fifo : ℕ) (left : List DestEntry) (failing failed : List ℕ) (o : Offer) (v : Verdict) (x : List ℕ) → is_listed n failing ≡ false → is_listed n failed ≡ false
    → judged_by buffer fifo left failing failed o v ≡ Some x → is_listed n x ≡ false
works-on n None fifo left failing failed o v x k f j = let P : List ℕ → Type 0 = λ y. is_listed n y ≡ false in subst P (list-same failed x (kept-if (same_verdict v (queue_verdict fifo left o)) failed x j).1) f
works-on n (Some b) fifo left failing failed o v x k f j =
    failed-if n b.store failing failed x (is_listed b.store failing) (same_verdict Spooled (disk_verdict b left (is_listed b.store failed) o)) (same_verdict v (disk_verdict b left true o)) (same_verdict v (disk_verdict b left (is_listed b.store failed) o)) refl k f j

works-at : (n : ℕ) (dest : Option Dest) (failing failed : List ℕ) (o : Offer) (v : Verdict) (x : List ℕ) → is_listed n failing ≡ false → is_listed n failed ≡ false → judged_at dest failing failed o v ≡ Some x → is_listed n x ≡ false
works-at n None failing failed o v x k f j = absurd (none-is x j)
works-at n (Some dest) failing failed o v x k f j = works-on n dest.setup.buffer dest.setup.fifo dest.left failing failed o v x k f j

working-verdict : (b : BufferSetup) (fifo : ℕ) (left : List DestEntry) (failing failed : List ℕ) (o : Offer) (v : Verdict) (x : List ℕ) → is_listed b.store failing ≡ false → is_listed b.store failed ≡ false
    → judged_by (Some b) fifo left failing failed o v ≡ Some x → v ≡ disk_verdict b left false o
working-verdict b fifo left failing failed o v x k f j =
    let w = disk_verdict b left false o in
    let plain : judged_by (Some b) fifo left failing failed o v ≡ (if same_verdict v w then Some failed else None) = rw (k, f) refl in
    same-is v w (kept-if (same_verdict v w) failed x (sym plain ∙ j)).0

spool-if : (p q : Bool) (k : BufferedEntry) (ks ls : List BufferedEntry) → p ≡ true → ks ≡ ls → (if p && q then k ∷ ks else ks) ≡ (if q then k ∷ ls else ls)
spool-if p q k ks ls h e = rw (h, e) refl

would-here : (d i next : ℕ) (b : BufferSetup) (dest : Dest) (c : Claim) (cs : List Claim) (v : Verdict) → (c.offer.dest == d) ≡ true → v ≡ disk_verdict b dest.left false c.offer
    → (if same_verdict Spooled v then kept_from i c ∷ would_spool d i next b (take_offer (origin_of i next c) c.offer v dest) cs else would_spool d i next b (take_offer (origin_of i next c) c.offer v dest) cs) ≡ would_spool d i next b dest (c ∷ cs)
would-here d i next b dest c cs v h e = rw (h, e) refl

would-there : (d i next : ℕ) (b : BufferSetup) (dest : Dest) (c : Claim) (cs : List Claim) → (c.offer.dest == d) ≡ false → would_spool d i next b dest cs ≡ would_spool d i next b dest (c ∷ cs)
would-there d i next b dest c cs h = rw h refl

spooled-would : (i next : ℕ) (failing : List ℕ) (ds : List Dest) (failed : List ℕ) (cs : List Claim) (vs : List Verdict) (x : List ℕ) (d : ℕ) (dest : Dest) (b : BufferSetup)
    → judged i next failing ds failed cs vs ≡ Some x → slice_get ds d ≡ Some dest → dest.setup.buffer ≡ Some b → is_listed b.store failing ≡ false → is_listed b.store failed ≡ false → spooled_offers d i cs vs ≡ would_spool d i next b dest cs
spooled-would i next failing ds failed [] vs x d dest b j h q k f = refl
spooled-would i next failing ds failed (c ∷ cs) [] x d dest b j h q k f = absurd (none-is x j)
spooled-would i next failing ds failed (c ∷ cs) (v ∷ vs) x d dest b j h q k f =
    let o = c.offer in
    let g = take_offer (origin_of i next c) o v in
    let parts = then-some (judged_at (slice_get ds o.dest) failing failed o v) (λ y. judged i next failing (take_claim i next ds c v) y cs vs) x j in
    let on = works-at b.store (slice_get ds o.dest) failing failed o v parts.0 k f parts.1 in
    elim (cases_eq o.dest d) [
      | inl e ↦ (
          let hit : (o.dest == d) ≡ true = grind arith in
          let is = working-verdict b dest.setup.fifo dest.left failing failed o v parts.0 k f (judged-here ds o.dest d dest b failing failed o v parts.0 e h q parts.1) in
          let here : slice_get (take_claim i next ds c v) d ≡ Some (g dest) = rw e (get-change-same ds d g dest h) in
          let rest = spooled-would i next failing (take_claim i next ds c v) parts.0 cs vs x d (g dest) b parts.2 here (offer-buffer (origin_of i next c) o v dest (Some b) q) k on in
          spool-if (o.dest == d) (same_verdict Spooled v) (kept_from i c) (spooled_offers d i cs vs) (would_spool d i next b (g dest) cs) hit rest ∙ would-here d i next b dest c cs v hit is)
      | inr ne ↦ (
          let miss : (o.dest == d) ≡ false = grind arith in
          let there : slice_get (take_claim i next ds c v) d ≡ Some dest = get-change-other ds o.dest d g (λ e. ne (sym e)) ∙ h in
          skip-if (o.dest == d) (same_verdict Spooled v) (kept_from i c) (spooled_offers d i cs vs) (and-left (o.dest == d) (same_verdict Spooled v) miss)
          ∙ spooled-would i next failing (take_claim i next ds c v) parts.0 cs vs x d dest b parts.2 there q k on
          ∙ would-there d i next b dest c cs miss)
    ]

pub working-appends : (s : State) (i : ℕ) (records : List Admission) (vs : List Verdict) (failed : List ℕ) (d : ℕ) (dest : Dest) (b : BufferSetup) → is_legal_act s (Admit i records vs) failed ≡ true → slice_get s.dests d ≡ Some dest
    → dest.setup.buffer ≡ Some b → is_listed b.store failed ≡ false → is_listed b.store s.failed ≡ false → appends (Admit i records vs) d dest ≡ tried_by s (Admit i records vs) d dest
working-appends s i records vs failed d dest b l h q k f =
    let j = judged i (next_of s i) failed s.dests s.failed (claims_of records) vs in
    let right = (both-true (passes_at s.inlets i (may_admit s i records)) (option_map_or (is_same_list (s.failed ++ failed)) j false) l).1 in
    let x = mapped-some j (is_same_list (s.failed ++ failed)) right in
    let P : Option BufferSetup → Type 0 = λ y. spooled_offers d i (claims_of records) vs ≡ option_map_or (λ buffer. would_spool d i (next_of s i) buffer dest (claims_of records)) y [] in
    subst P (sym q) (spooled-would i (next_of s i) failed s.dests s.failed (claims_of records) vs x.0 d dest b x.1 h q k f)

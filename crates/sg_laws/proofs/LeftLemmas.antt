-- What of a destination's entries a stop leaves: those that are left and that a position has passed, or that an earlier run left, stand in its image.
use Rattle.std.proofs.Common.{◌≡◌, ℕ, suc, zero, ◌+◌, ◌≤◌, List, [], ◌∷◌, ◌++◌, map, take, drop, Some, None, Option, Bool, true, false, ◌&&◌, refl, sym, ap, ◌∙◌, subst, arith, inl, inr, ◌⊎◌, if◌then◌else◌, slice_get}
use Rattle.std.specs.Prelude.{Contains, ◌==◌, nat_le, filter, is_some}
use Rattle.std.proofs.lemmas.List.{drop-append-le}
use Rattle.std.proofs.lemmas.List.Elements.{Contains-append_left, Contains-append_right, Contains-append_cases}
use Rattle.sg_list.specs.Lists.{change}
use Rattle.sg_list.proofs.ListLemmas.{some-same}
use Rattle.sg_msg.specs.declared.offer.Offer.{Offer}
use Rattle.sg_machine.specs.declared.event.Act.{Act}
use Rattle.sg_machine.specs.declared.event.Act.TheVariants.{Admit, Settle, Refill, Store, Rewind, Look}
use Rattle.sg_machine.specs.declared.event.Event.{Event}
use Rattle.sg_machine.specs.declared.event.Verdict.{Verdict}
use Rattle.sg_machine.specs.declared.event.Verdict.TheVariants.{Queued, Spooled, Waits, DroppedFull, DroppedDisk}
use Rattle.sg_machine.specs.declared.setup.BufferSetup.{BufferSetup}
use Rattle.sg_machine.specs.declared.state.Dest.{Dest}
use Rattle.sg_machine.specs.declared.state.DestEntry.{DestEntry}
use Rattle.sg_machine.specs.declared.state.Origin.{Origin}
use Rattle.sg_machine.specs.declared.state.State.{State}
use Rattle.sg_machine.specs.Verdicts.{Claim, claims_of, origin_of, entry_from, take_offer, take_claim, take_claims}
use Rattle.sg_machine.specs.Legal.{store_of}
use Rattle.sg_machine.specs.Effects.{next_of, settled_some, spool_first, spool_some, refilled_some, after, after_act}
use Rattle.sg_machine.specs.Runs.{BufferedEntry, after_all}
use Rattle.sg_machine.specs.Counts.{as_kept, is_spooled, kept_of}
use Rattle.sg_machine.specs.Safe.{has_failed, spooled_of, appends, settled_by, left_by, IsSafeList, is_below, AreEntriesHeld, held_in}
use Rattle.sg_laws.specs.Covered.{Delivery}
use Rattle.sg_laws.specs.Passes.{taken_at}
use Rattle.sg_laws.proofs.HasLemmas.{has-nil, has-cons, has-map, has-mapped, has-filter, has-drop}
use Rattle.sg_machine.proofs.HeldLemmas.{split-by, spooled-append}

-- Entries that an earlier run left are spooled, and there is a disk-buffer.

abbrev pub IsEarlier : Option BufferSetup → DestEntry → Type 0
IsEarlier buffer e = e.number ≡ None → (e.spooled ≡ true) × (is_some buffer ≡ true)

abbrev pub AllEarlier : Option BufferSetup → List DestEntry → Type 0
AllEarlier buffer [] = Unit {0}
AllEarlier buffer (e ∷ es) = IsEarlier buffer e × AllEarlier buffer es

abbrev pub DestsEarlier : List Dest → Type 0
DestsEarlier [] = Unit {0}
DestsEarlier (d ∷ ds) = AllEarlier d.setup.buffer d.left × DestsEarlier ds

earlier-change : (ds : List Dest) (d : ℕ) (g : Dest → Dest) → ((x : Dest) → AllEarlier x.setup.buffer x.left → AllEarlier (g x).setup.buffer (g x).left) → DestsEarlier ds → DestsEarlier (change ds d g)
earlier-change [] d g keeps f = f
earlier-change (x ∷ ds) zero g keeps f = (keeps x f.0, f.1)
earlier-change (x ∷ ds) (suc d) g keeps f = (f.0, earlier-change ds d g keeps f.1)

earlier-push : (buffer : Option BufferSetup) (es : List DestEntry) (e : DestEntry) → IsEarlier buffer e → AllEarlier buffer es → AllEarlier buffer (es ++ e ∷ [])
earlier-push buffer [] e h f = (h, tt)
earlier-push buffer (x ∷ es) e h f = (f.0, earlier-push buffer es e h f.1)

new-earlier : (buffer : Option BufferSetup) (origin : Origin) (o : Offer) (spooled : Bool) → IsEarlier buffer (entry_from origin o spooled)
new-earlier buffer origin o spooled q = let wrong : Some origin.number ≡ None = q in cc

earlier-offer : (origin : Origin) (o : Offer) (v : Verdict) (x : Dest) → AllEarlier x.setup.buffer x.left → AllEarlier (take_offer origin o v x).setup.buffer (take_offer origin o v x).left
earlier-offer origin o Queued x f = earlier-push x.setup.buffer x.left (entry_from origin o false) (new-earlier x.setup.buffer origin o false) f
earlier-offer origin o Spooled x f = earlier-push x.setup.buffer x.left (entry_from origin o true) (new-earlier x.setup.buffer origin o true) f
earlier-offer origin o Waits x f = earlier-push x.setup.buffer x.left (entry_from origin o false) (new-earlier x.setup.buffer origin o false) f
earlier-offer origin o DroppedFull x f = f
earlier-offer origin o DroppedDisk x f = f

earlier-claims : (i next : ℕ) (ds : List Dest) (cs : List Claim) (vs : List Verdict) → DestsEarlier ds → DestsEarlier (take_claims i next ds cs vs)
earlier-claims i next ds [] vs f = f
earlier-claims i next ds (c ∷ cs) [] f = f
earlier-claims i next ds (c ∷ cs) (v ∷ vs) f = earlier-claims i next (take_claim i next ds c v) cs vs (earlier-change ds c.offer.dest (take_offer (origin_of i next c) c.offer v) (earlier-offer (origin_of i next c) c.offer v) f)

earlier-drop : (buffer : Option BufferSetup) (n : ℕ) (es : List DestEntry) → AllEarlier buffer es → AllEarlier buffer (drop n es)
earlier-drop buffer zero es f = f
earlier-drop buffer (suc n) [] f = f
earlier-drop buffer (suc n) (e ∷ es) f = earlier-drop buffer n es f.1

earlier-spool-if : (buffer : Option BufferSetup) (e : DestEntry) (es rest : List DestEntry) (b : Bool) → IsEarlier buffer e → AllEarlier buffer es → AllEarlier buffer rest → AllEarlier buffer (if b then e ∷ rest else record e { spooled = true } ∷ es)
earlier-spool-if buffer e es rest true h f r = (h, r)
earlier-spool-if buffer e es rest false h f r = (λ q. (refl, (h q).1), f)

earlier-spool : (buffer : Option BufferSetup) (es : List DestEntry) → AllEarlier buffer es → AllEarlier buffer (spool_first es)
earlier-spool buffer [] f = f
earlier-spool buffer (e ∷ es) f = earlier-spool-if buffer e es (spool_first es) e.spooled f.0 f.1 (earlier-spool buffer es f.1)

earlier-spools : (buffer : Option BufferSetup) (n : ℕ) (es : List DestEntry) → AllEarlier buffer es → AllEarlier buffer (spool_some n es)
earlier-spools buffer zero es f = f
earlier-spools buffer (suc n) es f = earlier-spools buffer n (spool_first es) (earlier-spool buffer es f)

earlier-act : (s : State) (act : Act) (failed : List ℕ) → DestsEarlier s.dests → DestsEarlier (after_act s act failed).dests
earlier-act s (Admit i records vs) failed f = earlier-claims i (next_of s i) s.dests (claims_of records) vs f
earlier-act s (Settle d n) failed f = earlier-change s.dests d (settled_some n) (λ x a. earlier-drop x.setup.buffer n x.left a) f
earlier-act s (Refill d n) failed f = earlier-change s.dests d (refilled_some n) (λ x a. earlier-spools x.setup.buffer n x.left a) f
earlier-act s (Store i w) failed f = f
earlier-act s (Rewind i) failed f = f
earlier-act s Look failed f = f

pub earlier-all : (s : State) (es : List Event) → DestsEarlier s.dests → DestsEarlier (after_all s es).dests
earlier-all s [] f = f
earlier-all s (e ∷ es) f = earlier-all (after s e) es (earlier-act s e.act e.failed f)

pub earlier-at : (ds : List Dest) (d : ℕ) (dest : Dest) → slice_get ds d ≡ Some dest → DestsEarlier ds → AllEarlier dest.setup.buffer dest.left
earlier-at [] d dest h f = let wrong : None ≡ Some dest = h in cc
earlier-at (x ∷ ds) zero dest h f = let same = some-same x dest h in let P : Dest → Type 0 = λ y. AllEarlier y.setup.buffer y.left in subst P same f.0
earlier-at (x ∷ ds) (suc d) dest h f = earlier-at ds d dest h f.1

earlier-has : (buffer : Option BufferSetup) (es : List DestEntry) (e : DestEntry) → AllEarlier buffer es → Contains es e → IsEarlier buffer e
earlier-has buffer [] e f c = absurd (has-nil e c)
earlier-has buffer (x ∷ es) e f c =
    elim (has-cons x es e c) [
      | inl q ↦ (let P : DestEntry → Type 0 = λ y. IsEarlier buffer y in subst P q f.0)
      | inr t ↦ earlier-has buffer es e f.1 t
    ]

-- What stands in a safe list.

safe-has : (dest : Dest) (d : ℕ) (act : Act) (failed : List ℕ) (tried list : List BufferedEntry) → IsSafeList dest d act failed tried list → (k : BufferedEntry) → Contains (spooled_of (left_by act d dest)) k → Contains list k
safe-has dest d act failed tried list safe k c =
    let gone = spooled_of (settled_by act d dest) in
    let left = spooled_of (left_by act d dest) in
    let tail = take safe.added (if has_failed failed (store_of dest) then tried else appends act d dest) in
    let split : spooled_of (dest.settled ++ dest.left) ≡ gone ++ left = ap spooled_of (sym (split-by act d dest)) ∙ spooled-append (settled_by act d dest) (left_by act d dest) in
    let whole : list ≡ (drop safe.gone gone ++ left) ++ tail = safe.parts ∙ ap (λ (xs : List BufferedEntry). drop safe.gone xs ++ tail) split ∙ ap (λ (xs : List BufferedEntry). xs ++ tail) (drop-append-le safe.gone gone left safe.settled) in
    let P : List BufferedEntry → Type 0 = λ xs. Contains xs k in
    subst P (sym whole) (Contains-append_left (drop safe.gone gone ++ left) tail k (Contains-append_right (drop safe.gone gone) left k c))

drop-if : (b : Bool) (n : ℕ) (es : List DestEntry) (e : DestEntry) → Contains (if b then drop n es else es) e → Contains es e
drop-if true n es e c = has-drop n es e c
drop-if false n es e c = c

left-by-in : (act : Act) (d : ℕ) (dest : Dest) (e : DestEntry) → Contains (left_by act d dest) e → Contains dest.left e
left-by-in (Admit i records vs) d dest e c = c
left-by-in (Settle x n) d dest e c = drop-if (x == d) n dest.left e c
left-by-in (Refill x n) d dest e c = c
left-by-in (Store i w) d dest e c = c
left-by-in (Rewind i) d dest e c = c
left-by-in Look d dest e c = c

held-has : (i position : ℕ) (es : List DestEntry) (list : List BufferedEntry) (e : DestEntry) → AreEntriesHeld i position es list → Contains es e → is_below i position e ≡ true → Contains list (as_kept e)
held-has i position [] list e h c b = absurd (has-nil e c)
held-has i position (x ∷ es) list e h c b =
    elim (has-cons x es e c) [
      | inl q ↦ (let P : DestEntry → Type 0 = λ y. is_below i position y ≡ true → Contains list (as_kept y) in subst P q h.0 b)
      | inr t ↦ held-has i position es list e h.1 t b
    ]

below-true : (i position inlet end : ℕ) (number : Option ℕ) (n : ℕ) (flow : Bool) → number ≡ Some n → inlet ≡ i → flow ≡ true → end ≤ position → (inlet == i && is_some number && flow && nat_le end position) ≡ true
below-true i position inlet end number n flow q s f l =
    let a : (inlet == i) ≡ true = grind (arith, s) in
    let b : is_some number ≡ true = rw q refl in
    let c : nat_le end position ≡ true = grind (arith, l) in
    rw (a, b, f, c) refl

-- one that is left, by whether it came in in this run
left-held-if : (i position d : ℕ) (act : Act) (dest : Dest) (failed : List ℕ) (tried list : List BufferedEntry) (e : DestEntry) (o : Option ℕ) → e.number ≡ o → AllEarlier dest.setup.buffer dest.left → Contains (left_by act d dest) e
    → AreEntriesHeld i position (left_by act d dest) (held_in list dest) → (is_some dest.setup.buffer ≡ true → IsSafeList dest d act failed tried list) → e.inlet ≡ i → e.flow ≡ true → e.end ≤ position
    → Contains (held_in list dest) (as_kept e)
left-held-if i position d act dest failed tried list e None q early c held safe s f l =
    let was = earlier-has dest.setup.buffer dest.left e early (left-by-in act d dest e c) q in
    let spooled = has-map as_kept (filter is_spooled (left_by act d dest)) e (has-filter is_spooled (left_by act d dest) e was.0 c) in
    let here : held_in list dest ≡ list = (let some = was.1 in rw some refl) in
    let P : List BufferedEntry → Type 0 = λ xs. Contains xs (as_kept e) in
    subst P (sym here) (safe-has dest d act failed tried list (safe was.1) (as_kept e) spooled)
left-held-if i position d act dest failed tried list e (Some n) q early c held safe s f l =
    held-has i position (left_by act d dest) (held_in list dest) e held c (below-true i position e.inlet e.end e.number n e.flow q s f l)

-- What was taken.

taken-first : (act : Act) (d : ℕ) (dest : Dest) (ds : List Dest) (e : DestEntry) → Contains (settled_by act d dest) e → Contains (taken_at act d (dest ∷ ds)) (record { dest = d; message = e.message })
taken-first act d dest ds e c =
    let f : DestEntry → Delivery = λ x. record { dest = d; message = x.message } in
    Contains-append_left (map f (settled_by act d dest)) (taken_at act (d + 1) ds) (f e) (has-map f (settled_by act d dest) e c)

taken-from : (act : Act) (from : ℕ) (ds : List Dest) (k : ℕ) (dest : Dest) (e : DestEntry) → slice_get ds k ≡ Some dest → Contains (settled_by act (from + k) dest) e → Contains (taken_at act from ds) (record { dest = from + k; message = e.message })
taken-from act from [] k dest e h c = let wrong : None ≡ Some dest = h in cc
taken-from act from (x ∷ ds) zero dest e h c =
    let same : x ≡ dest = some-same x dest h in
    let at : from + 0 ≡ from = omega arith in
    let P : Dest → Type 0 = λ y. Contains (settled_by act from y) e → Contains (taken_at act from (y ∷ ds)) (record { dest = from; message = e.message }) in
    let Q : Dest → Type 0 = λ y. Contains (taken_at act from (y ∷ ds)) (record { dest = from; message = e.message }) in
    let R : ℕ → Type 0 = λ n. Contains (taken_at act from (x ∷ ds)) (record { dest = n; message = e.message }) in
    let S : ℕ → Type 0 = λ n. Contains (settled_by act n dest) e in
    let U : Dest → Type 0 = λ y. Contains (settled_by act from y) e in
    subst R (sym at) (taken-first act from x ds e (subst U (sym same) (subst S at c)))
taken-from act from (x ∷ ds) (suc k) dest e h c =
    let at : from + suc k ≡ from + 1 + k = omega arith in
    let S : ℕ → Type 0 = λ n. Contains (settled_by act n dest) e in
    let R : ℕ → Type 0 = λ n. Contains (taken_at act from (x ∷ ds)) (record { dest = n; message = e.message }) in
    let f : DestEntry → Delivery = λ y. record { dest = from; message = y.message } in
    let t : Delivery = record { dest = from + 1 + k; message = e.message } in
    subst R (sym at) (Contains-append_right (map f (settled_by act from x)) (taken_at act (from + 1) ds) t (taken-from act (from + 1) ds k dest e h (subst S at c)))

pub taken-has : (act : Act) (ds : List Dest) (d : ℕ) (dest : Dest) (e : DestEntry) → slice_get ds d ≡ Some dest → Contains (settled_by act d dest) e → Contains (taken_at act 0 ds) (record { dest = d; message = e.message })
taken-has act ds d dest e h c =
    let at : 0 + d ≡ d = omega arith in
    let S : ℕ → Type 0 = λ n. Contains (settled_by act n dest) e in
    let R : ℕ → Type 0 = λ n. Contains (taken_at act 0 ds) (record { dest = n; message = e.message }) in
    subst R at (taken-from act 0 ds d dest e h (subst S (sym at) c))

-- and each is that of a settled entry
pub record WasSettled (act : Act) (from : ℕ) (ds : List Dest) (t : Delivery) : Type 0 where
  pub k : ℕ
  pub dest : Dest
  pub at : slice_get ds k ≡ Some dest
  pub e : DestEntry
  pub settled : Contains (settled_by act (from + k) dest) e
  pub is : t ≡ record { dest = from + k; message = e.message }

pub was-settled : (act : Act) (from : ℕ) (ds : List Dest) (t : Delivery) → Contains (taken_at act from ds) t → WasSettled act from ds t
was-settled act from [] t c = absurd (has-nil t c)
was-settled act from (x ∷ ds) t c =
    let f : DestEntry → Delivery = λ y. record { dest = from; message = y.message } in
    elim (Contains-append_cases (map f (settled_by act from x)) (taken_at act (from + 1) ds) t c) [
      | inl a ↦ (
          let m = has-mapped f (settled_by act from x) t a in
          let at : from ≡ from + 0 = omega arith in
          let S : ℕ → Type 0 = λ n. Contains (settled_by act n x) m.0 in
          record {
            k = 0;
            dest = x;
            at = refl;
            e = m.0;
            settled = subst S at m.1.0;
            is = sym m.1.1 ∙ ap (λ (n : ℕ). let y : Delivery = record { dest = n; message = m.0.message } in y) at;
          })
      | inr b ↦ (
          let r = was-settled act (from + 1) ds t b in
          let at : from + 1 + r.k ≡ from + suc r.k = omega arith in
          let S : ℕ → Type 0 = λ n. Contains (settled_by act n r.dest) r.e in
          record {
            k = suc r.k;
            dest = r.dest;
            at = r.at;
            e = r.e;
            settled = subst S at r.settled;
            is = r.is ∙ ap (λ (n : ℕ). let y : Delivery = record { dest = n; message = r.e.message } in y) at;
          })
    ]

-- A kept entry with flow-control of a record that the position has passed was taken, or stands in the image.
pub kept-safe : (i position : ℕ) (act : Act) (ds : List Dest) (d : ℕ) (dest : Dest) (failed : List ℕ) (tried list : List BufferedEntry) (k : BufferedEntry) → slice_get ds d ≡ Some dest → DestsEarlier ds → Contains (kept_of dest) k
    → AreEntriesHeld i position (left_by act d dest) (held_in list dest) → (is_some dest.setup.buffer ≡ true → IsSafeList dest d act failed tried list) → k.inlet ≡ i → k.flow ≡ true → k.end ≤ position
    → Contains (taken_at act 0 ds) (record { dest = d; message = k.message }) ⊎ Contains (held_in list dest) k
kept-safe i position act ds d dest failed tried list k at early c held safe s f l =
    let P : List DestEntry → Type 0 = λ es. Contains (map as_kept es) k in
    let m = has-mapped as_kept (settled_by act d dest ++ left_by act d dest) k (subst P (sym (split-by act d dest)) c) in
    let e = m.0 in
    let same : as_kept e ≡ k = m.1.1 in
    elim (Contains-append_cases (settled_by act d dest) (left_by act d dest) e m.1.0) [
      | inl a ↦ (
          let Q : BufferedEntry → Type 0 = λ x. Contains (taken_at act 0 ds) (record { dest = d; message = x.message }) in
          inl (subst Q same (taken-has act ds d dest e at a)))
      | inr b ↦ (
          let Q : BufferedEntry → Type 0 = λ x. Contains (held_in list dest) x in
          let inlet : e.inlet ≡ i = ap (λ (x : BufferedEntry). x.inlet) same ∙ s in
          let flow : e.flow ≡ true = ap (λ (x : BufferedEntry). x.flow) same ∙ f in
          let R : BufferedEntry → Type 0 = λ x. x.end ≤ position in
          let end : e.end ≤ position = subst R (sym same) l in
          inr (subst Q same (left-held-if i position d act dest failed tried list e e.number refl (earlier-at ds d dest at early) b held safe inlet flow end)))
    ]

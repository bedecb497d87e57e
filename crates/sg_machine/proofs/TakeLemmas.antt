-- Offers that are judged and taken, in the state and in what `replay` keeps of it.
use Rattle.std.proofs.Common.{◌≡◌, ℕ, ◌+◌, List, [], ◌∷◌, ◌++◌, length, map, Some, None, Option, Bool, true, false, not, ◌&&◌, ◌||◌, refl, sym, ap, ◌∙◌, arith, suc, zero, slice_get, count_by, if◌then◌else◌, append_assoc, inl, inr, ◌⊎◌}
use Rattle.std.specs.Prelude.{◌==◌, nat_lt, option_and_then}
use Rattle.std.proofs.lemmas.List.{map_push}
use Rattle.std.proofs.lemmas.List.Sums.{sum_by-append}
use Rattle.sg_list.specs.Lists.{change}
use Rattle.sg_msg.specs.declared.offer.Offer.{Offer}
use Rattle.sg_msg.specs.Length.{encoded_len}
use Rattle.sg_machine.specs.declared.event.Verdict.{Verdict}
use Rattle.sg_machine.specs.declared.event.Verdict.TheVariants.{Queued, Spooled, Waits, DroppedFull, DroppedDisk}
use Rattle.sg_machine.specs.declared.setup.BufferSetup.{BufferSetup}
use Rattle.sg_machine.specs.declared.state.Origin.{Origin}
use Rattle.sg_machine.specs.declared.state.DestEntry.{DestEntry}
use Rattle.sg_machine.specs.declared.state.Dest.{Dest}
use Rattle.sg_machine.specs.Entries.{used, unflowed, fits, any_waits}
use Rattle.sg_machine.specs.Marks.{is_owed_to}
use Rattle.sg_machine.specs.Verdicts.{Claim, claims_in, is_listed, same_verdict, disk_verdict, judged_by, judged_at, judged, entry_from, take_offer, take_claim, take_claims}
use Rattle.sg_machine.specs.Running.{slip_of, spooled_in, dest_run, all_wait, is_split, are_split, owed}
use Rattle.sg_machine.specs.Turns.{disk_turn, judged_turn, judged_run, offered_run, offered_runs, judged_runs, owes_by, owing}
use Rattle.sg_machine.proofs.RunLemmas.{both-true}
use Rattle.sg_machine.proofs.OwedLemmas.{one_if}
use Rattle.sg_machine.proofs.SplitLemmas.{same-dest, waits-same}
use Rattle.sg_machine.proofs.MoveLemmas.{map-change-at, split-at, split-change}

-- One more entry.

unflowed-push : (es : List DestEntry) (e : DestEntry) → unflowed (es ++ e ∷ []) ≡ unflowed es + one_if (not e.flow)
unflowed-push es e = sum_by-append (λ x. if not x.flow then 1 else 0) es (e ∷ []) ∙ grind arith

flow-more : (n m : ℕ) (b : Bool) → m ≡ n + one_if (not b) → m ≡ (if b then n else n + 1)
flow-more n m true h = h ∙ omega arith
flow-more n m false h = h

used-waits : (es : List DestEntry) (e : DestEntry) → e.spooled ≡ false → used (es ++ e ∷ []) ≡ used es
used-waits [] e h = rw h refl
used-waits (x ∷ es) e h = ap (λ n. (if x.spooled then 5 + encoded_len x.message else 0) + n) (used-waits es e h)

used-spooled : (es : List DestEntry) (e : DestEntry) → e.spooled ≡ true → used (es ++ e ∷ []) ≡ used es + (5 + encoded_len e.message)
used-spooled [] e h = rw h (omega arith)
used-spooled (x ∷ es) e h = let rest = used-spooled es e h in omega arith

spooled-push-if : (b : Bool) (n m : ℕ) → n ≡ m → (if b then suc n else n) ≡ (if b then suc m else m)
spooled-push-if b n m h = rw h refl

spooled-waits : (es : List DestEntry) (e : DestEntry) → e.spooled ≡ false → spooled_in (es ++ e ∷ []) ≡ spooled_in es
spooled-waits [] e h = rw h refl
spooled-waits (x ∷ es) e h = spooled-push-if x.spooled (spooled_in (es ++ e ∷ [])) (spooled_in es) (spooled-waits es e h)

spooled-more-if : (b : Bool) (n m : ℕ) → n ≡ m + 1 → (if b then suc n else n) ≡ (if b then suc m else m) + 1
spooled-more-if true n m h = omega arith
spooled-more-if false n m h = h

spooled-more : (es : List DestEntry) (e : DestEntry) → e.spooled ≡ true → spooled_in (es ++ e ∷ []) ≡ spooled_in es + 1
spooled-more [] e h = rw h refl
spooled-more (x ∷ es) e h = spooled-more-if x.spooled (spooled_in (es ++ e ∷ [])) (spooled_in es) (spooled-more es e h)

kept-push : (settled left : List DestEntry) (e : DestEntry) → map slip_of (settled ++ (left ++ e ∷ [])) ≡ map slip_of (settled ++ left) ++ slip_of e ∷ []
kept-push settled left e = ap (map slip_of) (sym (append_assoc settled left (e ∷ []))) ∙ map_push slip_of (settled ++ left) e

keeps-waiting : (i number end : ℕ) (o : Offer) (d : Dest) (v : Verdict) → offered_run i number o v (dest_run d) ≡ offered_run i number o Queued (dest_run d)
    → dest_run (record d { left = d.left ++ entry_from (record { inlet = i; number = number; end = end }) o false ∷ [] }) ≡ offered_run i number o v (dest_run d)
keeps-waiting i number end o d v same =
    let e = entry_from (record { inlet = i; number = number; end = end }) o false in
    let n = length d.settled in
    let moved : n + spooled_in (d.left ++ e ∷ []) ≡ n + spooled_in d.left = ap (λ k. n + k) (spooled-waits d.left e refl) in
    same-dest _ _ refl (kept-push d.settled d.left e) refl moved (flow-more (unflowed d.left) _ o.flow (unflowed-push d.left e)) (used-waits d.left e refl) refl refl ∙ sym same

keeps-spooled : (i number end : ℕ) (o : Offer) (d : Dest)
    → dest_run (record d { left = d.left ++ entry_from (record { inlet = i; number = number; end = end }) o true ∷ [] }) ≡ offered_run i number o Spooled (dest_run d)
keeps-spooled i number end o d =
    let e = entry_from (record { inlet = i; number = number; end = end }) o true in
    let n = length d.settled in
    let moved : n + spooled_in (d.left ++ e ∷ []) ≡ n + spooled_in d.left + 1 = (let m = spooled-more d.left e refl in omega arith) in
    same-dest _ _ refl (kept-push d.settled d.left e) refl moved (flow-more (unflowed d.left) _ o.flow (unflowed-push d.left e)) (used-spooled d.left e refl) refl refl

pub takes-same : (i number end : ℕ) (o : Offer) (v : Verdict) (d : Dest) → dest_run (take_offer (record { inlet = i; number = number; end = end }) o v d) ≡ offered_run i number o v (dest_run d)
takes-same i number end o Queued d = keeps-waiting i number end o d Queued refl
takes-same i number end o Spooled d = keeps-spooled i number end o d
takes-same i number end o Waits d = keeps-waiting i number end o d Waits refl
takes-same i number end o DroppedFull d = refl
takes-same i number end o DroppedDisk d = refl

-- One verdict.

disk-same : (b : BufferSetup) (d : Dest) (broken : Bool) (o : Offer) → is_split d.left ≡ true → disk_turn b (dest_run d) broken o ≡ disk_verdict b d.left broken o
disk-same b d broken o split = rw (waits-same d split) refl

judged-by-same : (buffer : Option BufferSetup) (d : Dest) (failing failed : List ℕ) (o : Offer) (v : Verdict) → is_split d.left ≡ true
    → judged_turn buffer (dest_run d) failing failed o v ≡ judged_by buffer d.setup.fifo d.left failing failed o v
judged-by-same None d failing failed o v split = refl
judged-by-same (Some b) d failing failed o v split =
    rw (disk-same b d (is_listed b.store failed) o split, disk-same b d true o split) refl

pub judged-at-same : (ds : List Dest) (k : ℕ) (failing failed : List ℕ) (o : Offer) (v : Verdict) → are_split ds ≡ true
    → judged_run (slice_get (map dest_run ds) k) failing failed o v ≡ judged_at (slice_get ds k) failing failed o v
judged-at-same [] k failing failed o v split = refl
judged-at-same (d ∷ ds) zero failing failed o v split = judged-by-same d.setup.buffer d failing failed o v (both-true (is_split d.left) (are_split ds) split).0
judged-at-same (d ∷ ds) (suc k) failing failed o v split = judged-at-same ds k failing failed o v (both-true (is_split d.left) (are_split ds) split).1

-- The spooled entries stand first, also behind an offer.

push-waits-if : (x e : DestEntry) (es : List DestEntry) (b : Bool) → x.spooled ≡ b → e.spooled ≡ false → (all_wait es ≡ true → all_wait (es ++ e ∷ []) ≡ true) → (is_split es ≡ true → is_split (es ++ e ∷ []) ≡ true)
    → is_split (x ∷ es) ≡ true → is_split (x ∷ (es ++ e ∷ [])) ≡ true
push-waits-if x e es true s h a r split = rw s (r (rw s at split))
push-waits-if x e es false s h a r split = rw s (a (rw s at split))

wait-push : (es : List DestEntry) (e : DestEntry) → e.spooled ≡ false → all_wait es ≡ true → all_wait (es ++ e ∷ []) ≡ true
wait-push [] e h a = rw h refl
wait-push (x ∷ es) e h a =
    let p = both-true (not x.spooled) (all_wait es) a in
    let rest = wait-push es e h p.1 in
    rw (p.0, rest) refl

split-push-waits : (es : List DestEntry) (e : DestEntry) → e.spooled ≡ false → is_split es ≡ true → is_split (es ++ e ∷ []) ≡ true
split-push-waits [] e h split = rw h refl
split-push-waits (x ∷ es) e h split = push-waits-if x e es x.spooled refl h (wait-push es e h) (split-push-waits es e h) split

or-none : (a b : Bool) → (a || b) ≡ false → (a ≡ false) × (b ≡ false)
or-none true b h = let wrong : true ≡ false = h in cc
or-none false b h = (refl, h)

not-waits : (b : Bool) → not b ≡ false → b ≡ true
not-waits true h = refl
not-waits false h = let wrong : true ≡ false = h in cc

split-push-spooled : (es : List DestEntry) (e : DestEntry) → e.spooled ≡ true → any_waits es ≡ false → is_split (es ++ e ∷ []) ≡ true
split-push-spooled [] e h none = rw h refl
split-push-spooled (x ∷ es) e h none =
    let p = or-none (not x.spooled) (any_waits es) none in
    rw (not-waits x.spooled p.0) (split-push-spooled es e h p.1)

none-is-some : (x : List ℕ) → None ≡ Some x → ⊥
none-is-some x h = cc

not-queue : (b : Bool) → same_verdict Spooled (if b then Queued else DroppedFull) ≡ false
not-queue true = refl
not-queue false = refl

not-broken : (b : Bool) → same_verdict Spooled (if b then Waits else DroppedDisk) ≡ false
not-broken true = refl
not-broken false = refl

not-full : (b : Bool) → same_verdict Spooled (if b then Waits else DroppedFull) ≡ false
not-full true = refl
not-full false = refl

-- the verdict Spooled is right only where no entry waits
spooled-free : (broken waits room flow : Bool) → same_verdict Spooled (if broken then (if flow then Waits else DroppedDisk) else if waits || room then (if flow then Waits else DroppedFull) else Spooled) ≡ true → waits ≡ false
spooled-free true waits room flow h = let wrong : false ≡ true = sym (not-broken flow) ∙ h in cc
spooled-free false true room flow h = let wrong : false ≡ true = sym (not-full flow) ∙ h in cc
spooled-free false false room flow h = refl

right-of : (f a b : Bool) (x y z : List ℕ) → (if f then (if a then Some x else None) else (if b then Some y else None)) ≡ Some z → ((a ≡ true) ⊎ (b ≡ true))
right-of true true b x y z h = inl refl
right-of true false b x y z h = absurd (none-is-some z h)
right-of false a true x y z h = inr refl
right-of false a false x y z h = absurd (none-is-some z h)

spooled-none-by : (buffer : Option BufferSetup) (fifo : ℕ) (left : List DestEntry) (failing failed : List ℕ) (o : Offer) (z : List ℕ) → judged_by buffer fifo left failing failed o Spooled ≡ Some z → any_waits left ≡ false
spooled-none-by None fifo left failing failed o z h =
    let no = not-queue (o.flow || nat_lt (unflowed left) fifo) in
    let wrong : None ≡ Some z = rw no at h in
    absurd (none-is-some z wrong)
spooled-none-by (Some b) fifo left failing failed o z h =
    elim (right-of _ _ _ _ _ z h) [
      | inl p ↦ spooled-free true (any_waits left) (not (fits b.capacity left o.message)) o.flow p
      | inr p ↦ spooled-free (is_listed b.store failed) (any_waits left) (not (fits b.capacity left o.message)) o.flow p
    ]

split-offer : (origin : Origin) (o : Offer) (v : Verdict) (d : Dest) (failing failed z : List ℕ) → is_split d.left ≡ true → judged_by d.setup.buffer d.setup.fifo d.left failing failed o v ≡ Some z → is_split (take_offer origin o v d).left ≡ true
split-offer origin o Queued d failing failed z split j = split-push-waits d.left (entry_from origin o false) refl split
split-offer origin o Spooled d failing failed z split j = split-push-spooled d.left (entry_from origin o true) refl (spooled-none-by d.setup.buffer d.setup.fifo d.left failing failed o z j)
split-offer origin o Waits d failing failed z split j = split-push-waits d.left (entry_from origin o false) refl split
split-offer origin o DroppedFull d failing failed z split j = split
split-offer origin o DroppedDisk d failing failed z split j = split

-- a judged offer is to a destination that is there
pub judged-dest : (o : Option Dest) (failing failed : List ℕ) (offer : Offer) (v : Verdict) (z : List ℕ) → judged_at o failing failed offer v ≡ Some z
    → (d : Dest) × (o ≡ Some d) × (judged_by d.setup.buffer d.setup.fifo d.left failing failed offer v ≡ Some z)
judged-dest None failing failed offer v z h = absurd (none-is-some z h)
judged-dest (Some d) failing failed offer v z h = (d, refl, h)

-- What is owed behind an offer.

abbrev pub is_at : ℕ → ℕ → ℕ → ℕ → Bool
is_at i number j n = (i == j) && (number == n)

count-push : (p : DestEntry → Bool) (es : List DestEntry) (e : DestEntry) → count_by p (es ++ e ∷ []) ≡ count_by p es + one_if (p e)
count-push p es e = sum_by-append (λ x. if p x then 1 else 0) es (e ∷ []) ∙ grind arith

none-more : (b : Bool) (n : ℕ) → n ≡ n + one_if (b && false)
none-more true n = omega arith
none-more false n = omega arith

owed-take-one : (i number end : ℕ) (o : Offer) (v : Verdict) (d : Dest) (j n : ℕ)
    → count_by (is_owed_to j n) (take_offer (record { inlet = i; number = number; end = end }) o v d).left ≡ count_by (is_owed_to j n) d.left + one_if (is_at i number j n && owes_by o.flow v)
owed-take-one i number end o Queued d j n = count-push (is_owed_to j n) d.left (entry_from (record { inlet = i; number = number; end = end }) o false) ∙ grind arith
owed-take-one i number end o Spooled d j n = count-push (is_owed_to j n) d.left (entry_from (record { inlet = i; number = number; end = end }) o true) ∙ grind arith
owed-take-one i number end o Waits d j n = count-push (is_owed_to j n) d.left (entry_from (record { inlet = i; number = number; end = end }) o false) ∙ grind arith
owed-take-one i number end o DroppedFull d j n = none-more (is_at i number j n) (count_by (is_owed_to j n) d.left)
owed-take-one i number end o DroppedDisk d j n = none-more (is_at i number j n) (count_by (is_owed_to j n) d.left)

owed-take : (i number end : ℕ) (o : Offer) (v : Verdict) (ds : List Dest) (k j n : ℕ) (dest : Dest) → slice_get ds k ≡ Some dest
    → owed (change ds k (take_offer (record { inlet = i; number = number; end = end }) o v)) j n ≡ owed ds j n + one_if (is_at i number j n && owes_by o.flow v)
owed-take i number end o v [] k j n dest g = let wrong : None ≡ Some dest = g in cc
owed-take i number end o v (d ∷ ds) zero j n dest g = let a = owed-take-one i number end o v d j n in omega arith
owed-take i number end o v (d ∷ ds) (suc k) j n dest g = let a = owed-take i number end o v ds k j n dest g in omega arith

-- The offers of one record.

-- all that the offers of a record change, where their verdicts are right
pub record TakesEntry (i number : ℕ) (ds fs : List Dest) (os : List Offer) (vs : List Verdict) : Type 0 where
  pub runs : map dest_run fs ≡ offered_runs i number (map dest_run ds) os vs
  pub split : are_split fs ≡ true
  pub itself : owed fs i number ≡ owed ds i number + owing os vs
  pub others : (j n : ℕ) → is_at i number j n ≡ false → owed fs j n ≡ owed ds j n
  pub verdicts : length vs ≡ length os

then-same : {A B : Type 0} (o p : Option A) (f g : A → Option B) → o ≡ p → ((x : A) → p ≡ Some x → f x ≡ g x) → option_and_then f o ≡ option_and_then g p
then-same o None f g e h = rw e refl
then-same o (Some x) f g e h = rw e (h x refl)

runs-change : (i next place number end : ℕ) (ds : List Dest) (o : Offer) (v : Verdict) (dest : Dest) → next + place ≡ number → slice_get ds o.dest ≡ Some dest
    → map dest_run (take_claim i next ds (record { place = place; end = end; offer = o }) v) ≡ change (map dest_run ds) o.dest (offered_run i number o v)
runs-change i next place number end ds o v dest at g =
    map-change-at dest_run ds o.dest (take_offer (record { inlet = i; number = next + place; end = end }) o v) (offered_run i number o v) dest g
    (takes-same i (next + place) end o v dest ∙ ap (λ n. offered_run i n o v (dest_run dest)) at)

split-claim : (i next place end : ℕ) (ds : List Dest) (o : Offer) (v : Verdict) (dest : Dest) (failing failed z : List ℕ) → are_split ds ≡ true → slice_get ds o.dest ≡ Some dest
    → judged_by dest.setup.buffer dest.setup.fifo dest.left failing failed o v ≡ Some z → are_split (take_claim i next ds (record { place = place; end = end; offer = o }) v) ≡ true
split-claim i next place end ds o v dest failing failed z split g j =
    split-change ds o.dest (take_offer (record { inlet = i; number = next + place; end = end }) o v) dest split g
    (split-offer (record { inlet = i; number = next + place; end = end }) o v dest failing failed z (split-at ds o.dest dest split g) j)

-- a record's offers are judged alike
pub judged-same : (i next place number end : ℕ) (failing : List ℕ) (ds : List Dest) (failed : List ℕ) (os : List Offer) (vs : List Verdict) → next + place ≡ number → are_split ds ≡ true
    → judged_runs i number failing (map dest_run ds) failed os vs ≡ judged i next failing ds failed (claims_in place end os) vs
judged-same i next place number end failing ds failed [] [] at split = refl
judged-same i next place number end failing ds failed [] (v ∷ vs) at split = refl
judged-same i next place number end failing ds failed (o ∷ os) [] at split = refl
judged-same i next place number end failing ds failed (o ∷ os) (v ∷ vs) at split =
    let c : Claim = record { place = place; end = end; offer = o } in
    then-same
    (judged_run (slice_get (map dest_run ds) o.dest) failing failed o v)
    (judged_at (slice_get ds o.dest) failing failed o v)
    (λ f. judged_runs i number failing (change (map dest_run ds) o.dest (offered_run i number o v)) f os vs)
    (λ f. judged i next failing (take_claim i next ds c v) f (claims_in place end os) vs)
    (judged-at-same ds o.dest failing failed o v split)
    (λ f j.
    let p = judged-dest (slice_get ds o.dest) failing failed o v f j in
    ap (λ ks. judged_runs i number failing ks f os vs) (sym (runs-change i next place number end ds o v p.0 at p.1))
    ∙ judged-same i next place number end failing (take_claim i next ds c v) f os vs at (split-claim i next place end ds o v p.0 failing failed f split p.1 p.2))

owing-more : (n k : ℕ) (b : Bool) → n + one_if (true && b) + k ≡ n + ((if b then 1 else 0) + k)
owing-more n k true = omega arith
owing-more n k false = omega arith

pub then-some-of : {A B : Type 0} (o : Option A) (f : A → Option B) (y : B) → option_and_then f o ≡ Some y → (x : A) × (o ≡ Some x) × (f x ≡ Some y)
then-some-of None f y h = let wrong : None ≡ Some y = h in cc
then-some-of (Some x) f y h = (x, refl, h)

pub takes-all : (i next place number end : ℕ) (failing : List ℕ) (ds : List Dest) (failed : List ℕ) (os : List Offer) (vs : List Verdict) (z : List ℕ) → next + place ≡ number → are_split ds ≡ true
    → judged i next failing ds failed (claims_in place end os) vs ≡ Some z → TakesEntry i number ds (take_claims i next ds (claims_in place end os) vs) os vs
takes-all i next place number end failing ds failed [] [] z at split j = record { runs = refl; split = split; itself = omega arith; others = λ j n h. refl; verdicts = refl }
takes-all i next place number end failing ds failed [] (v ∷ vs) z at split j = absurd (none-is-some z j)
takes-all i next place number end failing ds failed (o ∷ os) [] z at split j = absurd (none-is-some z j)
takes-all i next place number end failing ds failed (o ∷ os) (v ∷ vs) z at split j =
    let c : Claim = record { place = place; end = end; offer = o } in
    let p = then-some-of (judged_at (slice_get ds o.dest) failing failed o v) (λ f. judged i next failing (take_claim i next ds c v) f (claims_in place end os) vs) z j in
    let q = judged-dest (slice_get ds o.dest) failing failed o v p.0 p.1 in
    let ds_then = take_claim i next ds c v in
    let rest = takes-all i next place number end failing ds_then p.0 os vs z at (split-claim i next place end ds o v q.0 failing failed p.0 split q.1 q.2) p.2 in
    let here : is_at i number i number ≡ true = grind arith in
    let a = owed-take i (next + place) end o v ds o.dest i number q.0 q.1 in
    let hit : is_at i (next + place) i number ≡ true = rw at here in
    let b : owed ds_then i number ≡ owed ds i number + one_if (true && owes_by o.flow v) = rw hit at a in
    record {
      runs = rest.runs ∙ ap (λ ks. offered_runs i number ks os vs) (runs-change i next place number end ds o v q.0 at q.1);
      split = rest.split;
      itself = rest.itself ∙ ap (λ n. n + owing os vs) b ∙ owing-more (owed ds i number) (owing os vs) (owes_by o.flow v);
      others = λ m n h.
          let d = owed-take i (next + place) end o v ds o.dest m n q.0 q.1 in
          let miss : is_at i (next + place) m n ≡ false = rw at h in
          let e : owed ds_then m n ≡ owed ds m n + one_if (false && owes_by o.flow v) = rw miss at d in
          let r = rest.others m n h in
          omega arith;
      verdicts = ap suc rest.verdicts;
    }

-- The destinations of a state and the disk-buffers of a core, once records are in.
use Rattle.std.proofs.Common.{◌≡◌, ℕ, ◌+◌, List, [], ◌∷◌, ◌++◌, length, Option, Some, None, Bool, true, false, ◌&&◌, refl, sym, ap, ◌∙◌, arith, suc, map, slice_get, subst, if◌then◌else◌, append_assoc, inl, inr, ◌⊎◌}
use Rattle.std.specs.Prelude.{◌==◌, option_and_then, IsSome}
use Rattle.std.proofs.lemmas.Bool.{cases_eq, and_parts, and_right}
use Rattle.std.proofs.lemmas.List.{append-nil, map-append}
use Rattle.sg_list.proofs.ListLemmas.{some-same, change-none, get-change-same, get-change-other}
use Rattle.sg_msg.specs.Length.{encoded_len}
use Rattle.sg_msg.specs.declared.offer.Offer.{Offer}
use Rattle.sg_codec.specs.Spelling.{spelling2, IsSpellable}
use Rattle.sg_machine.specs.declared.event.Verdict.{Verdict}
use Rattle.sg_machine.specs.declared.event.Verdict.TheVariants.{Queued, Spooled, Waits, DroppedFull, DroppedDisk}
use Rattle.sg_machine.specs.declared.setup.BufferSetup.{BufferSetup}
use Rattle.sg_machine.specs.declared.state.Dest.{Dest}
use Rattle.sg_machine.specs.declared.state.DestEntry.{DestEntry}
use Rattle.sg_machine.specs.Counts.{as_kept}
use Rattle.sg_machine.specs.Runs.{BufferedEntry}
use Rattle.sg_machine.specs.Safe.{kept_from, spooled_of, spooled_offers}
use Rattle.sg_machine.specs.Verdicts.{Claim, origin_of, same_verdict, entry_from, take_offer, take_claim, take_claims}
use Rattle.sg_sinks.specs.Fitting.{space}
use Rattle.sg_sinks.specs.Blocks.{block_of, kept_of_offer, block_of_offer}
use Rattle.sg_sinks.specs.Standing.{kept_of, lengths_of}
use Rattle.sg_sinks.proofs.SpaceLemmas.{space_push}
use Rattle.sg_stores.specs.Appending.{IsNextPayload}
use Rattle.sg_stores.specs.Stores.{StoreState, HasBufferSize, length_of}
use Rattle.sg_standing.specs.Standing.{AreSpellable}
use Rattle.sg_standing.proofs.Safes.{spooled-append}
use Rattle.sg_offers.specs.declared.batch.Payload.{Payload}
use Rattle.sg_offers.specs.Payloads.{buffer_at, trial_at, trials_then, payloads_from, taken_at, takes_offer, tried_offer, FitAll, AllSpellable, ArePayloadsSpelled}
use Rattle.sg_sinks.specs.declared.trial.Trial.{Trial}
use Rattle.sg_offers.proofs.TrySteps.{trial-other}
use Rattle.sg_core.specs.Steps.{AreNext}
use Rattle.sg_core.specs.Admits.{AreApartBuffers, is_for, blocks_for}
use Rattle.sg_core.proofs.CommitSteps.{for-dest}

-- What a destination spools.

lengths-by : (b : Bool) (e : DestEntry) (es : List DestEntry) → e.spooled ≡ b → lengths_of es ≡ map length_of (spooled_of es) → lengths_of (e ∷ es) ≡ map length_of (spooled_of (e ∷ es))
lengths-by true e es h rest = rw h (ap (λ ns. encoded_len e.message ∷ ns) rest)
lengths-by false e es h rest = rw h rest

pub lengths-spooled : (es : List DestEntry) → lengths_of es ≡ map length_of (spooled_of es)
lengths-spooled [] = refl
lengths-spooled (e ∷ es) = lengths-by e.spooled e es refl (lengths-spooled es)

-- it has settled no more, and spooled these
pub record GrowsByAdmit (old new : Dest) (more : List BufferedEntry) : Type 0 where
  pub setup : new.setup ≡ old.setup
  pub settled : new.settled ≡ old.settled
  pub spooled : spooled_of new.left ≡ spooled_of old.left ++ more

grows-same : (x : Dest) → GrowsByAdmit x x []
grows-same x = record { setup = refl; settled = refl; spooled = sym (append-nil (spooled_of x.left)) }

grows-then : (x y z : Dest) (ks ls : List BufferedEntry) → GrowsByAdmit x y ks → GrowsByAdmit y z ls → GrowsByAdmit x z (ks ++ ls)
grows-then x y z ks ls p q = record {
  setup = q.setup ∙ p.setup;
  settled = q.settled ∙ p.settled;
  spooled = q.spooled ∙ ap (λ (js : List BufferedEntry). js ++ ls) p.spooled ∙ append_assoc (spooled_of x.left) ks ls;
}

grows-keep : (x : Dest) (e : DestEntry) → e.spooled ≡ false → GrowsByAdmit x (record x { left = x.left ++ e ∷ [] }) []
grows-keep x e memory =
    let none : spooled_of (e ∷ []) ≡ [] = rw memory refl in
    record { setup = refl; settled = refl; spooled = spooled-append x.left (e ∷ []) ∙ ap (λ (ks : List BufferedEntry). spooled_of x.left ++ ks) none }

grows-spool : (x : Dest) (e : DestEntry) → e.spooled ≡ true → GrowsByAdmit x (record x { left = x.left ++ e ∷ [] }) (as_kept e ∷ [])
grows-spool x e disk =
    let one : spooled_of (e ∷ []) ≡ as_kept e ∷ [] = rw disk refl in
    record { setup = refl; settled = refl; spooled = spooled-append x.left (e ∷ []) ∙ ap (λ (ks : List BufferedEntry). spooled_of x.left ++ ks) one }

grows-offer : (i next : ℕ) (c : Claim) (v : Verdict) (x : Dest) → GrowsByAdmit x (take_offer (origin_of i next c) c.offer v x) (if same_verdict Spooled v then kept_from i c ∷ [] else [])
grows-offer i next c Queued x = grows-keep x (entry_from (origin_of i next c) c.offer false) refl
grows-offer i next c Spooled x = grows-spool x (entry_from (origin_of i next c) c.offer true) refl
grows-offer i next c Waits x = grows-keep x (entry_from (origin_of i next c) c.offer false) refl
grows-offer i next c DroppedFull x = record { setup = refl; settled = refl; spooled = sym (append-nil (spooled_of x.left)) }
grows-offer i next c DroppedDisk x = record { setup = refl; settled = refl; spooled = sym (append-nil (spooled_of x.left)) }

spools-here : (p q : Bool) (k : BufferedEntry) (ks : List BufferedEntry) → p ≡ true → (if q then k ∷ [] else []) ++ ks ≡ (if p && q then k ∷ ks else ks)
spools-here p true k ks h = rw h refl
spools-here p false k ks h = rw h refl

spools-not : (p q : Bool) (k : BufferedEntry) (ks : List BufferedEntry) → p ≡ false → ks ≡ (if p && q then k ∷ ks else ks)
spools-not p q k ks h = rw h refl

-- the destination d behind claims
pub record Grown (news : List Dest) (d : ℕ) (old : Dest) (more : List BufferedEntry) : Type 0 where
  pub new : Dest
  pub there : slice_get news d ≡ Some new
  pub grows : GrowsByAdmit old new more

pub grown : (i next : ℕ) (ds : List Dest) (cs : List Claim) (vs : List Verdict) (d : ℕ) (x : Dest) → slice_get ds d ≡ Some x → Grown (take_claims i next ds cs vs) d x (spooled_offers d i cs vs)
grown i next ds [] vs d x h = record { new = x; there = h; grows = grows-same x }
grown i next ds (c ∷ cs) [] d x h = record { new = x; there = h; grows = grows-same x }
grown i next ds (c ∷ cs) (v ∷ vs) d x h =
    let o = c.offer in
    let f = take_offer (origin_of i next c) o v in
    let rest_here = spooled_offers d i cs vs in
    elim (cases_eq o.dest d) [
      | inl e ↦ (
          let hit : (o.dest == d) ≡ true = grind arith in
          let here : slice_get (take_claim i next ds c v) d ≡ Some (f x) = rw e (get-change-same ds d f x h) in
          let rest = grown i next (take_claim i next ds c v) cs vs d (f x) here in
          let both = grows-then x (f x) rest.new (if same_verdict Spooled v then kept_from i c ∷ [] else []) rest_here (grows-offer i next c v x) rest.grows in
          record {
            new = rest.new;
            there = rest.there;
            grows = subst (λ (ks : List BufferedEntry). GrowsByAdmit x rest.new ks) (spools-here (o.dest == d) (same_verdict Spooled v) (kept_from i c) rest_here hit) both;
          })
      | inr ne ↦ (
          let miss : (o.dest == d) ≡ false = grind arith in
          let there : slice_get (take_claim i next ds c v) d ≡ Some x = get-change-other ds o.dest d f (λ e. ne (sym e)) ∙ h in
          let rest = grown i next (take_claim i next ds c v) cs vs d x there in
          record {
            new = rest.new;
            there = rest.there;
            grows = subst (λ (ks : List BufferedEntry). GrowsByAdmit x rest.new ks) (spools-not (o.dest == d) (same_verdict Spooled v) (kept_from i c) rest_here miss) rest.grows;
          })
    ]

-- What is staged at its disk-buffer.

flip-and : (a b : Bool) → (a && b) ≡ (b && a)
flip-and true true = refl
flip-and true false = refl
flip-and false true = refl
flip-and false false = refl

is-taken : (buffers : List (Option BufferSetup)) (d : ℕ) (x : BufferSetup) (p : Payload) → AreApartBuffers buffers → buffer_at buffers d ≡ Some x → is_for buffers x.store p ≡ ((p.dest == d) && p.taken)
is-taken buffers d x p apart at = for-dest buffers d x p apart at ∙ flip-and p.taken (p.dest == d)

length-by : (a b : Bool) (x : Option (List ℕ)) (k : BufferedEntry) (xs : List (Option (List ℕ))) (ks : List BufferedEntry) → a ≡ b → length ks ≡ length xs → length (if b then k ∷ ks else ks) ≡ length (if a then x ∷ xs else xs)
length-by true b x k xs ks e h = rw (← e) (ap suc h)
length-by false b x k xs ks e h = rw (← e) h

-- as many entries are taken as blocks are staged
pub length-taken : (buffers : List (Option BufferSetup)) (d i : ℕ) (x : BufferSetup) (cs : List Claim) (ps : List Payload) → AreApartBuffers buffers → buffer_at buffers d ≡ Some x → length cs ≡ length ps
    → length (taken_at d i cs ps) ≡ length (blocks_for buffers x.store ps)
length-taken buffers d i x [] [] apart at l = refl
length-taken buffers d i x [] (p ∷ ps) apart at l = absurd (omega arith)
length-taken buffers d i x (c ∷ cs) [] apart at l = absurd (omega arith)
length-taken buffers d i x (c ∷ cs) (p ∷ ps) apart at l =
    length-by (is_for buffers x.store p) ((p.dest == d) && p.taken) p.block (kept_from i c) (blocks_for buffers x.store ps) (taken_at d i cs ps) (is-taken buffers d x p apart at) (length-taken buffers d i x cs ps apart at (omega arith))

space-more : (lengths : List ℕ) (tried : List BufferedEntry) (k : BufferedEntry) → space (lengths ++ map length_of (tried ++ k ∷ [])) ≡ space (lengths ++ map length_of tried) + (5 + length_of k)
space-more lengths tried k =
    ap (λ (ns : List ℕ). space (lengths ++ ns)) (map-append length_of tried (k ∷ [])) ∙ ap space (sym (append_assoc lengths (map length_of tried) (length_of k ∷ []))) ∙ space_push (lengths ++ map length_of tried) (length_of k)

next-by : (a b : Bool) (x : Option (List ℕ)) (k : BufferedEntry) (xs : List (Option (List ℕ))) (ks : List BufferedEntry) (old : StoreState) (tried : List BufferedEntry) → a ≡ b → (b ≡ true → AreNext old tried (x ∷ xs) (k ∷ ks)) → (b ≡ false → AreNext old tried xs ks)
    → AreNext old tried (if a then x ∷ xs else xs) (if b then k ∷ ks else ks)
next-by true b x k xs ks old tried e f h = rw (← e) (f (sym e))
next-by false b x k xs ks old tried e f h = rw (← e) (h (sym e))

fits-of : (b : Bool) (capacity used : ℕ) (k : BufferedEntry) (ks : List BufferedEntry) → b ≡ true → FitAll capacity used (if b then k ∷ ks else ks) → FitAll capacity used (k ∷ ks)
fits-of b capacity used k ks h f = rw h at f

fits-else : (b : Bool) (capacity used : ℕ) (k : BufferedEntry) (ks : List BufferedEntry) → b ≡ false → FitAll capacity used (if b then k ∷ ks else ks) → FitAll capacity used ks
fits-else b capacity used k ks h f = rw h at f

one-next : (old : StoreState) (tried : List BufferedEntry) (capacity : ℕ) (lengths : List ℕ) (payload : List ℕ) (k : BufferedEntry) (block : Option (List ℕ)) (blocks : List (Option (List ℕ))) (ks : List BufferedEntry) → block ≡ Some payload → IsNextPayload old tried payload k
    → AreNext old (tried ++ k ∷ []) blocks ks → AreNext old tried (block ∷ blocks) (k ∷ ks)
one-next old tried capacity lengths payload k block blocks ks e n rest = rw e (n, rest)

-- each is the next one, where its payload is spelled and it fits
pub are-next : (buffers : List (Option BufferSetup)) (d i : ℕ) (x : BufferSetup) (old : StoreState) (tried : List BufferedEntry) (capacity : ℕ) (lengths : List ℕ) (cs : List Claim) (ps : List Payload) → AreApartBuffers buffers → buffer_at buffers d ≡ Some x
    → HasBufferSize capacity lengths old.buffer → length cs ≡ length ps → ArePayloadsSpelled i cs ps → FitAll capacity (space (lengths ++ map length_of tried)) (taken_at d i cs ps) → AreNext old tried (blocks_for buffers x.store ps) (taken_at d i cs ps)
are-next buffers d i x old tried capacity lengths [] [] apart at size l spelled fits = tt
are-next buffers d i x old tried capacity lengths [] (p ∷ ps) apart at size l spelled fits = absurd (omega arith)
are-next buffers d i x old tried capacity lengths (c ∷ cs) [] apart at size l spelled fits = absurd (omega arith)
are-next buffers d i x old tried capacity lengths (c ∷ cs) (p ∷ ps) apart at size l spelled fits =
    let b = (p.dest == d) && p.taken in
    let k = kept_from i c in
    let rest = taken_at d i cs ps in
    let used = space (lengths ++ map length_of tried) in
    let more = space-more lengths tried k in
    next-by (is_for buffers x.store p) b p.block k (blocks_for buffers x.store ps) rest old tried (is-taken buffers d x p apart at)
    (λ h.
    let both = fits-of b capacity used k rest h fits in
    let said = spelled.0 ((and_parts (p.dest == d) p.taken h).1) in
    let later : FitAll capacity (space (lengths ++ map length_of (tried ++ k ∷ []))) rest = subst (λ (n : ℕ). FitAll capacity n rest) (sym more) both.1 in
    one-next old tried capacity lengths (spelling2 (record { source = i; end = c.end; flow = c.offer.flow; message = c.offer.message })) k p.block (blocks_for buffers x.store ps) rest said.0
    (record { spelled = refl; has_spelling = said.1; capacity = capacity; lengths = lengths; size = size; fits = both.0 })
    (are-next buffers d i x old (tried ++ k ∷ []) capacity lengths cs ps apart at size (omega arith) spelled.1 later))
    (λ h. are-next buffers d i x old tried capacity lengths cs ps apart at size (omega arith) spelled.1 (fits-else b capacity used k rest h fits))

none-by : (x : Option (Option Trial)) → option_and_then (λ y. y) x ≡ None → (x ≡ None) ⊎ (x ≡ Some None)
none-by None h = inl refl
none-by (Some None) h = inr refl
none-by (Some (Some t)) h = let wrong : Some t ≡ None = h in cc

trial-gone : (ts : List (Option Trial)) (o : Offer) → trial_at ts o.dest ≡ None → trial_at (trials_then ts o) o.dest ≡ None
trial-gone ts o h =
    elim (none-by (slice_get ts o.dest) h) [
      | inl e ↦ (let same = change-none ts o.dest (tried_offer o) e in rw (same, e) refl)
      | inr e ↦ (let there = get-change-same ts o.dest (tried_offer o) None e in rw there refl)
    ]

skip-if : (b : Bool) (k : BufferedEntry) (ks : List BufferedEntry) → b ≡ false → (if b then k ∷ ks else ks) ≡ ks
skip-if b k ks h = rw h refl

-- a destination without a trial takes nothing
pub untried : (d i : ℕ) (bs : List (Option BufferSetup)) (ts : List (Option Trial)) (cs : List Claim) → trial_at ts d ≡ None → taken_at d i cs (payloads_from i bs ts cs) ≡ []
untried d i bs ts [] h = refl
untried d i bs ts (c ∷ cs) h =
    let o = c.offer in
    elim (cases_eq o.dest d) [
      | inl e ↦ (
          let takes : takes_offer o (trial_at ts o.dest) ≡ false = rw (e, h) refl in
          let still : trial_at (trials_then ts o) d ≡ None = rw (← e) (trial-gone ts o (rw e h)) in
          let none : ((o.dest == d) && takes_offer o (trial_at ts o.dest)) ≡ false = and_right (o.dest == d) (takes_offer o (trial_at ts o.dest)) takes in
          skip-if ((o.dest == d) && takes_offer o (trial_at ts o.dest)) (kept_from i c) (taken_at d i cs (payloads_from i bs (trials_then ts o) cs)) none ∙ untried d i bs (trials_then ts o) cs still)
      | inr ne ↦ (
          let miss : (o.dest == d) ≡ false = grind arith in
          let still = trial-other ts o d (λ e. ne (sym e)) ∙ h in
          sym (spools-not (o.dest == d) (takes_offer o (trial_at ts o.dest)) (kept_from i c) (taken_at d i cs (payloads_from i bs (trials_then ts o) cs)) miss) ∙ untried d i bs (trials_then ts o) cs still)
    ]

-- Entries that can be spelled.

spellable-push : (buffer : Option BufferSetup) (es : List DestEntry) (e : DestEntry) → AreSpellable buffer es → (IsSome (block_of buffer (kept_of e)) → IsSpellable (kept_of e)) → AreSpellable buffer (es ++ e ∷ [])
spellable-push buffer [] e h k = (k, tt)
spellable-push buffer (x ∷ es) e h k = (h.0, spellable-push buffer es e h.1 k)

spellable-offer : (buffer : Option BufferSetup) (i next : ℕ) (c : Claim) (v : Verdict) (x : Dest) → AreSpellable buffer x.left → (IsSome (block_of_offer buffer i c.end c.offer) → IsSpellable (kept_of_offer i c.end c.offer))
    → AreSpellable buffer (take_offer (origin_of i next c) c.offer v x).left
spellable-offer buffer i next c Queued x h k = spellable-push buffer x.left (entry_from (origin_of i next c) c.offer false) h k
spellable-offer buffer i next c Spooled x h k = spellable-push buffer x.left (entry_from (origin_of i next c) c.offer true) h k
spellable-offer buffer i next c Waits x h k = spellable-push buffer x.left (entry_from (origin_of i next c) c.offer false) h k
spellable-offer buffer i next c DroppedFull x h k = h
spellable-offer buffer i next c DroppedDisk x h k = h

pub spellable-claims : (i next : ℕ) (buffers : List (Option BufferSetup)) (ds : List Dest) (cs : List Claim) (vs : List Verdict) (d : ℕ) (x y : Dest) → AllSpellable i buffers cs → slice_get ds d ≡ Some x → AreSpellable (buffer_at buffers d) x.left
    → slice_get (take_claims i next ds cs vs) d ≡ Some y → AreSpellable (buffer_at buffers d) y.left
spellable-claims i next buffers ds [] vs d x y kept h spells g = subst (λ (z : Dest). AreSpellable (buffer_at buffers d) z.left) (some-same x y (sym h ∙ g)) spells
spellable-claims i next buffers ds (c ∷ cs) [] d x y kept h spells g = subst (λ (z : Dest). AreSpellable (buffer_at buffers d) z.left) (some-same x y (sym h ∙ g)) spells
spellable-claims i next buffers ds (c ∷ cs) (v ∷ vs) d x y kept h spells g =
    let o = c.offer in
    let f = take_offer (origin_of i next c) o v in
    elim (cases_eq o.dest d) [
      | inl e ↦ (
          let here : slice_get (take_claim i next ds c v) d ≡ Some (f x) = rw e (get-change-same ds d f x h) in
          let k : IsSome (block_of_offer (buffer_at buffers d) i c.end o) → IsSpellable (kept_of_offer i c.end o) = subst (λ (n : ℕ). IsSome (block_of_offer (buffer_at buffers n) i c.end o) → IsSpellable (kept_of_offer i c.end o)) e kept.0 in
          spellable-claims i next buffers (take_claim i next ds c v) cs vs d (f x) y kept.1 here (spellable-offer (buffer_at buffers d) i next c v x spells k) g)
      | inr ne ↦ (
          let there : slice_get (take_claim i next ds c v) d ≡ Some x = get-change-other ds o.dest d f (λ e. ne (sym e)) ∙ h in
          spellable-claims i next buffers (take_claim i next ds c v) cs vs d x y kept.1 there spells g)
    ]

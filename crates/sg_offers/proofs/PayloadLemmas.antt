-- Payloads of offers.
use Rattle.std.proofs.Common.{◌≡◌, ℕ, ◌+◌, ◌^◌, ◌≤◌, List, [], ◌∷◌, ◌++◌, length, drop, Option, Some, None, Bool, true, false, not, refl, sym, ap, ◌∙◌, arith, suc, zero, map, slice_get, if◌then◌else◌, append_assoc, inl, inr}
use Rattle.std.specs.Prelude.{◌==◌, nat_le, option_and_then, IsSome}
use Rattle.std.proofs.lemmas.Bool.{and_parts, leb-true, le-leb}
use Rattle.sg_list.proofs.ListLemmas.{some-same, length-change, get-change}
use Rattle.sg_msg.specs.Length.{encoded_len}
use Rattle.sg_msg.specs.declared.offer.Offer.{Offer}
use Rattle.sg_codec.specs.Spelling.{spelling2, IsSpellable}
use Rattle.sg_codec.specs.declared.kept.Kept.{Kept}
use Rattle.sg_machine.specs.declared.setup.BufferSetup.{BufferSetup}
use Rattle.sg_machine.specs.Verdicts.{Claim}
use Rattle.sg_sinks.specs.States.{SinkState}
use Rattle.sg_sinks.specs.Blocks.{is_short_entry, kept_of_offer, block_of, block_of_offer}
use Rattle.sg_sinks.specs.Trials.{trial_of, takes_in, tried}
use Rattle.sg_sinks.specs.declared.trial.Trial.{Trial}
use Rattle.sg_offers.specs.declared.batch.Payload.{Payload}
use Rattle.sg_offers.specs.Payloads.{buffers_of, buffer_at, trial_by, trial_in, trial_at, takes_offer, tried_offer, trials_then, trials_after, payload_of, payloads_from, AllSpellable, AreSmall, ArePayloadsSpelled}
use Rattle.sg_offers.specs.Rooms.{given_to, counted_to, AreTo}
use Rattle.sg_offers.specs.Answering.{first_block, AreBlocks, AreClaimsWithin}

pub length-trials : (ts : List (Option Trial)) (cs : List Claim) → length (trials_after ts cs) ≡ length ts
length-trials ts [] = refl
length-trials ts (c ∷ cs) = length-trials (trials_then ts c.offer) cs ∙ length-change ts c.offer.dest (tried_offer c.offer)

pub trials-append : (ts : List (Option Trial)) (cs ds : List Claim) → trials_after ts (cs ++ ds) ≡ trials_after (trials_after ts cs) ds
trials-append ts [] ds = refl
trials-append ts (c ∷ cs) ds = trials-append (trials_then ts c.offer) cs ds

pub payloads-append : (i : ℕ) (bs : List (Option BufferSetup)) (ts : List (Option Trial)) (cs ds : List Claim)
    → payloads_from i bs ts (cs ++ ds) ≡ payloads_from i bs ts cs ++ payloads_from i bs (trials_after ts cs) ds
payloads-append i bs ts [] ds = refl
payloads-append i bs ts (c ∷ cs) ds = ap (λ ps. payload_of i c.end bs ts c.offer ∷ ps) (payloads-append i bs (trials_then ts c.offer) cs ds)

pub length-payloads : (i : ℕ) (bs : List (Option BufferSetup)) (ts : List (Option Trial)) (cs : List Claim) → length (payloads_from i bs ts cs) ≡ length cs
length-payloads i bs ts [] = refl
length-payloads i bs ts (c ∷ cs) = ap suc (length-payloads i bs (trials_then ts c.offer) cs)

pub kept-append : (i : ℕ) (bs : List (Option BufferSetup)) (cs ds : List Claim) → AllSpellable i bs cs → AllSpellable i bs ds → AllSpellable i bs (cs ++ ds)
kept-append i bs [] ds h g = g
kept-append i bs (c ∷ cs) ds h g = (h.0, kept-append i bs cs ds h.1 g)

-- Where they go.

pub counted-given : (d i : ℕ) (bs : List (Option BufferSetup)) (ts : List (Option Trial)) (cs : List Claim) → counted_to d (payloads_from i bs ts cs) ≡ given_to d cs
counted-given d i bs ts [] = refl
counted-given d i bs ts (c ∷ cs) = ap (λ n. (if c.offer.dest == d then 1 else 0) + n) (counted-given d i bs (trials_then ts c.offer) cs)

pub payloads-to : (count i : ℕ) (bs : List (Option BufferSetup)) (ts : List (Option Trial)) (cs : List Claim) → AreClaimsWithin count cs → AreTo count (payloads_from i bs ts cs)
payloads-to count i bs ts [] h = tt
payloads-to count i bs ts (c ∷ cs) h = (h.0, payloads-to count i bs (trials_then ts c.offer) cs h.1)

-- Their blocks.

pub blocks-from : (i : ℕ) (bs : List (Option BufferSetup)) (ts : List (Option Trial)) (cs : List Claim) → AreBlocks i bs cs (payloads_from i bs ts cs)
blocks-from i bs ts [] = tt
blocks-from i bs ts (c ∷ cs) = (refl, blocks-from i bs (trials_then ts c.offer) cs)

pub blocks-first : (i : ℕ) (bs : List (Option BufferSetup)) (cs ds : List Claim) (ps : List Payload) → AreBlocks i bs (cs ++ ds) ps → AreBlocks i bs cs ps
blocks-first i bs [] ds ps h = tt
blocks-first i bs (c ∷ cs) ds [] h = absurd h
blocks-first i bs (c ∷ cs) ds (p ∷ ps) h = (h.0, blocks-first i bs cs ds ps h.1)

pub blocks-behind : (i : ℕ) (bs : List (Option BufferSetup)) (cs ds : List Claim) (ps : List Payload) → AreBlocks i bs (cs ++ ds) ps → AreBlocks i bs ds (drop (length cs) ps)
blocks-behind i bs [] ds ps h = h
blocks-behind i bs (c ∷ cs) ds [] h = absurd h
blocks-behind i bs (c ∷ cs) ds (p ∷ ps) h = blocks-behind i bs cs ds ps h.1

-- a trial is of the disk-buffer of its destination
abbrev pub AreOfClaims : List (Option BufferSetup) → List (Option Trial) → Type 0
AreOfClaims bs ts = (d : ℕ) (t : Trial) → trial_at ts d ≡ Some t → (b : BufferSetup) × (buffer_at bs d ≡ Some b) × (t.capacity ≡ b.capacity)

tried-capacity : (flow : Bool) (n : ℕ) (t : Trial) (b : Bool) → takes_in n t ≡ b → (tried flow n t).capacity ≡ t.capacity
tried-capacity flow n t true h = rw h refl
tried-capacity flow n t false h = rw h refl

trial-was : (o : Offer) (x : Option Trial) (t : Trial) → tried_offer o x ≡ Some t → (u : Trial) × (x ≡ Some u) × (t.capacity ≡ u.capacity)
trial-was o None t h = let wrong : None ≡ Some t = h in cc
trial-was o (Some u) t h =
    let same = some-same (tried o.flow (encoded_len o.message) u) t h in
    (u, refl, ap (λ (x : Trial). x.capacity) (sym same) ∙ tried-capacity o.flow (encoded_len o.message) u (takes_in (encoded_len o.message) u) refl)

trial-some : (x : Option (Option Trial)) (t : Trial) → option_and_then (λ y. y) x ≡ Some t → x ≡ Some (Some t)
trial-some None t h = let wrong : None ≡ Some t = h in cc
trial-some (Some x) t h = ap Some h

pub of-then : (bs : List (Option BufferSetup)) (ts : List (Option Trial)) (o : Offer) → AreOfClaims bs ts → AreOfClaims bs (trials_then ts o)
of-then bs ts o h = λ d t e.
    let found = trial-some (slice_get (trials_then ts o) d) t e in
    let r = get-change ts o.dest d (tried_offer o) (Some t) found in
    elim r.2 [
      | inl p ↦ (
          let w = trial-was o r.0 t (sym p.1) in
          let there : trial_at ts d ≡ Some w.0 = rw r.1 w.1 in
          let was = h d w.0 there in
          (was.0, was.1, w.2 ∙ was.2))
      | inr p ↦ (
          let there : trial_at ts d ≡ Some t = rw r.1 (sym p.1) in
          h d t there)
    ]

trial-of-by : (buffer : Option BufferSetup) (k : SinkState) (broken : Bool) (t : Trial) → k.broken ≡ broken → trial_by buffer k ≡ Some t → (b : BufferSetup) × (buffer ≡ Some b) × (t.capacity ≡ b.capacity)
trial-of-by None k broken t s h = let wrong : None ≡ Some t = h in cc
trial-of-by (Some b) k true t s h = let wrong : None ≡ Some t = rw s at h in cc
trial-of-by (Some b) k false t s h =
    let is : Some (trial_of b k) ≡ Some t = rw s at h in
    (b, refl, ap (λ (x : Trial). x.capacity) (sym (some-same (trial_of b k) t is)))

pub of-start : (ks : List SinkState) → AreOfClaims (buffers_of ks) (map trial_in ks)
of-start [] d t e = let wrong : None ≡ Some t = e in cc
of-start (k ∷ ks) zero t e = trial-of-by k.setup.buffer k k.broken t refl e
of-start (k ∷ ks) (suc d) t e = of-start ks d t e

-- a payload that is taken has its block

fits-short : (t : Trial) (n : ℕ) → t.capacity ≤ 2 ^ 30 → takes_in n t ≡ true → nat_le n (2 ^ 30 + 64) ≡ true
fits-short t n small h =
    let fits = (and_parts (not t.waits) (nat_le (t.used + (5 + n + 1)) t.capacity) h).1 in
    let le = leb-true (t.used + (5 + n + 1)) t.capacity fits in
    le-leb n (2 ^ 30 + 64) (omega arith)

short-block : (b : Option BufferSetup) (x : BufferSetup) (kept : Kept) → b ≡ Some x → is_short_entry kept.message ≡ true → block_of b kept ≡ Some (spelling2 kept)
short-block b x kept e h = rw (e, h) refl

is-some : (b : Option (List ℕ)) (y : List ℕ) → b ≡ Some y → IsSome b
is-some b y e = rw e refl

spelled-by : (i end : ℕ) (bs : List (Option BufferSetup)) (ts : List (Option Trial)) (o : Offer) (x : Option Trial) → trial_at ts o.dest ≡ x → AreSmall bs → AreOfClaims bs ts
    → (IsSome (block_of_offer (buffer_at bs o.dest) i end o) → IsSpellable (kept_of_offer i end o)) → takes_offer o x ≡ true
    → (block_of_offer (buffer_at bs o.dest) i end o ≡ Some (spelling2 (kept_of_offer i end o))) × IsSpellable (kept_of_offer i end o)
spelled-by i end bs ts o None e small of kept taken = let wrong : false ≡ true = taken in cc
spelled-by i end bs ts o (Some t) e small of kept taken =
    let was = of o.dest t e in
    let capacity = small o.dest was.0 was.1 in
    let le : t.capacity ≤ 2 ^ 30 = rw was.2 capacity in
    let short = fits-short t (encoded_len o.message) le taken in
    let block = short-block (buffer_at bs o.dest) was.0 (kept_of_offer i end o) was.1 short in
    (block, kept (is-some (block_of_offer (buffer_at bs o.dest) i end o) (spelling2 (kept_of_offer i end o)) block))

pub spelled-from : (i : ℕ) (bs : List (Option BufferSetup)) (ts : List (Option Trial)) (cs : List Claim) → AreSmall bs → AreOfClaims bs ts → AllSpellable i bs cs → ArePayloadsSpelled i cs (payloads_from i bs ts cs)
spelled-from i bs ts [] small of kept = tt
spelled-from i bs ts (c ∷ cs) small of kept =
    (spelled-by i c.end bs ts c.offer (trial_at ts c.offer.dest) refl small of kept.0, spelled-from i bs (trials_then ts c.offer) cs small (of-then bs ts c.offer of) kept.1)

-- the payloads of one record more
pub payloads-step : (i : ℕ) (bs : List (Option BufferSetup)) (all old new : List Payload) (ts us : List (Option Trial)) (cs ds : List Claim)
    → new ≡ old ++ payloads_from i bs ts cs → us ≡ trials_after ts cs → old ++ payloads_from i bs ts (cs ++ ds) ≡ all → new ++ payloads_from i bs us ds ≡ all
payloads-step i bs all old new ts us cs ds n u h =
    rw (n, u) (append_assoc old (payloads_from i bs ts cs) (payloads_from i bs (trials_after ts cs) ds) ∙ ap (λ ps. old ++ ps) (sym (payloads-append i bs ts cs ds)) ∙ h)

-- the first payload, and those behind it
pub record BlocksThen (i : ℕ) (bs : List (Option BufferSetup)) (c : Claim) (cs : List Claim) (ps : List Payload) : Type 0 where
  pub first : first_block ps ≡ block_of_offer (buffer_at bs c.offer.dest) i c.end c.offer
  pub rest : AreBlocks i bs cs (drop 1 ps)
  pub behind : (n : ℕ) → drop n (drop 1 ps) ≡ drop (suc n) ps

pub blocks-then : (i : ℕ) (bs : List (Option BufferSetup)) (c : Claim) (cs : List Claim) (ps : List Payload) → AreBlocks i bs (c ∷ cs) ps → BlocksThen i bs c cs ps
blocks-then i bs c cs [] h = absurd h
blocks-then i bs c cs (p ∷ ps) h = record { first = h.0; rest = h.1; behind = λ n. refl }

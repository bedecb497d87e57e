-- What the disk-buffers take of offers is what the machine would spool there.
use Rattle.std.proofs.Common.{◌≡◌, ◌≢◌, ℕ, ◌+◌, List, [], ◌∷◌, Option, Some, None, Bool, true, false, ◌&&◌, ◌||◌, not, refl, sym, ap, ◌∙◌, arith, map, slice_get, subst, if◌then◌else◌, inl, inr}
use Rattle.std.specs.Prelude.{◌==◌, option_and_then}
use Rattle.std.proofs.lemmas.Bool.{cases_eq, and_parts}
use Rattle.sg_list.proofs.ListLemmas.{get-change-same, get-change-other, slice_get-map}
use Rattle.sg_msg.specs.Length.{encoded_len}
use Rattle.sg_msg.specs.declared.offer.Offer.{Offer}
use Rattle.sg_machine.specs.declared.event.Verdict.{Verdict}
use Rattle.sg_machine.specs.declared.event.Verdict.TheVariants.{Spooled, Waits, DroppedFull}
use Rattle.sg_machine.specs.declared.setup.BufferSetup.{BufferSetup}
use Rattle.sg_machine.specs.declared.state.Dest.{Dest}
use Rattle.sg_machine.specs.Verdicts.{Claim, origin_of, is_listed, same_verdict, disk_verdict, take_offer}
use Rattle.sg_machine.specs.Runs.{BufferedEntry}
use Rattle.sg_machine.specs.Safe.{kept_from, would_spool}
use Rattle.sg_sinks.specs.Fitting.{space, has_space}
use Rattle.sg_sinks.specs.Blocks.{block_of_offer}
use Rattle.sg_sinks.specs.Offers.{verdict_of, offered, would_spool as spools}
use Rattle.sg_sinks.specs.Standing.{sink_of, lengths_of, IsSplit}
use Rattle.sg_sinks.specs.Trials.{trial_of, takes_in, tried}
use Rattle.sg_sinks.specs.declared.trial.Trial.{Trial}
use Rattle.sg_sinks.specs.Laws.{is_listed_in}
use Rattle.sg_sinks.proofs.JudgeLemmas.{judging}
use Rattle.sg_sinks.proofs.OfferSteps.{offering}
use Rattle.sg_sinks.proofs.TrialSteps.{trying}
use Rattle.sg_offers.specs.Payloads.{trial_in, trial_at, takes_offer, tried_offer, trials_then, payloads_from, taken_at, buffers_of, FitAll}
use Rattle.sg_offers.specs.Batches.{sinks_at}
use Rattle.sg_offers.specs.Laws.{Tried}
use Rattle.sg_offers.proofs.JudgeSteps.{same-buffer}
use Rattle.sg_machine.proofs.BatchLemmas.{same-is}

-- what a trial takes of the offers to d, in order
abbrev pub takes_all : ℕ → ℕ → Trial → List Claim → List BufferedEntry
takes_all d i trial [] = []
takes_all d i trial (c ∷ cs) =
    if c.offer.dest == d
    then (if takes_in (encoded_len c.offer.message) trial then kept_from i c ∷ takes_all d i (tried c.offer.flow (encoded_len c.offer.message) trial) cs
    else takes_all d i (tried c.offer.flow (encoded_len c.offer.message) trial) cs)
    else takes_all d i trial cs

-- the trials at another destination stay
pub trial-other : (ts : List (Option Trial)) (o : Offer) (d : ℕ) → d ≢ o.dest → trial_at (trials_then ts o) d ≡ trial_at ts d
trial-other ts o d ne = let e = get-change-other ts o.dest d (tried_offer o) ne in rw e refl

there-some : (x : Option (Option Trial)) (t : Trial) → option_and_then (λ y. y) x ≡ Some t → x ≡ Some (Some t)
there-some None t h = let wrong : None ≡ Some t = h in cc
there-some (Some x) t h = ap Some h

pub trial-here : (ts : List (Option Trial)) (o : Offer) (t : Trial) → trial_at ts o.dest ≡ Some t → trial_at (trials_then ts o) o.dest ≡ Some (tried o.flow (encoded_len o.message) t)
trial-here ts o t h =
    let e = get-change-same ts o.dest (tried_offer o) (Some t) (there-some (slice_get ts o.dest) t h) in rw e refl

taken-if : (p q : Bool) (k : BufferedEntry) (ks : List BufferedEntry) → p ≡ true → (if p && q then k ∷ ks else ks) ≡ (if q then k ∷ ks else ks)
taken-if p q k ks h = rw h refl

taken-not : (p q : Bool) (k : BufferedEntry) (ks : List BufferedEntry) → p ≡ false → (if p && q then k ∷ ks else ks) ≡ ks
taken-not p q k ks h = rw h refl

then-if : (p : Bool) (x y : List BufferedEntry) → p ≡ true → x ≡ (if p then x else y)
then-if p x y h = rw h refl

else-if : (p : Bool) (x y : List BufferedEntry) → p ≡ false → y ≡ (if p then x else y)
else-if p x y h = rw h refl

pub taken-takes : (d i : ℕ) (bs : List (Option BufferSetup)) (ts : List (Option Trial)) (t : Trial) (cs : List Claim) → trial_at ts d ≡ Some t → taken_at d i cs (payloads_from i bs ts cs) ≡ takes_all d i t cs
taken-takes d i bs ts t [] h = refl
taken-takes d i bs ts t (c ∷ cs) h =
    let o = c.offer in
    let n = encoded_len o.message in
    let rest = taken_at d i cs (payloads_from i bs (trials_then ts o) cs) in
    let later = takes_all d i (tried o.flow n t) cs in
    elim (cases_eq o.dest d) [
      | inl e ↦ (
          let hit : (o.dest == d) ≡ true = grind arith in
          let at : trial_at ts o.dest ≡ Some t = rw e h in
          let next : trial_at (trials_then ts o) d ≡ Some (tried o.flow n t) = rw (← e) (trial-here ts o t at) in
          let takes : takes_offer o (trial_at ts o.dest) ≡ takes_in n t = rw at refl in
          let deep = taken-takes d i bs (trials_then ts o) (tried o.flow n t) cs next in
          taken-if (o.dest == d) (takes_offer o (trial_at ts o.dest)) (kept_from i c) rest hit
          ∙ ap (λ (b : Bool). if b then kept_from i c ∷ rest else rest) takes ∙ ap (λ (ks : List BufferedEntry). if takes_in n t then kept_from i c ∷ ks else ks) deep
          ∙ then-if (o.dest == d) (if takes_in n t then kept_from i c ∷ later else later) (takes_all d i t cs) hit)
      | inr ne ↦ (
          let miss : (o.dest == d) ≡ false = grind arith in
          let next : trial_at (trials_then ts o) d ≡ Some t = trial-other ts o d (λ e. ne (sym e)) ∙ h in
          let deep = taken-takes d i bs (trials_then ts o) t cs next in
          taken-not (o.dest == d) (takes_offer o (trial_at ts o.dest)) (kept_from i c) rest miss ∙ deep
          ∙ else-if (o.dest == d) (if takes_in n t then kept_from i c ∷ later else later) (takes_all d i t cs) miss)
    ]

-- what is taken fits

fit-if : (b : Bool) (k : BufferedEntry) (ks : List BufferedEntry) (flow : Bool) (t : Trial) → takes_in (encoded_len k.message) t ≡ b
    → ((u : Trial) → u ≡ tried flow (encoded_len k.message) t → FitAll u.capacity u.used ks) → FitAll t.capacity t.used (if b then k ∷ ks else ks)
fit-if true k ks flow t h rest =
    let n = encoded_len k.message in
    let fits = (and_parts (not t.waits) (has_space t.capacity t.used n) h).1 in
    let after : tried flow n t ≡ record t { used = t.used + (5 + n) } = rw h refl in
    (fits, rest (record t { used = t.used + (5 + n) }) (sym after))
fit-if false k ks flow t h rest =
    let after : tried flow (encoded_len k.message) t ≡ record t { waits = t.waits || flow } = rw h refl in
    rest (record t { waits = t.waits || flow }) (sym after)

fit-by : (p : Bool) (capacity used : ℕ) (x y : List BufferedEntry) → (p ≡ true → FitAll capacity used x) → (p ≡ false → FitAll capacity used y) → FitAll capacity used (if p then x else y)
fit-by true capacity used x y f g = f refl
fit-by false capacity used x y f g = g refl

pub fit-all : (d i : ℕ) (t : Trial) (cs : List Claim) → FitAll t.capacity t.used (takes_all d i t cs)
fit-all d i t [] = tt
fit-all d i t (c ∷ cs) =
    let o = c.offer in
    let n = encoded_len o.message in
    let later = takes_all d i (tried o.flow n t) cs in
    fit-by (o.dest == d) t.capacity t.used (if takes_in n t then kept_from i c ∷ later else later) (takes_all d i t cs)
    (λ h. fit-if (takes_in n t) (kept_from i c) later o.flow t refl (λ u e. subst (λ (x : Trial). FitAll x.capacity x.used later) (sym e) (fit-all d i (tried o.flow n t) cs)))
    (λ h. fit-all d i t cs)

-- At a destination of the machine.

kept-if : (p : Bool) (ys xs : List ℕ) → (if p then Some ys else None) ≡ Some xs → p ≡ true
kept-if true ys xs h = refl
kept-if false ys xs h = let wrong : None ≡ Some xs = h in cc

-- the verdict of a working store is that of the machine
plain-verdict : (dest : Dest) (buffer : BufferSetup) (o : Offer) → dest.setup.buffer ≡ Some buffer → IsSplit dest → verdict_of false (sink_of false dest) o ≡ disk_verdict buffer dest.left false o
plain-verdict dest buffer o b split =
    let j = judging dest [] [] o split in
    let v = verdict_of false (sink_of false dest) o in
    same-is v (disk_verdict buffer dest.left false o) (kept-if (same_verdict v (disk_verdict buffer dest.left false o)) [] [] (rw b (rw b at j)))

spooled-if : (w flow : Bool) → same_verdict Spooled (if w then Spooled else (if flow then Waits else DroppedFull)) ≡ w
spooled-if true flow = refl
spooled-if false true = refl
spooled-if false false = refl

-- it says Spooled where the offer is spooled
spooled-plain : (dest : Dest) (buffer : BufferSetup) (o : Offer) → dest.setup.buffer ≡ Some buffer → same_verdict Spooled (verdict_of false (sink_of false dest) o) ≡ spools (sink_of false dest) o
spooled-plain dest buffer o b = rw b (spooled-if _ o.flow)

-- what an offer leaves of the trial
trial-then : (i next : ℕ) (buffer : BufferSetup) (dest : Dest) (c : Claim) (v : Verdict) → dest.setup.buffer ≡ Some buffer → IsSplit dest → verdict_of false (sink_of false dest) c.offer ≡ v
    → trial_of buffer (sink_of false (take_offer (origin_of i next c) c.offer v dest)) ≡ tried c.offer.flow (encoded_len c.offer.message) (trial_of buffer (sink_of false dest))
trial-then i next buffer dest c v b split is =
    let o = c.offer in
    let sink = sink_of false dest in
    let offered_then = offering dest false false (origin_of i next c) o split in
    let trial = trying buffer sink i (next + c.place) o (block_of_offer dest.setup.buffer i c.end o) b refl in
    let seen : sink_of false (take_offer (origin_of i next c) o (verdict_of false sink o) dest) ≡ offered false i (next + c.place) o (block_of_offer dest.setup.buffer i c.end o) (verdict_of false sink o) sink = offered_then.seen in
    subst (λ (w : Verdict). trial_of buffer (sink_of false (take_offer (origin_of i next c) o w dest)) ≡ tried o.flow (encoded_len o.message) (trial_of buffer sink)) is (ap (trial_of buffer) seen ∙ trial.after)

split-plain : (i next : ℕ) (dest : Dest) (c : Claim) (v : Verdict) → IsSplit dest → verdict_of false (sink_of false dest) c.offer ≡ v → IsSplit (take_offer (origin_of i next c) c.offer v dest)
split-plain i next dest c v split is =
    let offered_then = offering dest false false (origin_of i next c) c.offer split in
    subst (λ (w : Verdict). IsSplit (take_offer (origin_of i next c) c.offer w dest)) is offered_then.split

would-hit : (d i next : ℕ) (buffer : BufferSetup) (dest : Dest) (c : Claim) (cs : List Claim) (b : Bool) (ks : List BufferedEntry) → (c.offer.dest == d) ≡ true → b ≡ same_verdict Spooled (disk_verdict buffer dest.left false c.offer)
    → ks ≡ would_spool d i next buffer (take_offer (origin_of i next c) c.offer (disk_verdict buffer dest.left false c.offer) dest) cs → (if b then kept_from i c ∷ ks else ks) ≡ would_spool d i next buffer dest (c ∷ cs)
would-hit d i next buffer dest c cs b ks h e r = rw (h, e, r) refl

would-miss : (d i next : ℕ) (buffer : BufferSetup) (dest : Dest) (c : Claim) (cs : List Claim) → (c.offer.dest == d) ≡ false → would_spool d i next buffer dest cs ≡ would_spool d i next buffer dest (c ∷ cs)
would-miss d i next buffer dest c cs h = rw h refl

pub would-takes : (d i next : ℕ) (buffer : BufferSetup) (dest : Dest) (cs : List Claim) → dest.setup.buffer ≡ Some buffer → IsSplit dest → takes_all d i (trial_of buffer (sink_of false dest)) cs ≡ would_spool d i next buffer dest cs
would-takes d i next buffer dest [] b split = refl
would-takes d i next buffer dest (c ∷ cs) b split =
    let o = c.offer in
    let n = encoded_len o.message in
    let sink = sink_of false dest in
    let t = trial_of buffer sink in
    let v = disk_verdict buffer dest.left false o in
    let dest_then = take_offer (origin_of i next c) o v dest in
    let later = takes_all d i (tried o.flow n t) cs in
    elim (cases_eq o.dest d) [
      | inl e ↦ (
          let hit : (o.dest == d) ≡ true = grind arith in
          let is = plain-verdict dest buffer o b split in
          let trial = trying buffer sink i (next + c.place) o None b refl in
          let takes : takes_in n t ≡ same_verdict Spooled v = trial.takes ∙ sym (spooled-plain dest buffer o b) ∙ ap (same_verdict Spooled) is in
          let deep = would-takes d i next buffer dest_then cs (same-buffer (origin_of i next c) o v dest ∙ b) (split-plain i next dest c v split is) in
          let rest : later ≡ would_spool d i next buffer dest_then cs = ap (λ (u : Trial). takes_all d i u cs) (sym (trial-then i next buffer dest c v b split is)) ∙ deep in
          sym (then-if (o.dest == d) (if takes_in n t then kept_from i c ∷ later else later) (takes_all d i t cs) hit)
          ∙ would-hit d i next buffer dest c cs (takes_in n t) later hit takes rest)
      | inr ne ↦ (
          let miss : (o.dest == d) ≡ false = grind arith in
          sym (else-if (o.dest == d) (if takes_in n t then kept_from i c ∷ later else later) (takes_all d i t cs) miss)
          ∙ would-takes d i next buffer dest cs b split ∙ would-miss d i next buffer dest c cs miss)
    ]

-- its trial stands among those of all destinations
trial-found : (dests : List Dest) (failed : List ℕ) (d : ℕ) (dest : Dest) (buffer : BufferSetup) → slice_get dests d ≡ Some dest → dest.setup.buffer ≡ Some buffer → is_listed buffer.store failed ≡ false
    → trial_at (map trial_in (sinks_at failed dests)) d ≡ Some (trial_of buffer (sink_of false dest))
trial-found dests failed d dest buffer there b l =
    let sink = slice_get-map (λ (x : Dest). sink_of (is_listed_in x.setup.buffer failed) x) dests d dest there in
    let trial = slice_get-map trial_in (sinks_at failed dests) d (sink_of (is_listed_in dest.setup.buffer failed) dest) sink in
    rw trial (rw b (rw l refl))

pub tried-by : (i next : ℕ) (dests : List Dest) (failed : List ℕ) (cs : List Claim) (d : ℕ) (dest : Dest) (buffer : BufferSetup) → slice_get dests d ≡ Some dest → dest.setup.buffer ≡ Some buffer → is_listed buffer.store failed ≡ false
    → IsSplit dest → Tried i next dests failed cs d dest buffer
tried-by i next dests failed cs d dest buffer there b l split =
    let sinks = sinks_at failed dests in
    let found = trial-found dests failed d dest buffer there b l in
    let same = would-takes d i next buffer dest cs b split in
    record {
      taken = taken-takes d i (buffers_of sinks) (map trial_in sinks) (trial_of buffer (sink_of false dest)) cs found ∙ same;
      fits = subst (λ (ks : List BufferedEntry). FitAll buffer.capacity (space (lengths_of dest.left)) ks) same (fit-all d i (trial_of buffer (sink_of false dest)) cs);
    }

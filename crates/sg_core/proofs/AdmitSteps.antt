-- An admit is an event of the machine, from each state that the core may be at.
use Rattle.std.proofs.Common.{◌≡◌, ◌≢◌, ℕ, ◌+◌, ◌-◌, ◌<◌, ◌≤◌, List, [], ◌∷◌, ◌++◌, length, Option, Some, None, Bool, true, false, refl, sym, ap, ◌∙◌, arith, suc, zero, map, slice_get, subst, inl, inr, ◌⊎◌}
use Rattle.std.proofs.lemmas.Bool.{false_from_ne_true}
use Rattle.std.proofs.lemmas.List.{append-nil}
use Rattle.sg_list.specs.Lists.{change}
use Rattle.sg_list.proofs.ListLemmas.{some-same, slice_get-some, slice_get-below, slice_get-map}
use Rattle.sg_counter.specs.Bringing.{AllMayEnter}
use Rattle.sg_machine.specs.declared.event.Admission.{Admission}
use Rattle.sg_machine.specs.declared.event.Verdict.{Verdict}
use Rattle.sg_machine.specs.declared.setup.BufferSetup.{BufferSetup}
use Rattle.sg_machine.specs.declared.state.Dest.{Dest}
use Rattle.sg_machine.specs.declared.state.State.{State}
use Rattle.sg_machine.specs.Effects.{next_of}
use Rattle.sg_machine.specs.Runs.{BufferedEntry}
use Rattle.sg_machine.specs.Safe.{would_spool}
use Rattle.sg_machine.specs.Verdicts.{Claim, claims_of, is_listed}
use Rattle.sg_sinks.specs.Fitting.{space}
use Rattle.sg_sinks.specs.Laws.{is_listed_in}
use Rattle.sg_sinks.specs.Standing.{sink_of, lengths_of}
use Rattle.sg_sinks.specs.States.{SinkState}
use Rattle.sg_stores.specs.Stores.{StoreState, length_of}
use Rattle.sg_offers.specs.Answering.{fails_at, sinks_after, verdicts_from, begun_of}
use Rattle.sg_offers.specs.Batches.{sinks_at, WouldFail}
use Rattle.sg_offers.specs.Payloads.{buffers_of, buffer_at, trial_in, trial_at, payloads_of, taken_at, FitAll, AllSpellable, ArePayloadsSpelled}
use Rattle.sg_offers.specs.declared.batch.Payload.{Payload}
use Rattle.sg_offers.proofs.PayloadLemmas.{length-payloads}
use Rattle.sg_offers.proofs.TrySteps.{tried-by as tried-hold}
use Rattle.sg_standing.specs.Sources.{begun_all}
use Rattle.sg_standing.specs.States.{CoreState}
use Rattle.sg_standing.specs.Standing.{IsAt, AreApart, IsBufferOf, sinks_of, buffer_in}
use Rattle.sg_core.specs.Admits.{AreApartBuffers, blocks_for, AppendedBlocks, AppendedAll}
use Rattle.sg_core.specs.Steps.{AreNext}
use Rattle.sg_core.proofs.AdmitDests.{length-taken, are-next, untried}

-- all that an admit has done, where the next record of the inlet has this number
pub record Admitting (old new : CoreState) (i next : ℕ) (records : List Admission) (vs : List Verdict) (fails : List Bool) (payloads : List Payload) : Type 0 where
  pub some : 0 < length records
  pub few : length records ≤ 1000
  pub enter : AllMayEnter (length old.sinks) records
  pub payloads_are : payloads ≡ payloads_of i old.sinks (claims_of records)
  pub spelled : ArePayloadsSpelled i (claims_of records) payloads
  pub kept : AllSpellable i (buffers_of old.sinks) (claims_of records)
  pub appended : AppendedAll old.stores new.stores (buffers_of old.sinks) payloads fails
  pub sinks : new.sinks ≡ sinks_after fails i next old.sinks (claims_of records)
  pub verdicts : vs ≡ verdicts_from fails i next old.sinks (claims_of records)
  pub sources : new.sources ≡ change old.sources i (begun_all (begun_of records vs))

-- The disk-buffers of a state.

buffer-found : (failed : List ℕ) (dests : List Dest) (d : ℕ) (x : BufferSetup) → buffer_at (buffers_of (sinks_at failed dests)) d ≡ Some x → buffer_in dests d ≡ Some x.store
buffer-found failed [] d x h = let wrong : None ≡ Some x = h in cc
buffer-found failed (y ∷ dests) zero x h = rw h refl
buffer-found failed (y ∷ dests) (suc d) x h = buffer-found failed dests d x h

pub buffer-at-dest : (failed : List ℕ) (dests : List Dest) (d : ℕ) (dest : Dest) (buffer : BufferSetup) → slice_get dests d ≡ Some dest → dest.setup.buffer ≡ Some buffer → buffer_at (buffers_of (sinks_at failed dests)) d ≡ Some buffer
buffer-at-dest failed [] d dest buffer there has = let wrong : None ≡ Some dest = there in cc
buffer-at-dest failed (y ∷ dests) zero dest buffer there has = ap (λ (x : Dest). x.setup.buffer) (some-same y dest there) ∙ has
buffer-at-dest failed (y ∷ dests) (suc d) dest buffer there has = buffer-at-dest failed dests d dest buffer there has

pub buffer-seen : (failed : List ℕ) (dests : List Dest) (d : ℕ) (dest : Dest) → slice_get dests d ≡ Some dest → buffer_at (buffers_of (sinks_at failed dests)) d ≡ dest.setup.buffer
buffer-seen failed [] d dest there = let wrong : None ≡ Some dest = there in cc
buffer-seen failed (y ∷ dests) zero dest there = ap (λ (x : Dest). x.setup.buffer) (some-same y dest there)
buffer-seen failed (y ∷ dests) (suc d) dest there = buffer-seen failed dests d dest there

-- a destination with a disk-buffer, or none there
pub record BackedAt (dests : List Dest) (d : ℕ) : Type 0 where
  pub dest : Dest
  pub buffer : BufferSetup
  pub there : slice_get dests d ≡ Some dest
  pub has : dest.setup.buffer ≡ Some buffer

backed-by : (dests : List Dest) (x : Dest) (b : Option BufferSetup) → x.setup.buffer ≡ b → (b ≡ None) ⊎ BackedAt (x ∷ dests) 0
backed-by dests x None e = inl refl
backed-by dests x (Some buffer) e = inr (record { dest = x; buffer = buffer; there = refl; has = e })

pub backed-or : (failed : List ℕ) (dests : List Dest) (d : ℕ) → (buffer_at (buffers_of (sinks_at failed dests)) d ≡ None) ⊎ BackedAt dests d
backed-or failed [] d = inl refl
backed-or failed (x ∷ dests) zero = backed-by dests x x.setup.buffer refl
backed-or failed (x ∷ dests) (suc d) = elim (backed-or failed dests d) [
  | inl e ↦ inl e
  | inr b ↦ inr (record { dest = b.dest; buffer = b.buffer; there = b.there; has = b.has })
]

pub apart-buffers : (s : State) → AreApart s → AreApartBuffers (buffers_of (sinks_of s))
apart-buffers s apart d e a b ha hb same = apart.dests d e a.store (buffer-found s.failed s.dests d a ha) (buffer-found s.failed s.dests e b hb ∙ ap Some (sym same))

-- one destination, with its store before and after
pub record DestOf (old new : CoreState) (s : State) (fails : List Bool) (payloads : List Payload) (d : ℕ) (dest : Dest) (buffer : BufferSetup) : Type 0 where
  pub was : StoreState
  pub now : StoreState
  pub was_there : slice_get old.stores buffer.store ≡ Some was
  pub now_there : slice_get new.stores buffer.store ≡ Some now
  pub is : IsBufferOf was buffer dest (is_listed buffer.store s.failed)
  pub appended : AppendedBlocks was now (blocks_for (buffers_of old.sinks) buffer.store payloads) (fails_at fails d)

found-by : (stores : List StoreState) (s : ℕ) (k : ℕ) → s < k → length stores ≡ k → (store : StoreState) × (slice_get stores s ≡ Some store)
found-by stores s k l n = slice_get-some stores s (omega arith)

pub dest-of : (old new : CoreState) (s : State) (i next : ℕ) (records : List Admission) (vs : List Verdict) (fails : List Bool) (payloads : List Payload) (d : ℕ) (dest : Dest) (buffer : BufferSetup) → Admitting old new i next records vs fails payloads → IsAt old s
    → slice_get s.dests d ≡ Some dest → dest.setup.buffer ≡ Some buffer → DestOf old new s fails payloads d dest buffer
dest-of old new s i next records vs fails payloads d dest buffer adm at there has =
    let b = at.buffers d dest buffer there has in
    let below = slice_get-below old.stores buffer.store b.store b.there in
    let count = (adm.appended).all_go.count in
    let now = slice_get-some new.stores buffer.store (omega (arith, below, count)) in
    let found : buffer_at (buffers_of old.sinks) d ≡ Some buffer = ap (λ (ks : List SinkState). buffer_at (buffers_of ks) d) at.sinks ∙ buffer-at-dest s.failed s.dests d dest buffer there has in
    record { was = b.store; now = now.0; was_there = b.there; now_there = now.1; is = b.is; appended = (adm.appended).each d buffer b.store now.0 found b.there now.1 }

-- what it takes, where its store works
pub record TakesOf (old new : CoreState) (s : State) (i : ℕ) (claims : List Claim) (payloads : List Payload) (d : ℕ) (dest : Dest) (buffer : BufferSetup) (was now : StoreState) (blocks : List (Option (List ℕ))) : Type 0 where
  pub count : length (would_spool d i (next_of s i) buffer dest claims) ≡ length blocks
  pub next : AreNext was [] blocks (would_spool d i (next_of s i) buffer dest claims)

pub takes-of : (old new : CoreState) (s : State) (i : ℕ) (records : List Admission) (vs : List Verdict) (fails : List Bool) (payloads : List Payload) (d : ℕ) (dest : Dest) (buffer : BufferSetup) (adm : Admitting old new i (next_of s i) records vs fails payloads) (at : IsAt old s)
    (there : slice_get s.dests d ≡ Some dest) (has : dest.setup.buffer ≡ Some buffer) → (x : DestOf old new s fails payloads d dest buffer) → x.was.failed ≡ false
    → TakesOf old new s i (claims_of records) payloads d dest buffer x.was x.now (blocks_for (buffers_of old.sinks) buffer.store payloads)
takes-of old new s i records vs fails payloads d dest buffer adm at there has x works =
    let claims = claims_of records in
    let sinks = sinks_of s in
    let listed : is_listed buffer.store s.failed ≡ false = sym (x.is).failed_is ∙ works in
    let tried = tried-hold i (next_of s i) s.dests s.failed claims d dest buffer there has listed (at.sound.split d dest there) in
    let is : payloads ≡ payloads_of i sinks claims = adm.payloads_are ∙ ap (λ (ks : List SinkState). payloads_of i ks claims) at.sinks in
    let taken : taken_at d i claims payloads ≡ would_spool d i (next_of s i) buffer dest claims = ap (taken_at d i claims) is ∙ tried.taken in
    let found : buffer_at (buffers_of sinks) d ≡ Some buffer = buffer-at-dest s.failed s.dests d dest buffer there has in
    let len : length claims ≡ length payloads = sym (ap length is ∙ length-payloads i (buffers_of sinks) (map trial_in sinks) claims) in
    let apart = apart-buffers s at.sound.apart in
    let same : blocks_for (buffers_of old.sinks) buffer.store payloads ≡ blocks_for (buffers_of sinks) buffer.store payloads = ap (λ (ks : List SinkState). blocks_for (buffers_of ks) buffer.store payloads) at.sinks in
    let count = sym (ap length taken) ∙ length-taken (buffers_of sinks) d i buffer claims payloads apart found len ∙ ap length (sym same) in
    let no_more : space (lengths_of dest.left) ≡ space (lengths_of dest.left ++ map length_of []) = ap space (sym (append-nil (lengths_of dest.left))) in
    let fits = subst (λ (n : ℕ). FitAll buffer.capacity n (taken_at d i claims payloads)) no_more (subst (FitAll buffer.capacity (space (lengths_of dest.left))) (sym taken) tried.fits) in
    let next = are-next (buffers_of sinks) d i buffer x.was [] buffer.capacity (lengths_of dest.left) claims payloads apart found ((x.is).sized works) len adm.spelled fits in
    record {
      count = count;
      next = subst (λ (bs : List (Option (List ℕ))). AreNext x.was [] bs (would_spool d i (next_of s i) buffer dest claims)) (sym same) (subst (λ (ks : List BufferedEntry). AreNext x.was [] (blocks_for (buffers_of sinks) buffer.store payloads) ks) taken next);
    }

-- A store that is said to fail would spool.

pub is-nil : {A : Type 0} (xs : List A) → (xs ≡ []) ⊎ (xs ≢ [])
is-nil [] = inl refl
is-nil (x ∷ xs) = inr (λ h. let wrong : x ∷ xs ≡ [] = h in cc)

long-of : {A : Type 0} (xs : List A) → xs ≢ [] → 0 < length xs
long-of [] h = absurd (h refl)
long-of (x ∷ xs) h = omega arith

pub none-long : {A : Type 0} (xs : List A) → length xs ≡ 0 → xs ≡ []
none-long [] h = refl
none-long (x ∷ xs) h = absurd (omega arith)

-- a store that has failed before takes nothing
pub broken-takes : (s : State) (i : ℕ) (claims : List Claim) (d : ℕ) (dest : Dest) (buffer : BufferSetup) → slice_get s.dests d ≡ Some dest → dest.setup.buffer ≡ Some buffer → is_listed buffer.store s.failed ≡ true
    → taken_at d i claims (payloads_of i (sinks_of s) claims) ≡ []
broken-takes s i claims d dest buffer there has l =
    let sinks = sinks_of s in
    let sink = slice_get-map (λ (x : Dest). sink_of (is_listed_in x.setup.buffer s.failed) x) s.dests d dest there in
    let trial = slice_get-map trial_in sinks d (sink_of (is_listed_in dest.setup.buffer s.failed) dest) sink in
    let none : trial_at (map trial_in sinks) d ≡ None = rw trial (rw has (rw l refl)) in
    untried d i (buffers_of sinks) (map trial_in sinks) claims none

-- as many blocks are staged as entries are taken
pub staged-count : (old new : CoreState) (s : State) (i next : ℕ) (records : List Admission) (vs : List Verdict) (fails : List Bool) (payloads : List Payload) (d : ℕ) (dest : Dest) (buffer : BufferSetup) → Admitting old new i next records vs fails payloads → IsAt old s
    → slice_get s.dests d ≡ Some dest → dest.setup.buffer ≡ Some buffer → length (taken_at d i (claims_of records) (payloads_of i (sinks_of s) (claims_of records))) ≡ length (blocks_for (buffers_of old.sinks) buffer.store payloads)
staged-count old new s i next records vs fails payloads d dest buffer adm at there has =
    let claims = claims_of records in
    let sinks = sinks_of s in
    let is : payloads ≡ payloads_of i sinks claims = adm.payloads_are ∙ ap (λ (ks : List SinkState). payloads_of i ks claims) at.sinks in
    let len : length claims ≡ length payloads = sym (ap length is ∙ length-payloads i (buffers_of sinks) (map trial_in sinks) claims) in
    let found = buffer-at-dest s.failed s.dests d dest buffer there has in
    ap (λ (ps : List Payload). length (taken_at d i claims ps)) (sym is) ∙ length-taken (buffers_of sinks) d i buffer claims payloads (apart-buffers s at.sound.apart) found len
    ∙ ap (λ (ks : List SinkState). length (blocks_for (buffers_of ks) buffer.store payloads)) (sym at.sinks)

-- where a store is said to fail it worked, and something was staged
pub record FailingAdmit (s : State) (i : ℕ) (claims : List Claim) (d : ℕ) (buffer : BufferSetup) (blocks : List (Option (List ℕ))) : Type 0 where
  pub worked : is_listed buffer.store s.failed ≡ false
  pub staged : blocks ≢ []

pub failing-of : (old new : CoreState) (s : State) (i next : ℕ) (records : List Admission) (vs : List Verdict) (fails : List Bool) (payloads : List Payload) (d : ℕ) (dest : Dest) (buffer : BufferSetup) → Admitting old new i next records vs fails payloads → IsAt old s
    → slice_get s.dests d ≡ Some dest → dest.setup.buffer ≡ Some buffer → DestOf old new s fails payloads d dest buffer → fails_at fails d ≡ true → FailingAdmit s i (claims_of records) d buffer (blocks_for (buffers_of old.sinks) buffer.store payloads)
failing-of old new s i next records vs fails payloads d dest buffer adm at there has x f =
    let blocks = blocks_for (buffers_of old.sinks) buffer.store payloads in
    let staged : blocks ≢ [] = λ e. (let wrong : true ≡ false = sym f ∙ (x.appended).quiet e in cc) in
    record {
      staged = staged;
      worked = false_from_ne_true (is_listed buffer.store s.failed) (λ l.
          let none = ap length (broken-takes s i (claims_of records) d dest buffer there has l) in
          let count = staged-count old new s i next records vs fails payloads d dest buffer adm at there has in
          staged (none-long blocks (omega arith)));
    }

would-fail-at : (old new : CoreState) (s : State) (i : ℕ) (records : List Admission) (vs : List Verdict) (fails : List Bool) (payloads : List Payload) → Admitting old new i (next_of s i) records vs fails payloads → IsAt old s
    → (d : ℕ) → fails_at fails d ≡ true → (dest : Dest) (buffer : BufferSetup) → slice_get s.dests d ≡ Some dest → dest.setup.buffer ≡ Some buffer → DestOf old new s fails payloads d dest buffer → WouldFail i (sinks_of s) (claims_of records) d
would-fail-at old new s i records vs fails payloads adm at d f dest buffer there has x =
    let sink = slice_get-map (λ (y : Dest). sink_of (is_listed_in y.setup.buffer s.failed) y) s.dests d dest there in
    let failing = failing-of old new s i (next_of s i) records vs fails payloads d dest buffer adm at there has x f in
    let count = staged-count old new s i (next_of s i) records vs fails payloads d dest buffer adm at there has in
    let long = long-of (blocks_for (buffers_of old.sinks) buffer.store payloads) failing.staged in
    record {
      sink = sink_of (is_listed_in dest.setup.buffer s.failed) dest;
      buffer = buffer;
      there = sink;
      has = has;
      works = ap (λ (b : Option BufferSetup). is_listed_in b s.failed) has ∙ failing.worked;
      some = omega arith;
    }

pub would-fail : (old new : CoreState) (s : State) (i : ℕ) (records : List Admission) (vs : List Verdict) (fails : List Bool) (payloads : List Payload) → Admitting old new i (next_of s i) records vs fails payloads → IsAt old s
    → (d : ℕ) → fails_at fails d ≡ true → WouldFail i (sinks_of s) (claims_of records) d
would-fail old new s i records vs fails payloads adm at d f =
    let sinks = sinks_of s in
    let claims = claims_of records in
    let same = ap (λ (ks : List SinkState). buffer_at (buffers_of ks) d) at.sinks in
    elim (backed-or s.failed s.dests d) [
      | inl none ↦ absurd (let wrong : true ≡ false = sym f ∙ (adm.appended).unbacked d (same ∙ none) in cc)
      | inr some ↦ (
          let x = dest-of old new s i (next_of s i) records vs fails payloads d some.dest some.buffer adm at some.there some.has in
          would-fail-at old new s i records vs fails payloads adm at d f some.dest some.buffer some.there some.has x)
    ]

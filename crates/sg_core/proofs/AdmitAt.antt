-- What a core keeps of the state after an admit.
use Rattle.std.proofs.Common.{◌≡◌, ◌≢◌, ℕ, ◌+◌, ◌-◌, ◌^◌, ◌<◌, ◌≤◌, List, [], ◌∷◌, ◌++◌, length, Option, Some, None, Bool, true, false, ◌||◌, refl, sym, ap, ◌∙◌, arith, suc, map, slice_get, subst, inl, inr, ◌⊎◌}
use Rattle.std.specs.Prelude.{◌==◌, nat_lt, nat_le}
use Rattle.std.specs.Option.{option_map_or}
use Rattle.std.specs.List.{list_all}
use Rattle.std.proofs.lemmas.Bool.{cases_lt, lt-ltb, le-leb, false_from_ne_true, or_parts}
use Rattle.std.proofs.lemmas.List.{append-nil, length-append, length-map, map-append}
use Rattle.sg_list.specs.Lists.{change, passes_at}
use Rattle.sg_list.proofs.ListLemmas.{some-same, length-change, slice_get-some, slice_get-none, slice_get-below, get-change, map-kept}
use Rattle.sg_counter.specs.Bringing.{MayEnter, AllMayEnter, store_in}
use Rattle.sg_machine.specs.declared.event.Act.TheVariants.{Admit}
use Rattle.sg_machine.specs.declared.event.Admission.{Admission}
use Rattle.sg_machine.specs.declared.event.Verdict.{Verdict}
use Rattle.sg_machine.specs.declared.setup.BufferSetup.{BufferSetup}
use Rattle.sg_machine.specs.declared.setup.DestSetup.{DestSetup}
use Rattle.sg_machine.specs.declared.setup.SourceSetup.{SourceSetup}
use Rattle.sg_machine.specs.declared.state.Dest.{Dest}
use Rattle.sg_machine.specs.declared.state.InletRecords.{InletRecords}
use Rattle.sg_machine.specs.declared.state.State.{State}
use Rattle.sg_machine.specs.Effects.{next_of, ends_of, admitted, after_act}
use Rattle.sg_machine.specs.Legal.{is_same_list, is_admissible, may_admit, is_legal_act}
use Rattle.sg_machine.specs.Marks.{outstanding_of}
use Rattle.sg_machine.specs.Running.{owed, ends_at, records_from}
use Rattle.sg_machine.specs.Runs.{BufferedEntry}
use Rattle.sg_machine.specs.Safe.{spooled_of, spooled_offers, would_spool, appends}
use Rattle.sg_machine.specs.Verdicts.{Claim, claims_of, origin_of, is_listed, judged, take_offer, take_claim, take_claims}
use Rattle.sg_machine.proofs.BatchLemmas.{working-appends}
use Rattle.sg_machine.proofs.RecordLemmas.{admits, number-ends}
use Rattle.sg_sinks.specs.Standing.{lengths_of}
use Rattle.sg_sinks.specs.States.{SinkState}
use Rattle.sg_stores.specs.Stores.{StoreState, HasBufferSize, HoldsEntries, length_of}
use Rattle.sg_offers.specs.Answering.{fails_at, sinks_after, verdicts_from, failing_in, begun_of}
use Rattle.sg_offers.specs.Batches.{sinks_at}
use Rattle.sg_offers.specs.Laws.{Judged}
use Rattle.sg_offers.specs.Payloads.{buffers_of, buffer_at}
use Rattle.sg_offers.specs.declared.batch.Payload.{Payload}
use Rattle.sg_offers.proofs.BegunSteps.{begun-by}
use Rattle.sg_offers.proofs.ClaimLemmas.{within-from}
use Rattle.sg_offers.proofs.FailSteps.{judged-all}
use Rattle.sg_offers.proofs.JudgeSteps.{listed-append}
use Rattle.sg_standing.specs.Sources.{begun_all}
use Rattle.sg_standing.specs.States.{CoreState}
use Rattle.sg_standing.specs.Standing.{IsAt, IsSoundState, HoldsPosition, IsStoredPosition, ArePositionsStored, IsBacked, AreBacked, AreSpellable, sinks_of, sources_from, setups_of, buffer_in}
use Rattle.sg_standing.proofs.Calls.{apart-both, store_in-of}
use Rattle.sg_core.specs.Admits.{blocks_for, AppendedBlocks}
use Rattle.sg_core.specs.Steps.{AreNext}
use Rattle.sg_core.proofs.AdmitDests.{GrowsByAdmit, grown, lengths-spooled, spellable-claims}
use Rattle.sg_core.proofs.AdmitSources.{sources-more}
use Rattle.sg_core.proofs.AdmitSteps.{Admitting, DestOf, dest-of, takes-of, would-fail, is-nil, none-long, buffer-at-dest, buffer-seen, backed-or, staged-count, broken-takes}

length-sinks : (failed : List ℕ) (dests : List Dest) → length (sinks_at failed dests) ≡ length dests
length-sinks failed [] = refl
length-sinks failed (x ∷ dests) = ap suc (length-sinks failed dests)

length-claims-taken : (i next : ℕ) (ds : List Dest) (cs : List Claim) (vs : List Verdict) → length (take_claims i next ds cs vs) ≡ length ds
length-claims-taken i next ds [] vs = refl
length-claims-taken i next ds (c ∷ cs) [] = refl
length-claims-taken i next ds (c ∷ cs) (v ∷ vs) = length-claims-taken i next (take_claim i next ds c v) cs vs ∙ length-change ds c.offer.dest (take_offer (origin_of i next c) c.offer v)

-- The verdicts.

pub admit-judged : (old new : CoreState) (s : State) (i : ℕ) (records : List Admission) (vs : List Verdict) (fails : List Bool) (payloads : List Payload) → Admitting old new i (next_of s i) records vs fails payloads → IsAt old s
    → Judged fails i (next_of s i) s.dests s.failed (claims_of records) vs (failing_in fails i (next_of s i) old.sinks (claims_of records))
admit-judged old new s i records vs fails payloads adm at =
    let claims = claims_of records in
    let n = next_of s i in
    let count : length old.sinks ≡ length s.dests = ap length at.sinks ∙ length-sinks s.failed s.dests in
    let enter = subst (λ (k : ℕ). AllMayEnter k records) count adm.enter in
    let all = judged-all fails i n s.dests s.failed claims at.sound.split at.sound.apart.dests (within-from (length s.dests) 0 records enter) (would-fail old new s i records vs fails payloads adm at) in
    let verdicts : verdicts_from fails i n (sinks_of s) claims ≡ vs = sym (adm.verdicts ∙ ap (λ (ks : List SinkState). verdicts_from fails i n ks claims) at.sinks) in
    subst (λ (ks : List SinkState). Judged fails i n s.dests s.failed claims vs (failing_in fails i n ks claims)) (sym at.sinks)
    (subst (λ (ws : List Verdict). Judged fails i n s.dests s.failed claims ws (failing_in fails i n (sinks_of s) claims)) verdicts all)

-- It is legal.

same-list : (xs : List ℕ) → is_same_list xs xs ≡ true
same-list [] = refl
same-list (x ∷ xs) = let r = same-list xs in let e : (x == x) ≡ true = grind arith in rw (e, r) refl

all-open : (count : ℕ) (records : List Admission) → AllMayEnter count records → list_all is_admissible records ≡ true
all-open count [] h = refl
all-open count (r ∷ rs) h =
    let first : MayEnter count r = h.0 in
    let a : nat_lt r.end (2 ^ 63) ≡ true = lt-ltb r.end (2 ^ 63) first.end in
    let b : nat_le (length r.offers) 1024 ≡ true = le-leb (length r.offers) 1024 first.few in
    rw (a, b) (all-open count rs h.1)

pub legal-admit : (s : State) (i : ℕ) (inlet : InletRecords) (records : List Admission) (vs : List Verdict) (newly : List ℕ) (count : ℕ) → slice_get s.inlets i ≡ Some inlet → 0 < length records → length records ≤ 1000
    → outstanding_of s.dests i inlet + length records ≤ inlet.setup.window → AllMayEnter count records → judged i (next_of s i) newly s.dests s.failed (claims_of records) vs ≡ Some (s.failed ++ newly) → is_legal_act s (Admit i records vs) newly ≡ true
legal-admit s i inlet records vs newly count there some few credit enter right =
    let a : nat_lt 0 (length records) ≡ true = lt-ltb 0 (length records) some in
    let b : nat_le (length records) 1000 ≡ true = le-leb (length records) 1000 few in
    let c : nat_le (outstanding_of s.dests i inlet + length records) inlet.setup.window ≡ true = le-leb (outstanding_of s.dests i inlet + length records) inlet.setup.window credit in
    let d = all-open count records enter in
    let may : may_admit s i records inlet ≡ true = rw (a, b, c, d) refl in
    let passes : passes_at s.inlets i (may_admit s i records) ≡ true = rw there may in
    rw (passes, right) (same-list (s.failed ++ newly))

-- The state is sound.

setups-admit : (inlets : List InletRecords) (i : ℕ) (records : List Admission) → setups_of (change inlets i (admitted records)) ≡ setups_of inlets
setups-admit inlets i records = map-kept (λ (x : InletRecords). x.setup) (admitted records) inlets i (λ x. refl)

buffers-after : (i next : ℕ) (ds : List Dest) (cs : List Claim) (vs : List Verdict) (d : ℕ) → buffer_in (take_claims i next ds cs vs) d ≡ buffer_in ds d
buffers-after i next ds cs vs d =
    elim (cases_lt d (length ds)) [
      | inl l ↦ (
          let x = slice_get-some ds d l in
          let g = grown i next ds cs vs d x.0 x.1 in
          rw (g.there, x.1) (ap (λ (z : DestSetup). option_map_or (λ (b : BufferSetup). Some b.store) z.buffer None) g.grows.setup))
      | inr m ↦ (
          let count = length-claims-taken i next ds cs vs in
          let none = slice_get-none ds d m in
          let none_then = slice_get-none (take_claims i next ds cs vs) d (omega (arith, m, count)) in
          rw (none, none_then) refl)
    ]

unmoved-admit : (inlets : List InletRecords) (i : ℕ) (records : List Admission) → 0 < length records → ((j : ℕ) (x : InletRecords) → slice_get inlets j ≡ Some x → x.ends ≡ [] → x.stored ≡ x.opening)
    → (j : ℕ) (y : InletRecords) → slice_get (change inlets i (admitted records)) j ≡ Some y → y.ends ≡ [] → y.stored ≡ y.opening
unmoved-admit inlets i records some all j y g none =
    let r = get-change inlets i j (admitted records) y g in
    elim r.2 [
      | inl p ↦ (
          let ends : (r.0).ends ++ ends_of records ≡ [] = ap (λ (x : InletRecords). x.ends) (sym p.1) ∙ none in
          let len = ap length ends in
          let sum = length-append (r.0).ends (ends_of records) in
          let count = length-map records (λ (a : Admission). a.end) in
          absurd (omega arith))
      | inr p ↦ (
          let E : InletRecords → Type 0 = λ x. x.ends ≡ [] in
          let S : InletRecords → Type 0 = λ x. x.stored ≡ x.opening in
          subst S (sym p.1) (all j r.0 r.1 (subst E p.1 none)))
    ]

-- what is known of an admit at a state
pub record AdmitsAt (old new : CoreState) (s : State) (i : ℕ) (inlet : InletRecords) (records : List Admission) (vs : List Verdict) (fails : List Bool) (payloads : List Payload) (newly : List ℕ) : Type 0 where
  pub admitting : Admitting old new i (next_of s i) records vs fails payloads
  pub at : IsAt old s
  pub there : slice_get s.inlets i ≡ Some inlet
  pub judged_so : Judged fails i (next_of s i) s.dests s.failed (claims_of records) vs newly
  pub legal : is_legal_act s (Admit i records vs) newly ≡ true

number-of : (s : State) (i : ℕ) (inlet : InletRecords) → slice_get s.inlets i ≡ Some inlet → next_of s i ≡ length inlet.ends
number-of s i inlet there = rw there refl

pub sound-admit : (old new : CoreState) (s : State) (i : ℕ) (inlet : InletRecords) (records : List Admission) (vs : List Verdict) (fails : List Bool) (payloads : List Payload) (newly : List ℕ) → AdmitsAt old new s i inlet records vs fails payloads newly
    → IsSoundState (after_act s (Admit i records vs) newly)
sound-admit old new s i inlet records vs fails payloads newly a =
    let n = next_of s i in
    let cs = claims_of records in
    let sound = a.at.sound in
    let num : n + 0 ≡ length (ends_at s.inlets i) = (let e = number-ends s.inlets i in omega arith) in
    let all = admits s i n 0 newly inlet records vs sound.replayed a.there num in
    let apart = sound.apart in
    record {
      replayed = all.sound (s.failed ++ newly) a.judged_so.right;
      split = a.judged_so.split;
      spellable = λ d later there.
          let below = slice_get-below (take_claims i n s.dests cs vs) d later there in
          let count = length-claims-taken i n s.dests cs vs in
          let was = slice_get-some s.dests d (omega (arith, below, count)) in
          let g = grown i n s.dests cs vs d was.0 was.1 in
          let same : g.new ≡ later = some-same g.new later (sym g.there ∙ there) in
          let setup : later.setup ≡ was.0.setup = ap (λ (z : Dest). z.setup) (sym same) ∙ g.grows.setup in
          let seen : buffer_at (buffers_of old.sinks) d ≡ was.0.setup.buffer = ap (λ (ks : List SinkState). buffer_at (buffers_of ks) d) a.at.sinks ∙ buffer-seen s.failed s.dests d was.0 was.1 in
          let spells = subst (λ (b : Option BufferSetup). AreSpellable b was.0.left) (sym seen) (sound.spellable d was.0 was.1) in
          subst (λ (b : Option BufferSetup). AreSpellable b later.left) (seen ∙ ap (λ (z : DestSetup). z.buffer) (sym setup)) (spellable-claims i n (buffers_of old.sinks) s.dests cs vs d was.0 later a.admitting.kept was.1 spells there);
      unmoved = unmoved-admit s.inlets i records a.admitting.some sound.unmoved;
      apart = record {
        inlets = λ j k u hj hk. apart.inlets j k u (ap (λ (xs : List SourceSetup). store_in xs j) (sym (setups-admit s.inlets i records)) ∙ hj) (ap (λ (xs : List SourceSetup). store_in xs k) (sym (setups-admit s.inlets i records)) ∙ hk);
        dests = λ d e u hd he. apart.dests d e u (sym (buffers-after i n s.dests cs vs d) ∙ hd) (sym (buffers-after i n s.dests cs vs e) ∙ he);
        both = λ j d u hj hd. apart.both j d u (ap (λ (xs : List SourceSetup). store_in xs j) (sym (setups-admit s.inlets i records)) ∙ hj) (sym (buffers-after i n s.dests cs vs d) ∙ hd);
      };
    }

pub sources-admit : (old new : CoreState) (s : State) (i : ℕ) (inlet : InletRecords) (records : List Admission) (vs : List Verdict) (fails : List Bool) (payloads : List Payload) (newly : List ℕ) → AdmitsAt old new s i inlet records vs fails payloads newly
    → new.sources ≡ sources_from (after_act s (Admit i records vs) newly).dests 0 (after_act s (Admit i records vs) newly).inlets
sources-admit old new s i inlet records vs fails payloads newly a =
    let n = next_of s i in
    let num = number-of s i inlet a.there in
    let ends = number-ends s.inlets i in
    let b = begun-by i n newly s.dests s.failed records vs (s.failed ++ newly) a.at.sound.replayed.split a.judged_so.right in
    let none : (k : ℕ) → n ≤ k → owed s.dests i k ≡ 0 = λ k l. a.at.sound.replayed.admitted i k (omega arith) in
    let begun : records_from (take_claims i n s.dests (claims_of records) vs) i (length inlet.ends) (ends_of records) ≡ begun_of records vs = subst (λ (k : ℕ). records_from (take_claims i n s.dests (claims_of records) vs) i k (ends_of records) ≡ begun_of records vs) num (b.begun none) in
    a.admitting.sources ∙ ap (λ xs. change xs i (begun_all (begun_of records vs))) a.at.sources
    ∙ sym (sources-more s.dests (take_claims i n s.dests (claims_of records) vs) 0 i i s.inlets inlet records (begun_of records vs) (omega arith) a.there b.others (λ k l. b.before k (omega arith)) begun)

-- Position stores stay.

pub store-stays : (old new : CoreState) (s : State) (i : ℕ) (inlet : InletRecords) (records : List Admission) (vs : List Verdict) (fails : List Bool) (payloads : List Payload) (newly : List ℕ) (j u : ℕ) (x : InletRecords) → AdmitsAt old new s i inlet records vs fails payloads newly
    → slice_get s.inlets j ≡ Some x → x.setup.store ≡ Some u → slice_get new.stores u ≡ slice_get old.stores u
store-stays old new s i inlet records vs fails payloads newly j u x a there has =
    a.admitting.appended.others u (λ d buffer b e.
    let found : buffer_at (buffers_of (sinks_of s)) d ≡ Some buffer = ap (λ (ks : List SinkState). buffer_at (buffers_of ks) d) (sym a.at.sinks) ∙ b in
    elim (backed-or s.failed s.dests d) [
      | inl none ↦ (let wrong : None ≡ Some buffer = sym none ∙ found in cc)
      | inr k ↦ (
          let same : k.buffer ≡ buffer = some-same k.buffer buffer (sym (buffer-at-dest s.failed s.dests d k.dest k.buffer k.there k.has) ∙ found) in
          apart-both s j d u x k.dest k.buffer a.at.sound.apart there has k.there k.has (sym e ∙ ap (λ (y : BufferSetup). y.store) (sym same)))
    ])

store-unlisted : (old new : CoreState) (s : State) (i : ℕ) (inlet : InletRecords) (records : List Admission) (vs : List Verdict) (fails : List Bool) (payloads : List Payload) (newly : List ℕ) (j u : ℕ) (x : InletRecords) → AdmitsAt old new s i inlet records vs fails payloads newly
    → slice_get s.inlets j ≡ Some x → x.setup.store ≡ Some u → is_listed u newly ≡ false
store-unlisted old new s i inlet records vs fails payloads newly j u x a there has =
    false_from_ne_true (is_listed u newly) (λ l.
    let o = a.judged_so.only u l in
    a.at.sound.apart.both j o.0 u (store_in-of s.inlets j x there ∙ has) o.1)

or-end : (b : Bool) → (b || false) ≡ b
or-end true = refl
or-end false = refl

stored-by : (old new : CoreState) (s : State) (fails : List Bool) (newly : List ℕ) (j : ℕ) (x : InletRecords) (store : Option ℕ) → IsAt old s → slice_get s.inlets j ≡ Some x → x.setup.store ≡ store
    → ((u : ℕ) → x.setup.store ≡ Some u → slice_get new.stores u ≡ slice_get old.stores u) → ((u : ℕ) → x.setup.store ≡ Some u → is_listed u newly ≡ false)
    → IsStoredPosition old.stores s.failed store x.stored → IsStoredPosition new.stores (s.failed ++ newly) store x.stored
stored-by old new s fails newly j x None at there has stays none h = h
stored-by old new s fails newly j x (Some u) at there has stays none h =
    let listed : is_listed u (s.failed ++ newly) ≡ is_listed u s.failed = listed-append u s.failed newly ∙ ap (λ (b : Bool). is_listed u s.failed || b) (none u has) ∙ or-end (is_listed u s.failed) in
    subst (λ (o : Option StoreState). HoldsPosition o x.stored (is_listed u (s.failed ++ newly))) (sym (stays u has)) (subst (λ (b : Bool). HoldsPosition (slice_get old.stores u) x.stored b) (sym listed) h)

pub stores-admit : (old new : CoreState) (s : State) (i : ℕ) (inlet : InletRecords) (records : List Admission) (vs : List Verdict) (fails : List Bool) (payloads : List Payload) (newly : List ℕ) → AdmitsAt old new s i inlet records vs fails payloads newly
    → ArePositionsStored new.stores (s.failed ++ newly) (change s.inlets i (admitted records))
stores-admit old new s i inlet records vs fails payloads newly a = λ j y g.
    let r = get-change s.inlets i j (admitted records) y g in
    let x = r.0 in
    let setup : y.setup ≡ x.setup = elim r.2 [ inl p ↦ ap (λ (z : InletRecords). z.setup) p.1 | inr p ↦ ap (λ (z : InletRecords). z.setup) p.1 ] in
    let stored : y.stored ≡ x.stored = elim r.2 [ inl p ↦ ap (λ (z : InletRecords). z.stored) p.1 | inr p ↦ ap (λ (z : InletRecords). z.stored) p.1 ] in
    let before = a.at.stores j x r.1 in
    let place : IsStoredPosition new.stores (s.failed ++ newly) x.setup.store x.stored = stored-by old new s fails newly j x x.setup.store a.at r.1 refl (λ u e. store-stays old new s i inlet records vs fails payloads newly j u x a r.1 e)
    (λ u e. store-unlisted old new s i inlet records vs fails payloads newly j u x a r.1 e) before in
    subst (λ (p : SourceSetup). IsStoredPosition new.stores (s.failed ++ newly) p.store y.stored) (sym setup) (subst (λ (w : ℕ). IsStoredPosition new.stores (s.failed ++ newly) x.setup.store w) (sym stored) place)

-- Disk-buffers.

-- while the store works, all that it takes is spooled
pub spooled-takes : (old new : CoreState) (s : State) (i : ℕ) (inlet : InletRecords) (records : List Admission) (vs : List Verdict) (fails : List Bool) (payloads : List Payload) (newly : List ℕ) (d : ℕ) (dest : Dest) (buffer : BufferSetup) → AdmitsAt old new s i inlet records vs fails payloads newly
    → slice_get s.dests d ≡ Some dest → dest.setup.buffer ≡ Some buffer → is_listed buffer.store newly ≡ false → is_listed buffer.store s.failed ≡ false
    → spooled_offers d i (claims_of records) vs ≡ would_spool d i (next_of s i) buffer dest (claims_of records)
spooled-takes old new s i inlet records vs fails payloads newly d dest buffer a there has l k =
    working-appends s i records vs newly d dest buffer a.legal there has l k ∙ rw has refl

-- the store works before and after
record Working (old new : CoreState) (s : State) (fails : List Bool) (newly : List ℕ) (d : ℕ) (buffer : BufferSetup) (was : StoreState) : Type 0 where
  before : was.failed ≡ false
  listed_before : is_listed buffer.store s.failed ≡ false
  listed_now : is_listed buffer.store newly ≡ false

-- where something was staged the store worked
pub staged-worked : (old new : CoreState) (s : State) (i : ℕ) (inlet : InletRecords) (records : List Admission) (vs : List Verdict) (fails : List Bool) (payloads : List Payload) (newly : List ℕ) (d : ℕ) (dest : Dest) (buffer : BufferSetup) → AdmitsAt old new s i inlet records vs fails payloads newly
    → slice_get s.dests d ≡ Some dest → dest.setup.buffer ≡ Some buffer → DestOf old new s fails payloads d dest buffer → blocks_for (buffers_of old.sinks) buffer.store payloads ≢ [] → is_listed buffer.store s.failed ≡ false
staged-worked old new s i inlet records vs fails payloads newly d dest buffer a there has x ne =
    false_from_ne_true (is_listed buffer.store s.failed) (λ l.
    let none = ap length (broken-takes s i (claims_of records) d dest buffer there has l) in
    let count = staged-count old new s i (next_of s i) records vs fails payloads d dest buffer a.admitting a.at there has in
    ne (none-long (blocks_for (buffers_of old.sinks) buffer.store payloads) (omega arith)))

fails-of : (old new : CoreState) (s : State) (i : ℕ) (inlet : InletRecords) (records : List Admission) (vs : List Verdict) (fails : List Bool) (payloads : List Payload) (newly : List ℕ) (d : ℕ) (dest : Dest) (buffer : BufferSetup) → AdmitsAt old new s i inlet records vs fails payloads newly
    → slice_get s.dests d ≡ Some dest → dest.setup.buffer ≡ Some buffer → (x : DestOf old new s fails payloads d dest buffer) → x.now.failed ≡ is_listed buffer.store (s.failed ++ newly)
fails-of old new s i inlet records vs fails payloads newly d dest buffer a there has x =
    let blocks = blocks_for (buffers_of old.sinks) buffer.store payloads in
    let listed = listed-append buffer.store s.failed newly in
    let now = a.judged_so.listed d dest buffer there has in
    elim (is-nil blocks) [
      | inl e ↦ (
          let quiet : is_listed buffer.store newly ≡ false = now ∙ x.appended.quiet e in
          ap (λ (y : StoreState). y.failed) (x.appended.none e) ∙ x.is.failed_is ∙ sym (listed ∙ ap (λ (b : Bool). is_listed buffer.store s.failed || b) quiet ∙ or-end (is_listed buffer.store s.failed)))
      | inr ne ↦ (
          let worked = staged-worked old new s i inlet records vs fails payloads newly d dest buffer a there has x ne in
          sym (x.appended.some ne) ∙ sym now ∙ sym (listed ∙ ap (λ (b : Bool). b || is_listed buffer.store newly) worked))
    ]

working-of : (old new : CoreState) (s : State) (i : ℕ) (inlet : InletRecords) (records : List Admission) (vs : List Verdict) (fails : List Bool) (payloads : List Payload) (newly : List ℕ) (d : ℕ) (dest : Dest) (buffer : BufferSetup) → AdmitsAt old new s i inlet records vs fails payloads newly
    → slice_get s.dests d ≡ Some dest → dest.setup.buffer ≡ Some buffer → (x : DestOf old new s fails payloads d dest buffer) → x.now.failed ≡ false → Working old new s fails newly d buffer x.was
working-of old new s i inlet records vs fails payloads newly d dest buffer a there has x works =
    let both = or_parts (is_listed buffer.store s.failed) (is_listed buffer.store newly) (sym (listed-append buffer.store s.failed newly) ∙ sym (fails-of old new s i inlet records vs fails payloads newly d dest buffer a there has x) ∙ works) in
    record { before = x.is.failed_is ∙ both.0; listed_before = both.0; listed_now = both.1 }

sized-dest : (was now : StoreState) (blocks : List (Option (List ℕ))) (fails : Bool) (ks : List BufferedEntry) (capacity : ℕ) (lengths : List ℕ) → (blocks ≡ []) ⊎ (blocks ≢ []) → length ks ≡ length blocks → AreNext was [] blocks ks → AppendedBlocks was now blocks fails
    → was.failed ≡ false → now.failed ≡ false → HasBufferSize capacity lengths was.buffer → HasBufferSize capacity (lengths ++ map length_of ks) now.buffer
sized-dest was now blocks fails ks capacity lengths (inl e) count next h before works size =
    let none : ks ≡ [] = none-long ks (count ∙ ap length e) in
    rw (none, append-nil lengths, h.none e) size
sized-dest was now blocks fails ks capacity lengths (inr ne) count next h before works size = (h.appends ks count ne before next).sized works capacity lengths size

holds-dest : (was now : StoreState) (blocks : List (Option (List ℕ))) (fails : Bool) (ks list : List BufferedEntry) → (blocks ≡ []) ⊎ (blocks ≢ []) → length ks ≡ length blocks → AreNext was [] blocks ks → AppendedBlocks was now blocks fails
    → was.failed ≡ false → now.failed ≡ false → HoldsEntries was list [] → HoldsEntries now (list ++ ks) []
holds-dest was now blocks fails ks list (inl e) count next h before works holds =
    let none : ks ≡ [] = none-long ks (count ∙ ap length e) in
    rw (none, append-nil list, h.none e) holds
holds-dest was now blocks fails ks list (inr ne) count next h before works holds = (h.appends ks count ne before next).holds works list holds

backed-dest : (old new : CoreState) (s : State) (i : ℕ) (inlet : InletRecords) (records : List Admission) (vs : List Verdict) (fails : List Bool) (payloads : List Payload) (newly : List ℕ) (d : ℕ) (dest : Dest) (buffer : BufferSetup) (later : Dest) → AdmitsAt old new s i inlet records vs fails payloads newly
    → slice_get s.dests d ≡ Some dest → dest.setup.buffer ≡ Some buffer → GrowsByAdmit dest later (spooled_offers d i (claims_of records) vs) → IsBacked new.stores (s.failed ++ newly) buffer later
backed-dest old new s i inlet records vs fails payloads newly d dest buffer later a there has grows =
    let x = dest-of old new s i (next_of s i) records vs fails payloads d dest buffer a.admitting a.at there has in
    let ks = would_spool d i (next_of s i) buffer dest (claims_of records) in
    let blocks = blocks_for (buffers_of old.sinks) buffer.store payloads in
    record {
      store = x.now;
      there = x.now_there;
      is = record {
        failed_is = fails-of old new s i inlet records vs fails payloads newly d dest buffer a there has x;
        sized = λ works.
            let w = working-of old new s i inlet records vs fails payloads newly d dest buffer a there has x works in
            let spools = spooled-takes old new s i inlet records vs fails payloads newly d dest buffer a there has w.listed_now w.listed_before in
            let t = takes-of old new s i records vs fails payloads d dest buffer a.admitting a.at there has x w.before in
            let lengths : lengths_of later.left ≡ lengths_of dest.left ++ map length_of ks =
            lengths-spooled later.left ∙ ap (map length_of) (grows.spooled ∙ ap (λ (js : List BufferedEntry). spooled_of dest.left ++ js) spools) ∙ map-append length_of (spooled_of dest.left) ks ∙ ap (λ (ns : List ℕ). ns ++ map length_of ks) (sym (lengths-spooled dest.left)) in
            subst (λ (ns : List ℕ). HasBufferSize buffer.capacity ns x.now.buffer) (sym lengths) (sized-dest x.was x.now blocks (fails_at fails d) ks buffer.capacity (lengths_of dest.left) (is-nil blocks) t.count t.next x.appended w.before works (x.is.sized w.before));
        works = λ works.
            let w = working-of old new s i inlet records vs fails payloads newly d dest buffer a there has x works in
            let spools = spooled-takes old new s i inlet records vs fails payloads newly d dest buffer a there has w.listed_now w.listed_before in
            let t = takes-of old new s i records vs fails payloads d dest buffer a.admitting a.at there has x w.before in
            let entries : spooled_of later.left ≡ spooled_of dest.left ++ ks = grows.spooled ∙ ap (λ (js : List BufferedEntry). spooled_of dest.left ++ js) spools in
            subst (λ (js : List BufferedEntry). HoldsEntries x.now js []) (sym entries) (holds-dest x.was x.now blocks (fails_at fails d) ks (spooled_of dest.left) (is-nil blocks) t.count t.next x.appended w.before works (x.is.works w.before));
      };
    }

pub backed-admit : (old new : CoreState) (s : State) (i : ℕ) (inlet : InletRecords) (records : List Admission) (vs : List Verdict) (fails : List Bool) (payloads : List Payload) (newly : List ℕ) → AdmitsAt old new s i inlet records vs fails payloads newly
    → AreBacked new.stores (s.failed ++ newly) (take_claims i (next_of s i) s.dests (claims_of records) vs)
backed-admit old new s i inlet records vs fails payloads newly a = λ d later buffer there has.
    let cs = claims_of records in
    let below = slice_get-below (take_claims i (next_of s i) s.dests cs vs) d later there in
    let count = length-claims-taken i (next_of s i) s.dests cs vs in
    let was = slice_get-some s.dests d (omega (arith, below, count)) in
    let g = grown i (next_of s i) s.dests cs vs d was.0 was.1 in
    let same : g.new ≡ later = some-same g.new later (sym g.there ∙ there) in
    let grows = subst (λ (y : Dest). GrowsByAdmit was.0 y (spooled_offers d i cs vs)) same g.grows in
    let buffer_was : was.0.setup.buffer ≡ Some buffer = ap (λ (z : DestSetup). z.buffer) (sym grows.setup) ∙ has in
    backed-dest old new s i inlet records vs fails payloads newly d was.0 buffer later a was.1 buffer_was grows

-- All of it.

pub at-admit : (old new : CoreState) (s : State) (i : ℕ) (inlet : InletRecords) (records : List Admission) (vs : List Verdict) (fails : List Bool) (payloads : List Payload) (newly : List ℕ) → AdmitsAt old new s i inlet records vs fails payloads newly
    → IsAt new (after_act s (Admit i records vs) newly)
at-admit old new s i inlet records vs fails payloads newly a = record {
  sound = sound-admit old new s i inlet records vs fails payloads newly a;
  sources = sources-admit old new s i inlet records vs fails payloads newly a;
  sinks = a.admitting.sinks ∙ ap (λ (ks : List SinkState). sinks_after fails i (next_of s i) ks (claims_of records)) a.at.sinks ∙ sym a.judged_so.seen;
  stores = stores-admit old new s i inlet records vs fails payloads newly a;
  buffers = backed-admit old new s i inlet records vs fails payloads newly a;
}

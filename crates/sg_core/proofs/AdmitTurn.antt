-- An admit, by what its calls leave.
use Rattle.std.proofs.Common.{◌≡◌, ℕ, ◌+◌, ◌-◌, ◌^◌, ◌<◌, ◌≤◌, List, [], ◌∷◌, length, Some, None, Bool, false, refl, sym, ap, ◌∙◌, arith, suc, zero, map, drop, slice_get, subst, inl, inr, ◌⊎◌}
use Rattle.sg_list.specs.Lists.{change}
use Rattle.sg_list.proofs.ListLemmas.{some-same, slice_get-below}
use Rattle.sg_counter.specs.Bringing.{AllMayEnter, IsBatch}
use Rattle.sg_window.specs.declared.tracker.BegunRecord.{BegunRecord}
use Rattle.sg_machine.specs.declared.event.Act.TheVariants.{Admit}
use Rattle.sg_machine.specs.declared.event.Admission.{Admission}
use Rattle.sg_machine.specs.declared.event.Verdict.{Verdict}
use Rattle.sg_machine.specs.declared.setup.BufferSetup.{BufferSetup}
use Rattle.sg_machine.specs.declared.state.State.{State}
use Rattle.sg_machine.specs.Verdicts.{claims_of}
use Rattle.sg_sinks.specs.States.{SinkState, Sunk}
use Rattle.sg_offers.specs.Answering.{fails_at, sinks_after, verdicts_from, begun_of}
use Rattle.sg_offers.specs.Payloads.{buffers_of, buffer_at, trial_in, payloads_of, AllSpellable, AreSmall, ArePayloadsSpelled}
use Rattle.sg_offers.specs.Rooms.{seen_in, AreTo}
use Rattle.sg_offers.specs.declared.batch.Payload.{Payload}
use Rattle.sg_offers.proofs.ClaimLemmas.{within-from}
use Rattle.sg_offers.proofs.PayloadLemmas.{payloads-to}
use Rattle.sg_standing.specs.Sources.{HasCredit, begun_all}
use Rattle.sg_standing.specs.States.{CoreState, setup_of}
use Rattle.sg_standing.specs.Standing.{IsAt, DoesAct, sinks_of}
use Rattle.sg_standing.specs.declared.source.Source.{Source}
use Rattle.sg_core.specs.Admits.{HaveStores, AreApartBuffers, AppendedAll}
use Rattle.sg_core.specs.Whole.{IsWholeCore}
use Rattle.sg_core.proofs.AdmitDoes.{admit-does}
use Rattle.sg_core.proofs.AdmitSteps.{Admitting, apart-buffers, buffer-at-dest, BackedAt, backed-or}

-- none fails at first
pub unset-at : {A : Type 0} (xs : List A) (d : ℕ) → fails_at (map (λ (x : A). false) xs) d ≡ false
unset-at [] d = refl
unset-at (x ∷ xs) zero = refl
unset-at (x ∷ xs) (suc d) = unset-at xs d

pub length-unset : {A : Type 0} (xs : List A) → length (map (λ (x : A). false) xs) ≡ length xs
length-unset [] = refl
length-unset (x ∷ xs) = ap suc (length-unset xs)

-- each payload is to a destination that is there
pub all-to : (count i : ℕ) (sinks : List SinkState) (records : List Admission) (payloads : List Payload) → AllMayEnter count records → payloads ≡ payloads_of i sinks (claims_of records) → AreTo count payloads
all-to count i sinks records payloads h e = rw e (payloads-to count i (buffers_of sinks) (map trial_in sinks) (claims_of records) (within-from count 0 records h))

-- the stores are there, and apart
stores-found : (core : CoreState) (s : State) (d : ℕ) (buffer : BufferSetup) → IsAt core s → buffer_at (buffers_of (sinks_of s)) d ≡ Some buffer → (buffer_at (buffers_of (sinks_of s)) d ≡ None) ⊎ BackedAt s.dests d → buffer.store < length core.stores
stores-found core s d buffer at found (inl none) = absurd (let wrong : None ≡ Some buffer = sym none ∙ found in cc)
stores-found core s d buffer at found (inr k) =
    let same : k.buffer ≡ buffer = some-same k.buffer buffer (sym (buffer-at-dest s.failed s.dests d k.dest k.buffer k.there k.has) ∙ found) in
    let b = at.buffers d k.dest k.buffer k.there k.has in
    let below = slice_get-below core.stores k.buffer.store b.store b.there in
    subst (λ (y : BufferSetup). y.store < length core.stores) same below

pub stores-there : (core : CoreState) (s : State) → IsAt core s → HaveStores (buffers_of core.sinks) (length core.stores)
stores-there core s at = λ d buffer b.
    let found : buffer_at (buffers_of (sinks_of s)) d ≡ Some buffer = ap (λ (ks : List SinkState). buffer_at (buffers_of ks) d) (sym at.sinks) ∙ b in
    stores-found core s d buffer at found (backed-or s.failed s.dests d)

pub stores-apart : (core : CoreState) (s : State) → IsAt core s → AreApartBuffers (buffers_of core.sinks)
stores-apart core s at = subst (λ (ks : List SinkState). AreApartBuffers (buffers_of ks)) (sym at.sinks) (apart-buffers s at.sound.apart)

-- credit
pub credit-for : (sources : List Source) (i n : ℕ) (source : Source) → slice_get sources i ≡ Some source → 0 < n → n ≤ source.tracker.limit - length source.tracker.waiting → source.tracker.begun + n ≤ 2 ^ 63 → HasCredit (slice_get sources i) n
credit-for sources i n source h some credit few = rw h (omega arith, few)

pub length-seen : (sinks : List Sunk) → length (seen_in sinks) ≡ length sinks
length-seen [] = refl
length-seen (k ∷ sinks) = ap suc (length-seen sinks)

length-setups : (sinks : List SinkState) → length (map (λ (k : SinkState). k.setup) sinks) ≡ length sinks
length-setups [] = refl
length-setups (k ∷ sinks) = ap suc (length-setups sinks)

pub enter-of : (sinks : List SinkState) (count : ℕ) (records : List Admission) → AllMayEnter (length (map (λ (k : SinkState). k.setup) sinks)) records → length sinks ≡ count → AllMayEnter count records
enter-of sinks count records h n = subst (λ (k : ℕ). AllMayEnter k records) (length-setups sinks ∙ n) h

pub length-begun : (records : List Admission) (vs : List Verdict) → length (begun_of records vs) ≡ length records
length-begun [] vs = refl
length-begun (r ∷ rs) vs = ap suc (length-begun rs (drop (length r.offers) vs))

-- all of an admit's calls, over the destinations with their room
pub record AdmitTurn (old new : CoreState) (i next : ℕ) (source : Source) (records : List Admission) (vs : List Verdict) (begun : List BegunRecord) (roomy : List SinkState) (payloads read : List Payload) (fails used : List Bool) : Type 0 where
  pub there : slice_get old.sources i ≡ Some source
  pub next_is : next ≡ source.tracker.begun
  pub room : length records ≤ source.tracker.limit - length source.tracker.waiting
  pub batch : IsBatch (setup_of old) records
  pub same : roomy ≡ old.sinks
  pub payloads_are : payloads ≡ payloads_of i old.sinks (claims_of records)
  pub spelled : AreSmall (buffers_of old.sinks) → ArePayloadsSpelled i (claims_of records) payloads
  pub kept : AllSpellable i (buffers_of old.sinks) (claims_of records)
  pub read_is : read ≡ payloads
  pub appended : AppendedAll old.stores new.stores (buffers_of roomy) read fails
  pub used_is : used ≡ fails
  pub sinks : new.sinks ≡ sinks_after used i next roomy (claims_of records)
  pub verdicts : vs ≡ verdicts_from used i next roomy (claims_of records)
  pub begun_are : begun ≡ begun_of records (verdicts_from used i next roomy (claims_of records))
  pub sources : new.sources ≡ change old.sources i (begun_all begun)
  pub calls : new.calls ≡ old.calls + 1

admitting-of : (old new : CoreState) (i next : ℕ) (source : Source) (records : List Admission) (vs : List Verdict) (begun : List BegunRecord) (roomy : List SinkState) (payloads read : List Payload) (fails used : List Bool) → AreSmall (buffers_of old.sinks)
    → AdmitTurn old new i next source records vs begun roomy payloads read fails used → Admitting old new i source.tracker.begun records vs fails payloads
admitting-of old new i next source records vs begun roomy payloads read fails used small t = subst (λ (n : ℕ). Admitting old new i n records vs fails payloads) t.next_is (record {
  some = t.batch.some;
  few = t.batch.few;
  enter = enter-of old.sinks (length old.sinks) records t.batch.each refl;
  payloads_are = t.payloads_are;
  spelled = t.spelled small;
  kept = t.kept;
  appended = subst (λ (ks : List SinkState). AppendedAll old.stores new.stores (buffers_of ks) payloads fails) t.same (subst (λ (ps : List Payload). AppendedAll old.stores new.stores (buffers_of roomy) ps fails) t.read_is t.appended);
  sinks = t.sinks ∙ ap (λ (fs : List Bool). sinks_after fs i next roomy (claims_of records)) t.used_is ∙ ap (λ (ks : List SinkState). sinks_after fails i next ks (claims_of records)) t.same;
  verdicts = t.verdicts ∙ ap (λ (fs : List Bool). verdicts_from fs i next roomy (claims_of records)) t.used_is ∙ ap (λ (ks : List SinkState). verdicts_from fails i next ks (claims_of records)) t.same;
  sources = t.sources ∙ ap (λ (bs : List BegunRecord). change old.sources i (begun_all bs)) (t.begun_are ∙ ap (begun_of records) (sym t.verdicts));
})

pub turn-does : (old new : CoreState) (i next : ℕ) (source : Source) (records : List Admission) (vs : List Verdict) (begun : List BegunRecord) (roomy : List SinkState) (payloads read : List Payload) (fails used : List Bool) → IsWholeCore old
    → AdmitTurn old new i next source records vs begun roomy payloads read fails used → DoesAct old new (Admit i records vs)
turn-does old new i next source records vs begun roomy payloads read fails used whole t =
    let some = t.batch.some in
    let room = t.room in
    admit-does old new whole.state i source records vs fails payloads whole.at t.there (omega arith) (admitting-of old new i next source records vs begun roomy payloads read fails used whole.small t) t.calls

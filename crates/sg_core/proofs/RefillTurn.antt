-- A refill, from what its parts did.
use Rattle.std.proofs.Common.{◌≡◌, ◌≢◌, ℕ, ◌+◌, ◌<◌, ◌≤◌, ◌^◌, List, [], ◌∷◌, length, take, Some, None, Option, refl, sym, ap, ◌∙◌, arith, suc, zero, slice_get, subst}
use Rattle.std.specs.Prelude.{option_and_then}
use Rattle.sg_list.specs.Lists.{change}
use Rattle.sg_list.proofs.ListLemmas.{get-change-same, slice_get-map, slice_get-below}
use Rattle.sg_msg.specs.Length.{encoded_len}
use Rattle.sg_queue.specs.declared.entry.Entry.{Entry}
use Rattle.sg_machine.specs.declared.setup.BufferSetup.{BufferSetup}
use Rattle.sg_machine.specs.declared.state.State.{State}
use Rattle.sg_offers.specs.Payloads.{buffers_of}
use Rattle.sg_sinks.specs.Fitting.{space}
use Rattle.sg_sinks.specs.States.{SinkState}
use Rattle.sg_counter.specs.declared.answers.Refill.{Refill}
use Rattle.sg_counter.specs.declared.answers.Refill.TheVariants.{NoneWaits}
use Rattle.sg_standing.specs.States.{CoreState}
use Rattle.sg_standing.specs.Standing.{IsAt}
use Rattle.sg_standing.specs.declared.source.Source.{Source}
use Rattle.sg_core.specs.Answers.{RefillsBy, RefillsAt, buffer_at}
use Rattle.sg_core.specs.Parts.{CanAckAll, CanMove, FitSome, entries_at}
use Rattle.sg_core.specs.Whole.{IsWholeCore}
use Rattle.sg_core.proofs.DestSteps.{dest-of}
use Rattle.sg_core.proofs.SettleCalls.{buffer-of}

pub refills-none : (sinks : List SinkState) (d : ℕ) (sink : SinkState) → slice_get sinks d ≡ Some sink → sink.setup.buffer ≡ None → RefillsAt (slice_get sinks d) (slice_get sinks d) NoneWaits
refills-none sinks d sink there has = rw (there, has) refl

pub refills-some : (olds news : List SinkState) (d : ℕ) (old new : SinkState) (b : BufferSetup) (answer : Refill) → slice_get olds d ≡ Some old → slice_get news d ≡ Some new → old.setup.buffer ≡ Some b → RefillsBy (Some b) old new answer → RefillsAt (slice_get olds d) (slice_get news d) answer
refills-some olds news d old new b answer there get has h = rw (there, get) (subst (λ (o : Option BufferSetup). RefillsBy o old new answer) (sym has) h)

-- a destination that has a disk-buffer
pub no-buffer : (sinks : List SinkState) (d : ℕ) (sink : SinkState) (b : BufferSetup) → slice_get sinks d ≡ Some sink → sink.setup.buffer ≡ Some b → buffer_at sinks d ≡ None → ⊥
no-buffer sinks d sink b there has none =
    let is : Some b ≡ None = sym has ∙ ap (λ o. option_and_then (λ (x : SinkState). x.setup.buffer) o) (sym there) ∙ none in
    cc

pub none-entries : (es : List Entry) (k : ℕ) → k ≡ length es → k ≡ 0 → es ≡ []
none-entries [] k e z = refl
none-entries (x ∷ es) k e z = absurd (omega (arith, e, z))

pub some-entries : (es : List Entry) (k : ℕ) → k ≡ length es → k ≢ 0 → es ≢ []
some-entries [] k e z = absurd (z e)
some-entries (x ∷ es) k e z = λ wrong. cc

-- so many fit, of those that wait
pub fit-few : (n capacity used : ℕ) (es : List Entry) → FitSome n capacity used es → n ≤ length es
fit-few zero capacity used es f = omega arith
fit-few (suc n) capacity used [] f = absurd f
fit-few (suc n) capacity used (e ∷ es) f = let r = fit-few n capacity (used + (5 + encoded_len e.message)) es f.1 in omega (arith, r)

pub some-fit : (n : ℕ) → n ≢ 0 → 0 < n
some-fit zero h = absurd (h refl)
some-fit (suc n) h = omega arith

-- its store is there, and no bigger than others
pub store-there : (core : CoreState) (s : State) (d : ℕ) (sink : SinkState) (b : BufferSetup) → IsAt core s → slice_get core.sinks d ≡ Some sink → sink.setup.buffer ≡ Some b → b.store < length core.stores
store-there core s d sink b at there has =
    let v = dest-of core s d sink at there in
    let store = at.buffers d v.dest b v.there (buffer-of s v.dest sink b v.shown has) in
    slice_get-below core.stores b.store store.store store.there

pub small-there : (core : CoreState) (whole : IsWholeCore core) (d : ℕ) (sink : SinkState) (b : BufferSetup) → slice_get core.sinks d ≡ Some sink → sink.setup.buffer ≡ Some b → b.capacity ≤ 2 ^ 30
small-there core whole d sink b there has =
    let get : slice_get (buffers_of core.sinks) d ≡ Some (Some b) = slice_get-map (λ (x : SinkState). x.setup.buffer) core.sinks d sink there ∙ ap Some has in
    whole.small d b (ap (λ o. option_and_then (λ (x : Option BufferSetup). x) o) get)

pub can-move : (sinks : List SinkState) (d n : ℕ) (sink : SinkState) (b : BufferSetup) → slice_get sinks d ≡ Some sink → sink.setup.buffer ≡ Some b → FitSome n b.capacity (space sink.lengths) sink.entries → CanMove b (slice_get sinks d) n
can-move sinks d n sink b there has fits = rw there (has, fits)

pub entries-there : (sinks : List SinkState) (d n : ℕ) (sink : SinkState) → slice_get sinks d ≡ Some sink → entries_at sinks d n ≡ take n sink.entries
entries-there sinks d n sink there = rw there refl

pub acks-there : (sources : List Source) (sinks : List SinkState) (d n : ℕ) (sink : SinkState) → slice_get sinks d ≡ Some sink → CanAckAll sources (take n sink.entries) → CanAckAll sources (entries_at sinks d n)
acks-there sources sinks d n sink there h = subst (λ (es : List Entry). CanAckAll sources es) (sym (entries-there sinks d n sink there)) h

pub changed-there : (olds news : List SinkState) (d : ℕ) (f : SinkState → SinkState) (sink : SinkState) → slice_get olds d ≡ Some sink → news ≡ change olds d f → slice_get news d ≡ Some (f sink)
changed-there olds news d f sink there e = ap (λ ks. slice_get ks d) e ∙ get-change-same olds d f sink there

-- Fronts, and the stores that they read.
use Rattle.std.proofs.Common.{◌≡◌, ℕ, ◌+◌, ◌-◌, ◌≤◌, List, [], ◌∷◌, ◌++◌, length, Some, None, Option, Bool, true, false, refl, sym, ap, ◌∙◌, map, slice_get, subst, inl}
use Rattle.std.proofs.lemmas.List.{append-nil}
use Rattle.sg_list.specs.Lists.{change}
use Rattle.sg_list.proofs.ListLemmas.{some-same, map-kept}
use Rattle.sg_device.specs.Disk.{DiskLog}
use Rattle.sg_device.specs.Faults.{Rose}
use Rattle.sg_machine.specs.declared.event.Act.TheVariants.{Look}
use Rattle.sg_machine.specs.declared.setup.BufferSetup.{BufferSetup}
use Rattle.sg_machine.specs.declared.state.Dest.{Dest}
use Rattle.sg_machine.specs.declared.state.DestEntry.{DestEntry}
use Rattle.sg_machine.specs.declared.state.State.{State}
use Rattle.sg_machine.specs.Effects.{after_act}
use Rattle.sg_machine.specs.Running.{IsSoundReplay as IsReplayed}
use Rattle.sg_machine.specs.Runs.{BufferedEntry, after_all}
use Rattle.sg_machine.specs.Safe.{spooled_of}
use Rattle.sg_machine.specs.Verdicts.{is_listed}
use Rattle.sg_machine.proofs.MoveLemmas.{change-self}
use Rattle.sg_sinks.specs.Standing.{is_split_by, lengths_of, sink_of}
use Rattle.sg_sinks.specs.States.{SinkState, with_broken}
use Rattle.sg_sinks.proofs.LeftLemmas.{waiting-lengths}
use Rattle.sg_stores.specs.Reading.{HasBufferEntries, CanRead, StoreStays}
use Rattle.sg_stores.specs.Stores.{BufferState, StoreState, StoreGoesOn, HasBufferSize, HoldsIn, HoldsEntries}
use Rattle.sg_standing.specs.States.{CoreState}
use Rattle.sg_standing.specs.Standing.{IsAt, IsBufferOf, DoesAct, is_broken, sources_from}
use Rattle.sg_standing.specs.declared.source.Source.{Source}
use Rattle.sg_standing.proofs.Calls.{does-of, all-go-touched, risen-none, risen-touched, positions-buffer, lists-buffer}
use Rattle.sg_core.specs.Whole.{IsWholeCore}
use Rattle.sg_core.proofs.AtSteps.{look-dest, listed-last, listed-other, setup-parts, setup-same}
use Rattle.sg_core.proofs.DestSteps.{LeavesDest, at-dest, dest-of, leaves-one, broken-listed}
use Rattle.sg_core.proofs.SettleCalls.{working, buffer-of, failed-buffer}
use Rattle.sg_core.proofs.SettleSteps.{with_dests}

-- A store that was read.

pub goes-stays : (old new : StoreState) → StoreStays old new → StoreGoesOn old new
goes-stays old new h = h.goes

holds-faults : (buffer : Option BufferState) (told : Option DiskLog) (f g : ℕ) (list : List BufferedEntry) → HoldsIn buffer (record { told = told; faults = f }) list [] → HoldsIn buffer (record { told = told; faults = g }) list []
holds-faults None told f g list h = absurd h
holds-faults (Some b) told f g list h = record { images = h.images; number = h.number; waits = h.waits }

pub holds-stays : (old new : StoreState) (list : List BufferedEntry) → StoreStays old new → HoldsEntries old list [] → HoldsEntries new list []
holds-stays old new list s h =
    let kept = h.kept in
    let faults = holds-faults old.buffer old.disk.told old.disk.faults new.disk.faults list h.holds in
    let P : Option DiskLog → Type 0 = λ told. HoldsIn old.buffer (record { told = told; faults = new.disk.faults }) list [] in
    let Q : Option BufferState → Type 0 = λ b. HoldsIn b new.disk list [] in
    record { holds = subst Q (sym s.buffer) (subst P (sym s.told) faults); kept = kept }

read-buffer : (dest : Dest) (b : BufferSetup) (was now : StoreState) (broken : Bool) → HasBufferSize b.capacity (lengths_of dest.left) was.buffer → HoldsEntries was (spooled_of dest.left) [] → StoreStays was now → now.failed ≡ false → broken ≡ false → IsBufferOf now b dest broken
read-buffer dest b was now broken sized holds s works is = record {
  failed_is = works ∙ sym is;
  sized = λ w. subst (λ (x : Option BufferState). HasBufferSize b.capacity (lengths_of dest.left) x) (sym s.buffer) sized;
  works = λ w. holds-stays was now (spooled_of dest.left) s holds;
}

-- A look that reads the store of a disk-buffer.

same-dests : (s : State) (d : ℕ) (dest : Dest) → slice_get s.dests d ≡ Some dest → change s.dests d (λ x. x) ≡ s.dests
same-dests s d dest h = change-self s.dests d (λ x. x) dest h refl

replayed-same : (s : State) (ds : List Dest) → ds ≡ s.dests → IsReplayed s → IsReplayed (with_dests ds s)
replayed-same s ds e h = rw e (record { admitted = h.admitted; split = h.split })

pub look-at : (old new : CoreState) (s : State) (d : ℕ) (sink : SinkState) (dest : Dest) (g : SinkState → SinkState) (more : List ℕ) → IsAt old s → slice_get s.dests d ≡ Some dest → sink ≡ sink_of (is_broken s.failed dest) dest → slice_get old.sinks d ≡ Some sink
    → new.sources ≡ old.sources → new.sinks ≡ change old.sinks d g → sink_of (is_broken (s.failed ++ more) dest) dest ≡ g (sink_of (is_broken s.failed dest) dest) → LeavesDest old.stores new.stores s.failed more dest → IsAt new (after_act s Look more)
look-at old new s d sink dest g more at there shown get sources sinks seen leaves =
    let same = same-dests s d dest there in
    let r = at-dest old new s d (λ x. x) dest g more at there (λ x. refl) (at.sound.split d dest there) (at.sound.spellable d dest there) (replayed-same s (change s.dests d (λ x. x)) same at.sound.replayed)
    (sources ∙ at.sources ∙ ap (λ ds. sources_from ds 0 s.inlets) (sym same)) sinks seen leaves in
    subst (λ (ds : List Dest). IsAt new (record s { dests = ds; failed = s.failed ++ more })) same r

same-sinks : (sinks : List SinkState) (d : ℕ) (sink : SinkState) → slice_get sinks d ≡ Some sink → sinks ≡ change sinks d (λ k. k)
same-sinks sinks d sink h = sym (change-self sinks d (λ k. k) sink h refl)

-- the store works then
pub read-does : (old new : CoreState) (d : ℕ) (sink : SinkState) (b : BufferSetup) (was now : StoreState) → slice_get old.sinks d ≡ Some sink → sink.setup.buffer ≡ Some b → sink.broken ≡ false → slice_get old.stores b.store ≡ Some was → new.stores ≡ change old.stores b.store (λ _. now)
    → StoreStays was now → now.failed ≡ false → new.sources ≡ old.sources → new.sinks ≡ old.sinks → new.calls ≡ old.calls + 1 → DoesAct old new Look
read-does old new d sink b was now there has works get others stays fine sources sinks calls =
    does-of old new Look [] (risen-none old.stores new.stores) (all-go-touched old.stores new.stores b.store was now get others (goes-stays was now stays)) calls (setup-same old new sources sinks)
    (λ s at.
    let v = dest-of old s d sink at there in
    let dest = v.dest in
    let had = buffer-of s dest sink b v.shown has in
    let w = working old s d dest b sink was at v.there v.shown had works get in
    let nil = append-nil s.failed in
    let is = read-buffer dest b was now (is_listed b.store (s.failed ++ [])) w.sized w.holds stays fine (ap (is_listed b.store) nil ∙ w.unlisted) in
    let leaves = leaves-one old.stores new.stores s.failed [] dest b was now had get others is (λ u ne. ap (is_listed u) nil) in
    (refl, look-at old new s d sink dest (λ k. k) [] at v.there v.shown there sources (sinks ∙ same-sinks old.sinks d sink there) (ap (λ fs. sink_of (is_broken fs dest) dest) nil) leaves))
    (λ start events h.
    let s = after_all start events in
    let v = dest-of old s d sink h.at there in
    positions-buffer old new.stores start events (record { act = Look; failed = [] }) d v.dest b was now h v.there (buffer-of s v.dest sink b v.shown has) get others)
    (λ start events h.
    let s = after_all start events in
    let v = dest-of old s d sink h.at there in
    lists-buffer old new.stores start events (record { act = Look; failed = [] }) d v.dest b was now h v.there (buffer-of s v.dest sink b v.shown has) get others (inl (record { told = stays.told })))

-- the store fails
pub unread-does : (old new : CoreState) (d : ℕ) (sink : SinkState) (b : BufferSetup) (was now : StoreState) (whole : IsWholeCore old) → slice_get old.sinks d ≡ Some sink → sink.setup.buffer ≡ Some b → sink.broken ≡ false → slice_get old.stores b.store ≡ Some was
    → new.stores ≡ change old.stores b.store (λ _. now) → StoreStays was now → now.failed ≡ true → Rose was.disk.faults now.disk.faults → new.sources ≡ old.sources → new.sinks ≡ change old.sinks d with_broken → new.calls ≡ old.calls + 1 → DoesAct old new Look
unread-does old new d sink b was now whole there has works get others stays fails rose sources sinks calls =
    let u : ℕ = b.store in
    does-of old new Look (u ∷ []) (risen-touched old.stores new.stores u was now get others rose) (all-go-touched old.stores new.stores u was now get others (goes-stays was now stays)) calls
    (setup-parts old new (ap (map (λ (x : Source). x.setup)) sources) (ap (map (λ (x : SinkState). x.setup)) sinks ∙ map-kept (λ (x : SinkState). x.setup) with_broken old.sinks d (λ x. refl)))
    (λ s at.
    let v = dest-of old s d sink at there in
    let dest = v.dest in
    let had = buffer-of s dest sink b v.shown has in
    let w = working old s d dest b sink was at v.there v.shown had works get in
    let listed = listed-last s.failed u in
    let is = failed-buffer dest b now (is_listed u (s.failed ++ u ∷ [])) fails listed in
    let leaves = leaves-one old.stores new.stores s.failed (u ∷ []) dest b was now had get others is (λ x ne. listed-other s.failed u x ne) in
    (look-dest s d dest b v.there had w.unlisted, look-at old new s d sink dest with_broken (u ∷ []) at v.there v.shown there sources sinks (ap (λ x. sink_of x dest) (broken-listed (s.failed ++ u ∷ []) dest b had ∙ listed)) leaves))
    (λ start events h.
    let s = after_all start events in
    let v = dest-of old s d sink h.at there in
    positions-buffer old new.stores start events (record { act = Look; failed = u ∷ [] }) d v.dest b was now h v.there (buffer-of s v.dest sink b v.shown has) get others)
    (λ start events h.
    let s = after_all start events in
    let v = dest-of old s d sink h.at there in
    lists-buffer old new.stores start events (record { act = Look; failed = u ∷ [] }) d v.dest b was now h v.there (buffer-of s v.dest sink b v.shown has) get others (inl (record { told = stays.told })))

-- What may be read.

can-read : (o : Option StoreState) (was : StoreState) (n : ℕ) → o ≡ Some was → HasBufferEntries was n → CanRead o n
can-read None was n e h = let wrong : None ≡ Some was = e in cc
can-read (Some x) was n e h = subst (λ (y : StoreState). HasBufferEntries y n) (sym (some-same x was e)) h

pub can-read-first : (core : CoreState) (s : State) (d n : ℕ) (sink : SinkState) (b : BufferSetup) → IsAt core s → slice_get core.sinks d ≡ Some sink → sink.setup.buffer ≡ Some b → sink.broken ≡ false → n ≤ length sink.lengths → CanRead (slice_get core.stores b.store) n
can-read-first core s d n sink b at there has works l =
    let v = dest-of core s d sink at there in
    let had = buffer-of s v.dest sink b v.shown has in
    let store = at.buffers d v.dest b v.there had in
    let w = working core s d v.dest b sink store.store at v.there v.shown had works store.there in
    let ls : sink.lengths ≡ lengths_of (v.dest).left = ap (λ (z : SinkState). z.lengths) v.shown in
    can-read (slice_get core.stores b.store) store.store n store.there (record { works = w.running; capacity = b.capacity; lengths = lengths_of (v.dest).left; sized = w.sized; enough = subst (λ (ns : List ℕ). n ≤ length ns) ls l })

-- without a disk-buffer none stands on one
none-by : (o : Option BufferSetup) (left : List DestEntry) → o ≡ None → is_split_by o left ≡ true → lengths_of left ≡ []
none-by None left e h = waiting-lengths left h
none-by (Some b) left e h = let wrong : Some b ≡ None = e in cc

pub no-lengths : (core : CoreState) (s : State) (d : ℕ) (sink : SinkState) → IsAt core s → slice_get core.sinks d ≡ Some sink → sink.setup.buffer ≡ None → sink.lengths ≡ []
no-lengths core s d sink at there none =
    let v = dest-of core s d sink at there in
    ap (λ (z : SinkState). z.lengths) v.shown ∙ none-by (v.dest).setup.buffer (v.dest).left (ap (λ (z : SinkState). z.setup.buffer) (sym v.shown) ∙ none) (at.sound.split d v.dest v.there)

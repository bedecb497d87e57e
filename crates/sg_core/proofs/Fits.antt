-- The sources and destinations of a core, beside the state that it is at.
use Rattle.std.proofs.Common.{◌≡◌, ℕ, ◌+◌, ◌-◌, ◌<◌, List, [], ◌∷◌, length, Some, None, Option, Bool, true, false, refl, sym, ap, ◌∙◌, arith, suc, zero, map, slice_get, get_or, subst, if◌then◌else◌}
use Rattle.std.specs.Prelude.{◌==◌}
use Rattle.std.specs.Option.{option_map}
use Rattle.sg_list.proofs.ListLemmas.{some-same, slice_get-below}
use Rattle.sg_window.specs.Window.{outstanding as waiting_of}
use Rattle.sg_window.specs.declared.tracker.BegunRecord.{BegunRecord}
use Rattle.sg_machine.specs.declared.state.DestEntry.{DestEntry}
use Rattle.sg_machine.specs.declared.state.InletRecords.{InletRecords}
use Rattle.sg_machine.specs.declared.state.Dest.{Dest}
use Rattle.sg_machine.specs.declared.state.State.{State}
use Rattle.sg_machine.specs.declared.tally.SourceTally.{SourceTally}
use Rattle.sg_machine.specs.declared.tally.DestTally.{DestTally}
use Rattle.sg_machine.specs.Marks.{outstanding}
use Rattle.sg_machine.specs.Running.{owed, records_from}
use Rattle.sg_machine.specs.Verdicts.{is_listed}
use Rattle.sg_machine.specs.Tallies.{source_tally, source_tallies, dest_tally, tally_of}
use Rattle.sg_machine.proofs.OwedLemmas.{records-length}
use Rattle.sg_machine.proofs.StepLemmas.{acked-owes}
use Rattle.sg_sinks.specs.Standing.{sink_of, lengths_of, waiting_from}
use Rattle.sg_stores.specs.Stores.{StoreState}
use Rattle.sg_stores.specs.Positions.{WritesAt, IsStoreThere, IsPositionStore, position_of, stored_in}
use Rattle.sg_standing.specs.States.{CoreState}
use Rattle.sg_standing.specs.Sources.{credit_of, mark_at, mark_in, begun_in, store_at}
use Rattle.sg_standing.specs.Standing.{HoldsPosition, IsStoredPosition, ArePositionsStored, is_broken, source_of, sources_from, IsAt}
use Rattle.sg_standing.specs.declared.source.Source.{Source}
use Rattle.sg_counter.specs.declared.answers.Stored.{Stored}
use Rattle.sg_core.specs.Tallying.{IsFit, AreFit, source_tally_of, sink_tally_of}
use Rattle.sg_core.specs.Answers.{credit_left, stored_position, AnswersStore}
use Rattle.sg_core.proofs.PositionSteps.{mark-at, behind}
use Rattle.sg_core.proofs.PositionCalls.{store-answers}

-- Each source has its window and its store.

held-below : (stores : List StoreState) (s p : ℕ) (f : Bool) (o : Option StoreState) → slice_get stores s ≡ o → HoldsPosition o p f → s < length stores
held-below stores s p f None e h = absurd h
held-below stores s p f (Some store) e h = slice_get-below stores s store e

there-of : (stores : List StoreState) (failed : List ℕ) (o : Option ℕ) (p : ℕ) → IsStoredPosition stores failed o p → IsStoreThere stores o
there-of stores failed None p h = tt
there-of stores failed (Some s) p h = held-below stores s p (is_listed s failed) (slice_get stores s) refl h

fits-from : (stores : List StoreState) (failed : List ℕ) (ds : List Dest) (i : ℕ) (inlets : List InletRecords) → ArePositionsStored stores failed inlets → AreFit stores (sources_from ds i inlets)
fits-from stores failed ds i [] h = tt
fits-from stores failed ds i (x ∷ inlets) h =
    (record { limit = refl; store = there-of stores failed x.setup.store x.stored (h 0 x refl) }, fits-from stores failed ds (i + 1) inlets (λ k y e. h (suc k) y e))

pub fits : (core : CoreState) (s : State) → IsAt core s → AreFit core.stores core.sources
fits core s at = subst (λ (xs : List Source). AreFit core.stores xs) (sym at.sources) (fits-from core.stores s.failed s.dests 0 s.inlets at.stores)

pub fit-get : (stores : List StoreState) (sources : List Source) (k : ℕ) (source : Source) → AreFit stores sources → slice_get sources k ≡ Some source → IsFit stores source
fit-get stores [] k source h e = let wrong : None ≡ Some source = e in cc
fit-get stores (x ∷ sources) zero source h e = subst (λ (y : Source). IsFit stores y) (some-same x source e) h.0
fit-get stores (x ∷ sources) (suc k) source h e = fit-get stores sources k source h.1 e

pub fit-item : (stores : List StoreState) (sources : List Source) (k : ℕ) (source : Source) → AreFit stores sources → k < length sources → source ≡ get_or sources k source → IsFit stores source
fit-item stores [] k source h l e = absurd (omega arith)
fit-item stores (x ∷ sources) zero source h l e = subst (λ (y : Source). IsFit stores y) (sym e) h.0
fit-item stores (x ∷ sources) (suc k) source h l e = fit-item stores sources k source h.1 (omega arith) e

pub fit-at : (core : CoreState) (s : State) (k : ℕ) (source : Source) → IsAt core s → slice_get core.sources k ≡ Some source → IsFit core.stores source
fit-at core s k source at e = fit-get core.stores core.sources k source (fits core s at) e

position-store : (o : Option StoreState) (p : ℕ) (f : Bool) → HoldsPosition o p f → IsPositionStore o
position-store None p f h = absurd h
position-store (Some store) p f h = h.kind

-- the store of a source is a position store
pub is-position : (core : CoreState) (s : State) (i u : ℕ) (source : Source) → IsAt core s → slice_get core.sources i ≡ Some source → source.setup.store ≡ Some u → IsPositionStore (slice_get core.stores u)
is-position core s i u source at there has =
    let b = behind core s i source at there in
    let store : (b.inlet).setup.store ≡ Some u = ap (λ (x : Source). x.setup.store) (sym b.shown) ∙ has in
    let P : Option ℕ → Type 0 = λ o. IsStoredPosition core.stores s.failed o (b.inlet).stored in
    position-store (slice_get core.stores u) (b.inlet).stored (is_listed u s.failed) (subst P store (at.stores i b.inlet b.there))

-- What a tally shows.

position-held : (o : Option StoreState) (p : ℕ) (f : Bool) → HoldsPosition o p f → position_of o ≡ p
position-held None p f h = absurd h
position-held (Some store) p f h = h.position_is

stored-tally : (stores : List StoreState) (failed : List ℕ) (o : Option ℕ) (p : ℕ) → IsStoredPosition stores failed o p → option_map (λ (_ : ℕ). stored_in stores o) o ≡ option_map (λ (_ : ℕ). p) o
stored-tally stores failed None p h = refl
stored-tally stores failed (Some s) p h = ap Some (position-held (slice_get stores s) p (is_listed s failed) h)

tally-source : (stores : List StoreState) (failed : List ℕ) (ds : List Dest) (i : ℕ) (x : InletRecords) → IsStoredPosition stores failed x.setup.store x.stored → source_tally_of stores (source_of ds i x) ≡ source_tally ds i x
tally-source stores failed ds i x h = rw (mark-at ds i x, stored-tally stores failed x.setup.store x.stored h) refl

tally-sources : (stores : List StoreState) (failed : List ℕ) (ds : List Dest) (i : ℕ) (inlets : List InletRecords) → ArePositionsStored stores failed inlets → map (source_tally_of stores) (sources_from ds i inlets) ≡ source_tallies ds i inlets
tally-sources stores failed ds i [] h = refl
tally-sources stores failed ds i (x ∷ inlets) h =
    let here = tally-source stores failed ds i x (h 0 x refl) in
    let rest = tally-sources stores failed ds (i + 1) inlets (λ k y e. h (suc k) y e) in
    ap (λ t. t ∷ map (source_tally_of stores) (sources_from ds (i + 1) inlets)) here ∙ ap (λ ts. source_tally ds i x ∷ ts) rest

left-cons : (n : ℕ) (e : DestEntry) (es : List DestEntry) (b : Bool) → e.spooled ≡ b → length (lengths_of es) + length (waiting_from n es) ≡ length es → length (lengths_of es) + length (waiting_from (n + 1) es) ≡ length es
    → length (lengths_of (e ∷ es)) + length (waiting_from n (e ∷ es)) ≡ suc (length es)
left-cons n e es true h same more = rw h (omega (arith, same))
left-cons n e es false h same more = rw h (omega (arith, more))

pub left-length : (n : ℕ) (es : List DestEntry) → length (lengths_of es) + length (waiting_from n es) ≡ length es
left-length n [] = refl
left-length n (e ∷ es) = left-cons n e es e.spooled refl (left-length n es) (left-length (n + 1) es)

tally-sinks : (failed : List ℕ) (ds : List Dest) → map sink_tally_of (map (λ (x : Dest). sink_of (is_broken failed x) x) ds) ≡ map dest_tally ds
tally-sinks failed [] = refl
tally-sinks failed (d ∷ ds) = rw (left-length (length d.settled + length (lengths_of d.left)) d.left, tally-sinks failed ds) refl

pub tallies : (core : CoreState) (s : State) (sources : List SourceTally) (dests : List DestTally) → IsAt core s → sources ≡ map (source_tally_of core.stores) core.sources → dests ≡ map sink_tally_of core.sinks
    → record { sources = sources; dests = dests } ≡ tally_of s
tallies core s sources dests at hs hd =
    let a : sources ≡ source_tallies s.dests 0 s.inlets = hs ∙ ap (map (source_tally_of core.stores)) at.sources ∙ tally-sources core.stores s.failed s.dests 0 s.inlets at.stores in
    let b : dests ≡ map dest_tally s.dests = hd ∙ ap (map sink_tally_of) at.sinks ∙ tally-sinks s.failed s.dests in
    rw (a, b) refl

-- The credit and the stored position of an inlet.

outstanding-if : (b : Bool) (r : BegunRecord) (rs : List BegunRecord) (m : ℕ) → (r.left == 0) ≡ b → length (waiting_of rs) ≡ m → length (waiting_of (r ∷ rs)) ≡ (if b then m else suc (length rs))
outstanding-if true r rs m e h = rw e h
outstanding-if false r rs m e h = rw e refl

pub outstanding-same : (ds : List Dest) (i n : ℕ) (ends : List ℕ) → length (waiting_of (records_from ds i n ends)) ≡ outstanding ds i n ends
outstanding-same ds i n [] = refl
outstanding-same ds i n (x ∷ ends) =
    let len = records-length ds i (n + 1) ends in
    outstanding-if (owed ds i n == 0) (record { end = x; left = owed ds i n }) (records_from ds i (n + 1) ends) (outstanding ds i (n + 1) ends) refl (outstanding-same ds i (n + 1) ends)
    ∙ ap (λ k. if owed ds i n == 0 then outstanding ds i (n + 1) ends else suc k) len
    ∙ ap (λ b. if b then outstanding ds i (n + 1) ends else suc (length ends)) (sym (acked-owes ds i n))

pub credit-of : (core : CoreState) (s : State) (i : ℕ) (source : Source) → IsAt core s → slice_get core.sources i ≡ Some source → credit_of source ≡ credit_left s i
credit-of core s i source at h =
    let b = behind core s i source at h in
    rw b.there (ap credit_of b.shown ∙ ap (λ n. (b.inlet).setup.window - n) (outstanding-same s.dests i 0 (b.inlet).ends))

stored-is : (stores : List StoreState) (failed : List ℕ) (o : Option ℕ) (p : ℕ) → IsStoredPosition stores failed o p → stored_in stores o ≡ p
stored-is stores failed None p h = sym h
stored-is stores failed (Some s) p h = position-held (slice_get stores s) p (is_listed s failed) h

pub stored-of : (core : CoreState) (s : State) (i : ℕ) (source : Source) → IsAt core s → slice_get core.sources i ≡ Some source → stored_in core.stores source.setup.store ≡ stored_position s i
stored-of core s i source at h =
    let b = behind core s i source at h in
    rw b.there (ap (λ (x : Source). stored_in core.stores x.setup.store) b.shown ∙ stored-is core.stores s.failed (b.inlet).setup.store (b.inlet).stored (at.stores i b.inlet b.there))

-- What is found at a place.

pub begun-in-of : (xs : List Source) (i : ℕ) (x : Source) → slice_get xs i ≡ Some x → begun_in xs i ≡ x.tracker.begun
begun-in-of xs i x e = rw e refl

pub mark-in-of : (xs : List Source) (i : ℕ) (x : Source) → slice_get xs i ≡ Some x → mark_in xs i ≡ mark_at x
mark-in-of xs i x e = rw e refl

pub store-at-of : (xs : List Source) (i : ℕ) (x : Source) → slice_get xs i ≡ Some x → store_at xs i ≡ x.setup.store
store-at-of xs i x e = rw e refl

-- the write of a position, at the store of a source
pub writes-at : (sources : List Source) (olds news : List StoreState) (i u s w : ℕ) (source : Source) (answer : Stored) → slice_get sources i ≡ Some source → source.setup.store ≡ Some u
    → WritesAt olds news u w answer → store_at sources i ≡ Some s → WritesAt olds news s w answer
writes-at sources olds news i u s w source answer there has writes e =
    let same : u ≡ s = some-same u s (sym has ∙ sym (store-at-of sources i source there) ∙ e) in
    subst (λ (k : ℕ). WritesAt olds news k w answer) same writes

-- the answer of a write, at the store of a source
pub answers-at : (sources : List Source) (olds news : List StoreState) (i u s w : ℕ) (source : Source) (answer : Stored) → slice_get sources i ≡ Some source → source.setup.store ≡ Some u
    → WritesAt olds news u w answer → store_at sources i ≡ Some s → AnswersStore w (slice_get olds s) (slice_get news s) answer
answers-at sources olds news i u s w source answer there has writes e =
    let same : u ≡ s = some-same u s (sym has ∙ sym (store-at-of sources i source there) ∙ e) in
    subst (λ (k : ℕ). AnswersStore w (slice_get olds k) (slice_get news k) answer) same (store-answers olds news u w answer writes)

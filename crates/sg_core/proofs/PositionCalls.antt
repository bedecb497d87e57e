-- Calls that write a position.
use Rattle.std.proofs.Common.{◌≡◌, ◌≢◌, ℕ, ◌+◌, List, [], ◌∷◌, ◌++◌, length, Some, Option, Bool, true, false, refl, sym, ap, ◌∙◌, arith, suc, slice_get, subst, inl, inr, if◌then◌else◌, map}
use Rattle.std.specs.Prelude.{◌==◌, option_to_list}
use Rattle.std.specs.Option.{option_map}
use Rattle.sg_list.specs.Lists.{change}
use Rattle.sg_list.proofs.ListLemmas.{get-change-same, map-kept}
use Rattle.sg_device.specs.Disk.{Within}
use Rattle.sg_machine.specs.declared.event.Act.{Act}
use Rattle.sg_machine.specs.declared.event.Act.TheVariants.{Store, Rewind, Look}
use Rattle.sg_machine.specs.declared.event.Event.{Event}
use Rattle.sg_machine.specs.declared.state.InletRecords.{InletRecords}
use Rattle.sg_machine.specs.declared.state.State.{State}
use Rattle.sg_machine.specs.Verdicts.{is_listed}
use Rattle.sg_machine.specs.Marks.{mark, mark_of}
use Rattle.sg_machine.specs.Legal.{is_nil}
use Rattle.sg_machine.specs.Effects.{after_act}
use Rattle.sg_machine.specs.Runs.{after_all}
use Rattle.sg_machine.specs.Safe.{failed_position, running_position}
use Rattle.sg_counter.specs.declared.answers.Stored.{Stored}
use Rattle.sg_counter.specs.declared.answers.Stored.TheVariants.{Wrote, Unchanged, Broken}
use Rattle.sg_sinks.specs.States.{SinkState}
use Rattle.sg_stores.specs.Stores.{StoreState, StoreGoesOn}
use Rattle.sg_stores.specs.Positions.{IsOld, WritesPosition, FailsToWrite, WritesAt, position_of}
use Rattle.sg_standing.specs.States.{CoreState}
use Rattle.sg_standing.specs.Sources.{mark_at, anew, after_rewind}
use Rattle.sg_standing.specs.Standing.{IsAt, IsPositionOf, IsPositionAt, StandsFor, DoesAct, positions_within}
use Rattle.sg_standing.specs.declared.source.Source.{Source}
use Rattle.sg_standing.proofs.Calls.{does-of, all-go-touched, risen-none, risen-touched, positions-inlet, lists-inlet}
use Rattle.sg_standing.proofs.More.{placed, within-map}
use Rattle.sg_standing.proofs.Still.{one-of-first, one-of-second}
use Rattle.sg_standing.proofs.Unfailed.{position-now}
use Rattle.sg_core.specs.Answers.{store_act, rewind_act, AnswersStore}
use Rattle.sg_core.proofs.AtSteps.{at-parts, setup-parts, setup-same, quiet-look, not-changed}
use Rattle.sg_core.proofs.PositionSteps.{IsBehindPosition, behind, mark-at, stores-mark, rewinds, fails}

-- within a write that succeeds an image has the old position or the new one
written-within : (core : CoreState) (start : State) (events : List Event) (act : Act) (i u w : ℕ) (inlet : InletRecords) (was now : StoreState) → StandsFor core start events
    → slice_get (after_all start events).inlets i ≡ Some inlet → inlet.setup.store ≡ Some u → slice_get core.stores u ≡ Some was → WritesPosition was now w
    → running_position act i ≡ Some w → Within was.disk now.disk (IsPositionOf (positions_within start events (record { act = act; failed = [] }) i inlet))
written-within core start events act i u w inlet was now h there has get writes running =
    let e : Event = record { act = act; failed = [] } in
    let held = placed core (after_all start events) i u inlet was h.at there has get in
    let rest = option_to_list (failed_position start (events ++ e ∷ []) i) in
    let P : Option ℕ → Type 0 = λ r. (c : List ℕ) → IsOld was.position w c → IsPositionOf ((inlet.stored ∷ option_to_list r) ++ rest) c in
    let one : (c : List ℕ) → IsOld was.position w c → IsPositionOf ((inlet.stored ∷ w ∷ []) ++ rest) c =
    λ c q. elim q [
      | inl p ↦ one-of-first inlet.stored was.position (w ∷ rest) c (sym held.position_is) p
      | inr p ↦ one-of-second inlet.stored w rest c p
    ] in
    within-map was.disk now.disk (IsOld was.position w) (IsPositionOf ((inlet.stored ∷ option_to_list (running_position act i)) ++ rest)) (subst P (sym running) one) writes.within

-- and within one that fails
failed-within : (core : CoreState) (start : State) (events : List Event) (i u w : ℕ) (inlet : InletRecords) (was now : StoreState) → StandsFor core start events
    → slice_get (after_all start events).inlets i ≡ Some inlet → inlet.setup.store ≡ Some u → slice_get core.stores u ≡ Some was → was.failed ≡ false → FailsToWrite was now w
    → (if is_nil inlet.ends then 0 else mark_of (after_all start events).dests i inlet) ≡ w → Within was.disk now.disk (IsPositionOf (positions_within start events (record { act = Look; failed = u ∷ [] }) i inlet))
failed-within core start events i u w inlet was now h there has get worked fails value =
    let s = after_all start events in
    let e : Event = record { act = Look; failed = u ∷ [] } in
    let held = placed core s i u inlet was h.at there has get in
    let this : is_listed u (u ∷ []) ≡ true = (let q : (u == u) ≡ true = grind arith in rw q refl) in
    let failed : failed_position start (events ++ e ∷ []) i ≡ Some w = position-now start events e i u inlet h.legal there has (sym held.failed_is ∙ worked) this ∙ ap Some value in
    let P : Option ℕ → Type 0 = λ r. (c : List ℕ) → IsOld was.position w c → IsPositionOf (inlet.stored ∷ option_to_list r) c in
    let one : (c : List ℕ) → IsOld was.position w c → IsPositionOf (inlet.stored ∷ w ∷ []) c =
    λ c q. elim q [
      | inl p ↦ one-of-first inlet.stored was.position (w ∷ []) c (sym held.position_is) p
      | inr p ↦ one-of-second inlet.stored w [] c p
    ] in
    within-map was.disk now.disk (IsOld was.position w) (IsPositionOf (inlet.stored ∷ option_to_list (failed_position start (events ++ e ∷ []) i))) (subst P (sym failed) one) (fails.now worked)

-- the store of a source
store-of-behind : (core : CoreState) (s : State) (i u : ℕ) (source : Source) (b : IsBehindPosition core s i source) → source.setup.store ≡ Some u → (b.inlet).setup.store ≡ Some u
store-of-behind core s i u source b h = ap (λ (x : Source). x.setup.store) (sym b.shown) ∙ h

written-placed : (core : CoreState) (s : State) (i u w : ℕ) (inlet : InletRecords) (was now : StoreState) → IsAt core s → slice_get s.inlets i ≡ Some inlet → inlet.setup.store ≡ Some u → slice_get core.stores u ≡ Some was
    → now.buffer ≡ was.buffer → WritesPosition was now w → IsPositionAt now w false
written-placed core s i u w inlet was now at there has get kind writes = record {
  kind = kind ∙ (placed core s i u inlet was at there has get).kind;
  position_is = writes.written;
  failed_is = writes.works;
  works = λ l. writes.durable;
}

-- a write that fails
failed-does : (old new : CoreState) (i u w : ℕ) (source : Source) (was now : StoreState) → slice_get old.sources i ≡ Some source → source.setup.store ≡ Some u
    → slice_get old.stores u ≡ Some was → new.stores ≡ change old.stores u (λ _. now) → now.buffer ≡ was.buffer → new.sources ≡ old.sources → new.sinks ≡ old.sinks → new.calls ≡ old.calls + 1 → StoreGoesOn was now
    → FailsToWrite was now w
    → ((s : State) → IsAt old s → (b : IsBehindPosition old s i source) → (if is_nil (b.inlet).ends then 0 else mark_of s.dests i b.inlet) ≡ w)
    → (failed : Bool) → was.failed ≡ failed → DoesAct old new Look
failed-does old new i u w source was now there has get others kind sources sinks calls goes fail value true worked =
    quiet-look old new sources sinks (not-changed old.stores new.stores u was now get others (fail.before worked)) calls
failed-does old new i u w source was now there has get others kind sources sinks calls goes fail value false worked =
    does-of old new Look (u ∷ []) (risen-touched old.stores new.stores u was now get others (fail.cause worked)) (all-go-touched old.stores new.stores u was now get others goes) calls (setup-same old new sources sinks)
    (λ s at.
    let b = behind old s i source at there in
    let r = fails old s i u 0 b.inlet was now at b.there (store-of-behind old s i u source b has) get kind fail.unwritten fail.fails worked in
    (r.0, at-parts (record { sources = old.sources; sinks = old.sinks; stores = change old.stores u (λ _. now); calls = 0 }) new (after_act s Look (u ∷ [])) sources sinks others r.1))
    (λ start events h.
    let s = after_all start events in
    let b = behind old s i source h.at there in
    let store = store-of-behind old s i u source b has in
    positions-inlet old new.stores start events (record { act = Look; failed = u ∷ [] }) i u b.inlet was now h b.there store get others (failed-within old start events i u w b.inlet was now h b.there store get worked fail (value s h.at b)))
    (λ start events h.
    let b = behind old (after_all start events) i source h.at there in
    lists-inlet old new.stores start events (record { act = Look; failed = u ∷ [] }) i u b.inlet was now h b.there (store-of-behind old (after_all start events) i u source b has) get others)

-- a mark that isn't the stored position is that of some records
value-of : (was : StoreState) (ends : List ℕ) (stored opening m w : ℕ) → was.position ≡ stored → (ends ≡ [] → stored ≡ opening) → (ends ≡ [] → m ≡ opening) → m ≡ w → was.position ≢ w → (if is_nil ends then 0 else m) ≡ w
value-of was [] stored opening m w at unmoved none marked other = absurd (other (at ∙ unmoved refl ∙ sym (none refl) ∙ marked))
value-of was (x ∷ ends) stored opening m w at unmoved none marked other = let q : (suc (length ends) == 0) ≡ false = grind arith in rw q marked

pub store-does : (old new : CoreState) (i u : ℕ) (source : Source) (answer : Stored) → slice_get old.sources i ≡ Some source → source.setup.store ≡ Some u
    → WritesAt old.stores new.stores u (mark_at source) answer → new.sources ≡ old.sources → new.sinks ≡ old.sinks → new.calls ≡ old.calls + 1 → DoesAct old new (store_act i answer)
store-does old new i u source (Wrote w) there has a sources sinks calls =
    let writes : WritesPosition a.old a.new w = subst (λ (n : ℕ). WritesPosition a.old a.new n) (sym a.writes.1) a.writes.2 in
    let q : (i == i) ≡ true = grind arith in
    let running : running_position (Store i w) i ≡ Some w = rw q refl in
    does-of old new (Store i w) [] (risen-none old.stores new.stores) (all-go-touched old.stores new.stores u a.old a.new a.was a.others a.goes) calls (setup-same old new sources sinks)
    (λ s at.
    let b = behind old s i source at there in
    let store = store-of-behind old s i u source b has in
    let marked = a.writes.1 ∙ ap mark_at b.shown ∙ mark-at s.dests i b.inlet in
    let is = written-placed old s i u w b.inlet a.old a.new at b.there store a.was a.kind writes in
    let r = stores-mark old s i u w 0 b.inlet a.old a.new at b.there store a.was is writes.worked marked (λ e. a.writes.0 (e ∙ a.writes.1)) in
    (r.0, at-parts (record { sources = old.sources; sinks = old.sinks; stores = change old.stores u (λ _. a.new); calls = 0 }) new (after_act s (Store i w) []) sources sinks a.others r.1))
    (λ start events h.
    let s = after_all start events in
    let b = behind old s i source h.at there in
    let store = store-of-behind old s i u source b has in
    positions-inlet old new.stores start events (record { act = Store i w; failed = [] }) i u b.inlet a.old a.new h b.there store a.was a.others (written-within old start events (Store i w) i u w b.inlet a.old a.new h b.there store a.was writes running))
    (λ start events h.
    let b = behind old (after_all start events) i source h.at there in
    lists-inlet old new.stores start events (record { act = Store i w; failed = [] }) i u b.inlet a.old a.new h b.there (store-of-behind old (after_all start events) i u source b has) a.was a.others)
store-does old new i u source Unchanged there has a sources sinks calls =
    quiet-look old new sources sinks (not-changed old.stores new.stores u a.old a.new a.was a.others a.writes.1) calls
store-does old new i u source Broken there has a sources sinks calls =
    failed-does old new i u (mark_at source) source a.old a.new there has a.was a.others a.kind sources sinks calls a.goes a.writes.1
    (λ s at b.
    let held = placed old s i u b.inlet a.old at b.there (store-of-behind old s i u source b has) a.was in
    let marked = sym (ap mark_at b.shown ∙ mark-at s.dests i b.inlet) in
    value-of a.old (b.inlet).ends (b.inlet).stored (b.inlet).opening (mark_of s.dests i b.inlet) (mark_at source) held.position_is (at.sound.unmoved i b.inlet b.there)
    (λ none. ap (λ xs. mark s.dests i 0 (b.inlet).opening xs) none) marked a.writes.0)
    (a.old).failed refl

pub rewind-does : (old new : CoreState) (i u : ℕ) (source : Source) (answer : Stored) → slice_get old.sources i ≡ Some source → source.setup.store ≡ Some u → source.tracker.begun ≡ 0
    → WritesAt old.stores new.stores u 0 answer → new.sources ≡ after_rewind old.sources i answer → new.sinks ≡ old.sinks → new.calls ≡ old.calls + 1 → DoesAct old new (rewind_act i answer)
rewind-does old new i u source (Wrote w) there has none a sources sinks calls =
    let q : (i == i) ≡ true = grind arith in
    let running : running_position (Rewind i) i ≡ Some 0 = rw q refl in
    does-of old new (Rewind i) [] (risen-none old.stores new.stores) (all-go-touched old.stores new.stores u a.old a.new a.was a.others a.goes) calls
    (setup-parts old new (ap (map (λ (x : Source). x.setup)) sources ∙ map-kept (λ (x : Source). x.setup) anew old.sources i (λ x. refl)) (ap (map (λ (k : SinkState). k.setup)) sinks))
    (λ s at.
    let b = behind old s i source at there in
    let store = store-of-behind old s i u source b has in
    let ends : length (b.inlet).ends ≡ 0 = ap (λ (x : Source). x.tracker.begun) (sym b.shown) ∙ none in
    let is = written-placed old s i u 0 b.inlet a.old a.new at b.there store a.was a.kind a.writes.2 in
    let r = rewinds old s i u 0 b.inlet a.old a.new at b.there store a.was is (a.writes.2).worked ends a.writes.0 in
    (r.0, at-parts (record { sources = change old.sources i anew; sinks = old.sinks; stores = change old.stores u (λ _. a.new); calls = 0 }) new (after_act s (Rewind i) []) sources sinks a.others r.1))
    (λ start events h.
    let s = after_all start events in
    let b = behind old s i source h.at there in
    let store = store-of-behind old s i u source b has in
    positions-inlet old new.stores start events (record { act = Rewind i; failed = [] }) i u b.inlet a.old a.new h b.there store a.was a.others (written-within old start events (Rewind i) i u 0 b.inlet a.old a.new h b.there store a.was a.writes.2 running))
    (λ start events h.
    let b = behind old (after_all start events) i source h.at there in
    lists-inlet old new.stores start events (record { act = Rewind i; failed = [] }) i u b.inlet a.old a.new h b.there (store-of-behind old (after_all start events) i u source b has) a.was a.others)
rewind-does old new i u source Unchanged there has none a sources sinks calls =
    quiet-look old new sources sinks (not-changed old.stores new.stores u a.old a.new a.was a.others a.writes.1) calls
rewind-does old new i u source Broken there has none a sources sinks calls =
    failed-does old new i u 0 source a.old a.new there has a.was a.others a.kind sources sinks calls a.goes a.writes.1
    (λ s at b.
    let ends : length (b.inlet).ends ≡ 0 = ap (λ (x : Source). x.tracker.begun) (sym b.shown) ∙ none in
    let nil : is_nil (b.inlet).ends ≡ true = grind arith in
    rw nil refl)
    (a.old).failed refl

-- when each answer comes
pub store-answers : (olds news : List StoreState) (u w : ℕ) (answer : Stored) → WritesAt olds news u w answer → AnswersStore w (slice_get olds u) (slice_get news u) answer
store-answers olds news u w (Wrote x) a =
    let P : Option StoreState → Type 0 = λ o. (x ≡ w) × (position_of o ≢ w) in
    subst P (sym a.was) (a.writes.1, a.writes.0)
store-answers olds news u w Unchanged a =
    let P : Option StoreState → Type 0 = λ o. position_of o ≡ w in
    subst P (sym a.was) a.writes.0
store-answers olds news u w Broken a =
    let now : slice_get news u ≡ Some a.new = ap (λ xs. slice_get xs u) a.others ∙ get-change-same olds u (λ _. a.new) a.old a.was in
    let P : Option StoreState → Type 0 = λ o. (position_of o ≢ w) × (option_map (λ (s : StoreState). s.failed) (slice_get news u) ≡ Some true) in
    let Q : Option StoreState → Type 0 = λ o. option_map (λ (s : StoreState). s.failed) o ≡ Some true in
    subst P (sym a.was) (a.writes.0, subst Q (sym now) (ap Some (a.writes.1).fails))

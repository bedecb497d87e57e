-- What a core keeps of a state, once one of its stores has changed.
use Rattle.std.proofs.Common.{◌≡◌, ◌≢◌, ℕ, ◌+◌, List, [], ◌∷◌, ◌++◌, Some, None, Option, Bool, true, false, ◌||◌, refl, sym, ap, ◌∙◌, arith, suc, zero, slice_get, subst, map}
use Rattle.std.specs.Prelude.{◌==◌}
use Rattle.std.specs.List.{list_any}
use Rattle.std.proofs.lemmas.List.{append-nil}
use Rattle.sg_list.specs.Lists.{change}
use Rattle.sg_list.proofs.ListLemmas.{some-same, get-change-other}
use Rattle.sg_machine.specs.declared.event.Act.TheVariants.{Look}
use Rattle.sg_machine.specs.declared.setup.BufferSetup.{BufferSetup}
use Rattle.sg_machine.specs.declared.state.Dest.{Dest}
use Rattle.sg_machine.specs.declared.state.InletRecords.{InletRecords}
use Rattle.sg_machine.specs.declared.state.State.{State}
use Rattle.sg_machine.specs.Effects.{after_act}
use Rattle.sg_machine.specs.Legal.{is_legal_act, is_this, store_of}
use Rattle.sg_machine.specs.Verdicts.{is_listed}
use Rattle.sg_sinks.specs.States.{SinkState}
use Rattle.sg_stores.specs.Stores.{StoreState}
use Rattle.sg_standing.specs.States.{CoreState, setup_of}
use Rattle.sg_standing.specs.Standing.{IsAt, IsSoundState, HoldsPosition, IsStoredPosition, ArePositionsStored, IsBufferOf, IsBacked, AreBacked, DoesAct}
use Rattle.sg_standing.specs.declared.source.Source.{Source}
use Rattle.sg_standing.proofs.Calls.{quiet}

-- a core with these parts is at the same state
pub at-parts : (old new : CoreState) (t : State) → new.sources ≡ old.sources → new.sinks ≡ old.sinks → new.stores ≡ old.stores → IsAt old t → IsAt new t
at-parts old new t sources sinks stores at = record {
  sound = at.sound;
  sources = sources ∙ at.sources;
  sinks = sinks ∙ at.sinks;
  stores = subst (λ (xs : List StoreState). ArePositionsStored xs t.failed t.inlets) (sym stores) at.stores;
  buffers = subst (λ (xs : List StoreState). AreBacked xs t.failed t.dests) (sym stores) at.buffers;
}

-- a call that changes nothing of a state
pub at-look : (core : CoreState) (s : State) → IsAt core s → IsAt core (after_act s Look [])
at-look core s at = subst (λ (xs : List ℕ). IsAt core (record s { failed = xs })) (sym (append-nil s.failed)) at

pub setup-parts : (old new : CoreState) → map (λ (x : Source). x.setup) new.sources ≡ map (λ (x : Source). x.setup) old.sources → map (λ (k : SinkState). k.setup) new.sinks ≡ map (λ (k : SinkState). k.setup) old.sinks → setup_of new ≡ setup_of old
setup-parts old new sources sinks =
    ap (λ xs. record { sources = xs; dests = map (λ (k : SinkState). k.setup) new.sinks }) sources
    ∙ ap (λ ks. record { sources = map (λ (x : Source). x.setup) old.sources; dests = ks }) sinks

pub setup-same : (old new : CoreState) → new.sources ≡ old.sources → new.sinks ≡ old.sinks → setup_of new ≡ setup_of old
setup-same old new sources sinks = setup-parts old new (ap (map (λ (x : Source). x.setup)) sources) (ap (map (λ (k : SinkState). k.setup)) sinks)

-- a call that changes nothing but the number of calls
pub quiet-look : (old new : CoreState) → new.sources ≡ old.sources → new.sinks ≡ old.sinks → new.stores ≡ old.stores → new.calls ≡ old.calls + 1 → DoesAct old new Look
quiet-look old new sources sinks stores calls =
    quiet old new Look stores calls (setup-same old new sources sinks) (λ s at. (refl, at-parts old new (after_act s Look []) sources sinks stores (at-look old s at)))

pub change-const : {A : Type 0} (xs : List A) (k : ℕ) (x : A) → slice_get xs k ≡ Some x → change xs k (λ _. x) ≡ xs
change-const [] k x h = refl
change-const (y ∷ xs) zero x h = ap (λ z. z ∷ xs) (sym (some-same y x h))
change-const (y ∷ xs) (suc k) x h = ap (λ zs. y ∷ zs) (change-const xs k x h)

pub not-changed : (olds news : List StoreState) (u : ℕ) (was now : StoreState) → slice_get olds u ≡ Some was → news ≡ change olds u (λ _. now) → now ≡ was → news ≡ olds
not-changed olds news u was now get others same = others ∙ ap (λ (x : StoreState). change olds u (λ _. x)) same ∙ change-const olds u was get

-- whichever stores have failed
pub sound-failed : (s : State) (failed : List ℕ) → IsSoundState s → IsSoundState (record s { failed = failed })
sound-failed s failed sound = record {
  replayed = record { admitted = sound.replayed.admitted; split = sound.replayed.split };
  split = sound.split;
  spellable = sound.spellable;
  unmoved = sound.unmoved;
  apart = record { inlets = sound.apart.inlets; dests = sound.apart.dests; both = sound.apart.both };
}

-- Other stores.

-- a position store that isn't the changed one, where it is listed as before
pub stored-other : (stores : List StoreState) (failed later : List ℕ) (o : Option ℕ) (p u : ℕ) (now : StoreState) → ((v : ℕ) → o ≡ Some v → v ≢ u) → ((v : ℕ) → o ≡ Some v → is_listed v later ≡ is_listed v failed)
    → IsStoredPosition stores failed o p → IsStoredPosition (change stores u (λ _. now)) later o p
stored-other stores failed later None p u now ne same h = h
stored-other stores failed later (Some v) p u now ne same h =
    let Q : Option StoreState → Type 0 = λ r. HoldsPosition r p (is_listed v later) in
    let B : Bool → Type 0 = λ b. HoldsPosition (slice_get stores v) p b in
    subst Q (sym (get-change-other stores u v (λ _. now) (ne v refl))) (subst B (sym (same v refl)) h)

-- a disk-buffer that isn't the changed store
pub backed-other : (stores : List StoreState) (failed later : List ℕ) (b : BufferSetup) (x : Dest) (u : ℕ) (now : StoreState) → b.store ≢ u → is_listed b.store later ≡ is_listed b.store failed
    → IsBacked stores failed b x → IsBacked (change stores u (λ _. now)) later b x
backed-other stores failed later b x u now ne same h = record {
  store = h.store;
  there = get-change-other stores u b.store (λ _. now) ne ∙ h.there;
  is = subst (λ (f : Bool). IsBufferOf h.store b x f) (sym same) h.is;
}

-- Stores that fail.

pub listed-last : (failed : List ℕ) (u : ℕ) → is_listed u (failed ++ u ∷ []) ≡ true
listed-last [] u = grind arith
listed-last (x ∷ failed) u = let rest = listed-last failed u in grind (arith, rest)

pub listed-other : (failed : List ℕ) (u v : ℕ) → v ≢ u → is_listed v (failed ++ u ∷ []) ≡ is_listed v failed
listed-other [] u v ne = let e : (u == v) ≡ false = grind arith in rw e refl
listed-other (x ∷ failed) u v ne = ap (λ b. (x == v) || b) (listed-other failed u v ne)

pub any-inlet : (inlets : List InletRecords) (i u : ℕ) (x : InletRecords) → slice_get inlets i ≡ Some x → x.setup.store ≡ Some u → list_any (λ (inlet : InletRecords). is_this u inlet.setup.store) inlets ≡ true
any-inlet [] i u x h has = let wrong : None ≡ Some x = h in cc
any-inlet (y ∷ inlets) zero u x h has =
    let same : y.setup.store ≡ Some u = ap (λ (z : InletRecords). z.setup.store) (some-same y x h) ∙ has in
    let e : (u == u) ≡ true = grind arith in
    rw (same, e) refl
any-inlet (y ∷ inlets) (suc i) u x h has = let rest = any-inlet inlets i u x h has in rw rest (grind arith)

this-store : (x : Dest) (b : BufferSetup) → x.setup.buffer ≡ Some b → is_this b.store (store_of x) ≡ true
this-store x b has = let e : (b.store == b.store) ≡ true = grind arith in rw (has, e) refl

pub any-dest : (dests : List Dest) (d : ℕ) (x : Dest) (b : BufferSetup) → slice_get dests d ≡ Some x → x.setup.buffer ≡ Some b → list_any (λ (dest : Dest). is_this b.store (store_of dest)) dests ≡ true
any-dest [] d x b h has = let wrong : None ≡ Some x = h in cc
any-dest (y ∷ dests) zero x b h has = let e = subst (λ (z : Dest). is_this b.store (store_of z) ≡ true) (sym (some-same y x h)) (this-store x b has) in rw e refl
any-dest (y ∷ dests) (suc d) x b h has = let rest = any-dest dests d x b h has in rw rest (grind arith)

or-true : (b : Bool) → (b || true) ≡ true
or-true true = refl
or-true false = refl

-- a look in which the store of an inlet or of a disk-buffer fails, which worked
pub look-inlet : (s : State) (i u : ℕ) (x : InletRecords) → slice_get s.inlets i ≡ Some x → x.setup.store ≡ Some u → is_listed u s.failed ≡ false → is_legal_act s Look (u ∷ []) ≡ true
look-inlet s i u x h has l = let a = any-inlet s.inlets i u x h has in rw (a, l) refl

pub look-dest : (s : State) (d : ℕ) (x : Dest) (b : BufferSetup) → slice_get s.dests d ≡ Some x → x.setup.buffer ≡ Some b → is_listed b.store s.failed ≡ false → is_legal_act s Look (b.store ∷ []) ≡ true
look-dest s d x b h has l =
    let a = any-dest s.dests d x b h has in
    let c = or-true (list_any (λ (inlet : InletRecords). is_this b.store inlet.setup.store) s.inlets) in
    rw (a, c, l) refl

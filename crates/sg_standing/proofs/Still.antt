-- What an event leaves of stores that it doesn't touch.
use Rattle.std.proofs.Common.{◌≡◌, ℕ, List, [], ◌∷◌, ◌++◌, Some, None, Option, Bool, true, false, ◌||◌, refl, sym, ap, ◌∙◌, arith, slice_get, subst, ◌⊎◌, inl, inr, map}
use Rattle.std.specs.Prelude.{option_and_then, option_to_list, ◌==◌}
use Rattle.std.proofs.lemmas.List.{append-nil}
use Rattle.sg_device.specs.Disk.{DiskState, clock, event_count, IsImageAt, IsLeftAt, DiskLog, EachNow, Within}
use Rattle.sg_stable.specs.Position.{IsPosition}
use Rattle.sg_spool.specs.Ring.{IsList}
use Rattle.sg_buffer.specs.Entries.{IsListOf, AreKept, spelled}
use Rattle.sg_buffer.proofs.Stored.{news_stored}
use Rattle.sg_machine.specs.declared.event.Event.{Event}
use Rattle.sg_machine.specs.declared.setup.BufferSetup.{BufferSetup}
use Rattle.sg_machine.specs.declared.state.Dest.{Dest}
use Rattle.sg_machine.specs.declared.state.InletRecords.{InletRecords}
use Rattle.sg_machine.specs.declared.state.State.{State}
use Rattle.sg_machine.specs.Runs.{BufferedEntry, after_all}
use Rattle.sg_machine.specs.Safe.{first_of, failing_position, failed_position, failed_entries, running_position, spooled_of}
use Rattle.sg_machine.specs.Verdicts.{is_listed}
use Rattle.sg_stores.specs.Stores.{BufferState, StoreState, HoldsIn, HoldsEntries, coded}
use Rattle.sg_standing.specs.States.{CoreState}
use Rattle.sg_standing.specs.Standing.{IsPositionOf, IsSafeStore, StandsFor, positions_now, positions_within, failed_then}
use Rattle.sg_standing.proofs.Frozen.{listed-behind, listed-front}
use Rattle.sg_standing.proofs.More.{placed, backed, broken-store}
use Rattle.sg_standing.proofs.Safes.{safe-same, safe-later, entries-later}
use Rattle.sg_machine.proofs.SafeLemmas.{failed_position-push}

-- The position of a write that failed.

assoc : (a b c : Option ℕ) → first_of a (first_of b c) ≡ first_of (first_of a b) c
assoc None b c = refl
assoc (Some x) b c = refl

none-first : (a : Option ℕ) → first_of a None ≡ a
none-first None = refl
none-first (Some x) = refl

or-behind : (b c d : Bool) → (c ≡ true → d ≡ true) → (b || c) ≡ true → (b || d) ≡ true
or-behind true c d f h = refl
or-behind false c d f h = f h

pub one-of-more : (a : ℕ) (rs ls : List ℕ) (bytes : List ℕ) → IsPositionOf (a ∷ ls) bytes → IsPositionOf ((a ∷ rs) ++ ls) bytes
one-of-more a rs ls bytes h = record {
  position = h.position;
  is_position = h.is_position;
  listed = or-behind (a == h.position) (is_listed h.position ls) (is_listed h.position (rs ++ ls)) (listed-behind h.position rs ls) h.listed;
}

pub one-of-front : (a : ℕ) (ls ms : List ℕ) (bytes : List ℕ) → ((p : ℕ) → is_listed p ls ≡ true → is_listed p ms ≡ true) → IsPositionOf (a ∷ ls) bytes → IsPositionOf (a ∷ ms) bytes
one-of-front a ls ms bytes f h = record {
  position = h.position;
  is_position = h.is_position;
  listed = or-behind (a == h.position) (is_listed h.position ls) (is_listed h.position ms) (f h.position) h.listed;
}

pub one-of-first : (a b : ℕ) (ls : List ℕ) (bytes : List ℕ) → a ≡ b → IsPosition b bytes → IsPositionOf (a ∷ ls) bytes
one-of-first a b ls bytes e h = record { position = b; is_position = h; listed = (let q : (a == b) ≡ true = grind arith in rw q refl) }

pub one-of-second : (a b : ℕ) (ls : List ℕ) (bytes : List ℕ) → IsPosition b bytes → IsPositionOf (a ∷ b ∷ ls) bytes
one-of-second a b ls bytes h = record { position = b; is_position = h; listed = (let q : (b == b) ≡ true = grind arith in rw q (grind arith)) }

-- what had failed is listed still
first-listed : (a b : Option ℕ) (p : ℕ) → is_listed p (option_to_list a) ≡ true → is_listed p (option_to_list (first_of a b)) ≡ true
first-listed None b p h = let wrong : false ≡ true = h in cc
first-listed (Some x) b p h = h

pub positions-later : (start : State) (events : List Event) (e : Event) (i : ℕ) (x : InletRecords) (bytes : List ℕ) → IsPositionOf (positions_now start events i x) bytes → IsPositionOf (positions_within start events e i x) bytes
positions-later start events e i x bytes h =
    let now = option_to_list (failed_position start events i) in
    let late = option_to_list (failed_position start (events ++ e ∷ []) i) in
    let b = option_and_then (failing_position (after_all start events) e i) (slice_get (after_all start events).inlets i) in
    let P : Option ℕ → Type 0 = λ o. (p : ℕ) → is_listed p now ≡ true → is_listed p (option_to_list o) ≡ true in
    let more = subst P (sym (failed_position-push start events e i)) (λ p l. first-listed (failed_position start events i) b p l) in
    one-of-more x.stored (option_to_list (running_position e.act i)) late bytes (one-of-front x.stored now late bytes more h)

-- Stores that stay.

-- no byte is written: the images are those that there were
pub record StaysSame (old new : StoreState) : Type 0 where
  pub told : new.disk.told ≡ old.disk.told

within-told : (told : Option DiskLog) (f g : ℕ) (P : List ℕ → Type 0) → EachNow (record { told = told; faults = f }) P → Within (record { told = told; faults = f }) (record { told = told; faults = g }) P
within-told told f g P h = record {
  later = omega arith;
  past = λ t c l i. i;
  kept = λ t c l i. i;
  each = λ t c low high i.
      let at : t ≡ event_count told = omega (arith, low, high) in
      h c (subst (λ (m : ℕ). IsLeftAt told m c) at i);
}

pub within-same : (old new : StoreState) (P : List ℕ → Type 0) → StaysSame old new → EachNow old.disk P → Within old.disk new.disk P
within-same old new P same h =
    let W : Option DiskLog → Type 0 = λ told. Within old.disk (record { told = told; faults = new.disk.faults }) P in
    subst W (sym same.told) (within-told old.disk.told old.disk.faults new.disk.faults P h)

pub one-in : (failed : Bool) → (failed ≡ true) ⊎ (failed ≡ false)
one-in true = inl refl
one-in false = inr refl

-- each image of the position store of an inlet before an event, as one within it
pub position-before : (core : CoreState) (start : State) (events : List Event) (e : Event) (i u : ℕ) (x : InletRecords) (store : StoreState) → StandsFor core start events
    → slice_get (after_all start events).inlets i ≡ Some x → x.setup.store ≡ Some u → slice_get core.stores u ≡ Some store → EachNow store.disk (IsPositionOf (positions_within start events e i x))
position-before core start events e i u x store h there has get bytes image =
    elim (one-in store.failed) [
      | inl fails ↦ positions-later start events e i x bytes (h.positions i x u store there has get fails bytes image)
      | inr works ↦ (
          let p = placed core (after_all start events) i u x store h.at there has get in
          one-of-first x.stored x.stored _ bytes refl (p.works works bytes image))
    ]

-- the list that a disk-buffer holds, by the bytes of an image
holds-list : (buffer : Option BufferState) (disk : DiskState) (list : List BufferedEntry) (bytes : List ℕ) → HoldsIn buffer disk list [] → IsImageAt disk (clock disk) bytes → IsList (spelled (map coded list)) bytes
holds-list None disk list bytes h image = absurd h
holds-list (Some buffer) disk list bytes h image = h.images bytes image

pub list-of : (store : StoreState) (list : List BufferedEntry) (bytes : List ℕ) → HoldsEntries store list [] → IsImageAt store.disk (clock store.disk) bytes → IsListOf (map coded list) bytes
list-of store list bytes h image =
    let kept : AreKept (map coded list) = subst (λ (ks : List BufferedEntry). AreKept (map coded ks)) (append-nil list) h.kept in
    record {
      payloads = spelled (map coded list);
      list = holds-list store.buffer store.disk list bytes h.holds image;
      stored = news_stored (map coded list) kept;
    }

-- and of a disk-buffer
pub list-before : (core : CoreState) (start : State) (events : List Event) (e : Event) (d : ℕ) (x : Dest) (buffer : BufferSetup) (store : StoreState) → StandsFor core start events
    → slice_get (after_all start events).dests d ≡ Some x → x.setup.buffer ≡ Some buffer → slice_get core.stores buffer.store ≡ Some store
    → EachNow store.disk (IsSafeStore x d e.act (failed_then start events e) (failed_entries start (events ++ e ∷ []) d))
list-before core start events e d x buffer store h there has get bytes image =
    let s = after_all start events in
    let b = (h.at).buffers d x buffer there has in
    let same = backed core s d x buffer store h.at there has get in
    let tried = failed_entries start (events ++ e ∷ []) d in
    elim (one-in store.failed) [
      | inl fails ↦ (
          let listed : is_listed buffer.store s.failed ≡ true = sym (b.is).failed_is ∙ ap (λ (y : StoreState). y.failed) same ∙ fails in
          let r = h.lists d x buffer store there has get fails bytes image in
          record {
            list = r.list;
            entries = r.entries;
            safe = safe-later x d e.act s.failed (failed_then start events e) (failed_entries start events d) tried r.list (broken-store x buffer s.failed has listed)
                (broken-store x buffer (failed_then start events e) has (listed-front buffer.store s.failed e.failed listed)) (entries-later start events e d) r.safe;
          })
      | inr works ↦ (
          let at_b : (b.store).failed ≡ false = ap (λ (y : StoreState). y.failed) same ∙ works in
          let holds : HoldsEntries store (spooled_of x.left) [] = subst (λ (y : StoreState). HoldsEntries y (spooled_of x.left) []) same ((b.is).works at_b) in
          record {
            list = spooled_of x.left;
            entries = list-of store (spooled_of x.left) bytes holds image;
            safe = safe-same x d e.act (failed_then start events e) tried;
          })
    ]

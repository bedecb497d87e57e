-- What an event in which a store fails for the first time tries to write.
use Rattle.std.proofs.Common.{◌≡◌, ℕ, List, [], ◌∷◌, ◌++◌, Some, None, Option, Bool, true, false, refl, sym, ap, ◌∙◌, slice_get, if◌then◌else◌}
use Rattle.std.specs.Prelude.{option_and_then}
use Rattle.std.specs.Option.{option_map_or}
use Rattle.sg_list.proofs.ListLemmas.{some-same}
use Rattle.sg_machine.specs.declared.event.Event.{Event}
use Rattle.sg_machine.specs.declared.setup.BufferSetup.{BufferSetup}
use Rattle.sg_machine.specs.declared.setup.DestSetup.{DestSetup}
use Rattle.sg_machine.specs.declared.setup.SourceSetup.{SourceSetup}
use Rattle.sg_machine.specs.declared.state.Dest.{Dest}
use Rattle.sg_machine.specs.declared.state.InletRecords.{InletRecords}
use Rattle.sg_machine.specs.declared.state.State.{State}
use Rattle.sg_machine.specs.Effects.{after}
use Rattle.sg_machine.specs.Legal.{is_legal, is_nil, store_of}
use Rattle.sg_machine.specs.Marks.{mark_of}
use Rattle.sg_machine.specs.Runs.{BufferedEntry, after_all, are_legal}
use Rattle.sg_machine.specs.Safe.{first_of, has_failed, failing_position, failed_position, failing_entries, failed_append, failed_entries, tried_by}
use Rattle.sg_machine.specs.Verdicts.{is_listed}
use Rattle.sg_machine.proofs.CountLemmas.{counts-dest}
use Rattle.sg_machine.proofs.InletLemmas.{counts-inlet}
use Rattle.sg_machine.proofs.RunLemmas.{both-true}
use Rattle.sg_standing.proofs.Frozen.{listed-front, listed-behind}
use Rattle.sg_standing.proofs.Safes.{failed_append-push}
use Rattle.sg_machine.proofs.SafeLemmas.{failed_position-push}

failed-grows : (s : State) (es : List Event) (u : ℕ) → is_listed u s.failed ≡ true → is_listed u (after_all s es).failed ≡ true
failed-grows s [] u h = h
failed-grows s (e ∷ es) u h = failed-grows (after s e) es u (listed-front u s.failed e.failed h)

unlisted : (s : State) (e : Event) (es : List Event) (u : ℕ) → is_listed u (after_all (after s e) es).failed ≡ false → (b : Bool) → is_listed u e.failed ≡ b → b ≡ false
unlisted s e es u h false q = refl
unlisted s e es u h true q = let wrong : true ≡ false = sym (failed-grows (after s e) es u (listed-behind u s.failed e.failed q)) ∙ h in cc

-- Inlets.

position-none : (s : State) (e : Event) (i v : ℕ) (x : InletRecords) → x.setup.store ≡ Some v → is_listed v e.failed ≡ false → failing_position s e i x ≡ None
position-none s e i v x has l = rw (has, l) refl

first-position : (s : State) (e : Event) (es : List Event) (i u : ℕ) (y : InletRecords) → are_legal s (e ∷ es) ≡ true → slice_get (after_all s (e ∷ es)).inlets i ≡ Some y → y.setup.store ≡ Some u → is_listed u (after_all s (e ∷ es)).failed ≡ false
    → (o : Option InletRecords) → slice_get s.inlets i ≡ o → option_and_then (failing_position s e i) o ≡ None
first-position s e es i u y legal there has l None q = refl
first-position s e es i u y legal there has l (Some x) q =
    let c = counts-inlet s (e ∷ es) i x legal q in
    let same : c.0 ≡ y = some-same c.0 y (sym c.1 ∙ there) in
    let store : x.setup.store ≡ Some u = ap (λ (t : SourceSetup). t.store) (sym c.2.setup) ∙ ap (λ (t : InletRecords). t.setup.store) same ∙ has in
    position-none s e i u x store (unlisted s e es u l (is_listed u e.failed) refl)

-- no write has failed where the store works
pub unfailed-inlet : (s : State) (es : List Event) (i u : ℕ) (y : InletRecords) → are_legal s es ≡ true → slice_get (after_all s es).inlets i ≡ Some y → y.setup.store ≡ Some u → is_listed u (after_all s es).failed ≡ false
    → failed_position s es i ≡ None
unfailed-inlet s [] i u y legal there has l = refl
unfailed-inlet s (e ∷ es) i u y legal there has l =
    let parts = both-true (is_legal s e) (are_legal (after s e) es) legal in
    let now = first-position s e es i u y legal there has l (slice_get s.inlets i) refl in
    rw (now, unfailed-inlet (after s e) es i u y parts.1 there has l) refl

position-is : (s : State) (e : Event) (i u : ℕ) (x : InletRecords) → x.setup.store ≡ Some u → is_listed u e.failed ≡ true → failing_position s e i x ≡ Some (if is_nil x.ends then 0 else mark_of s.dests i x)
position-is s e i u x has l = rw (has, l) refl

-- the position that an event in which the store fails tries to write
pub position-now : (s : State) (es : List Event) (e : Event) (i u : ℕ) (x : InletRecords) → are_legal s es ≡ true → slice_get (after_all s es).inlets i ≡ Some x → x.setup.store ≡ Some u → is_listed u (after_all s es).failed ≡ false
    → is_listed u e.failed ≡ true → failed_position s (es ++ e ∷ []) i ≡ Some (if is_nil x.ends then 0 else mark_of (after_all s es).dests i x)
position-now s es e i u x legal there has works l =
    let t = after_all s es in
    failed_position-push s es e i ∙ ap (λ a. first_of a (option_and_then (failing_position t e i) (slice_get t.inlets i))) (unfailed-inlet s es i u x legal there has works)
    ∙ ap (λ o. option_and_then (failing_position t e i) o) there ∙ position-is t e i u x has l

-- Destinations.

entries-none : (s : State) (e : Event) (d : ℕ) (x : Dest) (b : BufferSetup) → x.setup.buffer ≡ Some b → is_listed b.store e.failed ≡ false → failing_entries s e d x ≡ None
entries-none s e d x b has l = rw (has, l) refl

first-entries : (s : State) (e : Event) (es : List Event) (d : ℕ) (y : Dest) (b : BufferSetup) → are_legal s (e ∷ es) ≡ true → slice_get (after_all s (e ∷ es)).dests d ≡ Some y → y.setup.buffer ≡ Some b → is_listed b.store (after_all s (e ∷ es)).failed ≡ false
    → (o : Option Dest) → slice_get s.dests d ≡ o → option_and_then (failing_entries s e d) o ≡ None
first-entries s e es d y b legal there has l None q = refl
first-entries s e es d y b legal there has l (Some x) q =
    let c = counts-dest s (e ∷ es) d x legal q in
    let same : c.0 ≡ y = some-same c.0 y (sym c.1 ∙ there) in
    let buffer : x.setup.buffer ≡ Some b = ap (λ (t : DestSetup). t.buffer) (sym c.2.setup) ∙ ap (λ (t : Dest). t.setup.buffer) same ∙ has in
    entries-none s e d x b buffer (unlisted s e es b.store l (is_listed b.store e.failed) refl)

pub unfailed-dest : (s : State) (es : List Event) (d : ℕ) (y : Dest) (b : BufferSetup) → are_legal s es ≡ true → slice_get (after_all s es).dests d ≡ Some y → y.setup.buffer ≡ Some b → is_listed b.store (after_all s es).failed ≡ false
    → failed_append s es d ≡ None
unfailed-dest s [] d y b legal there has l = refl
unfailed-dest s (e ∷ es) d y b legal there has l =
    let parts = both-true (is_legal s e) (are_legal (after s e) es) legal in
    let now = first-entries s e es d y b legal there has l (slice_get s.dests d) refl in
    rw (now, unfailed-dest (after s e) es d y b parts.1 there has l) refl

entries-is : (s : State) (e : Event) (d : ℕ) (x : Dest) (b : BufferSetup) → x.setup.buffer ≡ Some b → is_listed b.store e.failed ≡ true → failing_entries s e d x ≡ Some (tried_by s e.act d x)
entries-is s e d x b has l =
    let q : has_failed e.failed (store_of x) ≡ true = rw (has, l) refl in
    rw q refl

-- the entries that an event in which the store fails tries to append
pub entries-now : (s : State) (es : List Event) (e : Event) (d : ℕ) (x : Dest) (b : BufferSetup) → are_legal s es ≡ true → slice_get (after_all s es).dests d ≡ Some x → x.setup.buffer ≡ Some b → is_listed b.store (after_all s es).failed ≡ false
    → is_listed b.store e.failed ≡ true → failed_entries s (es ++ e ∷ []) d ≡ tried_by (after_all s es) e.act d x
entries-now s es e d x b legal there has works l =
    let t = after_all s es in
    ap (λ o. option_map_or (λ (ks : List BufferedEntry). ks) o [])
    (failed_append-push s es e d ∙ ap (λ a. first_of a (option_and_then (failing_entries t e d) (slice_get t.dests d))) (unfailed-dest s es d x b legal there has works)
    ∙ ap (λ o. option_and_then (failing_entries t e d) o) there ∙ entries-is t e d x b has l)

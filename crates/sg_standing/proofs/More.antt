-- One event more.
use Rattle.std.proofs.Common.{◌≡◌, ℕ, ◌<◌, List, [], ◌∷◌, ◌++◌, length, Some, Option, true, refl, sym, ap, ◌∙◌, arith, slice_get, subst}
use Rattle.std.specs.Prelude.{option_to_list}
use Rattle.sg_list.proofs.ListLemmas.{some-same, slice_get-some, slice_get-below}
use Rattle.sg_device.specs.Disk.{DiskState, clock, EachNow, Within}
use Rattle.sg_machine.specs.declared.event.Event.{Event}
use Rattle.sg_machine.specs.declared.setup.BufferSetup.{BufferSetup}
use Rattle.sg_machine.specs.declared.setup.DestSetup.{DestSetup}
use Rattle.sg_machine.specs.declared.setup.SourceSetup.{SourceSetup}
use Rattle.sg_machine.specs.declared.state.Dest.{Dest}
use Rattle.sg_machine.specs.declared.state.InletRecords.{InletRecords}
use Rattle.sg_machine.specs.declared.state.State.{State}
use Rattle.sg_machine.specs.declared.event.Act.TheVariants.{Look}
use Rattle.sg_machine.specs.Effects.{after}
use Rattle.sg_machine.specs.Legal.{is_legal, store_of}
use Rattle.sg_machine.specs.Runs.{after_all, are_legal}
use Rattle.sg_machine.specs.Safe.{failed_position, failed_entries, running_position, has_failed, IsSafeList}
use Rattle.sg_machine.specs.Verdicts.{is_listed}
use Rattle.sg_machine.proofs.RunLemmas.{after_all-append, are_legal-join}
use Rattle.sg_stores.specs.Stores.{StoreState}
use Rattle.sg_standing.specs.States.{CoreState}
use Rattle.sg_standing.specs.Standing.{IsAt, IsPositionOf, IsPositionAt, HoldsPosition, IsStoredPosition, StandsFor, StandsOn, AddsEvent, HavePositions, HaveLists, IsSafeStore, positions_within, failed_then}
use Rattle.sg_standing.proofs.Frozen.{was-there, freezes, safe-after, length-dests, kept-setup}
use Rattle.sg_standing.proofs.Moments.{was-store, timetable-more}

pub legal-more : (start : State) (events : List Event) (e : Event) → are_legal start events ≡ true → is_legal (after_all start events) e ≡ true → are_legal start (events ++ e ∷ []) ≡ true
legal-more start events e h l =
    let last : are_legal (after_all start events) (e ∷ []) ≡ true = rw l refl in
    are_legal-join start events (e ∷ []) h last

pub now-within : (d e : DiskState) (P : List ℕ → Type 0) → Within d e P → EachNow e P
now-within d e P h c i = h.each (clock e) c h.later (omega arith) i

pub within-map : (d e : DiskState) (P Q : List ℕ → Type 0) → ((c : List ℕ) → P c → Q c) → Within d e P → Within d e Q
within-map d e P Q f h = record { later = h.later; past = h.past; kept = h.kept; each = λ t c low high i. f c (h.each t c low high i) }

pub after-more : (start : State) (events : List Event) (e : Event) → after_all start (events ++ e ∷ []) ≡ after (after_all start events) e
after-more start events e = after_all-append start events (e ∷ [])

-- the position store of an inlet, as it is kept
pub placed : (core : CoreState) (s : State) (i u : ℕ) (inlet : InletRecords) (store : StoreState) → IsAt core s → slice_get s.inlets i ≡ Some inlet → inlet.setup.store ≡ Some u → slice_get core.stores u ≡ Some store
    → IsPositionAt store inlet.stored (is_listed u s.failed)
placed core s i u inlet store at there has get =
    let P : Option ℕ → Type 0 = λ o. IsStoredPosition core.stores s.failed o inlet.stored in
    let Q : Option StoreState → Type 0 = λ o. HoldsPosition o inlet.stored (is_listed u s.failed) in
    subst Q get (subst P has (at.stores i inlet there))

-- the disk-buffer of a destination, as it is kept
pub backed : (core : CoreState) (s : State) (d : ℕ) (dest : Dest) (buffer : BufferSetup) (store : StoreState) (at : IsAt core s) (there : slice_get s.dests d ≡ Some dest) (has : dest.setup.buffer ≡ Some buffer)
    → slice_get core.stores buffer.store ≡ Some store → (at.buffers d dest buffer there has).store ≡ store
backed core s d dest buffer store at there has get =
    let b = at.buffers d dest buffer there has in
    some-same b.store store (sym b.there ∙ get)

pub broken-store : (dest : Dest) (buffer : BufferSetup) (failed : List ℕ) → dest.setup.buffer ≡ Some buffer → is_listed buffer.store failed ≡ true → has_failed failed (store_of dest) ≡ true
broken-store dest buffer failed has l = rw (has, l) refl

positions-more : (old new : CoreState) (start : State) (events : List Event) (e : Event) → StandsFor old start events → AddsEvent old new start events e → HavePositions new.stores start (events ++ e ∷ [])
positions-more old new start events e h a i y u store there has get fails =
    let s = after_all start events in
    let here : slice_get (after s e).inlets i ≡ Some y = ap (λ (t : State). slice_get t.inlets i) (sym (after-more start events e)) ∙ there in
    let p = placed new (after s e) i u y store a.at here has get in
    let listed : is_listed u (s.failed ++ e.failed) ≡ true = sym p.failed_is ∙ fails in
    let w = was-there s e.act e.failed i u y a.legal here has listed in
    let o = was-store old.stores new.stores u store a.goes get in
    let store_was : (w.old).setup.store ≡ Some u = ap (λ (x : SourceSetup). x.store) w.setup ∙ has in
    let within = a.positions i w.old u o.0 store w.there store_was o.1 get in
    let P : ℕ → Type 0 = λ v. EachNow store.disk (IsPositionOf (v ∷ option_to_list (running_position e.act i) ++ option_to_list (failed_position start (events ++ e ∷ []) i))) in
    let Q : Option ℕ → Type 0 = λ r. EachNow store.disk (IsPositionOf (y.stored ∷ option_to_list r ++ option_to_list (failed_position start (events ++ e ∷ []) i))) in
    subst Q w.quiet (subst P w.stored (now-within (o.0).disk store.disk (IsPositionOf (positions_within start events e i w.old)) within))

-- its setup was the same
was-buffer : (s : State) (e : Event) (d : ℕ) (x y : Dest) (buffer : BufferSetup) → slice_get s.dests d ≡ Some x → slice_get (after s e).dests d ≡ Some y → y.setup.buffer ≡ Some buffer → x.setup.buffer ≡ Some buffer
was-buffer s e d x y buffer h g has =
    let k = kept-setup s e.act e.failed d x h in
    let same : k.0 ≡ y = some-same k.0 y (sym k.1 ∙ g) in
    ap (λ (t : DestSetup). t.buffer) (sym k.2) ∙ ap (λ (t : Dest). t.setup.buffer) same ∙ has

lists-more : (old new : CoreState) (start : State) (events : List Event) (e : Event) → StandsFor old start events → AddsEvent old new start events e → HaveLists new.stores start (events ++ e ∷ [])
lists-more old new start events e h a d y buffer store there has get fails =
    let s = after_all start events in
    let here : slice_get (after s e).dests d ≡ Some y = ap (λ (t : State). slice_get t.dests d) (sym (after-more start events e)) ∙ there in
    let b = (a.at).buffers d y buffer here has in
    let same = backed new (after s e) d y buffer store a.at here has get in
    let listed : is_listed buffer.store (s.failed ++ e.failed) ≡ true = sym (b.is).failed_is ∙ ap (λ (x : StoreState). x.failed) same ∙ fails in
    let below : d < length s.dests = (let l = slice_get-below (after s e).dests d y here in let n = length-dests s e.act e.failed in omega (arith, l, n)) in
    let x = slice_get-some s.dests d below in
    let had = was-buffer s e d x.0 y buffer x.1 here has in
    let f = freezes s e.act e.failed d x.0 buffer a.legal x.1 had listed in
    let is : f.0 ≡ y = some-same f.0 y (sym f.1 ∙ here) in
    let o = was-store old.stores new.stores buffer.store store a.goes get in
    let within = a.lists d x.0 buffer o.0 store x.1 had o.1 get in
    let tried = failed_entries start (events ++ e ∷ []) d in
    let now = now-within (o.0).disk store.disk (IsSafeStore x.0 d e.act (failed_then start events e) tried) within in
    let F : List ℕ → Type 0 = λ xs. EachNow store.disk (IsSafeStore y d Look xs tried) in
    subst F (ap (λ (t : State). t.failed) (sym (after-more start events e))) (λ bytes image.
    let r = now bytes image in
    record {
      list = r.list;
      entries = r.entries;
      safe = subst (λ (z : Dest). IsSafeList z d Look (failed_then start events e) tried r.list) is (safe-after x.0 f.0 d e.act (failed_then start events e) tried r.list f.2 (broken-store x.0 buffer (failed_then start events e) had listed) r.safe);
    })

pub more-stands : (old new : CoreState) (start : State) (events : List Event) (e : Event) (h : StandsFor old start events) → AddsEvent old new start events e → StandsOn new start events (e ∷ []) h.moments.rows
more-stands old new start events e h a =
    let moments = timetable-more old.stores new.stores start events e h.moments a.goes a.positions a.lists in
    record {
      stands = record {
        legal = legal-more start events e h.legal a.legal;
        at = subst (λ (t : State). IsAt new t) (sym (after-more start events e)) a.at;
        positions = positions-more old new start events e h a;
        lists = lists-more old new start events e h a;
        moments = moments.0;
      };
      keeps = moments.1;
    }

-- What two states of one core have in common.
use Rattle.std.proofs.Common.{◌≡◌, ℕ, ◌+◌, List, [], length, Some, sym, ap, ◌∙◌, arith, slice_get}
use Rattle.sg_list.proofs.ListLemmas.{some-same, slice_get-map, slice_get-some, slice_get-below}
use Rattle.sg_machine.specs.declared.setup.SourceSetup.{SourceSetup}
use Rattle.sg_machine.specs.declared.state.Dest.{Dest}
use Rattle.sg_machine.specs.declared.state.DestEntry.{DestEntry}
use Rattle.sg_machine.specs.declared.state.InletRecords.{InletRecords}
use Rattle.sg_machine.specs.declared.state.State.{State}
use Rattle.sg_machine.specs.Marks.{mark_of}
use Rattle.sg_machine.specs.Verdicts.{is_listed}
use Rattle.sg_queue.specs.declared.entry.Entry.{Entry as Waiting}
use Rattle.sg_sinks.specs.Standing.{sink_of, lengths_of, waiting_from}
use Rattle.sg_sinks.specs.States.{SinkState}
use Rattle.sg_stores.proofs.GetLemmas.{none-of}
use Rattle.sg_standing.specs.States.{CoreState}
use Rattle.sg_standing.specs.Sources.{mark_at}
use Rattle.sg_standing.specs.Standing.{IsAt, is_broken, source_of}
use Rattle.sg_standing.specs.declared.source.Source.{Source}
use Rattle.sg_standing.proofs.ImageLaws.{shows-at}
use Rattle.sg_standing.proofs.More.{placed}
use Rattle.sg_core.specs.Answers.{credit_left}
use Rattle.sg_core.proofs.Fits.{credit-of, left-length}
use Rattle.sg_core.proofs.PositionSteps.{mark-at, behind}

-- Inlets.

-- the source of a core that an inlet is behind
pub record IsSeen (core : CoreState) (s : State) (i : ℕ) (x : InletRecords) : Type 0 where
  pub source : Source
  pub there : slice_get core.sources i ≡ Some source
  pub is : source ≡ source_of s.dests i x

pub seen : (core : CoreState) (s : State) (i : ℕ) (x : InletRecords) → IsAt core s → slice_get s.inlets i ≡ Some x → IsSeen core s i x
seen core s i x at h =
    let r = (shows-at core s at).sources i x h in
    let b = behind core s i r.0 at r.1 in
    let same : b.inlet ≡ x = some-same b.inlet x (sym b.there ∙ h) in
    record { source = r.0; there = r.1; is = b.shown ∙ ap (λ (y : InletRecords). source_of s.dests i y) same }

pub inlet-there : (core : CoreState) (s t : State) (i : ℕ) (y : InletRecords) → IsAt core s → IsAt core t → slice_get t.inlets i ≡ Some y → (x : InletRecords) × (slice_get s.inlets i ≡ Some x)
inlet-there core s t i y at at' h =
    let low = slice_get-below t.inlets i y h in
    let n = (shows-at core s at).every_source in
    let m = (shows-at core t at').every_source in
    slice_get-some s.inlets i (omega (arith, low, n, m))

agree-source : (core : CoreState) (s t : State) (i : ℕ) (x y : InletRecords) → IsAt core s → IsAt core t → slice_get s.inlets i ≡ Some x → slice_get t.inlets i ≡ Some y → source_of s.dests i x ≡ source_of t.dests i y
agree-source core s t i x y at at' h k =
    let a = seen core s i x at h in
    let b = seen core t i y at' k in
    sym a.is ∙ some-same a.source b.source (sym a.there ∙ b.there) ∙ b.is

pub agree-mark : (core : CoreState) (s t : State) (i : ℕ) (x y : InletRecords) → IsAt core s → IsAt core t → slice_get s.inlets i ≡ Some x → slice_get t.inlets i ≡ Some y → mark_of s.dests i x ≡ mark_of t.dests i y
agree-mark core s t i x y at at' h k = sym (mark-at s.dests i x) ∙ ap mark_at (agree-source core s t i x y at at' h k) ∙ mark-at t.dests i y

pub agree-setup : (core : CoreState) (s t : State) (i : ℕ) (x y : InletRecords) → IsAt core s → IsAt core t → slice_get s.inlets i ≡ Some x → slice_get t.inlets i ≡ Some y → x.setup ≡ y.setup
agree-setup core s t i x y at at' h k = ap (λ (z : Source). z.setup) (agree-source core s t i x y at at' h k)

pub agree-credit : (core : CoreState) (s t : State) (i : ℕ) (x : InletRecords) → IsAt core s → IsAt core t → slice_get s.inlets i ≡ Some x → credit_left s i ≡ credit_left t i
agree-credit core s t i x at at' h =
    let a = seen core s i x at h in
    sym (credit-of core s i a.source at a.there) ∙ credit-of core t i a.source at' a.there

-- the stored position, and whether the store has failed
pub agree-stored : (core : CoreState) (s t : State) (i u : ℕ) (x y : InletRecords) → IsAt core s → IsAt core t → slice_get s.inlets i ≡ Some x → slice_get t.inlets i ≡ Some y → y.setup.store ≡ Some u
    → (x.stored ≡ y.stored) × (is_listed u s.failed ≡ is_listed u t.failed)
agree-stored core s t i u x y at at' h k has =
    let store = (shows-at core t at').positions i u y k has in
    let has' : x.setup.store ≡ Some u = ap (λ (z : SourceSetup). z.store) (agree-setup core s t i x y at at' h k) ∙ has in
    let a = placed core s i u x store.0 at h has' store.1 in
    let b = placed core t i u y store.0 at' k has store.1 in
    (sym a.position_is ∙ b.position_is, sym a.failed_is ∙ b.failed_is)

-- Destinations.

pub dest-there : (core : CoreState) (s t : State) (d : ℕ) (y : Dest) → IsAt core s → IsAt core t → slice_get t.dests d ≡ Some y → (x : Dest) × (slice_get s.dests d ≡ Some x)
dest-there core s t d y at at' h =
    let low = slice_get-below t.dests d y h in
    let n = (shows-at core s at).every_sink in
    let m = (shows-at core t at').every_sink in
    slice_get-some s.dests d (omega (arith, low, n, m))

pub sink-at : (core : CoreState) (s : State) (d : ℕ) (x : Dest) → IsAt core s → slice_get s.dests d ≡ Some x → slice_get core.sinks d ≡ Some (sink_of (is_broken s.failed x) x)
sink-at core s d x at h = ap (λ ks. slice_get ks d) at.sinks ∙ slice_get-map (λ (y : Dest). sink_of (is_broken s.failed y) y) s.dests d x h

agree-sink : (core : CoreState) (s t : State) (d : ℕ) (x y : Dest) → IsAt core s → IsAt core t → slice_get s.dests d ≡ Some x → slice_get t.dests d ≡ Some y → sink_of (is_broken s.failed x) x ≡ sink_of (is_broken t.failed y) y
agree-sink core s t d x y at at' h k = some-same (sink_of (is_broken s.failed x) x) (sink_of (is_broken t.failed y) y) (sym (sink-at core s d x at h) ∙ sink-at core t d y at' k)

pub agree-broken : (core : CoreState) (s t : State) (d : ℕ) (x y : Dest) → IsAt core s → IsAt core t → slice_get s.dests d ≡ Some x → slice_get t.dests d ≡ Some y → is_broken s.failed x ≡ is_broken t.failed y
agree-broken core s t d x y at at' h k = ap (λ (z : SinkState). z.broken) (agree-sink core s t d x y at at' h k)

none-left : (n m : ℕ) (xs ys : List DestEntry) → lengths_of xs ≡ lengths_of ys → waiting_from n xs ≡ waiting_from m ys → xs ≡ [] → ys ≡ []
none-left n m xs ys lengths waiting none =
    let a : lengths_of ys ≡ [] = sym lengths ∙ ap lengths_of none in
    let b : waiting_from m ys ≡ [] = sym waiting ∙ ap (waiting_from n) none in
    let p : length (lengths_of ys) ≡ 0 = ap (λ (zs : List ℕ). length zs) a in
    let q : length (waiting_from m ys) ≡ 0 = ap (λ (zs : List Waiting). length zs) b in
    let all = left-length m ys in
    none-of ys (omega (arith, p, q, all))

-- where nothing is left of one, nothing is of the other
pub agree-left : (core : CoreState) (s t : State) (d : ℕ) (x y : Dest) → IsAt core s → IsAt core t → slice_get s.dests d ≡ Some x → slice_get t.dests d ≡ Some y → x.left ≡ [] → y.left ≡ []
agree-left core s t d x y at at' h k none =
    let same = agree-sink core s t d x y at at' h k in
    none-left (length x.settled + length (lengths_of x.left)) (length y.settled + length (lengths_of y.left)) x.left y.left (ap (λ (z : SinkState). z.lengths) same) (ap (λ (z : SinkState). z.entries) same) none

-- A run that is served begins no file anew where its files have only grown: each is read on from the position in its store.
use Rattle.std.proofs.Common.{◌≡◌, ℕ, ◌<◌, List, ◌++◌, Bool, Some, None, Option, sym, ap, ◌∙◌, subst, arith, inl, slice_get}
use Rattle.std.specs.Prelude.{◌^◌, IfSome}
use Rattle.sg_list.proofs.ListLemmas.{some-same, slice_get-some, slice_get-below, slice_get-map}
use Rattle.sg_device.specs.Inlet.{InletState}
use Rattle.sg_device.specs.Outlet.{OutletState}
use Rattle.sg_outside.specs.World.{Files, StandsIn, place_in}
use Rattle.sg_outside.specs.declared.request.InletSpec.{InletSpec}
use Rattle.sg_outside.specs.declared.request.InletSpec.TheVariants.{File, Slot}
use Rattle.sg_msg.specs.declared.offer.Offer.{Offer}
use Rattle.sg_frame.specs.Records.{Record}
use Rattle.sg_frame.specs.declared.kind.FrameKind.{FrameKind}
use Rattle.sg_machine.specs.declared.setup.Setup.{Setup}
use Rattle.sg_machine.specs.declared.setup.SourceSetup.{SourceSetup}
use Rattle.sg_machine.specs.declared.state.InletRecords.{InletRecords}
use Rattle.sg_machine.specs.declared.state.State.{State}
use Rattle.sg_machine.specs.Counts.{opening_from}
use Rattle.sg_machine.specs.Runs.{opened_inlet, opened, after_all}
use Rattle.sg_machine.proofs.InletLemmas.{counts-inlet}
use Rattle.sg_stores.specs.Positions.{stored_in}
use Rattle.sg_standing.specs.Standing.{IsAt}
use Rattle.sg_standing.specs.States.{CoreState, setup_of}
use Rattle.sg_standing.specs.declared.source.Source.{Source}
use Rattle.sg_core.specs.Opening.{IsOpen}
use Rattle.sg_run_plan.specs.declared.inlet.InletPlan.{InletPlan}
use Rattle.sg_turns.specs.declared.ended.Ended.TheVariants.{Quiet}
use Rattle.sg_laws.proofs.OwnLemmas.{calls-run}
use Rattle.sg_serve.specs.Devices.{inlet_asked}
use Rattle.sg_serve.specs.Plan.{IsRunnable}
use Rattle.sg_serve.specs.Rewinds.{position_at, places_of}
use Rattle.sg_serve.specs.Run.{CoreRun, Reached, HoldsRun, IsServed, PlanRunHolds}
use Rattle.sg_serve.specs.declared.counts.Counts.{Counts}
use Rattle.sg_serve.specs.declared.ending.PlanEnded.TheVariants.{Ran as RanSo}
use Rattle.sg_run_plan.specs.declared.plan.RunPlan.{RunPlan}
use Rattle.sg_serve.proofs.ActorLemmas.{store-by-setup}
use Rattle.sg_laws.proofs.AgreeLemmas.{seen}
use Rattle.sg_laws.specs.Resuming.{IsReadingBegun}
use Rattle.sg_laws.specs.Covered.{IsFile}
use Rattle.sg_laws.proofs.BeginLemmas.{opened-inlet-at}
use Rattle.sg_laws.specs.Happened.{AreOfFiles, AreBytesOf, IsOfFile, TellFiles}
use Rattle.sg_laws.specs.Clean.{AreFilesByLines}
use Rattle.sg_laws.specs.Fresh.{HasLimit, HaveLimits}
use Rattle.sg_laws.proofs.LineLemmas.{read-on-from}
use Rattle.sg_laws.proofs.PlaceLemmas.{opening-append, later-still, rewinds-here}

-- Where an inlet gives from.

-- the inlet of a file gives from the place that was asked for, where that of the file's bytes is this place
from-place : (files : Files) (once : Bool) (spec : InletSpec) (limit position : ℕ) (feed : InletState) (bytes : List ℕ) → IsOfFile spec → HasLimit spec limit → AreBytesOf files spec bytes → StandsIn (Some files) (inlet_asked once spec) position feed
    → place_in limit bytes position ≡ position → feed.place ≡ position
from-place files once (File path end most) limit position feed bytes is same are stands back =
    let leaves = stands.0 in
    let P : Option (List ℕ) → Type 0 = λ o. IfSome o (λ held. held ≡ bytes) in
    let held : leaves.0 ≡ bytes = subst P leaves.1.0 are in
    leaves.1.1.0 ∙ ap (λ (n : ℕ). place_in n leaves.0 position) same ∙ ap (λ (bs : List ℕ). place_in limit bs position) held ∙ back
from-place files once (Slot ip port slot end) limit position feed bytes is same are stands back = absurd is

from-told : (told : Option Files) (files : Files) (once : Bool) (spec : InletSpec) (limit position : ℕ) (feed : InletState) (bytes : List ℕ) → told ≡ Some files → IsOfFile spec → HasLimit spec limit → AreBytesOf files spec bytes
    → StandsIn told (inlet_asked once spec) position feed → place_in limit bytes position ≡ position → feed.place ≡ position
from-told told files once spec limit position feed bytes q is same are stands back =
    let P : Option Files → Type 0 = λ o. StandsIn o (inlet_asked once spec) position feed in
    from-place files once spec limit position feed bytes is same are (subst P q stands) back

-- Opening places.

-- two states of one core have one opening place of an inlet
agree-opening : (core : CoreState) (s t : State) (i : ℕ) (x y : InletRecords) → IsAt core s → IsAt core t → slice_get s.inlets i ≡ Some x → slice_get t.inlets i ≡ Some y → x.opening ≡ y.opening
agree-opening core s t i x y at at' h k =
    let a = seen core s i x at h in
    let b = seen core t i y at' k in
    ap (λ (z : Source). z.opening) (sym a.is ∙ some-same a.source b.source (sym a.there ∙ b.there) ∙ b.is)

-- the place with which an inlet was opened
pub place-opened : (plan : RunPlan) (reached : Reached) (run : CoreRun) (o : IsOpen plan.setup reached.stores run.first) (i : ℕ) (source : SourceSetup) → slice_get plan.setup.sources i ≡ Some source
    → slice_get (o.opening).places i ≡ Some (stored_in run.first.stores source.store)
place-opened plan reached run o i source here =
    let f : SourceSetup → ℕ = λ s. stored_in run.first.stores s.store in
    ap (λ (xs : List ℕ). slice_get xs i) o.places ∙ slice_get-map f plan.setup.sources i source here

-- that place is the stored position
pub place-stored : (plan : RunPlan) (reached : Reached) (run : CoreRun) (o : IsOpen plan.setup reached.stores run.first) (i : ℕ) (source : SourceSetup) → slice_get plan.setup.sources i ≡ Some source → stored_in run.first.stores source.store ≡ position_at run.first i
place-stored plan reached run o i source here =
    let sources : (setup_of run.first).sources ≡ plan.setup.sources = ap (λ (s : Setup). s.sources) o.setups in
    ap (λ (x : Option ℕ). stored_in run.first.stores x) (sym (store-by-setup run.first plan.setup.sources i source sources here))

module _ {R I O : Type 0} (feed : I → InletState) (drain : O → OutletState) (offers : R → ℕ → Record → List Offer → Type 0) (inlets dests : R → ℕ) (files : Option Files) (plan : RunPlan) (routers : List R) (rounds : ℕ) (reached : Reached) (bytes : ℕ → List ℕ)
    (can : IsRunnable plan) (of_files : AreOfFiles plan) (lines : AreFilesByLines plan) (limits : HaveLimits plan) (tell : TellFiles files plan reached.inlets bytes) where
  -- no file was begun anew
  still-opened : (run : CoreRun) (counts : Option Counts) → HoldsRun files plan reached run → IsServed feed drain offers inlets dests plan routers rounds reached run Quiet counts → (o : IsOpen plan.setup reached.stores run.first) → (i : ℕ) (file : IsFile plan.setup i)
      → ((inlet : InletPlan) → slice_get plan.inlets.items i ≡ Some inlet → IsReadingBegun inlet.kind inlet.limit (bytes i) (position_at run.first i)) → position_at run.first i < 2 ^ 63
      → opening_from i (stored_in run.first.stores file.source.store) run.prelude ≡ stored_in run.first.stores file.source.store
  still-opened run counts holds served o i file begun low =
      let position = position_at run.first i in
      let place = stored_in run.first.stores file.source.store in
      let stored : place ≡ position = place-stored plan reached run o i file.source file.at in
      let below = slice_get-below plan.setup.sources i file.source file.at in
      let mine = slice_get-some plan.inlets.items i (let n = can.sources in omega (arith, below, n)) in
      let inlet = mine.0 in
      let fed = slice_get-some reached.inlets i (let n = can.sources in let m = served.all_inlets in omega (arith, below, n, m)) in
      let asked = slice_get-map (λ (p : InletPlan). inlet_asked plan.once p.spec) plan.inlets.items i inlet mine.1 in
      let begins = holds.begin_at i (inlet_asked plan.once inlet.spec) fed.0 asked fed.1 in
      let K : FrameKind → Type 0 = λ kind. IsReadingBegun kind inlet.limit (bytes i) position in
      let back = read-on-from inlet.limit (bytes i) position (subst K (lines i inlet file mine.1) (begun inlet mine.1)) low in
      let from : (fed.0).place ≡ position =
      from-told files tell.files plan.once inlet.spec inlet.limit position fed.0 (bytes i) tell.told_are (of_files i inlet file mine.1) (limits i inlet file mine.1) (tell.bytes_are i inlet file mine.1) begins.stands back in
      let places : slice_get (places_of reached.inlets) i ≡ Some (fed.0).place = slice_get-map (λ (y : InletState). y.place) reached.inlets i fed.0 fed.1 in
      let same : (fed.0).place ≡ place = from ∙ sym stored in
      ap (opening_from i place) served.rewinds ∙ rewinds-here i place (position_at run.first) 0 i (places_of reached.inlets) (fed.0).place (omega arith) places stored (inl same) ∙ same

  -- so an inlet's opening place is at the end what it was at first
  pub resumed-held : (core : Option CoreRun) (counts : Option Counts) (run : CoreRun) → PlanRunHolds feed drain offers inlets dests files plan routers rounds reached core (RanSo Quiet counts) → core ≡ Some run → (o : IsOpen plan.setup reached.stores run.first)
      → (t : State) → IsAt run.last t → (i : ℕ) (file : IsFile plan.setup i) → ((inlet : InletPlan) → slice_get plan.inlets.items i ≡ Some inlet → IsReadingBegun inlet.kind inlet.limit (bytes i) (position_at run.first i)) → position_at run.first i < 2 ^ 63
      → (inlet : InletRecords) → slice_get t.inlets i ≡ Some inlet → slice_get (o.opening).places i ≡ Some inlet.opening
  resumed-held None counts run h q = absurd (let wrong : None ≡ Some run = q in cc)
  resumed-held (Some core) counts run (holds, served) q =
      let P : CoreRun → Type 0 = λ r. (o : IsOpen plan.setup reached.stores r.first)
      → (t : State) → IsAt r.last t → (i : ℕ) (file : IsFile plan.setup i) → ((inlet : InletPlan) → slice_get plan.inlets.items i ≡ Some inlet → IsReadingBegun inlet.kind inlet.limit (bytes i) (position_at r.first i)) → position_at r.first i < 2 ^ 63
      → (inlet : InletRecords) → slice_get t.inlets i ≡ Some inlet → slice_get (o.opening).places i ≡ Some inlet.opening in
      let here : P core =
      λ o t at i file begun low inlet there.
      let own = (holds.core).opens in
      let start = opened plan.setup own.opening in
      let stood = ((holds.core).begins).stands plan.setup own.opening own.stands in
      let serves = (served.runs).serves in
      let h = calls-run core.begun core.last core.made start core.prelude (serves.took).makes stood in
      let ran = h.1.0 in
      let events = core.prelude ++ h.0 in
      let source = file.source in
      let place = stored_in core.first.stores source.store in
      let first = opened-inlet-at plan.setup.sources (own.opening).places i source place file.at (place-opened plan reached core own i source file.at) in
      let c = counts-inlet start events i (opened_inlet source place) ran.stands.legal first in
      let still : opening_from i place events ≡ place =
      opening-append i place core.prelude h.0
      ∙ ap (λ (n : ℕ). opening_from i n h.0) (still-opened core counts holds served own i file begun low)
      ∙ later-still i place h.0 core.made ran.acts in
      let opening : inlet.opening ≡ place = agree-opening core.last t (after_all start events) i inlet c.0 at ran.stands.at there c.1 ∙ c.2.opening ∙ still in
      place-opened plan reached core o i source file.at ∙ ap (λ (n : ℕ). Some n) (sym opening) in
      subst P (some-same core run q) here

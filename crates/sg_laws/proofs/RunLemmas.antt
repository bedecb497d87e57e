-- A plan's run leaves covered what it found covered.
use Rattle.std.proofs.Common.{◌≡◌, ℕ, suc, zero, ◌+◌, List, [], ◌∷◌, ◌++◌, length, map, Some, None, Option, true, false, not, ◌&&◌, take, drop, refl, sym, ap, ◌∙◌, subst, arith, inl, inr, ◌⊎◌, slice_get, append_assoc}
use Rattle.std.specs.Prelude.{pos, ◌==◌, Contains}
use Rattle.std.specs.Option.{option_map_or}
use Rattle.std.proofs.lemmas.Bool.{cases_eq}
use Rattle.std.proofs.lemmas.List.{append-nil, length-map, length-append, take-append-drop}
use Rattle.std.proofs.lemmas.List.Elements.{Contains-append_left}
use Rattle.sg_list.specs.Lists.{passes_at}
use Rattle.sg_list.proofs.ListLemmas.{some-same, slice_get-some, slice_get-below, slice_get-map, drop-get}
use Rattle.sg_device.specs.Disk.{DiskState}
use Rattle.sg_device.specs.Inlet.{InletState, stamped}
use Rattle.sg_device.specs.Outlet.{OutletState}
use Rattle.sg_outside.specs.World.{Files}
use Rattle.sg_msg.specs.declared.offer.Offer.{Offer}
use Rattle.sg_frame.specs.Records.{Record, records}
use Rattle.sg_machine.specs.declared.event.Act.{Act}
use Rattle.sg_machine.specs.declared.event.Act.TheVariants.{Admit, Settle, Refill, Store, Rewind, Look}
use Rattle.sg_machine.specs.declared.event.Event.{Event}
use Rattle.sg_machine.specs.declared.setup.DestSetup.{DestSetup}
use Rattle.sg_machine.specs.declared.setup.Setup.{Setup}
use Rattle.sg_machine.specs.declared.setup.SourceSetup.{SourceSetup}
use Rattle.sg_machine.specs.declared.state.InletRecords.{InletRecords}
use Rattle.sg_machine.specs.declared.state.State.{State}
use Rattle.sg_machine.specs.Legal.{is_nil, works, may_rewind, is_legal, is_legal_act}
use Rattle.sg_machine.specs.Effects.{after}
use Rattle.sg_machine.specs.Runs.{BufferedEntry, opened_inlet, opened_inlets, opened, after_all, are_legal}
use Rattle.sg_machine.specs.Counts.{ends_by, ends_admitted, opening_by, opening_from}
use Rattle.sg_machine.specs.Safe.{Images, Safe, nothing}
use Rattle.sg_machine.proofs.RunLemmas.{are_legal-join, are_legal-parts, both-true, length-inlets}
use Rattle.sg_machine.proofs.InletLemmas.{counts-inlet}
use Rattle.sg_sinks.specs.States.{SinkState}
use Rattle.sg_standing.specs.Images.{positions_in, position_in, AreListsIn, AreImages, AreImagesBetween}
use Rattle.sg_standing.specs.States.{setup_of}
use Rattle.sg_standing.specs.declared.source.Source.{Source}
use Rattle.sg_stores.specs.Positions.{stored_in}
use Rattle.sg_stores.specs.Stores.{StoreState}
use Rattle.sg_core.specs.Opening.{IsOpen, NumberStores}
use Rattle.sg_run_plan.specs.declared.inlet.InletPlan.{InletPlan}
use Rattle.sg_serve.specs.Devices.{AreFetching}
use Rattle.sg_serve.specs.Plan.{IsRunnable}
use Rattle.sg_serve.specs.Rewinds.{position_at}
use Rattle.sg_serve.specs.Run.{CoreRun, Reached, HoldsRun, PlanRunHolds}
use Rattle.sg_serve.specs.declared.ending.PlanEnded.{PlanEnded}
use Rattle.sg_serve.specs.declared.ending.PlanEnded.TheVariants.{Before, Ran as RanSo}
use Rattle.sg_run_plan.specs.declared.plan.RunPlan.{RunPlan}
use Rattle.sg_serve.proofs.ActorLemmas.{store-by-setup}
use Rattle.sg_laws.specs.Pieces.{Piece, pieces, Rise, behind}
use Rattle.sg_laws.specs.Resuming.{IsReadingBegun}
use Rattle.sg_laws.proofs.ItemRestLemmas.{ends-rise}
use Rattle.sg_laws.specs.Covered.{Pass, Delivery, Offers, IsFile, Covered}
use Rattle.sg_laws.specs.Passes.{AreAdmitted, pieces_of, BeginsWithImages, IsStoppedRun}
use Rattle.sg_laws.specs.Adding.{offers_in, Grow}
use Rattle.sg_laws.proofs.CoverLemmas.{covers-run}
use Rattle.sg_laws.proofs.BeginLemmas.{opened-inlet-at}
use Rattle.sg_laws.proofs.PassLemmas.{admitted-split, admitted-ends, pieces-append}
use Rattle.sg_laws.proofs.PieceLemmas.{ends}
use Rattle.sg_laws.proofs.PassPlaceLemmas.{opening-or-zero}
use Rattle.sg_laws.specs.Happened.{positions_by, AreListsBy, held_by, EachChoice, AllTell, TellFiles, files_of, Happened, stopped_with, CoversStop, LeavesCovered, PlanRunsCover}
use Rattle.sg_laws.specs.PlanRuns.{StopsWithin, StopsThen}
use Rattle.sg_laws.proofs.HappenedLemmas.{made-setup, fetch-some, files-here}
use Rattle.sg_laws.proofs.MergeLemmas.{admitted-nothing}
use Rattle.sg_laws.proofs.OpenLemmas.{contents, contents-images, contents-lists, begins-with}
use Rattle.sg_laws.proofs.PlaceLemmas.{opening-append}
use Rattle.sg_laws.proofs.HeadlineLemmas.{ImagesAreSafe, ImagesBetweenAreSafe}

-- The run as one that was stopped.

positions-same : (sources : List Source) (images : List (List ℕ)) → positions_in sources images ≡ positions_by (map (λ (s : Source). s.setup) sources) images
positions-same [] images = refl
positions-same (s ∷ sources) images = ap (λ (xs : List ℕ). position_in images s.setup.store ∷ xs) (positions-same sources images)

pub files-rise : (plans : List InletPlan) (bytes : ℕ → List ℕ) (i : ℕ) (o : Option InletPlan) → slice_get plans i ≡ o → AreFetching plans → Rise 0 (option_map_or (λ (plan : InletPlan). pieces plan.kind plan.limit (bytes i)) o [])
files-rise plans bytes i None q f = tt
files-rise plans bytes i (Some plan) q f = ends-rise plan.kind plan.limit (stamped (bytes i) (pos 0)) (fetch-some plans i plan f q)

-- where reading of a file began is a place where its items may begin
pub begun-at : (plan : RunPlan) (bytes : ℕ → List ℕ) (i : ℕ) (inlet : InletPlan) (from position : ℕ) → slice_get plan.inlets.items i ≡ Some inlet
    → (position ≡ 0) ⊎ ((piece : Piece) × (Contains (files_of plan.inlets.items bytes i) piece × (piece.end ≡ position))) → (from ≡ position) ⊎ (from ≡ 0) → IsReadingBegun inlet.kind inlet.limit (bytes i) from
begun-at plan bytes i inlet from position at (inl none) (inl e) = inl (e ∙ none)
begun-at plan bytes i inlet from position at (inr y) (inl e) =
    let P : List Piece → Type 0 = λ xs. Contains xs y.0 in
    inr (y.0, (subst P (files-here plan.inlets.items bytes i inlet at) y.1.0, y.1.1 ∙ sym e))
begun-at plan bytes i inlet from position at place (inr e) = inl e

-- Once a record of an inlet came in, its opening place stays.

nil-list : (xs : List ℕ) → is_nil xs ≡ true → xs ≡ []
nil-list [] h = refl
nil-list (x ∷ xs) h = grind (arith, h)

rewind-nil : (s : State) (i : ℕ) (failed : List ℕ) (inlet : InletRecords) → is_legal_act s (Rewind i) failed ≡ true → slice_get s.inlets i ≡ Some inlet → inlet.ends ≡ []
rewind-nil s i failed inlet l h =
    let P : Option InletRecords → Type 0 = λ o. option_map_or (may_rewind s.failed) o false ≡ true in
    let legal = subst P h ((both-true (passes_at s.inlets i (may_rewind s.failed)) (is_nil failed) l).0) in
    let first = both-true (works s.failed inlet.setup.store && is_nil inlet.ends) (not (inlet.stored == 0)) legal in
    nil-list inlet.ends ((both-true (works s.failed inlet.setup.store) (is_nil inlet.ends) first.0).1)

opening-act : (s : State) (act : Act) (failed : List ℕ) (i : ℕ) (inlet : InletRecords) → is_legal_act s act failed ≡ true → slice_get s.inlets i ≡ Some inlet → (inlet.ends ++ ends_by i act ≡ [] → ⊥) → opening_by i inlet.opening act ≡ inlet.opening
opening-act s (Admit j records vs) failed i inlet l h some = refl
opening-act s (Settle d n) failed i inlet l h some = refl
opening-act s (Refill d n) failed i inlet l h some = refl
opening-act s (Store j w) failed i inlet l h some = refl
opening-act s (Rewind j) failed i inlet l h some =
    elim (cases_eq j i) [
      | inl e ↦ (
          let P : ℕ → Type 0 = λ n. is_legal_act s (Rewind n) failed ≡ true in
          let none = rewind-nil s i failed inlet (subst P e l) h in
          absurd (some (ap (λ (xs : List ℕ). xs ++ []) none)))
      | inr ne ↦ (let miss : (j == i) ≡ false = grind arith in rw miss refl)
    ]
opening-act s Look failed i inlet l h some = refl

append-some : (xs ys : List ℕ) → (xs ≡ [] → ⊥) → xs ++ ys ≡ [] → ⊥
append-some [] ys some e = some refl
append-some (x ∷ xs) ys some e = let long = length-append (x ∷ xs) ys in omega (arith, ap length e, long)

stays : (s : State) (e : Event) (rest : List Event) (i : ℕ) (inlet : InletRecords) → are_legal s (e ∷ rest) ≡ true → slice_get s.inlets i ≡ Some inlet → (inlet.ends ++ ends_by i e.act ≡ [] → ⊥) → opening_from i inlet.opening (e ∷ rest) ≡ inlet.opening
stays s e [] i inlet l h some = opening-act s e.act e.failed i inlet ((both-true (is_legal s e) true l).0) h some
stays s e (f ∷ rest) i inlet l h some =
    let p = both-true (is_legal s e) (are_legal (after s e) (f ∷ rest)) l in
    let one : are_legal s (e ∷ []) ≡ true = (let first = p.0 in rw first refl) in
    let c = counts-inlet s (e ∷ []) i inlet one h in
    let now = opening-act s e.act e.failed i inlet p.0 h some in
    let ends_are : (c.0).ends ≡ inlet.ends ++ ends_by i e.act = c.2.ends ∙ ap (λ (xs : List ℕ). inlet.ends ++ xs) (append-nil (ends_by i e.act)) in
    let opening : (c.0).opening ≡ opening_by i inlet.opening e.act = c.2.opening in
    let next = stays (after s e) f rest i c.0 p.1 c.1 (append-some (c.0).ends (ends_by i f.act) (λ q. some (sym ends_are ∙ q))) in
    ap (λ (n : ℕ). opening_from i n (f ∷ rest)) (sym opening) ∙ next ∙ opening ∙ now

legal-behind : (s : State) (es : List Event) (e : Event) (rest : List Event) → are_legal s (es ++ e ∷ rest) ≡ true → are_legal (after_all s es) (e ∷ rest) ≡ true
legal-behind s es e rest l = (are_legal-parts s es (e ∷ rest) l).1

ends-append-admitted : (i : ℕ) (es fs : List Event) → ends_admitted i (es ++ fs) ≡ ends_admitted i es ++ ends_admitted i fs
ends-append-admitted i [] fs = refl
ends-append-admitted i (e ∷ es) fs = ap (λ (xs : List ℕ). ends_by i e.act ++ xs) (ends-append-admitted i es fs) ∙ sym (append_assoc (ends_by i e.act) (ends_admitted i es) (ends_admitted i fs))

opened-parts : (ss : List SourceSetup) (ps : List ℕ) (i : ℕ) (inlet : InletRecords) → slice_get (opened_inlets ss ps) i ≡ Some inlet → inlet.ends ≡ []
opened-parts [] ps i inlet h = absurd (let wrong : None ≡ Some inlet = h in cc)
opened-parts (s ∷ ss) [] zero inlet h = let e = some-same _ inlet h in sym (ap (λ (x : InletRecords). x.ends) e)
opened-parts (s ∷ ss) (p ∷ ps) zero inlet h = let e = some-same _ inlet h in sym (ap (λ (x : InletRecords). x.ends) e)
opened-parts (s ∷ ss) [] (suc i) inlet h = opened-parts ss [] i inlet h
opened-parts (s ∷ ss) (p ∷ ps) (suc i) inlet h = opened-parts ss ps i inlet h

-- of what was read in all, a first part
read-part : (i : ℕ) (came : List Pass) (rest all held : List Piece) (place last : ℕ) (mine : List Piece) → mine ≡ pieces_of i came → all ≡ pieces_of i came ++ rest → ((later : List Piece) × (behind last held ≡ all ++ later))
    → ((ends (pieces_of i came) ≡ [] → ⊥) → last ≡ place) → (more : List Piece) × (behind place held ≡ pieces_of i came ++ more)
read-part i came rest all held place last [] q both full opening = (behind place held, ap (λ (xs : List Piece). xs ++ behind place held) q)
read-part i came rest all held place last (x ∷ mine) q both full opening =
    let same : last ≡ place = opening (λ e. let wrong : ends (x ∷ mine) ≡ [] = ap ends q ∙ e in omega (arith, ap length wrong)) in (
      rest ++ full.0,
      ap (λ (n : ℕ). behind n held) (sym same) ∙ full.1 ∙ ap (λ (xs : List Piece). xs ++ full.0) both ∙ append_assoc (pieces_of i came) rest full.0,
    )

-- the laws of what a stop leaves
pub record LawsOfImages : Type 0 where
  pub now : ImagesAreSafe
  pub between : ImagesBetweenAreSafe

-- the lists are those of the core's destinations
lists-in : (plan : RunPlan) (run : CoreRun) (images : List (List ℕ)) (lists : List (List BufferedEntry)) → setup_of run.last ≡ plan.setup → AreListsBy plan.setup.dests images lists → AreListsIn run.last.sinks images lists
lists-in plan run images lists setups in_lists =
    let dests : map (λ (k : SinkState). k.setup) run.last.sinks ≡ plan.setup.dests = ap (λ (s : Setup). s.dests) setups in
    record {
      every = in_lists.every ∙ sym (ap length dests) ∙ length-map run.last.sinks (λ (k : SinkState). k.setup);
      each = λ d sink buffer list b h q g at.
          (let at_dest : slice_get plan.setup.dests d ≡ Some sink.setup = ap (λ (ds : List DestSetup). slice_get ds d) (sym dests) ∙ slice_get-map (λ (k : SinkState). k.setup) run.last.sinks d sink h in
          in_lists.each d sink.setup buffer list b at_dest q g at);
    }

-- the positions are those of its sources
positions-by : (plan : RunPlan) (run : CoreRun) (images : List (List ℕ)) → setup_of run.last ≡ plan.setup → positions_in run.last.sources images ≡ positions_by plan.setup.sources images
positions-by plan run images setups = positions-same run.last.sources images ∙ ap (λ (s : Setup). positions_by s.sources images) setups

-- A run of a plan.

-- what a run holds whose core was opened, and its setup at the end
pub record Held (files : Option Files) (plan : RunPlan) (reached : Reached) (run : CoreRun) : Type 0 where
  pub holds : HoldsRun files plan reached run
  pub setups : setup_of run.last ≡ plan.setup

pub held-of : {R I O : Type 0} (feed : I → InletState) (drain : O → OutletState) (offers : R → ℕ → Record → List Offer → Type 0) (inlets dests : R → ℕ) (files : Option Files) (plan : RunPlan) (routers : List R) (rounds : ℕ) (reached : Reached)
    (core : Option CoreRun) (ending : PlanEnded) (run : CoreRun) → PlanRunHolds feed drain offers inlets dests files plan routers rounds reached core ending → core ≡ Some run → Held files plan reached run
held-of feed drain offers inlets dests files plan routers rounds reached None ending run h q = absurd (let wrong : None ≡ Some run = q in cc)
held-of feed drain offers inlets dests files plan routers rounds reached (Some core) (Before early) run (holds, stays) q =
    let P : CoreRun → Type 0 = λ r. Held files plan reached r in
    let o = (holds.core).opens in
    let here : P core = record { holds = holds; setups = ap setup_of stays.core_stays ∙ ((holds.core).begins).setup ∙ o.setups } in
    subst P (some-same core run q) here
held-of feed drain offers inlets dests files plan routers rounds reached (Some core) (RanSo ended counts) run (holds, served) q =
    let P : CoreRun → Type 0 = λ r. Held files plan reached r in
    let o = (holds.core).opens in
    let serves = (served.runs).serves in
    let here : P core = record { holds = holds; setups = made-setup core.begun core.last core.made (serves.took).makes ∙ ((holds.core).begins).setup ∙ o.setups } in
    subst P (some-same core run q) here

-- the position of a file is 0, or the end of an item of it
abbrev pub AreEnds : Setup → (ℕ → List Piece) → Images → Type 0
AreEnds setup items before = (i position : ℕ) → IsFile setup i → slice_get before.positions i ≡ Some position → (position ≡ 0) ⊎ ((piece : Piece) × (Contains (items i) piece × (piece.end ≡ position)))

-- it stays so as the files grow
pub ends-grown : (setup : Setup) (items more : ℕ → List Piece) (before : Images) → Grow items more → AreEnds setup items before → AreEnds setup more before
ends-grown setup items more before grow are i position file at =
    elim (are i position file at) [
      | inl none ↦ inl none
      | inr y ↦ (
          let g = grow i in
          let P : List Piece → Type 0 = λ xs. Contains xs y.0 in
          inr (y.0, (subst P (sym g.1) (Contains-append_left (items i) g.0 y.0 y.1.0), y.1.1)))
    ]

-- where reading of each file began is a place where its items may begin
pub begun-first : (plan : RunPlan) (reached : Reached) (run : CoreRun) (o : IsOpen plan.setup reached.stores run.first) (bytes : ℕ → List ℕ) (lists : List (List BufferedEntry)) → IsRunnable plan → NumberStores plan.setup (length reached.stores) → AllTell reached.stores
    → AreEnds plan.setup (files_of plan.inlets.items bytes) (held_by plan.setup (contents reached.stores) lists) → (i : ℕ) (inlet : InletPlan) (from : ℕ) → IsFile plan.setup i → slice_get plan.inlets.items i ≡ Some inlet
    → (from ≡ position_at run.first i) ⊎ (from ≡ 0) → IsReadingBegun inlet.kind inlet.limit (bytes i) from
begun-first plan reached run o bytes lists runnable numbers tells are i inlet from file at place =
    let begins = begins-with plan.setup reached.stores run.first o numbers tells in
    let before = held_by plan.setup (contents reached.stores) (o.opening).entries in
    let low = slice_get-below plan.setup.sources i file.source file.at in
    let many = begins.every_position in
    let p = slice_get-some before.positions i (omega (arith, low, many)) in
    let sources : (setup_of run.first).sources ≡ plan.setup.sources = ap (λ (s : Setup). s.sources) o.setups in
    let stored : p.0 ≡ position_at run.first i =
    some-same p.0 (position_at run.first i)
    (sym (begins.places i p.0 file p.1)
    ∙ ap (λ (xs : List ℕ). slice_get xs i) o.places
    ∙ slice_get-map (λ (s : SourceSetup). stored_in run.first.stores s.store) plan.setup.sources i file.source file.at
    ∙ ap (λ (x : Option ℕ). Some (stored_in run.first.stores x)) (sym (store-by-setup run.first plan.setup.sources i file.source sources file.at))) in
    begun-at plan bytes i inlet from p.0 at (are i p.0 file p.1) (elim place [ inl e ↦ inl (e ∙ sym stored) | inr e ↦ inr e ])

-- what is known of the run: it found covered what the contents of its stores hold, over files with fewer items or as many, and each file's
-- records are its first items behind the place at which its inlet began
record Known (offers : Offers) (files : Option Files) (plan : RunPlan) (reached : Reached) (run : CoreRun) (items : ℕ → List Piece) (bytes : ℕ → List ℕ) (taken : List Delivery) (passes : List Pass) (places : ℕ → ℕ) (h : Happened offers files plan reached run) : Type 0 where
  runnable : IsRunnable plan
  held : Held files plan reached run
  begins : BeginsWithImages plan.setup (held_by plan.setup (contents reached.stores) ((h.opens).opening).entries) (h.opens).opening
  grow : Grow items (files_of plan.inlets.items bytes)
  first : Covered plan.setup offers items taken passes places (held_by plan.setup (contents reached.stores) ((h.opens).opening).entries)
  reads : (i : ℕ) (inlet : InletRecords) → IsFile plan.setup i → slice_get (after_all (opened plan.setup (h.opens).opening) (run.prelude ++ h.later)).inlets i ≡ Some inlet
      → (later : List Piece) × (behind inlet.opening (files_of plan.inlets.items bytes i) ≡ pieces_of i h.came ++ later)

known-of : (offers : Offers) (files : Option Files) (plan : RunPlan) (reached : Reached) (run : CoreRun) (items : ℕ → List Piece) (bytes : ℕ → List ℕ) (taken : List Delivery) (passes : List Pass) (places : ℕ → ℕ) (h : Happened offers files plan reached run) → IsRunnable plan
    → Held files plan reached run → AllTell reached.stores → TellFiles files plan reached.inlets bytes → Grow items (files_of plan.inlets.items bytes)
    → Covered plan.setup offers items taken passes places (held_by plan.setup (contents reached.stores) ((h.opens).opening).entries) → Known offers files plan reached run items bytes taken passes places h
known-of offers files plan reached run items bytes taken passes places h runnable held tells tell grow first =
    let o = h.opens in
    let opening = o.opening in
    let start = opened plan.setup opening in
    let events = run.prelude ++ h.later in
    let N : ℕ → Type 0 = λ n. NumberStores plan.setup n in
    let numbers = subst N (sym (held.holds).all_stores) runnable.numbers in
    let are = ends-grown plan.setup items (files_of plan.inlets.items bytes) (held_by plan.setup (contents reached.stores) opening.entries) grow first.positions in
    record {
      runnable = runnable;
      held = held;
      begins = begins-with plan.setup reached.stores run.first o numbers tells;
      grow = grow;
      first = first;
      reads = λ i inlet file at.
          (let low = slice_get-below plan.setup.sources i file.source file.at in
          let mine = slice_get-some plan.inlets.items i (let n = runnable.sources in omega (arith, low, n)) in
          let f : SourceSetup → ℕ = λ s. stored_in run.first.stores s.store in
          let position = f file.source in
          let place_at : slice_get opening.places i ≡ Some position = ap (λ (xs : List ℕ). slice_get xs i) o.places ∙ slice_get-map f plan.setup.sources i file.source file.at in
          let c = counts-inlet start events i (opened_inlet file.source position) ((h.ran).stands).legal (opened-inlet-at plan.setup.sources opening.places i file.source position file.at place_at) in
          let is : c.0 ≡ inlet = some-same c.0 inlet (sym c.1 ∙ at) in
          let sources : (setup_of run.first).sources ≡ plan.setup.sources = ap (λ (s : Setup). s.sources) o.setups in
          let stored : position ≡ position_at run.first i = ap (λ (x : Option ℕ). stored_in run.first.stores x) (sym (store-by-setup run.first plan.setup.sources i file.source sources file.at)) in
          let from : inlet.opening ≡ opening_from i position events = sym (ap (λ (x : InletRecords). x.opening) is) ∙ c.2.opening in
          let place : (inlet.opening ≡ position_at run.first i) ⊎ (inlet.opening ≡ 0) = elim (opening-or-zero i position events) [ inl e ↦ inl (from ∙ e ∙ stored) | inr e ↦ inr (from ∙ e) ] in
          h.reads bytes i mine.0 inlet tell file mine.1 at (begun-first plan reached run o bytes opening.entries runnable numbers tells are i mine.0 inlet.opening file mine.1 place));
    }

-- Stops.

-- a stop behind these events with this one on is covered
covers-stop : (offers : Offers) (files : Option Files) (plan : RunPlan) (reached : Reached) (run : CoreRun) (items : ℕ → List Piece) (bytes : ℕ → List ℕ) (taken : List Delivery) (passes : List Pass) (places : ℕ → ℕ) (h : Happened offers files plan reached run)
    → Known offers files plan reached run items bytes taken passes places h → (es : List Event) (e : Event) (came : List Pass) (images : Images) → are_legal (opened plan.setup (h.opens).opening) (es ++ e ∷ []) ≡ true → Safe (opened plan.setup (h.opens).opening) es e images
    → AreAdmitted offers (es ++ e ∷ []) came
    → ((i : ℕ) (inlet : InletRecords) → IsFile plan.setup i → slice_get (after_all (opened plan.setup (h.opens).opening) es).inlets i ≡ Some inlet → (later : List Piece) × (behind inlet.opening (files_of plan.inlets.items bytes i) ≡ pieces_of i came ++ later))
    → CoversStop plan.setup offers (held_by plan.setup (contents reached.stores) ((h.opens).opening).entries) taken passes places (stopped_with plan bytes (h.opens).opening es e came images)
covers-stop offers files plan reached run items bytes taken passes places h known es e came images legal safe admitted reads =
    let o = h.opens in
    let before = held_by plan.setup (contents reached.stores) (o.opening).entries in
    let stopped : IsStoppedRun plan.setup offers before (stopped_with plan bytes o.opening es e came images) = record {
      begins = known.begins;
      legal = legal;
      safe = safe;
      admits = admitted;
      rising = λ i. files-rise plan.inlets.items bytes i (slice_get plan.inlets.items i) refl (known.runnable).fetches;
      reads = reads;
    } in
    record {
      stopped = stopped;
      covered = covers-run plan.setup offers items taken passes places before (stopped_with plan bytes o.opening es e came images) known.first known.grow stopped;
    }

-- at the return
covers-return : (offers : Offers) (files : Option Files) (plan : RunPlan) (reached : Reached) (run : CoreRun) (items : ℕ → List Piece) (bytes : ℕ → List ℕ) (taken : List Delivery) (passes : List Pass) (places : ℕ → ℕ) (h : Happened offers files plan reached run)
    → LawsOfImages → Known offers files plan reached run items bytes taken passes places h
    → EachChoice plan.setup reached.stores_closed
    (λ images. CoversStop plan.setup offers (held_by plan.setup (contents reached.stores) ((h.opens).opening).entries) taken passes places (stopped_with plan bytes (h.opens).opening (run.prelude ++ h.later) nothing h.came images))
covers-return offers files plan reached run items bytes taken passes places h laws known images lists are in_lists =
    let opening = (h.opens).opening in
    let start = opened plan.setup opening in
    let events = run.prelude ++ h.later in
    let setups = (known.held).setups in
    let disks = (((known.held).holds).core).closed in
    let now_images : AreImages run.last.stores images =
    λ s store at_store.
    let at : slice_get reached.stores_closed s ≡ Some store.disk = ap (λ (ds : List DiskState). slice_get ds s) disks ∙ slice_get-map (λ (x : StoreState). x.disk) run.last.stores s store at_store in
    let x = are s store.disk at in
    (x.0, x.1.0, x.1.1) in
    let S : List ℕ → Type 0 = λ ps. Safe start events nothing (record { positions = ps; lists = lists }) in
    let safe = subst S (positions-by plan run images setups) (laws.now plan.setup opening events run.last images lists (h.ran).stands now_images (lists-in plan run images lists setups in_lists)) in
    covers-stop offers files plan reached run items bytes taken passes places h known events nothing h.came (held_by plan.setup images lists)
    (are_legal-join start events (nothing ∷ []) ((h.ran).stands).legal refl) safe (admitted-nothing offers events h.came [] h.admits) known.reads

-- a stop of the run, whatever lists its images stand for
pub record Stop (offers : Offers) (files : Option Files) (plan : RunPlan) (reached : Reached) (run : CoreRun) (bytes : ℕ → List ℕ) (taken : List Delivery) (passes : List Pass) (places : ℕ → ℕ) (h : Happened offers files plan reached run) (events : List Event) (event : Event)
    (images : List (List ℕ)) : Type 0 where
  pub came : List Pass
  pub rest : List Pass
  pub came_are : h.came ≡ came ++ rest
  pub admits : AreAdmitted offers (events ++ event ∷ []) came
  pub each : (lists : List (List BufferedEntry)) → AreListsBy plan.setup.dests images lists
      → CoversStop plan.setup offers (held_by plan.setup (contents reached.stores) ((h.opens).opening).entries) taken passes places (stopped_with plan bytes (h.opens).opening events event came (held_by plan.setup images lists))

-- within an event
covers-within : (offers : Offers) (files : Option Files) (plan : RunPlan) (reached : Reached) (run : CoreRun) (items : ℕ → List Piece) (bytes : ℕ → List ℕ) (taken : List Delivery) (passes : List Pass) (places : ℕ → ℕ) (h : Happened offers files plan reached run)
    → LawsOfImages → (known : Known offers files plan reached run items bytes taken passes places h) → (k : ℕ) (event : Event) (images : List (List ℕ)) → slice_get (run.prelude ++ h.later) k ≡ Some event
    → AreImagesBetween run.last.stores (((h.ran).stands).moments.rows k) (((h.ran).stands).moments.rows (k + 1)) images → Stop offers files plan reached run bytes taken passes places h (take k (run.prelude ++ h.later)) event images
covers-within offers files plan reached run items bytes taken passes places h laws known k event images at between =
    let start = opened plan.setup (h.opens).opening in
    let held = files_of plan.inlets.items bytes in
    let events = run.prelude ++ h.later in
    let setups = (known.held).setups in
    let es = take k events in
    let later = drop (k + 1) events in
    let split : events ≡ (es ++ event ∷ []) ++ later = sym (take-append-drop k events) ∙ ap (λ (xs : List Event). es ++ xs) (drop-get events k event at) ∙ sym (append_assoc es (event ∷ []) later) in
    let A : List Event → Type 0 = λ xs. AreAdmitted offers xs h.came in
    let parts = admitted-split offers (es ++ event ∷ []) later h.came (subst A split h.admits) in
    let came = parts.0 in
    let rest = parts.1.0 in
    let L : List Event → Type 0 = λ xs. are_legal start xs ≡ true in
    let legals = are_legal-parts start (es ++ event ∷ []) later (subst L split ((h.ran).stands).legal) in
    let reads : (i : ℕ) (inlet : InletRecords) → IsFile plan.setup i → slice_get (after_all start es).inlets i ≡ Some inlet → (more : List Piece) × (behind inlet.opening (held i) ≡ pieces_of i came ++ more) =
    λ i inlet file here.
    let low = slice_get-below (after_all start es).inlets i inlet here in
    let wide = length-inlets start es in
    let one = slice_get-some start.inlets i (omega (arith, low, wide)) in
    let none = (opened-parts plan.setup.sources ((h.opens).opening).places i one.0 one.1) in
    let all = counts-inlet start events i one.0 ((h.ran).stands).legal one.1 in
    let half = counts-inlet start es i one.0 (are_legal-parts start es (event ∷ []) legals.0).0 one.1 in
    let is : half.0 ≡ inlet = some-same half.0 inlet (sym half.1 ∙ here) in
    let full = known.reads i all.0 file all.1 in
    let both : pieces_of i h.came ≡ pieces_of i came ++ pieces_of i rest = ap (pieces_of i) parts.1.1.0 ∙ pieces-append i came rest in
    let ends_are : ends (pieces_of i came) ≡ inlet.ends ++ ends_by i event.act =
    admitted-ends offers i (es ++ event ∷ []) came parts.1.1.1
    ∙ ends-append-admitted i es (event ∷ [])
    ∙ ap (λ (xs : List ℕ). ends_admitted i es ++ xs) (append-nil (ends_by i event.act))
    ∙ ap (λ (xs : List ℕ). xs ++ ends_by i event.act) (sym (ap (λ (xs : List ℕ). xs ++ ends_admitted i es) none) ∙ sym half.2.ends ∙ ap (λ (x : InletRecords). x.ends) is) in
    let behind_them = legal-behind start es event later (subst L (split ∙ append_assoc es (event ∷ []) later) ((h.ran).stands).legal) in
    let opening : (ends (pieces_of i came) ≡ [] → ⊥) → (all.0).opening ≡ inlet.opening =
    λ some.
    all.2.opening
    ∙ ap (opening_from i (one.0).opening) (split ∙ append_assoc es (event ∷ []) later)
    ∙ opening-append i (one.0).opening es (event ∷ later)
    ∙ ap (λ (n : ℕ). opening_from i n (event ∷ later)) (sym half.2.opening ∙ ap (λ (x : InletRecords). x.opening) is)
    ∙ stays (after_all start es) event later i inlet behind_them here (λ e. some (ends_are ∙ e)) in
    read-part i came (pieces_of i rest) (pieces_of i h.came) (held i) inlet.opening (all.0).opening (pieces_of i came) refl both full opening in
    record {
      came = came;
      rest = rest;
      came_are = parts.1.1.0;
      admits = parts.1.1.1;
      each = λ lists in_lists.
          (let S : List ℕ → Type 0 = λ ps. Safe start es event (record { positions = ps; lists = lists }) in
          let safe =
          subst S (positions-by plan run images setups)
          (laws.between plan.setup (h.opens).opening events run.last (h.ran).stands k event images lists at between (lists-in plan run images lists setups in_lists)) in
          covers-stop offers files plan reached run items bytes taken passes places h known es event came (held_by plan.setup images lists) legals.0 safe parts.1.1.1 reads);
    }

-- The whole.

leaves : (offers : Offers) (files : Option Files) (plan : RunPlan) (reached : Reached) (run : CoreRun) (items : ℕ → List Piece) (bytes : ℕ → List ℕ) (taken : List Delivery) (passes : List Pass) (places : ℕ → ℕ) (h : Happened offers files plan reached run)
    → LawsOfImages → AllTell reached.stores → Known offers files plan reached run items bytes taken passes places h → LeavesCovered h bytes taken passes places
leaves offers files plan reached run items bytes taken passes places h laws tells known = record {
  first = contents reached.stores;
  first_are = contents-images reached.stores tells;
  first_lists = contents-lists plan.setup reached.stores run.first h.opens tells;
  returns = covers-return offers files plan reached run items bytes taken passes places h laws known;
  stops = λ k event images lists at between in_lists.
      (let s = covers-within offers files plan reached run items bytes taken passes places h laws known k event images at between in
      (s.came, (s.rest, (s.came_are, s.each lists in_lists))));
}

pub covers : {R I O : Type 0} (feed : I → InletState) (drain : O → OutletState) (offers : R → ℕ → Record → List Offer → Type 0) (inlets dests : R → ℕ) → LawsOfImages → PlanRunsCover feed drain offers inlets dests
covers feed drain offers inlets dests laws old new plan routers by rounds ending reached run h bytes taken passes places runnable runs core tells tell covered =
    let held = held-of feed drain offers inlets dests old.files plan routers rounds reached reached.core ending run runs.holds core in
    let first = covered (contents reached.stores) ((h.opens).opening).entries (contents-images reached.stores tells) (contents-lists plan.setup reached.stores run.first h.opens tells) in
    let items = files_of plan.inlets.items bytes in
    leaves (offers_in offers by) old.files plan reached run items bytes taken passes places h laws tells
    (known-of (offers_in offers by) old.files plan reached run items bytes taken passes places h runnable held tells tell (λ i. ([], sym (append-nil (items i)))) first)

-- each stop of a run that found covered what the contents of its stores hold, over files that have grown since
pub stop-of : (offers : Offers) (files : Option Files) (plan : RunPlan) (reached : Reached) (run : CoreRun) (items : ℕ → List Piece) (bytes : ℕ → List ℕ) (taken : List Delivery) (passes : List Pass) (places : ℕ → ℕ) (h : Happened offers files plan reached run)
    → LawsOfImages → IsRunnable plan → Held files plan reached run → AllTell reached.stores → TellFiles files plan reached.inlets bytes → Grow items (files_of plan.inlets.items bytes)
    → Covered plan.setup offers items taken passes places (held_by plan.setup (contents reached.stores) ((h.opens).opening).entries)
    → (events : List Event) (event : Event) (images : List (List ℕ)) → StopsWithin h events event images ⊎ StopsThen h events event images → Stop offers files plan reached run bytes taken passes places h events event images
stop-of offers files plan reached run items bytes taken passes places h laws runnable held tells tell grow first events event images (inl w) =
    let known = known-of offers files plan reached run items bytes taken passes places h runnable held tells tell grow first in
    let P : List Event → Type 0 = λ es. Stop offers files plan reached run bytes taken passes places h es event images in
    subst P (sym w.events_are) (covers-within offers files plan reached run items bytes taken passes places h laws known w.number event images w.at w.images_are)
stop-of offers files plan reached run items bytes taken passes places h laws runnable held tells tell grow first events event images (inr t) =
    let known = known-of offers files plan reached run items bytes taken passes places h runnable held tells tell grow first in
    let all = run.prelude ++ h.later in
    let P : List Event → Type 0 = λ es. Stop offers files plan reached run bytes taken passes places h es event images in
    let Q : Event → Type 0 = λ e. Stop offers files plan reached run bytes taken passes places h all e images in
    let here : Q nothing = record {
      came = h.came;
      rest = [];
      came_are = sym (append-nil h.came);
      admits = admitted-nothing offers all h.came [] h.admits;
      each = λ lists in_lists. covers-return offers files plan reached run items bytes taken passes places h laws known images lists t.images_are in_lists;
    } in
    subst P (sym t.events_are) (subst Q (sym t.none) here)

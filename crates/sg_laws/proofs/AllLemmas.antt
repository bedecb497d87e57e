-- What a plan's runs add up to.
use Rattle.std.proofs.Common.{◌≡◌, ℕ, ◌<◌, List, [], ◌∷◌, ◌++◌, length, map, Some, None, Option, Bool, refl, sym, ap, ◌∙◌, subst, inl, slice_get, append_assoc}
use Rattle.std.specs.Prelude.{◌^◌, option_and_then}
use Rattle.std.specs.Option.{option_map_or}
use Rattle.std.proofs.lemmas.List.{append-nil}
use Rattle.sg_list.proofs.ListLemmas.{slice_get-some, slice_get-map}
use Rattle.sg_device.specs.Disk.{DiskState}
use Rattle.sg_device.specs.Inlet.{InletState}
use Rattle.sg_device.specs.Outlet.{OutletState}
use Rattle.sg_msg.specs.declared.offer.Offer.{Offer}
use Rattle.sg_frame.specs.Records.{Record}
use Rattle.sg_stable.specs.Cell.{cell_value}
use Rattle.sg_machine.specs.declared.event.Event.{Event}
use Rattle.sg_machine.specs.declared.setup.BufferSetup.{BufferSetup}
use Rattle.sg_machine.specs.declared.setup.DestSetup.{DestSetup}
use Rattle.sg_machine.specs.declared.setup.Setup.{Setup}
use Rattle.sg_machine.specs.declared.setup.SourceSetup.{SourceSetup}
use Rattle.sg_machine.specs.Runs.{BufferedEntry, opened, after_all}
use Rattle.sg_machine.specs.Safe.{Images}
use Rattle.sg_standing.specs.Images.{position_in as position_at_store}
use Rattle.sg_standing.specs.Standing.{IsAt}
use Rattle.sg_core.specs.Opening.{NumberStores, buffer_store_in}
use Rattle.sg_run_plan.specs.declared.inlet.InletPlan.{InletPlan}
use Rattle.sg_turns.specs.declared.ended.Ended.TheVariants.{Quiet}
use Rattle.sg_serve.specs.Plan.{IsRunnable}
use Rattle.sg_serve.specs.Rewinds.{position_at}
use Rattle.sg_serve.specs.Run.{RunsWith}
use Rattle.sg_serve.specs.Counts.{first_fault}
use Rattle.sg_serve.specs.declared.counts.Counts.{Counts}
use Rattle.sg_serve.specs.declared.ending.PlanEnded.{PlanEnded}
use Rattle.sg_serve.specs.declared.ending.PlanEnded.TheVariants.{Ran as RanSo}
use Rattle.sg_run_plan.specs.declared.plan.RunPlan.{RunPlan}
use Rattle.sg_laws.specs.Ending.{CleanRunsEnd}
use Rattle.sg_laws.specs.Resuming.{IsReadingBegun}
use Rattle.sg_laws.specs.Pieces.{Piece, pieces}
use Rattle.sg_laws.proofs.ItemRestLemmas.{pieces-grow}
use Rattle.sg_laws.specs.Covered.{Pass, Delivery, IsFile, Covered}
use Rattle.sg_laws.specs.Passes.{AreAdmitted, Stopped, IsStoppedRun, taken_in}
use Rattle.sg_laws.specs.Adding.{offers_in, Grow, Follow, all_taken, all_passes, EndsClean, position_in}
use Rattle.sg_laws.specs.Once.{EndsWhole, AllEndWhole, ExactlyOnce}
use Rattle.sg_laws.proofs.OnceLemmas.{take-once}
use Rattle.sg_laws.proofs.RangeLemmas.{AreInRange, range-left, range-opened}
use Rattle.sg_laws.proofs.StopLemmas.{add-up}
use Rattle.sg_laws.specs.Happened.{AreListsBy, AllTell, AreOfFiles, held_by, files_of, stopped_with}
use Rattle.sg_laws.specs.Clean.{AreFilesByLines}
use Rattle.sg_laws.specs.PlanRuns.{asked, PlanRun, IsPlanRun, IsStopOf, EndsWell, TellThese, RunOf, Opened, Unopened, Lengthen, PlanRunsFollow, opened_among, AreStopsOf, PlanRunsAddUp}
use Rattle.sg_laws.specs.Fresh.{new_stores, images_left, bytes_left, PlanRunsStayCovered, HaveLimits, AllEndWell, PlanRunsTakeOnce}
use Rattle.sg_laws.proofs.FreshLemmas.{new-fresh, new-range, new-covered}
use Rattle.sg_laws.proofs.ResumedLemmas.{place-opened, place-stored, resumed-held}
use Rattle.sg_laws.proofs.OpenLemmas.{bytes_of, contents, contents-lists, told-bytes}
use Rattle.sg_laws.proofs.RunLemmas.{LawsOfImages, held-of, stop-of, ends-grown, begun-first}
use Rattle.sg_laws.proofs.CleanLemmas.{ListsAreOne, Cleaned, clean-by, no_lists}
use Rattle.sg_laws.proofs.RestLemmas.{same-positions}
use Rattle.sg_laws.proofs.UnopenedLemmas.{stands-as-before}

-- Images.

-- what the disks hold are these images
same-here : (disks : List DiskState) (before : List (List ℕ)) → TellThese disks before → (s : ℕ) → s < length disks → slice_get before s ≡ slice_get (contents disks) s
same-here disks before tells s low =
    let disk = slice_get-some disks s low in
    let t = tells s disk.0 disk.1 in
    t.1.0 ∙ ap (λ (b : List ℕ). Some b) (sym (told-bytes disk.0 t.0 t.1.1)) ∙ sym (slice_get-map bytes_of disks s disk.0 disk.1)

same-position : (disks : List DiskState) (before : List (List ℕ)) → TellThese disks before → (o : Option ℕ) → ((s : ℕ) → o ≡ Some s → s < length disks) → position_at_store before o ≡ position_at_store (contents disks) o
same-position disks before tells None low = refl
same-position disks before tells (Some s) low = ap (λ (x : Option (List ℕ)). option_map_or cell_value x 0) (same-here disks before tells s (low s refl))

-- so they stand for the same
same-held : (setup : Setup) (disks : List DiskState) (before : List (List ℕ)) (lists : List (List BufferedEntry)) → NumberStores setup (length disks) → TellThese disks before → held_by setup before lists ≡ held_by setup (contents disks) lists
same-held setup disks before lists numbers tells =
    let F : List ℕ → Images = λ ps. record { positions = ps; lists = lists } in
    ap F (same-positions setup.sources before (contents disks)
    (λ i source at.
    same-position disks before tells source.store
    (λ s has. numbers.positions i s (ap (λ (x : Option SourceSetup). option_and_then (λ (y : SourceSetup). y.store) x) at ∙ has))))

lists-same : (setup : Setup) (disks : List DiskState) (before : List (List ℕ)) (lists : List (List BufferedEntry)) → NumberStores setup (length disks) → TellThese disks before → AreListsBy setup.dests (contents disks) lists → AreListsBy setup.dests before lists
lists-same setup disks before lists numbers tells are = record {
  every = are.every;
  each = λ d dest buffer list bytes here has there at.
      (let F : Option BufferSetup → Option ℕ = λ o. option_map_or (λ (b : BufferSetup). Some b.store) o None in
      let place : buffer_store_in setup.dests d ≡ Some buffer.store = ap (λ (x : Option DestSetup). option_and_then (λ (y : DestSetup). F y.buffer) x) here ∙ ap F has in
      let low = numbers.buffers d buffer.store place in
      are.each d dest buffer list bytes here has there (sym (same-here disks before tells buffer.store low) ∙ at));
}

-- Files.

grow-by : (o : Option InletPlan) (old new more : List ℕ) → new ≡ old ++ more
    → (later : List Piece) × (option_map_or (λ (plan : InletPlan). pieces plan.kind plan.limit new) o [] ≡ option_map_or (λ (plan : InletPlan). pieces plan.kind plan.limit old) o [] ++ later)
grow-by None old new more h = ([], refl)
grow-by (Some plan) old new more h =
    let g = pieces-grow plan.kind plan.limit old more in
    (g.0, ap (λ (b : List ℕ). pieces plan.kind plan.limit b) h ∙ g.1)

grow-files : (plans : List InletPlan) (old new : ℕ → List ℕ) → Lengthen old new → Grow (files_of plans old) (files_of plans new)
grow-files plans old new longer i = let m = longer i in grow-by (slice_get plans i) (old i) (new i) m.0 m.1

asked-runnable : (plan : RunPlan) (once : Bool) → IsRunnable plan → IsRunnable (asked plan once)
asked-runnable plan once can = record {
  numbers = can.numbers;
  windows = can.windows;
  capacities = can.capacities;
  sources = can.sources;
  dests = can.dests;
  few_inlets = can.few_inlets;
  few_outlets = can.few_outlets;
  few_stores = can.few_stores;
  fetches = can.fetches;
  held = can.held;
}

module _ {R I O : Type 0} (feed : I → InletState) (drain : O → OutletState) (offers : R → ℕ → Record → List Offer → Type 0) (inlets dests : R → ℕ) (plan : RunPlan) (by : List R) (can : IsRunnable plan) (of_files : AreOfFiles plan) (lines : AreFilesByLines plan)
    (laws : LawsOfImages) (one : ListsAreOne) (clean : CleanRunsEnd feed drain offers inlets dests) (old : ℕ → ℕ) where
  -- One run.

  -- whatever lists stand in these images, they are covered
  abbrev IsCoveredAt : (ℕ → List Piece) → List Delivery → List Pass → List (List ℕ) → Type 0
  IsCoveredAt items taken passes before = (lists : List (List BufferedEntry)) → AreListsBy plan.setup.dests before lists → Covered plan.setup (offers_in offers by) items taken passes old (held_by plan.setup before lists)

  -- the run as one that was stopped, where these records had come in and these lists stand in what it left
  abbrev stop_with : PlanRun offers plan by → List Pass → List (List BufferedEntry) → Stopped
  stop_with run came lists = stopped_with (asked plan run.once) run.bytes ((run.happened).opens).opening run.events run.event came (held_by plan.setup run.images lists)

  -- It began with these lists, and what it left is covered, whatever lists stand there.
  record StepOfAll (items : ℕ → List Piece) (taken : List Delivery) (passes : List Pass) (before : List (List ℕ)) (run : PlanRun offers plan by) : Type 0 where
    lists : List (List BufferedEntry)
    lists_are : AreListsBy plan.setup.dests before lists
    came : List Pass
    rest : List Pass
    came_are : (run.happened).came ≡ came ++ rest
    admits : AreAdmitted (offers_in offers by) (run.events ++ run.event ∷ []) came
    grow : Grow items (files_of plan.inlets.items run.bytes)
    stopped : (ls : List (List BufferedEntry)) → AreListsBy plan.setup.dests run.images ls → IsStoppedRun plan.setup (offers_in offers by) (held_by plan.setup before lists) (stop_with run came ls)
    covered : (ls : List (List BufferedEntry)) → AreListsBy plan.setup.dests run.images ls
        → Covered plan.setup (offers_in offers by) (files_of plan.inlets.items run.bytes) (taken ++ taken_in plan.setup (stop_with run came [])) (passes ++ came) old (held_by plan.setup run.images ls)
    begun : (i : ℕ) (inlet : InletPlan) → IsFile plan.setup i → slice_get plan.inlets.items i ≡ Some inlet → IsReadingBegun inlet.kind inlet.limit (run.bytes i) (position_at (run.run).first i)
    ends : (counts : Counts) → run.ending ≡ RanSo Quiet (Some counts) → first_fault counts.sinks counts.stores counts.inlets ≡ None → Cleaned (asked plan run.once) run.reached run.bytes

  step : (bytes : ℕ → List ℕ) (taken : List Delivery) (passes : List Pass) (before : List (List ℕ)) (run : PlanRun offers plan by) → IsCoveredAt (files_of plan.inlets.items bytes) taken passes before → Lengthen bytes run.bytes
      → IsPlanRun feed drain offers inlets dests plan by before run → StepOfAll (files_of plan.inlets.items bytes) taken passes before run
  step bytes taken passes before run covered longer is =
      let asks = asked plan run.once in
      let runnable = asked-runnable plan run.once can in
      let disks = (run.reached).stores in
      let h = run.happened in
      let o = h.opens in
      let lists = (o.opening).entries in
      let os = offers_in offers by in
      let items = files_of plan.inlets.items bytes in
      let held = held-of feed drain offers inlets dests (run.old).files asks run.routers run.rounds run.reached (run.reached).core run.ending run.run (is.runs).holds is.core in
      let tells : AllTell disks = λ s disk at. (let t = is.stores s disk at in (t.0, t.1.1)) in
      let N : ℕ → Type 0 = λ n. NumberStores plan.setup n in
      let numbers = subst N (sym (held.holds).all_stores) (can.numbers) in
      let same = same-held plan.setup disks before lists numbers is.stores in
      let are = lists-same plan.setup disks before lists numbers is.stores (contents-lists plan.setup disks (run.run).first o tells) in
      let C : Images → Type 0 = λ images. Covered plan.setup os items taken passes old images in
      let first = subst C same (covered lists are) in
      let grow = grow-files plan.inlets.items bytes run.bytes longer in
      let ends_are = ends-grown plan.setup items (files_of plan.inlets.items run.bytes) (held_by plan.setup (contents disks) lists) grow first.positions in
      let s = stop-of os (run.old).files asks run.reached run.run items run.bytes taken passes old h laws runnable held tells is.files grow first run.events run.event run.images is.stops in
      record {
        lists = lists;
        lists_are = are;
        came = s.came;
        rest = s.rest;
        came_are = s.came_are;
        admits = s.admits;
        grow = grow;
        stopped = λ ls ls_are. (let S : Images → Type 0 = λ images. IsStoppedRun plan.setup os images (stop_with run s.came ls) in subst S (sym same) (s.each ls ls_are).stopped);
        covered = λ ls ls_are. (s.each ls ls_are).covered;
        begun = λ i inlet file at. begun-first asks run.reached run.run o run.bytes lists runnable numbers tells ends_are i inlet (position_at (run.run).first i) file at (inl refl);
        ends = λ counts ending well.
            (let E : PlanEnded → Type 0 = λ e. RunsWith feed drain offers inlets dests run.old run.new asks run.routers run.rounds e run.reached in
            clean-by feed drain offers inlets dests one clean run.old run.new asks run.routers run.rounds counts run.reached run.run run.bytes lists runnable of_files lines (subst E ending is.runs) is.core well tells is.files ends_are);
      }

  stop-is : (run : PlanRun offers plan by) (came rest : List Pass) → (run.happened).came ≡ came ++ rest → AreAdmitted (offers_in offers by) (run.events ++ run.event ∷ []) came → (lists : List (List BufferedEntry)) → AreListsBy plan.setup.dests run.images lists
      → IsStopOf run (stop_with run came lists)
  stop-is run came rest came_are admits lists are = record {
    came = came;
    rest = rest;
    came_are = came_are;
    admits = admits;
    lists = lists;
    lists_are = are;
    is = refl;
  }

  -- All runs.

  record RunChain (items : ℕ → List Piece) (before : List (List ℕ)) (runs : List (RunOf offers plan by)) (last : PlanRun offers plan by) : Type 0 where
    lists : List (List BufferedEntry)
    lists_are : AreListsBy plan.setup.dests before lists
    stopped : List Stopped
    stopped_last : Stopped
    stops : AreStopsOf (opened_among runs ++ last ∷ []) (stopped ++ stopped_last ∷ [])
    follow : Follow plan.setup (offers_in offers by) items (held_by plan.setup before lists) (stopped ++ stopped_last ∷ [])
    ends : EndsClean plan.setup stopped_last.files stopped_last.images

  chain : (bytes : ℕ → List ℕ) (taken : List Delivery) (passes : List Pass) (before : List (List ℕ)) (runs : List (RunOf offers plan by)) (last : PlanRun offers plan by) → IsCoveredAt (files_of plan.inlets.items bytes) taken passes before
      → PlanRunsFollow feed drain offers inlets dests plan by bytes before (runs ++ Opened last ∷ []) → EndsWell last → RunChain (files_of plan.inlets.items bytes) before runs last
  chain bytes taken passes before [] last covered follow well =
      let s = step bytes taken passes before last covered follow.0 follow.1 in
      let e = s.ends well.counts well.ending_is well.well in
      let images_are = (well.returned).images_are in
      let none = no_lists plan.setup.dests in
      let none_are = e.lists last.images images_are in
      record {
        lists = s.lists;
        lists_are = s.lists_are;
        stopped = [];
        stopped_last = stop_with last s.came none;
        stops = (stop-is last s.came s.rest s.came_are s.admits none none_are, tt);
        follow = (s.grow, s.stopped none none_are, tt);
        ends = e.clean last.images none images_are none_are;
      }
  chain bytes taken passes before (Opened run ∷ runs) last covered follow well =
      let s = step bytes taken passes before run covered follow.0 follow.1 in
      let c = chain run.bytes (taken ++ taken_in plan.setup (stop_with run s.came [])) (passes ++ s.came) run.images runs last s.covered follow.2 well in
      record {
        lists = s.lists;
        lists_are = s.lists_are;
        stopped = stop_with run s.came c.lists ∷ c.stopped;
        stopped_last = c.stopped_last;
        stops = (stop-is run s.came s.rest s.came_are s.admits c.lists c.lists_are, c.stops);
        follow = (s.grow, s.stopped c.lists c.lists_are, c.follow);
        ends = c.ends;
      }
  chain bytes taken passes before (Unopened run ∷ runs) last covered follow well =
      let items = files_of plan.inlets.items bytes in
      let os = offers_in offers by in
      let stands = stands-as-before feed drain offers inlets dests plan before run one can follow.0 in
      let C : Images → Type 0 = λ images. Covered plan.setup os items taken passes old images in
      let c = chain bytes taken passes run.images runs last (λ ls are. subst C (sym (stands.held ls)) (covered ls (stands.lists ls are))) follow.1 well in
      let F : Images → Type 0 = λ images. Follow plan.setup os items images (c.stopped ++ c.stopped_last ∷ []) in
      record {
        lists = c.lists;
        lists_are = stands.lists c.lists c.lists_are;
        stopped = c.stopped;
        stopped_last = c.stopped_last;
        stops = c.stops;
        follow = subst F (stands.held c.lists) c.follow;
        ends = c.ends;
      }

  -- What is left.

  -- these lists stand in the images at the start, and what the runs left is covered, where the given ones stand there
  record LeftOfAll (bytes : ℕ → List ℕ) (taken : List Delivery) (passes : List Pass) (before : List (List ℕ)) (runs : List (RunOf offers plan by)) (ends_with : List (List BufferedEntry)) : Type 0 where
    lists : List (List BufferedEntry)
    lists_are : AreListsBy plan.setup.dests before lists
    stopped : List Stopped
    stops : AreStopsOf (opened_among runs) stopped
    covered : Covered plan.setup (offers_in offers by) (files_of plan.inlets.items (bytes_left bytes runs)) (taken ++ all_taken plan.setup stopped) (passes ++ all_passes stopped) old (held_by plan.setup (images_left before runs) ends_with)

  left-of : (bytes : ℕ → List ℕ) (taken : List Delivery) (passes : List Pass) (before : List (List ℕ)) (runs : List (RunOf offers plan by)) (ends_with : List (List BufferedEntry)) → IsCoveredAt (files_of plan.inlets.items bytes) taken passes before
      → PlanRunsFollow feed drain offers inlets dests plan by bytes before runs → AreListsBy plan.setup.dests (images_left before runs) ends_with → LeftOfAll bytes taken passes before runs ends_with
  left-of bytes taken passes before [] ends_with covered follow are =
      let items = files_of plan.inlets.items bytes in
      let held = held_by plan.setup before ends_with in
      let P : List Delivery → Type 0 = λ ts. Covered plan.setup (offers_in offers by) items ts passes old held in
      let Q : List Pass → Type 0 = λ ps. Covered plan.setup (offers_in offers by) items (taken ++ []) ps old held in
      record {
        lists = ends_with;
        lists_are = are;
        stopped = [];
        stops = tt;
        covered = subst Q (sym (append-nil passes)) (subst P (sym (append-nil taken)) (covered ends_with are));
      }
  left-of bytes taken passes before (Opened run ∷ runs) ends_with covered follow are =
      let s = step bytes taken passes before run covered follow.0 follow.1 in
      let now = taken_in plan.setup (stop_with run s.came []) in
      let r = left-of run.bytes (taken ++ now) (passes ++ s.came) run.images runs ends_with s.covered follow.2 are in
      let items = files_of plan.inlets.items (bytes_left run.bytes runs) in
      let held = held_by plan.setup (images_left run.images runs) ends_with in
      let P : List Delivery → Type 0 = λ ts. Covered plan.setup (offers_in offers by) items ts ((passes ++ s.came) ++ all_passes r.stopped) old held in
      let Q : List Pass → Type 0 = λ ps. Covered plan.setup (offers_in offers by) items (taken ++ (now ++ all_taken plan.setup r.stopped)) ps old held in
      record {
        lists = s.lists;
        lists_are = s.lists_are;
        stopped = stop_with run s.came r.lists ∷ r.stopped;
        stops = (stop-is run s.came s.rest s.came_are s.admits r.lists r.lists_are, r.stops);
        covered = subst Q (append_assoc passes s.came (all_passes r.stopped)) (subst P (append_assoc taken now (all_taken plan.setup r.stopped)) r.covered);
      }
  left-of bytes taken passes before (Unopened run ∷ runs) ends_with covered follow are =
      let items = files_of plan.inlets.items bytes in
      let stands = stands-as-before feed drain offers inlets dests plan before run one can follow.0 in
      let C : Images → Type 0 = λ images. Covered plan.setup (offers_in offers by) items taken passes old images in
      let r = left-of bytes taken passes run.images runs ends_with (λ ls is. subst C (sym (stands.held ls)) (covered ls (stands.lists ls is))) follow.1 are in
      record { lists = r.lists; lists_are = stands.lists r.lists r.lists_are; stopped = r.stopped; stops = r.stops; covered = r.covered }

  -- Runs that each ended clean.

  -- where the places before are in range
  ends-whole : HaveLimits plan → (items : ℕ → List Piece) (taken : List Delivery) (passes : List Pass) (before : List (List ℕ)) (run : PlanRun offers plan by) (s : StepOfAll items taken passes before run) (lists : List (List BufferedEntry))
      → IsPlanRun feed drain offers inlets dests plan by before run → EndsWell run → Cleaned (asked plan run.once) run.reached run.bytes → AreInRange plan.setup (held_by plan.setup before []) → AreListsBy plan.setup.dests run.images lists
      → EndsWhole plan.setup (stop_with run s.came lists)
  ends-whole limits items taken passes before run s lists is well cleaned low are =
      let asks = asked plan run.once in
      let o = (run.happened).opens in
      let runnable = asked-runnable plan run.once can in
      let E : PlanEnded → Type 0 = λ e. RunsWith feed drain offers inlets dests run.old run.new asks run.routers run.rounds e run.reached in
      let runs = subst E well.ending_is is.runs in
      let ended = clean run.old run.new asks run.routers run.rounds well.counts run.reached run.run runnable is.core well.well runs in
      let start = opened plan.setup o.opening in
      let A : List Event → Type 0 = λ es. IsAt (run.run).last (after_all start es) in
      let at = subst A (sym (well.returned).events_are) (((run.happened).ran).stands).at in
      let N : ℕ → Type 0 = λ n. n < 2 ^ 63 in
      let position_low : (i : ℕ) → IsFile plan.setup i → position_at (run.run).first i < 2 ^ 63 =
      λ i file.
      let place = place-opened asks run.reached run.run o i file.source file.at in
      subst N (place-stored asks run.reached run.run o i file.source file.at)
      (range-opened plan.setup (offers_in offers by) (held_by plan.setup before s.lists) (stop_with run s.came lists) (s.stopped lists are) low i _ file place) in
      record {
        none = (well.returned).none;
        clean = cleaned.clean run.images lists (well.returned).images_are are;
        settled = λ d dest here. ended.dests d (after_all start run.events) dest at here;
        resumed = λ i inlet file here.
            resumed-held feed drain offers inlets dests (run.old).files asks run.routers run.rounds run.reached run.bytes runnable of_files lines limits is.files
            (run.reached).core (Some well.counts) run.run runs.holds is.core o (after_all start run.events) at i file (λ mine there. s.begun i mine file there) (position_low i file) inlet here;
      }

  record WholeOfAll (items : ℕ → List Piece) (before : List (List ℕ)) (runs : List (PlanRun offers plan by)) (last : PlanRun offers plan by) : Type 0 where
    lists : List (List BufferedEntry)
    lists_are : AreListsBy plan.setup.dests before lists
    stopped : List Stopped
    stopped_last : Stopped
    stops : AreStopsOf (runs ++ last ∷ []) (stopped ++ stopped_last ∷ [])
    files : stopped_last.files ≡ files_of plan.inlets.items last.bytes
    follow : Follow plan.setup (offers_in offers by) items (held_by plan.setup before lists) (stopped ++ stopped_last ∷ [])
    whole : AllEndWhole plan.setup (stopped ++ stopped_last ∷ [])

  all-whole : HaveLimits plan → (bytes : ℕ → List ℕ) (taken : List Delivery) (passes : List Pass) (before : List (List ℕ)) (runs : List (PlanRun offers plan by)) (last : PlanRun offers plan by) → IsCoveredAt (files_of plan.inlets.items bytes) taken passes before
      → AreInRange plan.setup (held_by plan.setup before []) → PlanRunsFollow feed drain offers inlets dests plan by bytes before (map Opened (runs ++ last ∷ [])) → AllEndWell (runs ++ last ∷ []) → WholeOfAll (files_of plan.inlets.items bytes) before runs last
  all-whole limits bytes taken passes before [] last covered low follow all =
      let s = step bytes taken passes before last covered follow.0 follow.1 in
      let well = all.0 in
      let e = s.ends well.counts well.ending_is well.well in
      let none = no_lists plan.setup.dests in
      let none_are = e.lists last.images (well.returned).images_are in
      record {
        lists = s.lists;
        lists_are = s.lists_are;
        stopped = [];
        stopped_last = stop_with last s.came none;
        stops = (stop-is last s.came s.rest s.came_are s.admits none none_are, tt);
        files = refl;
        follow = (s.grow, s.stopped none none_are, tt);
        whole = (ends-whole limits (files_of plan.inlets.items bytes) taken passes before last s none follow.1 well e low none_are, tt);
      }
  all-whole limits bytes taken passes before (run ∷ runs) last covered low follow all =
      let s = step bytes taken passes before run covered follow.0 follow.1 in
      let well = all.0 in
      let e = s.ends well.counts well.ending_is well.well in
      let none = no_lists plan.setup.dests in
      let none_are = e.lists run.images (well.returned).images_are in
      let lower = range-left plan.setup (offers_in offers by) (held_by plan.setup before s.lists) (stop_with run s.came none) (s.stopped none none_are) low in
      let r = all-whole limits run.bytes (taken ++ taken_in plan.setup (stop_with run s.came [])) (passes ++ s.came) run.images runs last s.covered lower follow.2 all.1 in
      record {
        lists = s.lists;
        lists_are = s.lists_are;
        stopped = stop_with run s.came r.lists ∷ r.stopped;
        stopped_last = r.stopped_last;
        stops = (stop-is run s.came s.rest s.came_are s.admits r.lists r.lists_are, r.stops);
        files = r.files;
        follow = (s.grow, s.stopped r.lists r.lists_are, r.follow);
        whole = (ends-whole limits (files_of plan.inlets.items bytes) taken passes before run s r.lists follow.1 well e low r.lists_are, r.whole);
      }

pub plan-runs-add-up : {R I O : Type 0} (feed : I → InletState) (drain : O → OutletState) (offers : R → ℕ → Record → List Offer → Type 0) (inlets dests : R → ℕ) → LawsOfImages → ListsAreOne → CleanRunsEnd feed drain offers inlets dests → PlanRunsAddUp feed drain offers inlets dests
plan-runs-add-up feed drain offers inlets dests laws one clean plan by bytes taken passes before runs last can of_files lines covered follow well =
    let old = position_in (held_by plan.setup before []) in
    let c = chain feed drain offers inlets dests plan by can of_files lines laws one clean old bytes taken passes before runs last covered follow well in
    record {
      lists = c.lists;
      lists_are = c.lists_are;
      stopped = c.stopped;
      stopped_last = c.stopped_last;
      stops = c.stops;
      sum = add-up plan.setup (offers_in offers by) (files_of plan.inlets.items bytes) taken passes (held_by plan.setup before c.lists) c.stopped c.stopped_last (covered c.lists c.lists_are) c.follow c.ends;
    }

pub plan-runs-stay-covered : {R I O : Type 0} (feed : I → InletState) (drain : O → OutletState) (offers : R → ℕ → Record → List Offer → Type 0) (inlets dests : R → ℕ) → LawsOfImages → ListsAreOne → CleanRunsEnd feed drain offers inlets dests
    → PlanRunsStayCovered feed drain offers inlets dests
plan-runs-stay-covered feed drain offers inlets dests laws one clean plan by bytes runs lists can of_files lines follow are =
    let old : ℕ → ℕ = λ i. 0 in
    let r = left-of feed drain offers inlets dests plan by can of_files lines laws one clean old bytes [] [] (new_stores plan) runs lists (λ ls is. new-covered offers one plan by bytes old ls can is) follow are in
    record { stopped = r.stopped; stops = r.stops; covered = r.covered }

pub plan-runs-take-once : {R I O : Type 0} (feed : I → InletState) (drain : O → OutletState) (offers : R → ℕ → Record → List Offer → Type 0) (inlets dests : R → ℕ) → LawsOfImages → ListsAreOne → CleanRunsEnd feed drain offers inlets dests
    → PlanRunsTakeOnce feed drain offers inlets dests
plan-runs-take-once feed drain offers inlets dests laws one clean plan by bytes runs last can of_files lines limits follow ends =
    let old : ℕ → ℕ = λ i. 0 in
    let low = new-range plan.setup (length plan.stores.items) [] in
    let r = all-whole feed drain offers inlets dests plan by can of_files lines laws one clean old limits bytes [] [] (new_stores plan) runs last (λ ls is. new-covered offers one plan by bytes old ls can is) low follow ends in
    let fresh = new-fresh one plan.setup (length plan.stores.items) r.lists can.numbers r.lists_are in
    let all = r.stopped ++ r.stopped_last ∷ [] in
    let P : (ℕ → List Piece) → Type 0 = λ files. ExactlyOnce plan.setup (offers_in offers by) all files in
    record {
      stopped = all;
      stops = r.stops;
      once = subst P r.files (take-once plan.setup (offers_in offers by) (files_of plan.inlets.items bytes) (held_by plan.setup (new_stores plan) r.lists) r.stopped r.stopped_last fresh r.follow r.whole);
    }

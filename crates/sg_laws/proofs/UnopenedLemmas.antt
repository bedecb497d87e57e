-- What a run that is stopped before its core is open leaves in its stores stands for what they held.
use Rattle.std.proofs.Common.{◌≡◌, ℕ, List, map, Some, None, Option, refl, sym, ap, ◌∙◌, subst, arith, inl, inr, ◌⊎◌, slice_get}
use Rattle.std.specs.Prelude.{option_and_then}
use Rattle.std.specs.Option.{option_map_or}
use Rattle.std.proofs.lemmas.Bool.{cases_lt}
use Rattle.sg_list.proofs.ListLemmas.{some-same, slice_get-some, slice_get-below, slice_get-map}
use Rattle.sg_device.specs.Disk.{DiskState, content, clock, Durable}
use Rattle.sg_device.specs.DiskBytes.{Same}
use Rattle.sg_device.specs.Inlet.{InletState}
use Rattle.sg_device.specs.Outlet.{OutletState}
use Rattle.sg_outside.specs.World.{Files}
use Rattle.sg_msg.specs.declared.offer.Offer.{Offer}
use Rattle.sg_frame.specs.Records.{Record}
use Rattle.sg_stable.specs.Cell.{cell_value}
use Rattle.sg_buffer.specs.Entries.{IsListOf}
use Rattle.sg_buffer.specs.declared.found.BufferEntries.{BufferEntries}
use Rattle.sg_machine.specs.declared.setup.DestSetup.{DestSetup}
use Rattle.sg_machine.specs.declared.setup.Setup.{Setup}
use Rattle.sg_machine.specs.declared.setup.SourceSetup.{SourceSetup}
use Rattle.sg_machine.specs.Runs.{BufferedEntry}
use Rattle.sg_machine.specs.Safe.{Images}
use Rattle.sg_counter.specs.Bringing.{store_in}
use Rattle.sg_stores.specs.Opening.{IsOpenedAs}
use Rattle.sg_stores.specs.Stores.{StoreState, coded}
use Rattle.sg_stores.specs.declared.kind.StoreKind.{StoreKind}
use Rattle.sg_stores.specs.declared.kind.StoreKind.TheVariants.{Position, Buffer}
use Rattle.sg_stores.specs.declared.answers.CoreRefusal.{CoreRefusal}
use Rattle.sg_standing.specs.Images.{position_in}
use Rattle.sg_standing.specs.States.{CoreState}
use Rattle.sg_core.specs.Opening.{IsOpen, IsUnopened, kind_of}
use Rattle.sg_core.proofs.OpenState.{kind-none}
use Rattle.sg_serve.specs.Plan.{IsRunnable}
use Rattle.sg_serve.specs.Run.{CoreRun, Reached, PlanRunHolds, RestsWithout}
use Rattle.sg_serve.specs.declared.ending.PlanEnded.{PlanEnded}
use Rattle.sg_serve.specs.declared.ending.PlanEnded.TheVariants.{Before as BeforeRounds, Ran}
use Rattle.sg_run_plan.specs.declared.plan.RunPlan.{RunPlan}
use Rattle.sg_laws.specs.PlanRuns.{asked, UnopenedRun, IsUnopenedRun, IsImageSince, StopsUnopened, stores_until}
use Rattle.sg_laws.specs.Happened.{positions_by, AreListsBy, held_by}
use Rattle.sg_laws.proofs.CleanLemmas.{ListsAreOne}
use Rattle.sg_laws.proofs.RestLemmas.{Was, was-position, was-list, image-since, keeps-since, same-positions}

-- Stores.

-- Whatever image of a store since it was handed in is chosen, it stands for what the store told, which a crash would have left.
record ComesUnopened (dests : List DestSetup) (s : ℕ) (old : DiskState) (held : List ℕ) (news : List DiskState) : Type 0 where
  new : DiskState
  at : slice_get news s ≡ Some new
  was : (c : List ℕ) → IsImageSince old new c → Was (kind_of dests s) held c

abbrev AllCome : List DestSetup → List DiskState → List DiskState → Type 0
AllCome dests olds news = (s : ℕ) (old : DiskState) (held : List ℕ) → slice_get olds s ≡ Some old → content old ≡ Some held → Durable old → ComesUnopened dests s old held news

-- an image then is what was told
held-then : (old : DiskState) (held d : List ℕ) → content old ≡ Some held → content old ≡ Some d → d ≡ held
held-then old held d tells at = some-same d held (sym at ∙ tells)

was-same : (kind : StoreKind) (held c : List ℕ) → c ≡ held → Was kind held c
was-same Position held c e = sym e
was-same (Buffer capacity) held c e = inl e

-- stores that weren't touched
untouched : (dests : List DestSetup) (disks : List DiskState) → AllCome dests disks disks
untouched dests disks s old held at tells stable = record {
  new = old;
  at = at;
  was = λ c image.
      (let r = image-since Same old old (λ x. refl) (record { later = omega arith; past = λ t b low i. i; kept = λ t b low i. i; since = λ t b high low i. absurd (omega (arith, high, low)) }) c image in
      was-same (kind_of dests s) held c (r.1.1 ∙ held-then old held r.0 tells (stable r.0 r.1.0)));
}

-- stores over which no core could be opened
refused : (setup : Setup) (olds news : List DiskState) (refusal : CoreRefusal) → IsUnopened setup olds news refusal → AllCome setup.dests olds news
refused setup olds news refusal u s old held at tells stable =
    let kept = (u.refused).preserved in
    let count = kept.count in
    let many = (u.kinds_are).many in
    let low = slice_get-below olds s old at in
    let new = slice_get-some news s (omega (arith, low, count)) in
    let kind = slice_get-some u.kinds s (omega (arith, low, many)) in
    record {
      new = new.0;
      at = new.1;
      was = λ c image.
          (let r = keeps-since kind.0 old new.0 (kept.keeps s kind.0 old new.0 kind.1 at new.1) c image in
          let here = subst (λ (d : List ℕ). Was kind.0 d c) (held-then old held r.0 tells (stable r.0 r.1.0)) r.1.1 in
          subst (λ (k : StoreKind). Was k held c) ((u.kinds_are).each s kind.0 kind.1) here);
    }

-- a store as its kind was opened
opened-since : (kind : StoreKind) (disk : DiskState) (found : BufferEntries) (store : StoreState) (held : List ℕ) → IsOpenedAs kind disk found store → content disk ≡ Some held → Durable disk → (c : List ℕ) → IsImageSince disk store.disk c → Was kind held c
opened-since Position disk found store held o tells stable c at =
    let r = image-since Same disk store.disk (λ x. refl) ((o.0).preserves).still c at in
    sym (r.1.1 ∙ held-then disk held r.0 tells (stable r.0 r.1.0))
opened-since (Buffer capacity) disk found store held o tells stable c at = elim (cases_lt (clock o.synced) at.moment) [
  | inl late ↦ inr (record { entries = map coded o.entries; was = o.told held tells; is = (o.within).each at.moment c (omega (arith, late)) at.before at.image })
  | inr early ↦ (
      let r = image-since Same disk o.synced (λ x. refl) (o.preserves).still c (record { moment = at.moment; since = at.since; before = early; image = (o.within).past at.moment c early at.image }) in
      inl (r.1.1 ∙ held-then disk held r.0 tells (stable r.0 r.1.0)))
]

-- stores over which the core was opened
opened-stores : (setup : Setup) (disks : List DiskState) (core : CoreState) → IsOpen setup disks core → AllCome setup.dests disks (map (λ (store : StoreState). store.disk) core.stores)
opened-stores setup disks core o s old held at tells stable =
    let count = (o.stores).count in
    let looked = (o.stores).looked in
    let many = (o.kinds_are).many in
    let low = slice_get-below disks s old at in
    let store = slice_get-some core.stores s (omega (arith, low, count)) in
    let found = slice_get-some o.founds s (omega (arith, low, looked)) in
    let kind = slice_get-some o.kinds s (omega (arith, low, many)) in
    record {
      new = (store.0).disk;
      at = slice_get-map (λ (x : StoreState). x.disk) core.stores s store.0 store.1;
      was = λ c image.
          (let here = opened-since kind.0 old found.0 store.0 held ((o.stores).each s kind.0 old found.0 store.0 kind.1 at found.1 store.1) tells stable c image in
          subst (λ (k : StoreKind). Was k held c) ((o.kinds_are).each s kind.0 kind.1) here);
    }

-- those of any run
come-without : (setup : Setup) (reached : Reached) → RestsWithout setup reached → AllCome setup.dests reached.stores reached.stores_closed
come-without setup reached (inl same) = let P : List DiskState → Type 0 = λ ds. AllCome setup.dests reached.stores ds in subst P (sym same) (untouched setup.dests reached.stores)
come-without setup reached (inr u) = refused setup reached.stores reached.stores_closed u.0 u.1

come-held : {R I O : Type 0} (feed : I → InletState) (drain : O → OutletState) (offers : R → ℕ → Record → List Offer → Type 0) (inlets dests : R → ℕ) (files : Option Files) (plan : RunPlan) (routers : List R) (rounds : ℕ) (reached : Reached)
    (core : Option CoreRun) (ending : PlanEnded) → PlanRunHolds feed drain offers inlets dests files plan routers rounds reached core ending → AllCome plan.setup.dests reached.stores (stores_until reached core)
come-held feed drain offers inlets dests files plan routers rounds reached None (BeforeRounds early) h = come-without plan.setup reached h.rests
come-held feed drain offers inlets dests files plan routers rounds reached None (Ran ended counts) h = absurd h
come-held feed drain offers inlets dests files plan routers rounds reached (Some run) (BeforeRounds early) h = opened-stores plan.setup reached.stores run.first ((h.0).core).opens
come-held feed drain offers inlets dests files plan routers rounds reached (Some run) (Ran ended counts) h = opened-stores plan.setup reached.stores run.first ((h.0).core).opens

-- Images.

-- what was left in this store came of what it held
record LeftUnopened (dests : List DestSetup) (before images : List (List ℕ)) (s : ℕ) : Type 0 where
  held : List ℕ
  left : List ℕ
  held_at : slice_get before s ≡ Some held
  left_at : slice_get images s ≡ Some left
  was : Was (kind_of dests s) held left

-- a store was left as it was, or so
abbrev IsLeft : List DestSetup → List (List ℕ) → List (List ℕ) → ℕ → Type 0
IsLeft dests before images s = (slice_get images s ≡ slice_get before s) ⊎ LeftUnopened dests before images s

left-at : (dests : List DestSetup) (reached : Reached) (before images : List (List ℕ)) → AllCome dests reached.stores (stores_until reached reached.core) → StopsUnopened reached before images → (s : ℕ) (o : Option DiskState) → slice_get reached.stores s ≡ o
    → IsLeft dests before images s
left-at dests reached before images come stops s None at = inl (stops.others s at)
left-at dests reached before images come stops s (Some old) at =
    let t = stops.stores s old at in
    let c = come s old t.0 at t.1.1 (stops.stable s old at) in
    let i = stops.images_are s old c.new at c.at in
    inr (record { held = t.0; left = i.0; held_at = t.1.0; left_at = i.1.0; was = c.was i.0 i.1.1 })

left-position : (dests : List DestSetup) (before images : List (List ℕ)) (s : ℕ) → kind_of dests s ≡ Position → IsLeft dests before images s → position_in images (Some s) ≡ position_in before (Some s)
left-position dests before images s is (inl same) = ap (λ (o : Option (List ℕ)). option_map_or cell_value o 0) same
left-position dests before images s is (inr l) =
    let V : Option (List ℕ) → ℕ = λ o. option_map_or cell_value o 0 in
    ap V l.left_at ∙ ap cell_value (sym (was-position (kind_of dests s) l.held l.left is l.was)) ∙ sym (ap V l.held_at)

position-by : (dests : List DestSetup) (before images : List (List ℕ)) (o : Option ℕ) → ((s : ℕ) → o ≡ Some s → kind_of dests s ≡ Position) → ((s : ℕ) → IsLeft dests before images s) → position_in images o ≡ position_in before o
position-by dests before images None kinds left = refl
position-by dests before images (Some s) kinds left = left-position dests before images s (kinds s refl) (left s)

left-list : (one : ListsAreOne) (dests : List DestSetup) (before images : List (List ℕ)) (s : ℕ) (list : List BufferedEntry) (bytes : List ℕ) → slice_get before s ≡ Some bytes → ((left : List ℕ) → slice_get images s ≡ Some left → IsListOf (map coded list) left)
    → IsLeft dests before images s → IsListOf (map coded list) bytes
left-list one dests before images s list bytes at held (inl same) = held bytes (same ∙ at)
left-list one dests before images s list bytes at held (inr l) =
    let P : List ℕ → Type 0 = λ b. IsListOf (map coded list) b in
    subst P (some-same l.held bytes (sym l.held_at ∙ at)) (was-list one (kind_of dests s) l.held l.left list l.was (held l.left l.left_at))

-- What was left stands for what the stores held: for the same positions, and for the same lists.
pub record StandsAsBefore (setup : Setup) (before images : List (List ℕ)) : Type 0 where
  pub lists : (ls : List (List BufferedEntry)) → AreListsBy setup.dests images ls → AreListsBy setup.dests before ls
  pub held : (ls : List (List BufferedEntry)) → held_by setup images ls ≡ held_by setup before ls

pub stands-as-before : {R I O : Type 0} (feed : I → InletState) (drain : O → OutletState) (offers : R → ℕ → Record → List Offer → Type 0) (inlets dests : R → ℕ) (plan : RunPlan) (before : List (List ℕ)) (run : UnopenedRun R) → ListsAreOne → IsRunnable plan
    → IsUnopenedRun feed drain offers inlets dests plan before run → StandsAsBefore plan.setup before run.images
stands-as-before feed drain offers inlets dests plan before run one can is =
    let setup = plan.setup in
    let reached = run.reached in
    let come = come-held feed drain offers inlets dests (run.old).files (asked plan run.once) run.routers run.rounds reached reached.core run.ending (is.runs).holds in
    let left : (s : ℕ) → IsLeft setup.dests before run.images s = λ s. left-at setup.dests reached before run.images come is.stops s (slice_get reached.stores s) refl in
    let positions : positions_by setup.sources run.images ≡ positions_by setup.sources before =
    same-positions setup.sources run.images before
    (λ i source at.
    position-by setup.dests before run.images source.store
    (λ s has.
    let place : store_in setup.sources i ≡ Some s = ap (λ (x : Option SourceSetup). option_and_then (λ (y : SourceSetup). y.store) x) at ∙ has in
    kind-none setup.dests s (λ e q. (can.numbers).apart i e s place q))
    left) in
    record {
      lists = λ ls are. record {
        every = are.every;
        each = λ d dest buffer list bytes here has there at.
            left-list one setup.dests before run.images buffer.store list bytes at (λ c q. are.each d dest buffer list c here has there q) (left buffer.store);
      };
      held = λ ls. (let F : List ℕ → Images = λ ps. record { positions = ps; lists = ls } in ap F positions);
    }

-- Where the core wasn't opened, the stores are covered as they were.
use Rattle.std.proofs.Common.{◌≡◌, ◌≤◌, ℕ, suc, zero, List, [], ◌∷◌, length, map, Some, None, Option, refl, sym, ap, ◌∙◌, subst, arith, inl, inr, ◌⊎◌, slice_get}
use Rattle.std.specs.Prelude.{option_and_then}
use Rattle.std.specs.Option.{option_map_or}
use Rattle.std.proofs.lemmas.Bool.{cases_lt}
use Rattle.sg_list.proofs.ListLemmas.{some-same, slice_get-some, slice_get-below}
use Rattle.sg_device.specs.Disk.{DiskState, clock, IsImage, IsImageAt, Elapses}
use Rattle.sg_device.specs.DiskBytes.{Same}
use Rattle.sg_device.specs.Inlet.{InletState}
use Rattle.sg_device.specs.Outlet.{OutletState}
use Rattle.sg_outside.specs.World.{Files}
use Rattle.sg_msg.specs.declared.offer.Offer.{Offer}
use Rattle.sg_frame.specs.Records.{Record}
use Rattle.sg_stable.specs.Cell.{cell_value}
use Rattle.sg_codec.specs.declared.kept.Kept.{Kept as Coded}
use Rattle.sg_buffer.specs.Entries.{IsListOf}
use Rattle.sg_machine.specs.declared.setup.SourceSetup.{SourceSetup}
use Rattle.sg_machine.specs.Runs.{BufferedEntry}
use Rattle.sg_machine.specs.Safe.{Images}
use Rattle.sg_counter.specs.Bringing.{store_in}
use Rattle.sg_stores.specs.Opening.{HasSameList, ArePreserved, KeepsImages}
use Rattle.sg_stores.specs.Stores.{coded}
use Rattle.sg_stores.specs.declared.kind.StoreKind.{StoreKind}
use Rattle.sg_stores.specs.declared.kind.StoreKind.TheVariants.{Position, Buffer}
use Rattle.sg_standing.specs.Images.{position_in}
use Rattle.sg_core.specs.Opening.{AreKinds}
use Rattle.sg_core.proofs.OpenState.{kind-none}
use Rattle.sg_serve.specs.Plan.{IsRunnable}
use Rattle.sg_serve.specs.Run.{CoreRun, Reached, PlanRunHolds, RestsWithout}
use Rattle.sg_serve.specs.declared.ending.PlanEnded.{PlanEnded}
use Rattle.sg_serve.specs.declared.ending.PlanEnded.TheVariants.{Before as BeforeRounds, Ran}
use Rattle.sg_run_plan.specs.declared.plan.RunPlan.{RunPlan}
use Rattle.sg_laws.specs.Covered.{Covered}
use Rattle.sg_laws.specs.Adding.{offers_in}
use Rattle.sg_laws.specs.Happened.{positions_by, AreListsBy, EachChoice, files_of}
use Rattle.sg_laws.specs.PlanRuns.{IsImageSince}
use Rattle.sg_laws.specs.Rest.{PlanRunsRest}
use Rattle.sg_laws.proofs.CleanLemmas.{ListsAreOne}

-- an image of a moment since then came of one then
pub image-since : (step : List ℕ → List ℕ → Type 0) (old new : DiskState) → ((c : List ℕ) → step c c) → Elapses step old new → (c : List ℕ) → IsImageSince old new c → (d : List ℕ) × (IsImage old d × step d c)
image-since step old new stays time c at = elim (cases_lt (clock old) at.moment) [
  | inr early ↦ (
      let low = at.since in
      let same : at.moment ≡ clock old = omega (arith, early, low) in
      let here = subst (λ (n : ℕ). IsImageAt new n c) same at.image in
      (c, (time.past (clock old) c (omega arith) here, stays c)))
  | inl late ↦ (let from = time.since at.moment c late at.before at.image in (from.0, (from.1, from.2)))
]

-- what stood in a store of this kind before
abbrev pub Was : StoreKind → List ℕ → List ℕ → Type 0
Was Position d c = d ≡ c
Was (Buffer capacity) d c = HasSameList d c

pub keeps-since : (kind : StoreKind) (old new : DiskState) → KeepsImages kind old new → (c : List ℕ) → IsImageSince old new c → (d : List ℕ) × (IsImage old d × Was kind d c)
keeps-since Position old new k c at = let r = image-since Same old new (λ x. refl) k.still c at in (r.0, (r.1.0, sym r.1.1))
keeps-since (Buffer capacity) old new k c at = image-since HasSameList old new (λ x. inl refl) k.still c at

-- an image now is one of those
image-now : (old new : DiskState) (c : List ℕ) → clock old ≤ clock new → IsImage new c → IsImageSince old new c
image-now old new c later left = record { moment = clock new; since = later; before = omega arith; image = left }

keeps-before : (kind : StoreKind) (old new : DiskState) → KeepsImages kind old new → (c : List ℕ) → IsImage new c → (d : List ℕ) × (IsImage old d × Was kind d c)
keeps-before Position old new k c left = keeps-since Position old new k c (image-now old new c (k.still).later left)
keeps-before (Buffer capacity) old new k c left = keeps-since (Buffer capacity) old new k c (image-now old new c (k.still).later left)

-- A choice of images before, for one of images now.
record RestChoice (R : ℕ → List ℕ → List ℕ → Type 0) (olds : List DiskState) (images : List (List ℕ)) : Type 0 where
  chosen : List (List ℕ)
  each : (s : ℕ) (old : DiskState) → slice_get olds s ≡ Some old → (d : List ℕ) × ((slice_get chosen s ≡ Some d) × IsImage old d)
  from : (s : ℕ) (d : List ℕ) → slice_get chosen s ≡ Some d → (c : List ℕ) × ((slice_get images s ≡ Some c) × ((d ≡ c) ⊎ R s d c))
  onto : (s : ℕ) (c : List ℕ) → slice_get images s ≡ Some c → (d : List ℕ) × (slice_get chosen s ≡ Some d)

-- one image of a store before, for the one now
record One (R : ℕ → List ℕ → List ℕ → Type 0) (s : ℕ) (old : DiskState) (images : List (List ℕ)) : Type 0 where
  c : List ℕ
  at : slice_get images s ≡ Some c
  d : List ℕ
  image : IsImage old d
  was : R s d c

choose-each : (d : List ℕ) (chosen : List (List ℕ)) (old : DiskState) (olds : List DiskState) → IsImage old d → ((s : ℕ) (x : DiskState) → slice_get olds s ≡ Some x → (e : List ℕ) × ((slice_get chosen s ≡ Some e) × IsImage x e))
    → (s : ℕ) (x : DiskState) → slice_get (old ∷ olds) s ≡ Some x → (e : List ℕ) × ((slice_get (d ∷ chosen) s ≡ Some e) × IsImage x e)
choose-each d chosen old olds image rest zero x h = let P : DiskState → Type 0 = λ y. IsImage y d in (d, (refl, subst P (some-same old x h) image))
choose-each d chosen old olds image rest (suc s) x h = rest s x h

choose-from : (R : ℕ → List ℕ → List ℕ → Type 0) (d c : List ℕ) (chosen images : List (List ℕ)) → R 0 d c → ((s : ℕ) (e : List ℕ) → slice_get chosen s ≡ Some e → (b : List ℕ) × ((slice_get images s ≡ Some b) × ((e ≡ b) ⊎ R (suc s) e b)))
    → (s : ℕ) (e : List ℕ) → slice_get (d ∷ chosen) s ≡ Some e → (b : List ℕ) × ((slice_get (c ∷ images) s ≡ Some b) × ((e ≡ b) ⊎ R s e b))
choose-from R d c chosen images was rest zero e h = let P : List ℕ → Type 0 = λ x. R 0 x c in (c, (refl, inr (subst P (some-same d e h) was)))
choose-from R d c chosen images was rest (suc s) e h = rest s e h

choose-onto : (d c : List ℕ) (chosen images : List (List ℕ)) → ((s : ℕ) (b : List ℕ) → slice_get images s ≡ Some b → (e : List ℕ) × (slice_get chosen s ≡ Some e)) → (s : ℕ) (b : List ℕ) → slice_get (c ∷ images) s ≡ Some b → (e : List ℕ) × (slice_get (d ∷ chosen) s ≡ Some e)
choose-onto d c chosen images rest zero b h = (d, refl)
choose-onto d c chosen images rest (suc s) b h = rest s b h

choose : (R : ℕ → List ℕ → List ℕ → Type 0) (olds : List DiskState) (images : List (List ℕ)) → ((s : ℕ) (old : DiskState) → slice_get olds s ≡ Some old → One R s old images) → RestChoice R olds images
choose R [] images f = record {
  chosen = images;
  each = λ s old h. absurd (let wrong : None ≡ Some old = h in cc);
  from = λ s d h. (d, (h, inl refl));
  onto = λ s c h. (c, h);
}
choose R (old ∷ olds) [] f = absurd (let x = f 0 old refl in let wrong : None ≡ Some x.c = x.at in cc)
choose R (old ∷ olds) (c ∷ images) f =
    let x = f 0 old refl in
    let next : (s : ℕ) (y : DiskState) → slice_get olds s ≡ Some y → One (λ n d e. R (suc n) d e) s y images =
    λ s y h. let z = f (suc s) y h in record { c = z.c; at = z.at; d = z.d; image = z.image; was = z.was } in
    let r = choose (λ n d e. R (suc n) d e) olds images next in
    let P : List ℕ → Type 0 = λ e. R 0 x.d e in
    record {
      chosen = x.d ∷ r.chosen;
      each = choose-each x.d r.chosen old olds x.image r.each;
      from = choose-from R x.d c r.chosen images (subst P (sym (some-same c x.c x.at)) x.was) r.from;
      onto = choose-onto x.d c r.chosen images r.onto;
    }

-- Positions.

pub same-positions : (sources : List SourceSetup) (a b : List (List ℕ)) → ((i : ℕ) (source : SourceSetup) → slice_get sources i ≡ Some source → position_in a source.store ≡ position_in b source.store) → positions_by sources a ≡ positions_by sources b
same-positions [] a b h = refl
same-positions (s ∷ sources) a b h =
    ap (λ (n : ℕ). n ∷ positions_by sources a) (h 0 s refl) ∙ ap (λ (ns : List ℕ). position_in b s.store ∷ ns) (same-positions sources a b (λ i source at. h (suc i) source at))

position-here : (images : List (List ℕ)) (s : ℕ) (o : Option (List ℕ)) → slice_get images s ≡ o → position_in images (Some s) ≡ option_map_or cell_value o 0
position-here images s o h = ap (λ (x : Option (List ℕ)). option_map_or cell_value x 0) h

position-at : (R : ℕ → List ℕ → List ℕ → Type 0) (olds : List DiskState) (images : List (List ℕ)) (r : RestChoice R olds images) (s : ℕ) → ((d c : List ℕ) → R s d c → d ≡ c) → (o p : Option (List ℕ)) → slice_get images s ≡ o → slice_get r.chosen s ≡ p
    → option_map_or cell_value p 0 ≡ option_map_or cell_value o 0
position-at R olds images r s same None None h k = refl
position-at R olds images r s same (Some c) None h k = absurd (let x = r.onto s c h in let wrong : None ≡ Some x.0 = sym k ∙ x.1 in cc)
position-at R olds images r s same None (Some d) h k = absurd (let x = r.from s d k in let wrong : None ≡ Some x.0 = sym h ∙ x.1.0 in cc)
position-at R olds images r s same (Some c) (Some d) h k =
    let x = r.from s d k in
    let is : x.0 ≡ c = some-same x.0 c (sym x.1.0 ∙ h) in
    let equal : d ≡ x.0 = elim x.1.1 [ inl e ↦ e | inr w ↦ same d x.0 w ] in
    ap cell_value (equal ∙ is)

position-of : (R : ℕ → List ℕ → List ℕ → Type 0) (olds : List DiskState) (images : List (List ℕ)) (r : RestChoice R olds images) (o : Option ℕ) → ((s : ℕ) → o ≡ Some s → (d c : List ℕ) → R s d c → d ≡ c) → position_in r.chosen o ≡ position_in images o
position-of R olds images r None same = refl
position-of R olds images r (Some s) same =
    position-here r.chosen s (slice_get r.chosen s) refl ∙ position-at R olds images r s (same s refl) (slice_get images s) (slice_get r.chosen s) refl refl ∙ sym (position-here images s (slice_get images s) refl)

-- The whole.

-- what was in a store of its kind
record WasKind (kinds : List StoreKind) (s : ℕ) (d c : List ℕ) : Type 0 where
  kind : StoreKind
  at : slice_get kinds s ≡ Some kind
  was : Was kind d c

pub was-position : (kind : StoreKind) (d c : List ℕ) → kind ≡ Position → Was kind d c → d ≡ c
was-position Position d c q w = w
was-position (Buffer capacity) d c q w = absurd (let wrong : Buffer capacity ≡ Position = q in cc)

pub was-list : (one : ListsAreOne) (kind : StoreKind) (d c : List ℕ) (list : List BufferedEntry) → Was kind d c → IsListOf (map coded list) c → IsListOf (map coded list) d
was-list one Position d c list w l = let P : List ℕ → Type 0 = λ x. IsListOf (map coded list) x in subst P (sym w) l
was-list one (Buffer capacity) d c list (inl e) l = let P : List ℕ → Type 0 = λ x. IsListOf (map coded list) x in subst P e l
was-list one (Buffer capacity) d c list (inr h) l =
    let P : List Coded → Type 0 = λ xs. IsListOf xs d in
    subst P (one h.entries (map coded list) c h.is l) h.was

-- stores that come back as they were
rests-kept : (one : ListsAreOne) (plan : RunPlan) (olds news : List DiskState) (kinds : List StoreKind) → IsRunnable plan → AreKinds plan.setup.dests (length olds) kinds → ArePreserved kinds olds news → (P : Images → Type 0) → EachChoice plan.setup olds P
    → EachChoice plan.setup news P
rests-kept one plan olds news kinds runnable are_kinds kept P each images lists are in_lists =
    let R : ℕ → List ℕ → List ℕ → Type 0 = λ s d c. WasKind kinds s d c in
    let count = kept.count in
    let many = are_kinds.many in
    let r = choose R olds images
    (λ s old h.
    let low = slice_get-below olds s old h in
    let new = slice_get-some news s (omega (arith, low, count)) in
    let kind = slice_get-some kinds s (omega (arith, low, many)) in
    let now = are s new.0 new.1 in
    let was = keeps-before kind.0 old new.0 (kept.keeps s kind.0 old new.0 kind.1 h new.1) now.0 now.1.1 in
    record { c = now.0; at = now.1.0; d = was.0; image = was.1.0; was = record { kind = kind.0; at = kind.1; was = was.1.1 } }) in
    let positions : positions_by plan.setup.sources r.chosen ≡ positions_by plan.setup.sources images =
    same-positions plan.setup.sources r.chosen images
    (λ i source at.
    position-of R olds images r source.store
    (λ s has d c w.
    let place : store_in plan.setup.sources i ≡ Some s = ap (λ (x : Option SourceSetup). option_and_then (λ (y : SourceSetup). y.store) x) at ∙ has in
    let is : w.kind ≡ Position = are_kinds.each s w.kind w.at ∙ kind-none plan.setup.dests s (λ e q. (runnable.numbers).apart i e s place q) in
    was-position w.kind d c is w.was)) in
    let held : AreListsBy plan.setup.dests r.chosen lists = record {
      every = in_lists.every;
      each = λ e dest buffer list d h q g at.
          (let x = r.from buffer.store d at in
          let now = in_lists.each e dest buffer list x.0 h q g x.1.0 in
          elim x.1.1 [
            | inl same ↦ (let Q : List ℕ → Type 0 = λ y. IsListOf (map coded list) y in subst Q (sym same) now)
            | inr w ↦ was-list one w.kind d x.0 list w.was now
          ]);
    } in
    let S : List ℕ → Type 0 = λ ps. P (record { positions = ps; lists = lists }) in
    subst S positions (each r.chosen lists r.each held)

rests-without : (one : ListsAreOne) (plan : RunPlan) (reached : Reached) → IsRunnable plan → RestsWithout plan.setup reached → (P : Images → Type 0) → EachChoice plan.setup reached.stores P → EachChoice plan.setup reached.stores_closed P
rests-without one plan reached runnable (inl same) P each = let Q : List DiskState → Type 0 = λ ds. EachChoice plan.setup ds P in subst Q (sym same) each
rests-without one plan reached runnable (inr u) P each = rests-kept one plan reached.stores reached.stores_closed u.1.kinds runnable u.1.kinds_are (u.1.refused).preserved P each

rests-held : {R I O : Type 0} (feed : I → InletState) (drain : O → OutletState) (offers : R → ℕ → Record → List Offer → Type 0) (inlets dests : R → ℕ) (files : Option Files) (plan : RunPlan) (routers : List R) (rounds : ℕ) (reached : Reached)
    (core : Option CoreRun) (ending : PlanEnded) → ListsAreOne → IsRunnable plan → PlanRunHolds feed drain offers inlets dests files plan routers rounds reached core ending → core ≡ None → (P : Images → Type 0) → EachChoice plan.setup reached.stores P
    → EachChoice plan.setup reached.stores_closed P
rests-held feed drain offers inlets dests files plan routers rounds reached None (BeforeRounds early) one runnable h q P each = rests-without one plan reached runnable h.rests P each
rests-held feed drain offers inlets dests files plan routers rounds reached None (Ran ended counts) one runnable h q P each = absurd h
rests-held feed drain offers inlets dests files plan routers rounds reached (Some core) ending one runnable h q P each = absurd (let wrong : Some core ≡ None = q in cc)

pub rests : {R I O : Type 0} (feed : I → InletState) (drain : O → OutletState) (offers : R → ℕ → Record → List Offer → Type 0) (inlets dests : R → ℕ) → ListsAreOne → PlanRunsRest feed drain offers inlets dests
rests feed drain offers inlets dests one old new plan routers by rounds ending reached bytes taken passes places runnable runs core covered =
    rests-held feed drain offers inlets dests old.files plan routers rounds reached reached.core ending one runnable runs.holds core (Covered plan.setup (offers_in offers by) (files_of plan.inlets.items bytes) taken passes places) covered

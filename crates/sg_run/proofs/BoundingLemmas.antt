-- That a run ends clean in which all goes well.
use Rattle.std.proofs.Common.{◌≡◌, ◌⊎◌, ◌≤◌, ℕ, zero, suc, ◌+◌, ◌*◌, Bool, true, false, List, [], ◌∷◌, length, map, Option, Some, None, Result, Ok, Err, ◌++◌, inl, inr, slice_get, refl, sym, ap, ◌∙◌, subst, arith}
use Rattle.sg_list.proofs.ListLemmas.{some-same}
use Rattle.sg_device.specs.Disk.{DiskState}
use Rattle.sg_outside.specs.World.{WorldState}
use Rattle.sg_codec.specs.declared.kept.Kept.{Kept}
use Rattle.sg_spool.specs.Ring.{Entries}
use Rattle.sg_spool.proofs.Damages.{no_damage}
use Rattle.sg_spool.proofs.Unique.{list_unique}
use Rattle.sg_spool.specs.Opening.{IsRingDamagedAt}
use Rattle.sg_stable.specs.declared.fault.StoreRefusal.{StoreRefusal}
use Rattle.sg_stable.specs.declared.fault.StoreRefusal.TheVariants.{Damage as StoreDamage, DiskFault as StoreFault, NoMemory as StoreNoMemory}
use Rattle.sg_overflow.specs.Buffered.{HeldState}
use Rattle.sg_overflow.specs.Line.{AreStored}
use Rattle.sg_overflow.specs.Opening.{IsUntagged}
use Rattle.sg_overflow.specs.Payload.{tagged, is_tagged}
use Rattle.sg_buffer.specs.Entries.{IsStoredAs, AreStoredAs}
use Rattle.sg_stores.specs.Opening.{IsStore, IsDamagedStore}
use Rattle.sg_stores.specs.declared.kind.StoreKind.{StoreKind}
use Rattle.sg_stores.specs.declared.kind.StoreKind.TheVariants.{Position, Buffer}
use Rattle.sg_loaded.specs.declared.loaded.Unloaded.{Unloaded}
use Rattle.sg_loaded.specs.declared.loaded.Unloaded.TheVariants.{Bad, Unread, NoMemory}
use Rattle.sg_serve.specs.Counts.{first_fault}
use Rattle.sg_serve.specs.Exits.{Out, OneRose, present, stores_in}
use Rattle.sg_serve.specs.Overflows.{LastMisses}
use Rattle.sg_serve.specs.Run.{Reached, RoseAt, IsDamagedIn, HasEarlyCause, HasEnding}
use Rattle.sg_serve.specs.declared.counts.Counts.{Counts}
use Rattle.sg_serve.specs.declared.ending.Device.TheVariants.{Store, Inlet, Dest}
use Rattle.sg_serve.specs.declared.ending.Early.{Early}
use Rattle.sg_serve.specs.declared.ending.Early.TheVariants as early
use Rattle.sg_serve.specs.declared.ending.PlanEnded.{PlanEnded}
use Rattle.sg_serve.specs.declared.ending.PlanEnded.TheVariants.{Before, Ran}
use Rattle.sg_run_plan.specs.declared.plan.RunPlan.{RunPlan}
use Rattle.sg_turns.specs.declared.ended.Ended.TheVariants.{Quiet, RoundsSpent as Spent, NoMemory as Starved}
use Rattle.sg_laws.specs.Bounds.{given_rounds, IsFew}
use Rattle.sg_laws.proofs.RiseLemmas.{inlet-rose, outlet-rose}
use Rattle.sg_run.specs.Bounding.{AreStoresSpelled, HoldsBackWell, GoesWell, Completes}
use Rattle.sg_run.specs.Causes.{FailsThrice, RoseIn, FaultsAreDue, IsHeldFor, HasFailedBehind, RestsAreDue, AreCausesDue}
use Rattle.sg_run.specs.Ends.{quiet_end, end_after, early_end}
use Rattle.sg_run.specs.Meaning.{drivers_in, files_in}
use Rattle.sg_run.specs.Outcomes.{PlanEndsBy, TellsOutcome}
use Rattle.sg_run.specs.declared.end.End.{End}
use Rattle.sg_run.specs.declared.end.End.TheVariants.{Clean}
use Rattle.sg_run.specs.declared.end.Outcome.{Outcome}

-- Stores.

stored-at : (entries : List Kept) (before : Entries) (payload : List ℕ) (after : Entries) → AreStoredAs entries (before ++ payload ∷ after) → (kept : Kept) × IsStoredAs kept payload
stored-at [] [] payload after h = absurd h
stored-at (kept ∷ entries) [] payload after h = (kept, h.0)
stored-at [] (b ∷ before) payload after h = absurd h
stored-at (kept ∷ entries) (b ∷ before) payload after h = stored-at entries before payload after h.1

-- a spelling isn't damaged
whole : (kind : StoreKind) (at : ℕ) (bytes : List ℕ) → IsStore kind bytes → IsDamagedStore kind at bytes → ⊥
whole Position at bytes (position, is) (inl found) = found.nonzero ((is.shape).zeros at found.inside found.outside)
whole Position at bytes (position, is) (inr other) = other.1 (is.shape).size
whole (Buffer capacity) at bytes (entries, is) (inl damaged) = no_damage is.payloads at bytes is.list damaged
whole (Buffer capacity) at bytes (entries, is) (inr found) =
    let none = found.none in
    let one = list_unique is.payloads (none.payloads ++ none.payload ∷ none.after) bytes is.list none.list in
    let kept = stored-at entries none.payloads none.payload none.after (subst (λ (es : Entries). AreStoredAs entries es) one is.stored) in
    none.none kept.0 kept.1

not-damaged : (plan : RunPlan) (reached : Reached) (s at : ℕ) → AreStoresSpelled plan.setup.dests reached.stores → IsDamagedIn plan.setup reached.stores s at → ⊥
not-damaged plan reached s at spelled is =
    let lowest = is.damaged in
    let store = spelled s lowest.disk lowest.is_disk in
    whole lowest.kind at store.0 (subst (λ (kind : StoreKind). IsStore kind store.0) (sym ((is.kinds_are).each s lowest.kind lowest.is_kind)) store.1.1) (lowest.damaged store.0 store.1.0)

-- Stores of held frames.

tagged-one : (p q : List ℕ) → tagged p ≡ q → is_tagged q ≡ true
tagged-one p q same = subst (λ (x : List ℕ). is_tagged x ≡ true) same refl

tagged-all : (frames : List (List ℕ)) (before : Entries) (payload : List ℕ) (rest : Entries) → map tagged frames ≡ before ++ payload ∷ rest → is_tagged payload ≡ true
tagged-all [] [] payload rest same = absurd (let wrong : [] ≡ (payload ∷ rest) = same in cc)
tagged-all [] (b ∷ before) payload rest same = absurd (let wrong : [] ≡ (b ∷ (before ++ payload ∷ rest)) = same in cc)
tagged-all (f ∷ fs) [] payload rest same = tagged-one f payload (let both : (tagged f ∷ map tagged fs) ≡ (payload ∷ rest) = same in cc)
tagged-all (f ∷ fs) (b ∷ before) payload rest same = tagged-all fs before payload rest (let both : (tagged f ∷ map tagged fs) ≡ (b ∷ (before ++ payload ∷ rest)) = same in cc)

-- a list of frames isn't damaged
frames-whole : (frames : List (List ℕ)) (at : ℕ) (bytes : List ℕ) → AreStored frames bytes → IsRingDamagedAt at bytes ⊎ IsUntagged at bytes → ⊥
frames-whole frames at bytes stored (inl damaged) = no_damage (map tagged frames) at bytes stored damaged
frames-whole frames at bytes stored (inr found) =
    let one = list_unique (map tagged frames) (found.before ++ found.payload ∷ found.rest) bytes stored (record { jump = found.jump; head = found.head; end = found.end; laid = found.laid }) in
    let is = tagged-all frames found.before found.payload found.rest one in
    let wrong : true ≡ false = sym is ∙ found.bad in
    cc

slice-behind : (front : List DiskState) (store : DiskState) → slice_get (front ++ store ∷ []) (length front) ≡ Some store
slice-behind [] store = refl
slice-behind (d ∷ ds) store = slice-behind ds store

-- not lack of memory
abbrev IsStoreFault : StoreRefusal → Type 0
IsStoreFault (StoreDamage at) = Unit {0}
IsStoreFault StoreFault = Unit {0}
IsStoreFault StoreNoMemory = ⊥

not-missed : (reached : Reached) → HoldsBackWell reached → (stores s : ℕ) (refusal : StoreRefusal) → LastMisses stores reached.outs reached.outs_closed s refusal → IsStoreFault refusal → ⊥
not-missed reached well stores s (StoreDamage at) m is =
    let spelled = well.spelled (length m.front) m.before (ap (λ (ds : List DiskState). slice_get ds (length m.front)) m.opened_are ∙ slice-behind m.front m.before) in
    frames-whole spelled.1.0 at spelled.0 spelled.1.1.1 (m.reason spelled.0 spelled.1.1.0)
not-missed reached well stores s StoreFault m is =
    let none = well.stores (length m.front) m.after m.closed_is in
    let rose = m.reason in
    omega (arith, rose, none)
not-missed reached well stores s StoreNoMemory m is = absurd is

-- the store of one of them
present-behind : (first : Option DiskState) (os : List Out) (store : DiskState) → (k : ℕ) × (slice_get (stores_in os) k ≡ Some store) → (k : ℕ) × (slice_get (present (first ∷ map (λ (x : Out). x.store) os)) k ≡ Some store)
present-behind None os store (k, at) = (k, at)
present-behind (Some disk) os store (k, at) = (suc k, at)

present-at : (outs : List Out) (d : ℕ) (out : Out) (store : DiskState) → slice_get outs d ≡ Some out → out.store ≡ Some store → (k : ℕ) × (slice_get (stores_in outs) k ≡ Some store)
present-at [] d out store at has = absurd (let wrong : None ≡ Some out = at in cc)
present-at (o ∷ os) zero out store at has =
    let here : o.store ≡ Some store = ap (λ (x : Out). x.store) (some-same o out at) ∙ has in
    (0, ap (λ (s : Option DiskState). slice_get (present (s ∷ map (λ (x : Out). x.store) os)) 0) here)
present-at (o ∷ os) (suc d) out store at has = present-behind o.store os store (present-at os d out store at has)

not-held : (reached : Reached) → HoldsBackWell reached → (d : ℕ) (out : Out) (held : HeldState) → out.held ≡ Some held → slice_get reached.outs_closed d ≡ Some out → 3 ≤ out.inner.faults + out.inner.laters → ⊥
not-held reached well d out held has at refused = let none = well.inner d out held at has in omega (arith, refused, none.0, none.1)

-- How the run ended.

none-failed : (sinks stores inlets : List ℕ) → ((k d : ℕ) → slice_get sinks k ≡ Some d → ⊥) → ((k s : ℕ) → slice_get stores k ≡ Some s → ⊥) → ((k i : ℕ) → slice_get inlets k ≡ Some i → ⊥) → first_fault sinks stores inlets ≡ None
none-failed (d ∷ ds) stores inlets no_sink no_store no_inlet = absurd (no_sink 0 d refl)
none-failed [] (s ∷ ss) inlets no_sink no_store no_inlet = absurd (no_store 0 s refl)
none-failed [] [] (i ∷ is) no_sink no_store no_inlet = absurd (no_inlet 0 i refl)
none-failed [] [] [] no_sink no_store no_inlet = refl

module _ (old new : WorldState) (plan : RunPlan) (recovered offered rounds : ℕ) (reached : Reached) (well : GoesWell old new plan reached) where
  opens-exits : OneRose old new → ⊥
  opens-exits (inl rose) = well.opens_outlets rose
  opens-exits (inr rose) = well.opens_paths rose

  -- the rounds began
  begins : (early : Early) (end : End) → HasEarlyCause old new plan reached early → early_end early ≡ Some end → ⊥
  begins (early.OpenFault (Store n)) end cause is = well.opens_stores cause.1
  begins (early.OpenFault (Inlet n)) end cause is = well.opens_inlets cause.1
  begins (early.OpenFault (Dest n)) end cause is = opens-exits cause.1
  begins (early.Damage s at) end (inl cause) is = not-damaged plan reached s at well.spelled cause.1
  begins (early.Damage s at) end (inr cause) is = not-missed reached well.held (length plan.stores.items) s (StoreDamage at) cause tt
  begins (early.DiskFault s) end (inl cause) is = well.stores s cause
  begins (early.DiskFault s) end (inr cause) is = not-missed reached well.held (length plan.stores.items) s StoreFault cause tt
  begins early.NoMemory end cause is = let wrong : None ≡ Some end = is in cc

  no-sink : (d : ℕ) → FailsThrice plan reached.outlets reached.outlets_closed d → ⊥
  no-sink d fails =
      let some = outlet-rose reached.outlets reached.outlets_closed d fails.old fails.new fails.was fails.is fails.rose in
      let none = (well.untroubled).faults in
      omega (arith, some, none)

  no-inlet : (i : ℕ) → RoseIn reached.inlets reached.inlets_closed i → ⊥
  no-inlet i fails =
      let some = inlet-rose reached.inlets reached.inlets_closed i fails.old fails.new fails.was fails.is fails.rose in
      let none = (well.untroubled).faults in
      omega (arith, some, none)

  no-rest : (held : List (ℕ × ℕ)) (d : ℕ) → FailsThrice plan reached.outlets reached.outlets_closed d ⊎ IsHeldFor plan reached held d → ⊥
  no-rest held d (inl fails) = no-sink d fails
  no-rest held d (inr holds) = not-held reached well.held d holds.out holds.held holds.has holds.is holds.refused

  no-store : (s : ℕ) → RoseAt reached.stores reached.stores_closed s ⊎ HasFailedBehind plan reached s → ⊥
  no-store s (inl rose) = well.stores s rose
  no-store s (inr failed) =
      let k = present-at reached.outs_closed failed.d failed.out failed.store failed.is failed.has in
      let none = (well.held).stores k.0 failed.store k.1 in
      let some = failed.failed in
      omega (arith, some, none)

  -- nothing failed
  quiet-clean : (counts : Counts) (end : End) → FaultsAreDue plan reached counts → RestsAreDue plan reached counts.rests
      → end_after Quiet (first_fault counts.rests.sinks counts.rests.stores counts.inlets) ≡ Some end → end ≡ Clean
  quiet-clean counts end due rests is =
      let none = none-failed counts.rests.sinks counts.rests.stores counts.inlets (λ k d h. no-rest counts.rests.held d (rests.sinks k d h)) (λ k s h. no-store s (rests.stores k s h)) (λ k i h. no-inlet i (due.inlets k i h)) in
      sym (some-same (quiet_end (first_fault counts.rests.sinks counts.rests.stores counts.inlets)) end is) ∙ ap quiet_end none

  clean-of : (ending : PlanEnded) (drivers : List ℕ) (files : List Bool) (outcome : Outcome) → HasEnding old new plan reached ending → AreCausesDue plan reached ending → IsFew recovered offered rounds reached ending
      → 4 * given_rounds recovered offered reached ≤ rounds → PlanEndsBy drivers files ending (Some outcome) → outcome.end ≡ Clean
  clean-of (Before early) drivers files outcome cause due few enough ends = absurd (begins early outcome.end cause ends.0)
  clean-of (Ran Quiet None) drivers files outcome cause due few enough ends = absurd ends
  clean-of (Ran Quiet (Some counts)) drivers files outcome cause due few enough ends = quiet-clean counts outcome.end due.0 due.1 ends.0
  clean-of (Ran Spent counts) drivers files outcome cause due few enough ends =
      let below = few.below in
      let faults = (well.untroubled).faults in
      let waits = (well.untroubled).waits in
      absurd (let wrong : ⊥ = omega (arith, below, faults, waits, enough) in wrong)
  clean-of (Ran Starved None) drivers files outcome cause due few enough ends = absurd ends
  clean-of (Ran Starved (Some counts)) drivers files outcome cause due few enough ends = absurd (let wrong : None ≡ Some outcome.end = ends.0 in cc)

-- The end that is told is the clean one: before the rounds each refusal has its cause, the rounds of an untroubled run aren't spent, and
-- behind a quiet one what is told to have failed has failed.
pub completes-by : (old new : WorldState) (plan : RunPlan) (recovered offered rounds : ℕ) (ending : PlanEnded) (reached : Reached) (result : Result Outcome Unloaded) → HasEnding old new plan reached ending → AreCausesDue plan reached ending
    → IsFew recovered offered rounds reached ending → TellsOutcome plan ending result → Completes old new plan recovered offered rounds reached result
completes-by old new plan recovered offered rounds ending reached (Ok outcome) cause due few tells well enough =
    clean-of old new plan recovered offered rounds reached well ending (drivers_in plan.inlets.items) (files_in plan.setup.sources) outcome cause due few enough tells
completes-by old new plan recovered offered rounds ending reached (Err (Bad fault names)) cause due few tells well enough = absurd tells
completes-by old new plan recovered offered rounds ending reached (Err (Unread name)) cause due few tells well enough = absurd tells
completes-by old new plan recovered offered rounds ending reached (Err NoMemory) cause due few tells well enough = tt

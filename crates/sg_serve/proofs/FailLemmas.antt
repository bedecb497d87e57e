-- Why not all ways out could be opened, by the last of them.
use Rattle.std.proofs.Common.{◌≡◌, ◌⊎◌, ◌≤◌, ℕ, suc, ◌+◌, List, [], ◌∷◌, ◌++◌, length, map, slice_get, Some, None, Option, refl, sym, ap, ◌∙◌, arith, subst, inl, inr}
use Rattle.std.proofs.lemmas.List.{append-nil}
use Rattle.sg_device.specs.Disk.{DiskState}
use Rattle.sg_stable.specs.declared.fault.StoreRefusal.{StoreRefusal}
use Rattle.sg_stable.specs.declared.fault.StoreRefusal.TheVariants.{Damage as StoreDamage, DiskFault as StoreFault, NoMemory as StoreNoMemory}
use Rattle.sg_outside.specs.World.{WorldState}
use Rattle.sg_outside.specs.declared.request.OutletSpec.{OutletSpec}
use Rattle.sg_overflow.specs.Opening.{HasReason}
use Rattle.sg_run_plan.specs.declared.outlet.OutletPlan.{OutletPlan}
use Rattle.sg_run_plan.specs.declared.overflow.OverflowPlan.{OverflowPlan}
use Rattle.sg_serve.specs.Early.{OutletsFail, StoresFail}
use Rattle.sg_serve.specs.Exits.{Out, IsReadied, IsStoreReadied, AreReadied, present, stores_in}
use Rattle.sg_serve.specs.Overflows.{IsHeldAsked, AreHeldAsked, StoreMisses, Misses, overflow_refusal, LastMisses, WaysFail}
use Rattle.sg_serve.specs.declared.ending.Device.TheVariants.{Store, Inlet, Dest}
use Rattle.sg_serve.specs.declared.ending.Early.{Early}
use Rattle.sg_serve.specs.declared.ending.Early.TheVariants.{OpenFault, Damage, DiskFault, NoMemory}
use Rattle.sg_serve.proofs.ActorLemmas.{one-wider}
use Rattle.sg_serve.proofs.DeviceLemmas.{rose-wider}
use Rattle.sg_serve.proofs.OutLemmas.{stores-both}

-- One more.

pub readied-join : (opened now : List Out) (o n : Out) → AreReadied opened now → IsReadied o n → AreReadied (opened ++ o ∷ []) (now ++ n ∷ [])
readied-join [] [] o n a b = (b, tt)
readied-join [] (m ∷ ms) o n a b = absurd a
readied-join (p ∷ ps) [] o n a b = absurd a
readied-join (p ∷ ps) (m ∷ ms) o n a b = (a.0, readied-join ps ms o n a.1 b)

pub held-join : (plans : List OutletPlan) (outs : List Out) (plan : OutletPlan) (out : Out) → AreHeldAsked plans outs → IsHeldAsked plan.overflow out.held → AreHeldAsked (plans ++ plan ∷ []) (outs ++ out ∷ [])
held-join [] [] plan out a b = (b, tt)
held-join [] (o ∷ os) plan out a b = absurd a
held-join (p ∷ ps) [] plan out a b = absurd a
held-join (p ∷ ps) (o ∷ os) plan out a b = (a.0, held-join ps os plan out a.1 b)

-- As many.

pub readied-many : (opened now : List Out) → AreReadied opened now → length now ≡ length opened
readied-many [] [] a = refl
readied-many [] (m ∷ ms) a = absurd a
readied-many (p ∷ ps) [] a = absurd a
readied-many (p ∷ ps) (m ∷ ms) a = ap suc (readied-many ps ms a.1)

stores-one : (o n : Option DiskState) (os ns : List (Option DiskState)) → IsStoreReadied o n → length (present ns) ≡ length (present os) → length (present (n ∷ ns)) ≡ length (present (o ∷ os))
stores-one None None os ns one rest = rest
stores-one None (Some n) os ns one rest = absurd one
stores-one (Some o) None os ns one rest = absurd one
stores-one (Some o) (Some n) os ns one rest = ap suc rest

pub readied-stores : (opened now : List Out) → AreReadied opened now → length (stores_in now) ≡ length (stores_in opened)
readied-stores [] [] a = refl
readied-stores [] (m ∷ ms) a = absurd a
readied-stores (p ∷ ps) [] a = absurd a
readied-stores (p ∷ ps) (m ∷ ms) a =
    stores-one p.store m.store (map (λ (x : Out). x.store) ps) (map (λ (x : Out). x.store) ms) (a.0).store (readied-stores ps ms a.1)

-- The last one.

store-last : (outs : List Out) (out : Out) (disk : DiskState) → out.store ≡ Some disk → stores_in (outs ++ out ∷ []) ≡ stores_in outs ++ disk ∷ []
store-last outs out disk is = stores-both outs (out ∷ []) ∙ ap (λ (s : Option DiskState). stores_in outs ++ present (s ∷ [])) is

store-none : (outs : List Out) (out : Out) → out.store ≡ None → stores_in (outs ++ out ∷ []) ≡ stores_in outs
store-none outs out is = stores-both outs (out ∷ []) ∙ ap (λ (s : Option DiskState). stores_in outs ++ present (s ∷ [])) is ∙ append-nil (stores_in outs)

behind-all : (disks : List DiskState) (disk : DiskState) → slice_get (disks ++ disk ∷ []) (length disks) ≡ Some disk
behind-all [] disk = refl
behind-all (d ∷ ds) disk = behind-all ds disk

last-by : (stores number : ℕ) (opened outs : List Out) (o out : Out) (before after : DiskState) (refusal : StoreRefusal) → AreReadied opened outs → number ≡ stores + length (stores_in opened) → o.store ≡ Some before → out.store ≡ Some after → HasReason before after refusal
    → LastMisses stores (opened ++ o ∷ []) (outs ++ out ∷ []) number refusal
last-by stores number opened outs o out before after refusal readied is was has reason = record {
  front = stores_in opened;
  before = before;
  after = after;
  opened_are = store-last opened o before was;
  number_is = is;
  closed_is = ap (λ (ds : List DiskState). slice_get ds (length (stores_in opened))) (store-last outs out after has)
      ∙ ap (λ (k : ℕ). slice_get (stores_in outs ++ after ∷ []) k) (sym (readied-stores opened outs readied)) ∙ behind-all (stores_in outs) after;
  reason = reason;
}

refused-by : (old new : WorldState) (stores number : ℕ) (opened outs : List Out) (o out : Out) (before after : DiskState) (refusal : StoreRefusal) → AreReadied opened outs → number ≡ stores + length (stores_in opened) → o.store ≡ Some before → out.store ≡ Some after
    → HasReason before after refusal → WaysFail old new stores (opened ++ o ∷ []) (outs ++ out ∷ []) (overflow_refusal number refusal)
refused-by old new stores number opened outs o out before after (StoreDamage at) readied is was has reason = last-by stores number opened outs o out before after (StoreDamage at) readied is was has reason
refused-by old new stores number opened outs o out before after StoreFault readied is was has reason = last-by stores number opened outs o out before after StoreFault readied is was has reason
refused-by old new stores number opened outs o out before after StoreNoMemory readied is was has reason = tt

unopened-by : (old mid new : WorldState) (stores number : ℕ) (opened outs : List Out) (o out : Out) (early : Early) → old.store_faults ≤ mid.store_faults → number ≡ stores + length (stores_in opened) → o.store ≡ None → StoresFail mid new number early
    → WaysFail old new stores (opened ++ o ∷ []) (outs ++ out ∷ []) early
unopened-by old mid new stores number opened outs o out (OpenFault (Store n)) less is none h = (
  h.0 ∙ is ∙ ap (λ (ds : List DiskState). stores + length ds) (sym (store-none opened o none)),
  rose-wider old.store_faults mid.store_faults new.store_faults new.store_faults less h.1 (omega arith),
)
unopened-by old mid new stores number opened outs o out (OpenFault (Inlet n)) less is none h = absurd h
unopened-by old mid new stores number opened outs o out (OpenFault (Dest n)) less is none h = absurd h
unopened-by old mid new stores number opened outs o out (Damage s at) less is none h = absurd h
unopened-by old mid new stores number opened outs o out (DiskFault s) less is none h = absurd h
unopened-by old mid new stores number opened outs o out NoMemory less is none h = tt

store-by : (old mid new : WorldState) (stores number : ℕ) (opened outs : List Out) (o out : Out) (early : Early) (before after : Option DiskState) → old.store_faults ≤ mid.store_faults → AreReadied opened outs → number ≡ stores + length (stores_in opened)
    → o.store ≡ before → out.store ≡ after → StoreMisses mid new number before after early → WaysFail old new stores (opened ++ o ∷ []) (outs ++ out ∷ []) early
store-by old mid new stores number opened outs o out early None None less readied is was has h = unopened-by old mid new stores number opened outs o out early less is was h
store-by old mid new stores number opened outs o out early None (Some after) less readied is was has h = absurd h
store-by old mid new stores number opened outs o out early (Some before) None less readied is was has h = absurd h
store-by old mid new stores number opened outs o out early (Some before) (Some after) less readied is was has (refusal, same, reason) =
    subst (λ (e : Early). WaysFail old new stores (opened ++ o ∷ []) (outs ++ out ∷ []) e) (sym same) (refused-by old new stores number opened outs o out before after refusal readied is was has reason)

-- what is open of the last one
pub fails-with : (old mid new : WorldState) (spec : OutletSpec) (overflow : Option OverflowPlan) (stores number : ℕ) (opened outs : List Out) (out : Out) (early : Early) → old.store_faults ≤ mid.store_faults → AreReadied opened outs → number ≡ stores + length (stores_in opened)
    → (m : Misses mid new spec overflow number out early) → WaysFail old new stores (opened ++ m.opened ∷ []) (outs ++ out ∷ []) early
fails-with old mid new spec overflow stores number opened outs out early less readied is m = with-store m.store
  where
    with-store : StoreMisses mid new number m.opened.store out.store early ⊎ ((early ≡ NoMemory) × IsStoreReadied m.opened.store out.store) → WaysFail old new stores (opened ++ m.opened ∷ []) (outs ++ out ∷ []) early
    with-store (inl h) = store-by old mid new stores number opened outs m.opened out early m.opened.store out.store less readied is refl refl h
    with-store (inr (none, same)) = subst (λ (e : Early). WaysFail old new stores (opened ++ m.opened ∷ []) (outs ++ out ∷ []) e) (sym none) tt

-- nothing is open of it
pub fails-without : (old mid new : WorldState) (stores : ℕ) (opened outs : List Out) (early : Early) → old.outlet_faults ≤ mid.outlet_faults → old.paths_faults ≤ mid.paths_faults → AreReadied opened outs → OutletsFail mid new (length outs) early → WaysFail old new stores opened outs early
fails-without old mid new stores opened outs (OpenFault (Store n)) less paths readied h = absurd h
fails-without old mid new stores opened outs (OpenFault (Inlet n)) less paths readied h = absurd h
fails-without old mid new stores opened outs (OpenFault (Dest n)) less paths readied h = (h.0 ∙ readied-many opened outs readied, one-wider old mid new new less paths (omega arith) (omega arith) h.1)
fails-without old mid new stores opened outs (Damage s at) less paths readied h = absurd h
fails-without old mid new stores opened outs (DiskFault s) less paths readied h = absurd h
fails-without old mid new stores opened outs NoMemory less paths readied h = tt

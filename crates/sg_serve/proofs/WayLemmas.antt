-- The way out of one destination: how it is opened, and why not.
use Rattle.std.proofs.Common.{◌≡◌, ◌≤◌, ℕ, ◌-◌, ◌^◌, min, [], ◌∷◌, Some, None, Option, Ok, Err, refl, sym, ap, ◌∙◌, arith, subst, inl, inr}
use Rattle.std.specs.Prelude.{Result, IfOk, IfErr}
use Rattle.sg_device.specs.Disk.{DiskState}
use Rattle.sg_device.specs.Outlet.{OutletState, IsUnusedOutlet}
use Rattle.sg_device.specs.Paths.{PathsState}
use Rattle.sg_device.specs.declared.fault.OpenRefusal.{OpenRefusal}
use Rattle.sg_device.specs.declared.fault.OpenRefusal.TheVariants.{Failed as OpenFailed, NoMemory as OpenNoMemory}
use Rattle.sg_stable.specs.declared.fault.StoreRefusal.{StoreRefusal}
use Rattle.sg_outside.specs.World.{WorldState, with_opened, StandsNamed, StoreOpens, StoreRefused}
use Rattle.sg_outside.specs.declared.request.OutletSpec.{OutletSpec}
use Rattle.sg_outside.specs.declared.request.StoreSpec.{StoreSpec}
use Rattle.sg_overflow.specs.Buffered.{HeldState}
use Rattle.sg_overflow.specs.Opening.{HasReason, IsOpened}
use Rattle.sg_overflow.specs.View.{OverflowView, outlet_of, held_of, held_count}
use Rattle.sg_overflow.specs.declared.buffered.Buffered.TheVariants.{Direct, Overflow}
use Rattle.sg_run_plan.specs.declared.overflow.OverflowPlan.{OverflowPlan}
use Rattle.sg_serve.specs.Devices.{with_all_opened, opened_for, opened_stores, IsStoreAsked, AreStoresNamed, OpensOuts}
use Rattle.sg_serve.specs.Early.{StoresFail, store_refusal}
use Rattle.sg_serve.specs.Exits.{Out, OpensOut, IsOpenerAsked, OpensExit, IsStoreReadied, exit_of, opener_in, out_of, singles, by_paths, present}
use Rattle.sg_serve.specs.Overflows.{OpensWay, Misses, MissesWay, overflow_refusal}
use Rattle.sg_serve.specs.declared.ending.Early.TheVariants.{NoMemory}
use Rattle.sg_serve.specs.declared.exit.Exit.{Exit}
use Rattle.sg_serve.proofs.DeviceLemmas.{opened-none}

-- The outlet alone.

-- what was open of it before its store
abbrev pub bare : OutletState → OutletState → Option PathsState → Option HeldState → Out
bare outlet inner opener held = record { outlet = outlet; inner = inner; opener = opener; store = None; held = held }

pub opens-bare : (old new : WorldState) (spec : OutletSpec) (outlet inner : OutletState) (opener : Option PathsState) (held : Option HeldState) (store : Option StoreSpec) → IsOpenerAsked spec opener → IsUnusedOutlet outlet → IsUnusedOutlet inner
    → OpensOut old new spec inner opener → OpensOuts old new (spec ∷ []) (store ∷ []) (bare outlet inner opener held ∷ [])
opens-bare old new spec outlet inner None held store asked fresh unused h =
    let paths_faults : old.paths_faults ≡ new.paths_faults = sym (ap (λ (w : WorldState). w.paths_faults) h.0) in
    let store_faults : old.store_faults ≡ new.store_faults = sym (ap (λ (w : WorldState). w.store_faults) h.0) in
    let names : old.store_names ≡ new.store_names = sym (ap (λ (w : WorldState). w.store_names) h.0) in
    record {
      count = omega arith;
      asked = (asked, tt);
      stores_asked = (none-asked store, tt);
      fresh = ((fresh, unused, tt), tt);
      state = h.0 ∙ (λ i. record old {
        outlet_faults = new.outlet_faults;
        paths_faults = paths_faults i;
        store_faults = store_faults i;
        store_names = names i;
        outlets = with_opened old.outlets spec inner;
        paths = sym (opened-none old.paths) i;
        stores = stores-none store old i;
      });
      named = named-none store names;
      faults = h.1;
      paths_faults = omega (arith, paths_faults);
      store_faults = omega (arith, store_faults);
    }
  where
    none-asked : (s : Option StoreSpec) → IsStoreAsked s None
    none-asked None = refl
    none-asked (Some s) = tt

    stores-none : (s : Option StoreSpec) (w : WorldState) → w.stores ≡ with_all_opened w.stores (opened_stores (s ∷ []) (bare outlet inner None held ∷ []))
    stores-none None w = sym (opened-none w.stores)
    stores-none (Some s) w = sym (opened-none w.stores)

    named-none : (s : Option StoreSpec) → old.store_names ≡ new.store_names → AreStoresNamed old.store_names (opened_stores (s ∷ []) (bare outlet inner None held ∷ [])) new.store_names
    named-none None same = sym same
    named-none (Some s) same = sym same
opens-bare old new spec outlet inner (Some opener) held store asked fresh unused h =
    let outlet_faults : old.outlet_faults ≡ new.outlet_faults = sym (ap (λ (w : WorldState). w.outlet_faults) h.0) in
    let store_faults : old.store_faults ≡ new.store_faults = sym (ap (λ (w : WorldState). w.store_faults) h.0) in
    let names : old.store_names ≡ new.store_names = sym (ap (λ (w : WorldState). w.store_names) h.0) in
    record {
      count = omega arith;
      asked = (asked, tt);
      stores_asked = (none-asked store, tt);
      fresh = ((fresh, unused, h.2), tt);
      state = h.0 ∙ (λ i. record old {
        outlet_faults = outlet_faults i;
        paths_faults = new.paths_faults;
        store_faults = store_faults i;
        store_names = names i;
        outlets = sym (opened-none old.outlets) i;
        paths = with_opened old.paths spec opener;
        stores = stores-none store old i;
      });
      named = named-none store names;
      faults = omega (arith, outlet_faults);
      paths_faults = h.1;
      store_faults = omega (arith, store_faults);
    }
  where
    none-asked : (s : Option StoreSpec) → IsStoreAsked s None
    none-asked None = refl
    none-asked (Some s) = tt

    stores-none : (s : Option StoreSpec) (w : WorldState) → w.stores ≡ with_all_opened w.stores (opened_stores (s ∷ []) (bare outlet inner (Some opener) held ∷ []))
    stores-none None w = sym (opened-none w.stores)
    stores-none (Some s) w = sym (opened-none w.stores)

    named-none : (s : Option StoreSpec) → old.store_names ≡ new.store_names → AreStoresNamed old.store_names (opened_stores (s ∷ []) (bare outlet inner (Some opener) held ∷ [])) new.store_names
    named-none None same = sym same
    named-none (Some s) same = sym same

-- And its store.

pub opens-stored : (old mid new : WorldState) (spec : OutletSpec) (outlet inner : OutletState) (opener : Option PathsState) (held : Option HeldState) (store : StoreSpec) (disk : DiskState)
    → OpensOuts old mid (spec ∷ []) (Some store ∷ []) (bare outlet inner opener held ∷ []) → StoreOpens mid new store disk
    → OpensOuts old new (spec ∷ []) (Some store ∷ []) ((record { outlet = outlet; inner = inner; opener = opener; store = Some disk; held = held }) ∷ [])
opens-stored old mid new spec outlet inner opener held store disk bare h =
    let outlet_faults = ap (λ (w : WorldState). w.outlet_faults) h.0 in
    let paths_faults = ap (λ (w : WorldState). w.paths_faults) h.0 in
    let first = bare.state in
    record {
      count = bare.count;
      asked = bare.asked;
      stores_asked = (tt, tt);
      fresh = bare.fresh;
      state = h.0
          ∙ ap (λ (w : WorldState). record w { store_faults = new.store_faults; store_names = new.store_names; stores = with_opened w.stores store disk }) bare.state
          ∙ (λ i. record old {
            outlet_faults = sym outlet_faults i;
            paths_faults = sym paths_faults i;
            store_faults = new.store_faults;
            store_names = new.store_names;
            outlets = with_all_opened old.outlets (opened_for (singles (spec ∷ []) (opener ∷ [])) (singles (inner ∷ []) (opener ∷ [])));
            paths = with_all_opened old.paths (opened_for (by_paths (spec ∷ []) (opener ∷ [])) (present (opener ∷ [])));
            stores = with_opened (opened-none old.stores i) store disk;
          });
      named = (new.store_names, subst (λ n. StandsNamed n store disk new.store_names) bare.named h.2, refl);
      faults = (let same = outlet_faults in let more = bare.faults in omega (arith, same, more));
      paths_faults = (let same = paths_faults in let more = bare.paths_faults in omega (arith, same, more));
      store_faults = (let more = bare.store_faults in omega (arith, more, h.1));
    }

-- Its store isn't opened.

opens-wider : (old mid new : WorldState) (spec : OutletSpec) (store : Option StoreSpec) (outlet inner : OutletState) (opener : Option PathsState) (held : Option HeldState) → OpensOuts old mid (spec ∷ []) (store ∷ []) (bare outlet inner opener held ∷ [])
    → new ≡ record mid { store_faults = new.store_faults } → mid.store_faults ≤ new.store_faults → OpensOuts old new (spec ∷ []) (store ∷ []) (bare outlet inner opener held ∷ [])
opens-wider old mid new spec store outlet inner opener held bare is more =
    let outlet_faults = ap (λ (w : WorldState). w.outlet_faults) is in
    let paths_faults = ap (λ (w : WorldState). w.paths_faults) is in
    let names = ap (λ (w : WorldState). w.store_names) is in
    record {
      count = bare.count;
      asked = bare.asked;
      stores_asked = bare.stores_asked;
      fresh = bare.fresh;
      state = is
          ∙ ap (λ (w : WorldState). record w { store_faults = new.store_faults }) bare.state
          ∙ (λ i. record old {
            outlet_faults = sym outlet_faults i;
            paths_faults = sym paths_faults i;
            store_faults = new.store_faults;
            store_names = sym names i;
            outlets = with_all_opened old.outlets (opened_for (singles (spec ∷ []) (opener ∷ [])) (singles (inner ∷ []) (opener ∷ [])));
            paths = with_all_opened old.paths (opened_for (by_paths (spec ∷ []) (opener ∷ [])) (present (opener ∷ [])));
            stores = with_all_opened old.stores (opened_stores (store ∷ []) ((record { outlet = outlet; inner = inner; opener = opener; store = None; held = held }) ∷ []));
          });
      named = subst (λ n. AreStoresNamed old.store_names (opened_stores (store ∷ []) ((record { outlet = outlet; inner = inner; opener = opener; store = None; held = held }) ∷ [])) n) (sym names) bare.named;
      faults = (let same = outlet_faults in let less = bare.faults in omega (arith, same, less));
      paths_faults = (let same = paths_faults in let less = bare.paths_faults in omega (arith, same, less));
      store_faults = (let less = bare.store_faults in omega (arith, less, more));
    }

store-fails : (old mid new : WorldState) (number : ℕ) (refusal : OpenRefusal) → old.store_faults ≤ mid.store_faults → StoreRefused mid new refusal → StoresFail old new number (store_refusal number refusal)
store-fails old mid new number OpenFailed less h = (refl, (let rose = h.2 in omega (arith, less, rose)))
store-fails old mid new number OpenNoMemory less h = tt

only-faults : (mid new : WorldState) (refusal : OpenRefusal) → StoreRefused mid new refusal → (new ≡ record mid { store_faults = new.store_faults }) × (mid.store_faults ≤ new.store_faults)
only-faults mid new OpenFailed h = (h.0, h.1)
only-faults mid new OpenNoMemory h = h

pub misses-unopened : (old mid new : WorldState) (spec : OutletSpec) (exit : OutletState) (opener : Option PathsState) (plan : OverflowPlan) (number : ℕ) (refusal : OpenRefusal)
    → OpensOuts old mid (spec ∷ []) (Some plan.store ∷ []) (bare exit exit opener None ∷ []) → StoreRefused mid new refusal → Misses old new spec (Some plan) number (bare exit exit opener None) (store_refusal number refusal)
misses-unopened old mid new spec exit opener plan number refusal opens h =
    let only = only-faults mid new refusal h in
    record {
      opened = bare exit exit opener None;
      opens = opens-wider old mid new spec (Some plan.store) exit exit opener None opens only.0 only.1;
      outlet = refl;
      inner = refl;
      opener = refl;
      held = refl;
      store = inl (store-fails old mid new number refusal opens.store_faults h);
    }

-- Its store is refused.

pub misses-refused : (old new : WorldState) (spec : OutletSpec) (exit : OutletState) (opener : Option PathsState) (plan : OverflowPlan) (number : ℕ) (before after : DiskState) (refusal : StoreRefusal)
    → OpensOuts old new (spec ∷ []) (Some plan.store ∷ []) ((record { outlet = exit; inner = exit; opener = opener; store = Some before; held = None }) ∷ []) → HasReason before after refusal
    → Misses old new spec (Some plan) number (record { outlet = exit; inner = exit; opener = opener; store = Some after; held = None }) (overflow_refusal number refusal)
misses-refused old new spec exit opener plan number before after refusal opens reason = record {
  opened = record { outlet = exit; inner = exit; opener = opener; store = Some before; held = None };
  opens = opens;
  outlet = refl;
  inner = refl;
  opener = refl;
  held = refl;
  store = inl (refusal, refl, reason);
}

-- It is open.

pub opens-way : (old new : WorldState) (spec : OutletSpec) (plan : OverflowPlan) (outlet inner : OutletState) (opener : Option PathsState) (held : HeldState) (before after : DiskState)
    → OpensOuts old new (spec ∷ []) (Some plan.store ∷ []) ((record { outlet = outlet; inner = inner; opener = opener; store = Some before; held = Some held }) ∷ []) → after.faults ≡ before.faults
    → OpensWay old new spec (Some plan) (record { outlet = outlet; inner = inner; opener = opener; store = Some after; held = Some held })
opens-way old new spec plan outlet inner opener held before after opens same = record {
  opened = record { outlet = outlet; inner = inner; opener = opener; store = Some before; held = Some held };
  opens = opens;
  readied = record { outlet = refl; inner = refl; opener = refl; held = refl; store = same };
  asked = tt;
}

-- one without held frames
pub opens-direct : (old new : WorldState) (spec : OutletSpec) (exit : OutletState) (opener : Option PathsState) → IsOpenerAsked spec opener → IsUnusedOutlet exit → OpensOut old new spec exit opener
    → OpensWay old new spec None (bare exit exit opener None)
opens-direct old new spec exit opener asked unused h = record {
  opened = bare exit exit opener None;
  opens = opens-bare old new spec exit exit opener None None asked unused unused h;
  readied = record { outlet = refl; inner = refl; opener = refl; held = refl; store = tt };
  asked = tt;
}

-- Of an outlet and a store.

module _ {D P S : Type 0} (drain : D → OutletState) (paths : P → PathsState) (disk : S → DiskState) where
  bare-exit : (old mid : WorldState) (spec : OutletSpec) (exit : Exit D P) (outlet : OutletState) (held : Option HeldState) (store : Option StoreSpec) → IsUnusedOutlet outlet → OpensExit drain paths old mid spec exit
      → OpensOuts old mid (spec ∷ []) (store ∷ []) (bare outlet (exit_of drain paths exit) (opener_in paths exit) held ∷ [])
  bare-exit old mid spec exit outlet held store unused h = opens-bare old mid spec outlet (exit_of drain paths exit) (opener_in paths exit) held store h.asked unused h.new_outlet h.opens

  pub surrounded : (old mid new : WorldState) (spec : OutletSpec) (plan : OverflowPlan) (exit : Exit D P) (store : S) (view : OverflowView (Exit D P) S) → OpensExit drain paths old mid spec exit → StoreOpens mid new plan.store (disk store)
      → IsOpened (exit_of drain paths) disk store view → view.inner ≡ exit → OpensWay old new spec (Some plan) (out_of drain paths disk (Overflow view))
  surrounded old mid new spec plan exit store view h opens is same =
      let outlet = outlet_of (exit_of drain paths) disk view in
      let held : HeldState = record { frames = held_of disk view.held; count = min (held_count view.held) (2 ^ 64 - 1); failed = view.held.store.closed } in
      let inside = subst (λ (e : Exit D P). OpensExit drain paths old mid spec e) (sym same) h in
      let bare = bare-exit old mid spec view.inner outlet (Some held) (Some plan.store) is.fresh inside in
      opens-way old new spec plan outlet (exit_of drain paths view.inner) (opener_in paths view.inner) held (disk store) (disk view.held.store.disk)
      (opens-stored old mid new spec outlet (exit_of drain paths view.inner) (opener_in paths view.inner) (Some held) plan.store (disk store) bare opens) is.well

  pub surround-unopened : (old mid new : WorldState) (spec : OutletSpec) (plan : OverflowPlan) (d number : ℕ) (exit : Exit D P) (refusal : OpenRefusal) → OpensExit drain paths old mid spec exit → StoreRefused mid new refusal
      → MissesWay old new spec (Some plan) d number (Some (bare (exit_of drain paths exit) (exit_of drain paths exit) (opener_in paths exit) None)) (store_refusal number refusal)
  surround-unopened old mid new spec plan d number exit refusal h fails =
      misses-unopened old mid new spec (exit_of drain paths exit) (opener_in paths exit) plan number refusal (bare-exit old mid spec exit (exit_of drain paths exit) None (Some plan.store) h.new_outlet h) fails

  pub surround-refused : (old mid new : WorldState) (spec : OutletSpec) (plan : OverflowPlan) (d number : ℕ) (exit back : Exit D P) (store after : S) (refusal : StoreRefusal) → OpensExit drain paths old mid spec exit → StoreOpens mid new plan.store (disk store)
      → back ≡ exit → HasReason (disk store) (disk after) refusal
      → MissesWay old new spec (Some plan) d number (Some (record { outlet = exit_of drain paths back; inner = exit_of drain paths back; opener = opener_in paths back; store = Some (disk after); held = None })) (overflow_refusal number refusal)
  surround-refused old mid new spec plan d number exit back store after refusal h opens same reason =
      let inside = subst (λ (e : Exit D P). OpensExit drain paths old mid spec e) (sym same) h in
      let outlet = exit_of drain paths back in
      misses-refused old new spec outlet (opener_in paths back) plan number (disk store) (disk after) refusal
      (opens-stored old mid new spec outlet outlet (opener_in paths back) None plan.store (disk store) (bare-exit old mid spec back outlet None (Some plan.store) inside.new_outlet inside) opens) reason

  pub direct-opens : (old new : WorldState) (spec : OutletSpec) (overflow : Option OverflowPlan) (exit : Exit D P) → overflow ≡ None → OpensExit drain paths old new spec exit → OpensWay old new spec overflow (out_of drain paths disk (Direct exit))
  direct-opens old new spec overflow exit none h =
      subst (λ (o : Option OverflowPlan). OpensWay old new spec o (out_of drain paths disk (Direct exit))) (sym none)
      (opens-direct old new spec (exit_of drain paths exit) (opener_in paths exit) h.asked h.new_outlet h.opens)

-- nothing was taken by it
pub way-unused : (old new : WorldState) (spec : OutletSpec) (overflow : Option OverflowPlan) (out : Out) → OpensWay old new spec overflow out → IsUnusedOutlet out.outlet
way-unused old new spec overflow out w = subst IsUnusedOutlet (sym (w.readied).outlet) (w.opens).fresh.0.0

-- It is open, and there is no memory for its destination: this is what it is made of.
pub misses-late : (old new : WorldState) (spec : OutletSpec) (overflow : Option OverflowPlan) (number : ℕ) (out part : Out) → OpensWay old new spec overflow out → part.outlet ≡ out.inner → part.inner ≡ out.inner → part.opener ≡ out.opener → part.store ≡ out.store → part.held ≡ None
    → Misses old new spec overflow number part NoMemory
misses-late old new spec overflow number out part w outlet inner opener store held =
    let o = w.opens in
    record {
      opened = record { outlet = (w.opened).inner; inner = (w.opened).inner; opener = (w.opened).opener; store = (w.opened).store; held = None };
      opens = record {
        count = o.count;
        asked = o.asked;
        stores_asked = o.stores_asked;
        fresh = ((o.fresh.0.1, o.fresh.0.1, o.fresh.0.2), tt);
        state = o.state;
        named = o.named;
        faults = o.faults;
        paths_faults = o.paths_faults;
        store_faults = o.store_faults;
      };
      outlet = outlet ∙ (w.readied).inner;
      inner = inner ∙ (w.readied).inner;
      opener = opener ∙ (w.readied).opener;
      held = held;
      store = inr (refl, subst (λ (s : Option DiskState). IsStoreReadied (w.opened).store s) (sym store) (w.readied).store);
    }

-- Answers.

pub if-ok : {T E : Type 0} (r : Result T E) (A B : T → Type 0) → ((x : T) → A x → B x) → IfOk r A → IfOk r B
if-ok (Ok x) A B f h = f x h
if-ok (Err e) A B f h = tt

pub if-err : {T E : Type 0} (r : Result T E) (A B : E → Type 0) → ((e : E) → A e → B e) → IfErr r A → IfErr r B
if-err (Ok x) A B f h = tt
if-err (Err e) A B f h = f e h

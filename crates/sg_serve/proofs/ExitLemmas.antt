-- Lemmas on the ways out of destinations: one of them.
use Rattle.std.proofs.Common.{◌≡◌, ◌≤◌, ℕ, Some, None, refl, sym, ap, ◌∙◌, arith, inl, inr}
use Rattle.sg_device.specs.Outlet.{OutletState, IsUnusedOutlet}
use Rattle.sg_device.specs.Paths.{PathsState}
use Rattle.sg_device.specs.declared.fault.OpenRefusal.{OpenRefusal}
use Rattle.sg_device.specs.declared.fault.OpenRefusal.TheVariants.{Failed, NoMemory}
use Rattle.sg_outside.specs.World.{WorldState, IsByPath, OutletOpens, OutletRefused, PathsOpen, PathsRefused}
use Rattle.sg_outside.specs.declared.request.OutletSpec.{OutletSpec}
use Rattle.sg_outside.specs.declared.request.OutletSpec.TheVariants.{File, Tcp, ByPath}
use Rattle.sg_dynfile.specs.View.{DynfileView, outlet_of}
use Rattle.sg_serve.specs.Early.{OutletsFail, outlet_refusal}
use Rattle.sg_serve.specs.Exits.{OpensExit, MissesExit, IsOpenerAsked, OnlyFails}
use Rattle.sg_serve.specs.declared.exit.Exit.TheVariants.{One, ByPath as ByPathExit}

-- what is asked for is one file or one connection, or it is an opener
asked-none : (spec : OutletSpec) → (IsByPath spec → ⊥) → IsOpenerAsked spec None
asked-none (File path fsync mode folders reopen) not = refl
asked-none (Tcp host port reopen) not = refl
asked-none (ByPath fsync mode folders reopen reap) not = absurd (not tt)

asked-some : (spec : OutletSpec) (opener : PathsState) → IsByPath spec → IsOpenerAsked spec (Some opener)
asked-some (File path fsync mode folders reopen) opener is = absurd is
asked-some (Tcp host port reopen) opener is = absurd is
asked-some (ByPath fsync mode folders reopen reap) opener is = tt

pub opens-one : {D P : Type 0} (drain : D → OutletState) (paths : P → PathsState) (old new : WorldState) (spec : OutletSpec) (d : D) → (IsByPath spec → ⊥) → OutletOpens old new spec (drain d) → OpensExit drain paths old new spec (One d)
opens-one drain paths old new spec d not h = record { asked = asked-none spec not; new_outlet = h.2; opens = (h.0, h.1) }

pub opens-files : {D P : Type 0} (drain : D → OutletState) (paths : P → PathsState) (old new : WorldState) (spec : OutletSpec) (files : DynfileView P) → IsByPath spec → IsUnusedOutlet (outlet_of paths files) → PathsOpen old new spec (paths files.opener)
    → OpensExit drain paths old new spec (ByPathExit files)
opens-files drain paths old new spec files is is_new h = record { asked = asked-some spec (paths files.opener) is; new_outlet = is_new; opens = h }

-- a refusal of the machine, of both kinds of devices
only-outlets : (old new : WorldState) → new ≡ record old { outlet_faults = new.outlet_faults } → old.outlet_faults ≤ new.outlet_faults → OnlyFails old new
only-outlets old new is more =
    let same : new.paths_faults ≡ old.paths_faults = ap (λ (w : WorldState). w.paths_faults) is in
    (is ∙ ap (λ n. record old { outlet_faults = new.outlet_faults; paths_faults = n }) (sym same), more, omega (arith, same))

only-paths : (old new : WorldState) → new ≡ record old { paths_faults = new.paths_faults } → old.paths_faults ≤ new.paths_faults → OnlyFails old new
only-paths old new is more =
    let same : new.outlet_faults ≡ old.outlet_faults = ap (λ (w : WorldState). w.outlet_faults) is in
    (is ∙ ap (λ n. record old { outlet_faults = n; paths_faults = new.paths_faults }) (sym same), omega (arith, same), more)

pub misses-one : (old new : WorldState) (refusal : OpenRefusal) → OutletRefused old new refusal → MissesExit old new refusal
misses-one old new Failed h = (only-outlets old new h.0 h.1, inl h.2)
misses-one old new NoMemory h = only-outlets old new h.0 h.1

pub misses-files : (old new : WorldState) (refusal : OpenRefusal) → PathsRefused old new refusal → MissesExit old new refusal
misses-files old new Failed h = (only-paths old new h.0 h.1, inr h.2)
misses-files old new NoMemory h = only-paths old new h.0 h.1

pub only-of : (old new : WorldState) (refusal : OpenRefusal) → MissesExit old new refusal → OnlyFails old new
only-of old new Failed h = h.0
only-of old new NoMemory h = h

pub refused-fails : (old new : WorldState) (d : ℕ) (refusal : OpenRefusal) → MissesExit old new refusal → OutletsFail old new d (outlet_refusal d refusal)
refused-fails old new d Failed h = (refl, h.1)
refused-fails old new d NoMemory h = tt

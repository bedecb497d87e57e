-- The plan of a configuration can be run, by routers that know its inlets and destinations.
use Rattle.std.proofs.Common.{◌≡◌, ◌≤◌, ℕ, suc, zero, Bool, List, [], ◌∷◌, map, length, slice_get, replicate, Option, Some, None, IfSome, ◌^◌, refl, sym, ap, ◌∙◌, subst, arith}
use Rattle.std.proofs.lemmas.List.{length-map, length-replicate}
use Rattle.sg_list.proofs.ListLemmas.{some-same, slice_get-map}
use Rattle.sg_machine.specs.declared.setup.SourceSetup.{SourceSetup}
use Rattle.sg_core.specs.Opening.{HaveWindows}
use Rattle.sg_run_plan.specs.declared.inlet.InletPlan.{InletPlan}
use Rattle.sg_run_plan.specs.declared.outlet.OutletPlan.{OutletPlan}
use Rattle.sg_run_plan.specs.declared.overflow.OverflowPlan.{OverflowPlan}
use Rattle.sg_tree.specs.Offers.{Woods, woods_of}
use Rattle.sg_tree.specs.Readings.{inlet_of}
use Rattle.sg_table.specs.Forest.{forest_of}
use Rattle.sg_table.specs.declared.table.Table.{Table}
use Rattle.sg_pipes.specs.Within.{AreWoodsWithin as StaysWithin}
use Rattle.sg_pipes.specs.declared.pipes.Pipes.{Pipes}
use Rattle.sg_plan.specs.Limits.{HasWindow, IsInlet, AreHeldWithin}
use Rattle.sg_config.specs.Alike.{IsConfigWithin}
use Rattle.sg_config.specs.declared.config.Config.{Config}
use Rattle.sg_loaded.specs.Compiling.{Compiles}
use Rattle.sg_serve.specs.Devices.{AreFetching}
use Rattle.sg_serve.specs.Overflows.{AreOverflowsWithin}
use Rattle.sg_serve.specs.Plan.{IsRunnable, AllKnow}
use Rattle.sg_laws.specs.Failing.{AreUsed}
use Rattle.sg_run.specs.Meaning.{planned, paths_of, paths_in, AreRouters}
use Rattle.sg_run.specs.Run.{inlets_by, dests_by}

-- The plan.

windows-of : (setups : List SourceSetup) → ((i : ℕ) (setup : SourceSetup) → slice_get setups i ≡ Some setup → HasWindow setup) → HaveWindows setups
windows-of [] each = tt
windows-of (s ∷ ss) each = (let low : 100 ≤ s.window = (each 0 s refl).0 in omega arith, windows-of ss (λ i setup at. each (suc i) setup at))

fetching-of : (drivers : ℕ) (inlets : List InletPlan) → ((i : ℕ) (inlet : InletPlan) → slice_get inlets i ≡ Some inlet → IsInlet drivers inlet) → AreFetching inlets
fetching-of drivers [] each = tt
fetching-of drivers (p ∷ ps) each =
    let is = each 0 p refl in
    (record { limit = is.some_bytes; some = is.some_records; most = is.most_records }, fetching-of drivers ps (λ i inlet at. each (suc i) inlet at))

held-in : (overflow : Option OverflowPlan) → ((o : OverflowPlan) → overflow ≡ Some o → o.capacity ≤ 2 ^ 30) → IfSome overflow (λ (o : OverflowPlan). o.capacity ≤ 2 ^ 30)
held-in None small = tt
held-in (Some o) small = small o refl

held-of : (outlets : List OutletPlan) → AreHeldWithin outlets → AreOverflowsWithin outlets
held-of [] within = tt
held-of (p ∷ ps) within = (held-in p.overflow (λ o is. within 0 p o refl is), held-of ps (λ d outlet o at is. within (suc d) outlet o at is))

pub runnable : (config : Config) (once : Bool) → IsConfigWithin config → IsRunnable (planned config once)
runnable config once within = record {
  numbers = record {
    positions = within.numbers.positions;
    buffers = within.numbers.buffers;
    inlets_apart = within.numbers.inlets_apart;
    dests_apart = within.numbers.dests_apart;
    apart = within.numbers.apart;
  };
  windows = windows-of config.setup.sources within.windows;
  capacities = λ d setup buffer at is. (within.rooms d setup at).most_capacity buffer is;
  sources = within.inlet_setups;
  dests = within.outlet_setups;
  few_inlets = within.inlets;
  few_outlets = within.outlets;
  few_stores = within.stores;
  fetches = fetching-of within.drivers config.inlets.items within.each;
  held = held-of config.outlets.items within.held;
}

pub used : (config : Config) (once : Bool) → IsConfigWithin config → AreUsed (planned config once)
used config once within = within.numbers.used

-- The routers.

pub pipes-within : (config : Config) (table : Table) → IsConfigWithin config → Compiles config table → StaysWithin (forest_of table)
pipes-within config table within compiles = subst StaysWithin (sym compiles.paths) (within.paths, compiles.can.bounded.0)

-- a router for each inlet, all by the table of the log paths
pub are-routers : (config : Config) (table : Table) (routers : List Pipes) → Compiles config table → map paths_of routers ≡ replicate (length config.inlets.items) (forest_of table) → AreRouters config routers
are-routers config table routers compiles are = are ∙ ap (λ (woods : Woods). replicate (length config.inlets.items) woods) compiles.paths

get-replicate : {A : Type 0} (n i : ℕ) (a x : A) → slice_get (replicate n a) i ≡ Some x → x ≡ a
get-replicate zero i a x h = absurd (let wrong : None ≡ Some x = h in cc)
get-replicate (suc n) zero a x h = sym (some-same a x h)
get-replicate (suc n) (suc i) a x h = get-replicate n i a x h

-- each goes by the log paths of the configuration
pub its-paths : (config : Config) (i : ℕ) (woods : Woods) → slice_get (paths_in config) i ≡ Some woods → woods ≡ woods_of config.forest
its-paths config i woods h = get-replicate (length config.inlets.items) i (woods_of config.forest) woods h

router-paths : (config : Config) (routers : List Pipes) (i : ℕ) (router : Pipes) → AreRouters config routers → slice_get routers i ≡ Some router → paths_of router ≡ woods_of config.forest
router-paths config routers i router are at =
    its-paths config i (paths_of router) (ap (λ (ws : List Woods). slice_get ws i) (sym are) ∙ slice_get-map paths_of routers i router at)

inlets-known : (config : Config) (router : Pipes) → IsConfigWithin config → paths_of router ≡ woods_of config.forest → inlets_by router ≡ length config.inlets.items
inlets-known config router within is =
    sym (length-map router.table.inlets.items inlet_of) ∙ (ap (λ (woods : Woods). length woods.inlets) is ∙ within.readings)

dests-known : (config : Config) (router : Pipes) → IsConfigWithin config → paths_of router ≡ woods_of config.forest → dests_by router ≡ length config.setup.dests
dests-known config router within is = ap (λ (woods : Woods). woods.dests) is ∙ (within.dests ∙ sym within.outlet_setups)

pub all-know : (config : Config) (once : Bool) (routers : List Pipes) → IsConfigWithin config → AreRouters config routers → AllKnow inlets_by dests_by (planned config once) routers
all-know config once routers within are = record {
  all = sym (length-map routers paths_of) ∙ (ap (λ (ws : List Woods). length ws) are ∙ length-replicate (length config.inlets.items) (woods_of config.forest));
  each = λ i router at. let is = router-paths config routers i router are at in (inlets-known config router within is, dests-known config router within is);
}

-- What the run of a plan does: which devices it opens and closes, what happens at its flow core, and how it ends.
use Rattle.std.specs.Prelude.{◌≡◌, ◌⊎◌, ℕ, ◌+◌, Bool, Option, Some, None, List, [], ◌∷◌, ◌++◌, length, map, slice_get, IfSome}
use Rattle.sg_device.specs.Disk.{DiskState}
use Rattle.sg_device.specs.Faults.{Rose}
use Rattle.sg_device.specs.Inlet.{InletState}
use Rattle.sg_device.specs.Outlet.{OutletState}
use Rattle.sg_outside.specs.World.{WorldState, Files}
use Rattle.sg_msg.specs.declared.offer.Offer.{Offer}
use Rattle.sg_frame.specs.Records.{Record}
use Rattle.sg_machine.specs.declared.event.Act.TheVariants.{Look}
use Rattle.sg_machine.specs.declared.event.Event.{Event}
use Rattle.sg_machine.specs.declared.setup.Setup.{Setup}
use Rattle.sg_counter.specs.Exchanges.{Exchange, Caller}
use Rattle.sg_actor.specs.SourceTurns.{actor}
use Rattle.sg_actor.specs.declared.dest.DestActor.{DestActor}
use Rattle.sg_actor.specs.declared.source.SourceActor.{SourceActor}
use Rattle.sg_stable.specs.declared.fault.StoreRefusal.TheVariants.{Damage as StoreDamage, DiskFault as StoreFault}
use Rattle.sg_stores.specs.Stores.{StoreState}
use Rattle.sg_stores.specs.Opening.{IsLowestDamaged}
use Rattle.sg_stores.specs.declared.answers.CoreRefusal.{CoreRefusal}
use Rattle.sg_stores.specs.declared.answers.CoreRefusal.TheVariants.{Damage as CoreDamage, DiskFault as CoreFault, NoMemory as CoreNoMemory}
use Rattle.sg_stores.specs.declared.kind.StoreKind.{StoreKind}
use Rattle.sg_standing.specs.States.{CoreState}
use Rattle.sg_core.specs.Calls.{Serves as CoreServes}
use Rattle.sg_core.specs.Opening.{AreKinds, IsOpen, IsUnopened}
use Rattle.sg_run_plan.specs.declared.outlet.OutletPlan.{OutletPlan}
use Rattle.sg_turns.specs.Actors.{SourceTook, DestTook}
use Rattle.sg_turns.specs.Serving.{ServesRounds, ServesWith}
use Rattle.sg_turns.specs.Turns.{Turn}
use Rattle.sg_turns.specs.declared.ended.Ended.{Ended}
use Rattle.sg_serve.specs.Actors.{source_view, dest_view, AreSourcesFor, AreDestsFor, AllBeginAt}
use Rattle.sg_serve.specs.Counts.{tallied_of, AreCountsOf}
use Rattle.sg_serve.specs.Devices.{with_all_closed, OpensStores, OpensInlets, OpensOuts, inlets_asked, outlets_asked}
use Rattle.sg_serve.specs.Exits.{Out, OneRose, AreLeft, AllLie, outlets_in, inners_in, openers_in, stores_in, singles, present}
use Rattle.sg_serve.specs.Overflows.{overflow_specs, AreWaysWhole, AreHeldAsked, AreRests, LastMisses, WaysFail}
use Rattle.sg_serve.specs.Rewinds.{position_at, places_of, rewinds_from, HasBegun}
use Rattle.sg_serve.specs.declared.counts.Counts.{Counts}
use Rattle.sg_serve.specs.declared.ending.Device.TheVariants.{Store, Inlet, Dest}
use Rattle.sg_serve.specs.declared.ending.Early.{Early}
use Rattle.sg_serve.specs.declared.ending.Early.TheVariants.{OpenFault, Damage, DiskFault, NoMemory}
use Rattle.sg_serve.specs.declared.ending.PlanEnded.{PlanEnded}
use Rattle.sg_serve.specs.declared.ending.PlanEnded.TheVariants.{Before, Ran}
use Rattle.sg_run_plan.specs.declared.plan.RunPlan.{RunPlan}

-- How far a run came.

-- the flow core: as it was opened, once its sources had begun anew, and at the end; the events between the first two, and the calls
-- between the last two, those of the rounds, in the order in which it served them
pub record CoreRun : Type 0 where
  pub first : CoreState
  pub begun : CoreState
  pub last : CoreState
  pub prelude : List Event
  pub made : List Exchange

-- the devices that were opened, in order, as they were then and as they were closed; and the core, where that was opened
pub record Reached : Type 0 where
  pub stores : List DiskState
  pub stores_closed : List DiskState
  pub inlets : List InletState
  pub inlets_closed : List InletState
  pub outlets : List OutletState
  pub outlets_closed : List OutletState
  -- what stands behind each outlet, as it was opened and as it was closed
  pub outs : List Out
  pub outs_closed : List Out
  pub core : Option CoreRun

abbrev pub reached_by : List DiskState → List DiskState → List InletState → List InletState
    → List Out → List Out → Option CoreRun → Reached
reached_by stores stores_closed inlets inlets_closed outs outs_closed core = record {
  stores = stores;
  stores_closed = stores_closed;
  inlets = inlets;
  inlets_closed = inlets_closed;
  outlets = outlets_in outs;
  outlets_closed = outlets_in outs_closed;
  outs = outs;
  outs_closed = outs_closed;
  core = core;
}

-- Devices.

-- these were closed, each kind in this order, and nothing else changed
abbrev pub ClosesAll : WorldState → WorldState → List DiskState → List InletState → List Out
    → Type 0
ClosesAll old new disks feeds outs =
    new ≡ record old {
      stores = with_all_closed old.stores (disks ++ stores_in outs);
      inlets = with_all_closed old.inlets feeds;
      outlets = with_all_closed old.outlets (singles (inners_in outs) (openers_in outs));
      paths = with_all_closed old.paths (present (openers_in outs));
    }

-- the same, with the outlets as they were before; they are closed as those
abbrev pub ClosesHeld : WorldState → WorldState → List DiskState → List InletState → List Out
    → Type 0
ClosesHeld old new disks feeds outs = (closed : List Out) × AreLeft outs closed
    × ClosesAll old new disks feeds closed

-- These devices were opened, in the order of the plan, first stores, then inlets, then outlets, and closed; nothing else of the world
-- changed but its counts of faults.
pub record UsesDevices (old new : WorldState) (plan : RunPlan) (reached : Reached) : Type 0 where
  pub with_stores : WorldState
  pub with_inlets : WorldState
  pub with_outlets : WorldState
  pub stores : OpensStores old with_stores plan.stores.items reached.stores
  pub inlets : OpensInlets with_stores with_inlets (inlets_asked plan.once plan.inlets.items)
      reached.inlets
  pub outlets : OpensOuts with_inlets with_outlets (outlets_asked plan.once plan.outlets.items)
      (overflow_specs plan.outlets.items) reached.outs
  pub outlets_are : reached.outlets ≡ outlets_in reached.outs
  pub closed_are : reached.outlets_closed ≡ outlets_in reached.outs_closed
  pub closes : ClosesAll with_outlets new reached.stores_closed reached.inlets_closed
      reached.outs_closed
  pub lie : AllLie reached.outs_closed
  pub whole : AreWaysWhole reached.outs_closed

-- The core.

-- Behind the sources before it, the store of the last one failed as that was to begin anew.
pub record FailsLast (first : CoreState) (feeds : List InletState)
    (prelude : List Event) : Type 0 where
  pub front : List InletState
  pub last : InletState
  pub failed : List ℕ
  pub feeds_are : feeds ≡ front ++ last ∷ []
  pub prelude_is : prelude ≡ rewinds_from (position_at first) 0 (places_of front)
      ++ (record { act = Look; failed = failed }) ∷ []

-- The core was opened over the stores, and stands for the events that its sources' beginnings were; its stores come back at the end.
pub record HoldsCore (setup : Setup) (reached : Reached) (run : CoreRun) : Type 0 where
  pub opens : IsOpen setup reached.stores run.first
  pub begins : HasBegun run.first run.begun run.prelude
  pub closed : reached.stores_closed ≡ map (λ (store : StoreState). store.disk) run.last.stores

-- no core was opened: the stores are closed as they were opened, or as the opening of the core left them
abbrev pub RestsWithout : Setup → Reached → Type 0
RestsWithout setup reached =
    (reached.stores_closed ≡ reached.stores)
    ⊎ ((refusal : CoreRefusal) × IsUnopened setup reached.stores reached.stores_closed refusal)

-- The rounds.

-- The rounds were run over these sources and destinations, which are those of the plan.
pub record RunsRounds {R I O : Type 0} (feed : I → InletState) (drain : O → OutletState)
    (offers : R → ℕ → Record → List Offer → Type 0) (inlets dests : R → ℕ)
    (plan : RunPlan) (routers : List R) (rounds : ℕ) (run : CoreRun)
    (opened closed : List InletState) (new old : List OutletState) (ended : Ended)
    (counts : Option Counts) : Type 0 where
  pub sources : List (SourceActor R I)
  pub sources_then : List (SourceActor R I)
  pub dests_first : List (DestActor O)
  pub dests_then : List (DestActor O)
  pub account : Caller → List Turn
  pub number : ℕ
  pub serves : ServesWith (SourceTook feed offers inlets dests) (DestTook drain) CoreServes
      run.begun run.last sources sources_then dests_first dests_then rounds ended run.made account
      number
  pub counted : IfSome counts
      (λ counts. AreCountsOf run.last sources_then dests_then (tallied_of counts))
  pub same_routers : map (λ (a : SourceActor R I). a.router) sources ≡ routers
  pub are_sources : AreSourcesFor plan.inlets.items plan.setup.sources
      (map (λ (a : SourceActor R I). source_view a.spec
      (actor (feed a.inlet) a.reader a.buffer.items a.position a.bad_frames) (dests a.router))
      sources)
  pub are_dests : AreDestsFor plan.once plan.outlets.items
      (map (λ (a : DestActor O). dest_view a.spec a.outage (drain a.outlet)) dests_first)
  pub inlets_opened : map (λ (a : SourceActor R I). feed a.inlet) sources ≡ opened
  pub inlets_closed : map (λ (a : SourceActor R I). feed a.inlet) sources_then ≡ closed
  pub outlets_opened : map (λ (a : DestActor O). drain a.outlet) dests_first ≡ new
  pub outlets_closed : map (λ (a : DestActor O). drain a.outlet) dests_then ≡ old

-- Before the rounds all stays. The sources that had to begin anew did so, or a store failed. An outlet was opened only once all inlets were.
pub record StaysUnserved (plan : RunPlan) (reached : Reached) (run : CoreRun) : Type 0 where
  pub rewinds : (run.prelude ≡ rewinds_from (position_at run.first) 0 (places_of reached.inlets))
      ⊎ FailsLast run.first reached.inlets run.prelude
  pub core_stays : run.last ≡ run.begun
  pub unserved : run.made ≡ []
  pub inlets_stay : reached.inlets_closed ≡ reached.inlets
  pub outlets_stay : reached.outlets_closed ≡ reached.outlets
  pub order : (length reached.inlets ≡ length plan.inlets.items) ⊎ (reached.outlets ≡ [])

-- In the rounds all devices are open, and all sources that had to begin anew did so.
pub record IsServed {R I O : Type 0} (feed : I → InletState) (drain : O → OutletState)
    (offers : R → ℕ → Record → List Offer → Type 0) (inlets dests : R → ℕ)
    (plan : RunPlan) (routers : List R) (rounds : ℕ) (reached : Reached) (run : CoreRun)
    (ended : Ended) (counts : Option Counts) : Type 0 where
  pub rewinds : run.prelude ≡ rewinds_from (position_at run.first) 0 (places_of reached.inlets)
  pub runs : RunsRounds feed drain offers inlets dests plan routers rounds run reached.inlets
      reached.inlets_closed reached.outlets reached.outlets_closed ended counts
  pub all_inlets : length reached.inlets ≡ length plan.inlets.items
  pub all_outlets : length reached.outlets ≡ length plan.outlets.items
  -- frames are held back where the plan asks for it, and what is left of them is told
  pub held : AreHeldAsked plan.outlets.items reached.outs
  pub rests : IfSome counts (AreRests plan.once (length plan.stores.items) plan.outlets.items
      reached.outs_closed)

-- with a core
pub record HoldsRun (files : Option Files) (plan : RunPlan) (reached : Reached)
    (run : CoreRun) : Type 0 where
  pub core : HoldsCore plan.setup reached run
  pub all_stores : length reached.stores ≡ length plan.stores.items
  pub begin_at : AllBeginAt files (position_at run.first) (inlets_asked plan.once plan.inlets.items)
      reached.inlets

-- without one
pub record HoldsNone (plan : RunPlan) (reached : Reached) : Type 0 where
  pub rests : RestsWithout plan.setup reached
  pub no_inlets : (reached.inlets ≡ []) × (reached.inlets_closed ≡ [])
  pub no_outlets : (reached.outlets ≡ []) × (reached.outlets_closed ≡ [])

abbrev pub PlanRunHolds : {R I O : Type 0} → (I → InletState) → (O → OutletState)
    → (R → ℕ → Record → List Offer → Type 0) → (R → ℕ) → (R → ℕ) → Option Files → RunPlan → List R
    → ℕ → Reached → Option CoreRun → PlanEnded → Type 0
PlanRunHolds feed drain offers inlets dests files plan routers rounds reached None (Before early) =
    HoldsNone plan reached
PlanRunHolds feed drain offers inlets dests files plan routers rounds reached None
    (Ran ended counts) = ⊥
PlanRunHolds feed drain offers inlets dests files plan routers rounds reached (Some run)
    (Before early) =
    HoldsRun files plan reached run × StaysUnserved plan reached run
PlanRunHolds feed drain offers inlets dests files plan routers rounds reached (Some run)
    (Ran ended counts) =
    HoldsRun files plan reached run
    × IsServed feed drain offers inlets dests plan routers rounds reached run ended counts

-- Causes.

abbrev pub RoseAt : List DiskState → List DiskState → ℕ → Type 0
RoseAt olds news s = (old : DiskState) × ((new : DiskState)
    × ((slice_get olds s ≡ Some old) × (slice_get news s ≡ Some new) × Rose old.faults new.faults))

-- the place where the bytes of a store are damaged
pub record IsDamagedIn (setup : Setup) (disks : List DiskState) (s at : ℕ) : Type 0 where
  pub kinds : List StoreKind
  pub kinds_are : AreKinds setup.dests (length disks) kinds
  pub damaged : IsLowestDamaged kinds disks s at

-- Why the rounds didn't begin: each device by its number, behind those that were opened. Lack of memory is free.
abbrev pub HasEarlyCause : WorldState → WorldState → RunPlan → Reached → Early → Type 0
HasEarlyCause old new plan reached (OpenFault (Store n)) =
    (((n ≡ length reached.stores) × (reached.core ≡ None))
    ⊎ (n ≡ length plan.stores.items + length (stores_in reached.outs)))
    × Rose old.store_faults new.store_faults
HasEarlyCause old new plan reached (OpenFault (Inlet n)) = (n ≡ length reached.inlets)
    × Rose old.inlet_faults new.inlet_faults
HasEarlyCause old new plan reached (OpenFault (Dest n)) =
    (n ≡ length reached.outlets) × OneRose old new
HasEarlyCause old new plan reached (Damage s at) =
    ((reached.core ≡ None) × IsDamagedIn plan.setup reached.stores s at)
    ⊎ LastMisses (length plan.stores.items) reached.outs reached.outs_closed s (StoreDamage at)
HasEarlyCause old new plan reached (DiskFault s) = RoseAt reached.stores reached.stores_closed s
    ⊎ LastMisses (length plan.stores.items) reached.outs reached.outs_closed s StoreFault
HasEarlyCause old new plan reached NoMemory = Unit {0}

abbrev pub HasEnding : WorldState → WorldState → RunPlan → Reached → PlanEnded → Type 0
HasEnding old new plan reached (Before early) = HasEarlyCause old new plan reached early
HasEnding old new plan reached (Ran ended counts) = Unit {0}

-- what a refused opening of the core is to the run
abbrev pub early_of : CoreRefusal → Early
early_of (CoreDamage s at) = Damage s at
early_of (CoreFault s) = DiskFault s
early_of CoreNoMemory = NoMemory

-- The whole.

pub record RunsWith {R I O : Type 0} (feed : I → InletState) (drain : O → OutletState)
    (offers : R → ℕ → Record → List Offer → Type 0) (inlets dests : R → ℕ)
    (old new : WorldState) (plan : RunPlan) (routers : List R) (rounds : ℕ) (ending : PlanEnded)
    (reached : Reached) : Type 0 where
  pub devices : UsesDevices old new plan reached
  pub holds : PlanRunHolds feed drain offers inlets dests old.files plan routers rounds reached
      reached.core ending
  pub ends : HasEnding old new plan reached ending

abbrev pub RunsPlan : {R I O : Type 0} → (I → InletState) → (O → OutletState)
    → (R → ℕ → Record → List Offer → Type 0) → (R → ℕ) → (R → ℕ) → WorldState → WorldState → RunPlan
    → List R → ℕ → PlanEnded → Type 0
RunsPlan feed drain offers inlets dests old new plan routers rounds ending = (reached : Reached)
    × RunsWith feed drain offers inlets dests old new plan routers rounds ending reached

-- The parts.

-- With the stores open: the core is opened, and then the inlets and outlets, from the second world state on; the stores come back as those.
pub record RunsOver {R I O : Type 0} (feed : I → InletState) (drain : O → OutletState)
    (offers : R → ℕ → Record → List Offer → Type 0) (inlets dests : R → ℕ)
    (old new : WorldState) (plan : RunPlan) (routers : List R) (rounds : ℕ)
    (stores stores_closed : List DiskState) (inlets_closed : List InletState)
    (outs_closed : List Out) (ending : PlanEnded) : Type 0 where
  pub inlets_opened : List InletState
  pub outs : List Out
  pub core : Option CoreRun
  pub between : WorldState
  pub opens_inlets : OpensInlets old between (inlets_asked plan.once plan.inlets.items)
      inlets_opened
  pub opens_outlets : OpensOuts between new (outlets_asked plan.once plan.outlets.items)
      (overflow_specs plan.outlets.items) outs
  pub whole : AreWaysWhole outs_closed
  pub holds : PlanRunHolds feed drain offers inlets dests old.files plan routers rounds
      (reached_by stores stores_closed inlets_opened inlets_closed outs outs_closed core) core
      ending
  pub ends : HasEnding old new plan (reached_by stores stores_closed inlets_opened inlets_closed
      outs outs_closed core) ending

-- The rounds were run over these destinations, those of the plan.
pub record ServesDests {R I O : Type 0} (feed : I → InletState) (drain : O → OutletState)
    (offers : R → ℕ → Record → List Offer → Type 0) (inlets dests : R → ℕ)
    (once : Bool) (plans : List OutletPlan) (rounds : ℕ) (begun last : CoreState)
    (sources : List (SourceActor R I)) (inlets_closed : List InletState)
    (opened closed : List Out) (ended : Ended) (counts : Option Counts) : Type 0 where
  pub sources_then : List (SourceActor R I)
  pub dests_first : List (DestActor O)
  pub dests_then : List (DestActor O)
  pub serves : ServesRounds (SourceTook feed offers inlets dests) (DestTook drain) CoreServes begun
      last
      sources sources_then dests_first dests_then rounds ended
  pub counted : IfSome counts (λ counts.
      AreCountsOf last sources_then dests_then (tallied_of counts))
  pub are_dests : AreDestsFor once plans
      (map (λ (a : DestActor O). dest_view a.spec a.outage (drain a.outlet)) dests_first)
  pub all : length opened ≡ length plans
  pub closes_inlets : map (λ (a : SourceActor R I). feed a.inlet) sources_then ≡ inlets_closed
  pub outlets_opened : map (λ (a : DestActor O). drain a.outlet) dests_first ≡ outlets_in opened
  pub outlets_closed : map (λ (a : DestActor O). drain a.outlet) dests_then ≡ outlets_in closed
  pub held : AreHeldAsked plans opened
  pub rests : IfSome counts (AreRests once (length begun.stores) plans closed)

-- The rounds don't begin, and all stays.
pub record MissesDests {R I : Type 0} (feed : I → InletState) (old new : WorldState)
    (begun last : CoreState) (sources : List (SourceActor R I)) (inlets_closed : List InletState)
    (opened closed : List Out) (early : Early) : Type 0 where
  pub stays : last ≡ begun
  pub closes_inlets : inlets_closed ≡ map (λ (a : SourceActor R I). feed a.inlet) sources
  pub closes_outlets : outlets_in closed ≡ outlets_in opened
  pub cause : WaysFail old new (length begun.stores) opened closed early

abbrev pub DestsEnd : {R I O : Type 0} → (I → InletState) → (O → OutletState)
    → (R → ℕ → Record → List Offer → Type 0) → (R → ℕ) → (R → ℕ) → WorldState → WorldState → Bool
    → List OutletPlan → ℕ → CoreState → CoreState
    → List (SourceActor R I) → List InletState → List Out → List Out → PlanEnded → Type 0
DestsEnd feed drain offers inlets dests old new once plans rounds begun last sources inlets_closed
    opened closed (Before early) =
    MissesDests feed old new begun last sources inlets_closed opened closed early
DestsEnd feed drain offers inlets dests old new once plans rounds begun last sources inlets_closed
    opened closed (Ran ended counts) =
    ServesDests feed drain offers inlets dests once plans rounds begun last sources inlets_closed
    opened closed ended counts

-- With the inlets open too: the outlets are opened, and the rounds run.
pub record RunsDests {R I O : Type 0} (feed : I → InletState) (drain : O → OutletState)
    (offers : R → ℕ → Record → List Offer → Type 0) (inlets dests : R → ℕ)
    (old new : WorldState) (once : Bool) (plans : List OutletPlan) (rounds : ℕ) (begun : CoreState)
    (sources : List (SourceActor R I))
    (stores_closed : List DiskState) (inlets_closed : List InletState) (outs : List Out)
    (ending : PlanEnded) : Type 0 where
  pub outs_opened : List Out
  pub opens : OpensOuts old new (outlets_asked once plans) (overflow_specs plans) outs_opened
  pub whole : AreWaysWhole outs
  pub last : CoreState
  pub closes_stores : stores_closed ≡ map (λ (store : StoreState). store.disk) last.stores
  pub ends : DestsEnd feed drain offers inlets dests old new once plans rounds begun last sources
      inlets_closed outs_opened outs ending

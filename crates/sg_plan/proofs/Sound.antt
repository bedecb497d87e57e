-- What a driver more leaves of a plan.
use Rattle.std.proofs.Common.{◌≡◌, ℕ, ◌+◌, ◌≤◌, ◌^◌, List, [], ◌∷◌, ◌++◌, length, replicate, Option, Some, None, refl, ◌∙◌, ap, sym, subst, arith}
use Rattle.std.specs.List.{range_with_len}
use Rattle.std.proofs.lemmas.Option.{none-some}
use Rattle.std.proofs.lemmas.List.{length-append, length-replicate, length_push, append-nil}
use Rattle.std.proofs.lemmas.List.FromFn.{length-map-range_with_len}
use Rattle.sg_outside.specs.declared.request.StoreSpec.{StoreSpec}
use Rattle.sg_machine.specs.declared.setup.SourceSetup.{SourceSetup}
use Rattle.sg_machine.specs.declared.setup.BufferSetup.{BufferSetup}
use Rattle.sg_machine.specs.declared.setup.DestSetup.{DestSetup}
use Rattle.sg_source.specs.declared.inlet.SourceDriver.{SourceDriver}
use Rattle.sg_run_plan.specs.declared.inlet.InletPlan.{InletPlan}
use Rattle.sg_run_plan.specs.declared.outlet.OutletPlan.{OutletPlan}
use Rattle.sg_run_plan.specs.declared.overflow.OverflowPlan.{OverflowPlan}
use Rattle.sg_source.specs.declared.inlet.SourceOrigin.{SourceOrigin}
use Rattle.sg_source.specs.declared.inlet.SourceOrigin.TheVariants as place
use Rattle.sg_source.specs.Inlets.{plan_of, slots_at, store_at}
use Rattle.sg_destination.specs.declared.outlet.DestinationDriver.{DestinationDriver}
use Rattle.sg_destination.specs.declared.buffers.DiskBuffer.{DiskBuffer}
use Rattle.sg_plan.specs.declared.owner.Owner.{Owner}
use Rattle.sg_plan.specs.Parts.{PlanParts, no_parts, name_in, stores_by, number_by, buffer_by, buffer_stores, setup_of, inlets_of, with_source, dest_setup_of, with_destination}
use Rattle.sg_plan.specs.Limits.{NumbersStores, HasWindow, HasPlannedRoom, IsInlet}
use Rattle.sg_plan.proofs.Elements.{EachElement, each-none, each-push, each-append, each-replicate, each-map}
use Rattle.sg_plan.proofs.StoreNumbers.{no-numbers, listeners-more, file-more, queue-more, buffer-more}
use Rattle.sg_plan.proofs.Fair.{IsFairSource, IsFairDestination}
use Rattle.sg_list.proofs.ListLemmas.{some-same}

-- the store of the frames that it holds back takes 1 GiB at most
abbrev pub IsOutletWithin : OutletPlan → Type 0
IsOutletWithin plan = (overflow : OverflowPlan) → plan.overflow ≡ Some overflow → overflow.capacity ≤ 2 ^ 30

pub record IsSoundPart (parts : PlanParts) : Type 0 where
  pub inlet_setups : length parts.inlet_setups ≡ length parts.inlets
  pub outlet_setups : length parts.outlet_setups ≡ length parts.outlets
  pub inlet_owners : length parts.inlet_owners ≡ length parts.inlets
  pub outlet_owners : length parts.outlet_owners ≡ length parts.outlets
  pub stores : length parts.stores ≤ length parts.inlets + length parts.outlets
  pub numbers : NumbersStores parts.inlet_setups parts.outlet_setups (length parts.stores)
  pub windows : EachElement HasWindow parts.inlet_setups
  pub rooms : EachElement HasPlannedRoom parts.outlet_setups
  pub each : EachElement (IsInlet (length parts.sources)) parts.inlets
  pub held : EachElement IsOutletWithin parts.outlets

pub no-parts-sound : IsSoundPart no_parts
no-parts-sound = record {
  inlet_setups = refl;
  outlet_setups = refl;
  inlet_owners = refl;
  outlet_owners = refl;
  stores = omega arith;
  numbers = no-numbers;
  windows = each-none HasWindow;
  rooms = each-none HasPlannedRoom;
  each = each-none (IsInlet 0);
  held = each-none IsOutletWithin;
}

-- ---- a source

source-numbers : (at : SourceOrigin) (inlets : List SourceSetup) (outlets : List DestSetup) (stores : List StoreSpec) (window : ℕ) → NumbersStores inlets outlets (length stores)
    → NumbersStores (inlets ++ replicate (slots_at at) (record { window = window; store = number_by (length stores) (store_at at) })) outlets (length (stores ++ stores_by (store_at at)))
source-numbers (place.File path) inlets outlets stores window h =
    subst (λ n. NumbersStores (inlets ++ record { window = window; store = Some (length stores) } ∷ []) outlets n) (sym (length_push stores _))
    (file-more inlets outlets (length stores) (record { window = window; store = Some (length stores) }) refl h)
source-numbers (place.Listener ip port slots) inlets outlets stores window h =
    subst (λ (ss : List StoreSpec). NumbersStores (inlets ++ replicate slots (record { window = window; store = None })) outlets (length ss)) (sym (append-nil stores))
    (listeners-more inlets outlets (length stores) slots (record { window = window; store = None }) refl h)

-- a file is one inlet, and has one store
few-stores : (at : SourceOrigin) → length (stores_by (store_at at)) ≤ slots_at at
few-stores (place.File path) = omega arith
few-stores (place.Listener ip port slots) = omega arith

inlet-later : (n : ℕ) (inlet : InletPlan) → IsInlet n inlet → IsInlet (n + 1) inlet
inlet-later n inlet h = record {
  driver = (let p = h.driver in omega arith);
  some_bytes = h.some_bytes;
  most_bytes = h.most_bytes;
  some_records = h.some_records;
  most_records = h.most_records;
}

own-inlet : (n : ℕ) (owner : Owner) (source : SourceDriver) (slot : ℕ) → IsFairSource source → IsInlet (n + 1) (plan_of source slot n (name_in owner))
own-inlet n owner source slot fair = record {
  driver = omega arith;
  some_bytes = fair.limit.0;
  most_bytes = fair.limit.1;
  some_records = fair.fetch.0;
  most_records = fair.fetch.1;
}

pub inlets-length : (number : ℕ) (owner : Owner) (source : SourceDriver) → length (inlets_of number owner source) ≡ slots_at source.place
inlets-length number owner source = length-map-range_with_len (λ slot. plan_of source slot number (name_in owner)) 0 (slots_at source.place)

pub source-sound : (parts : PlanParts) (owner : Owner) (source : SourceDriver) → IsFairSource source → IsSoundPart parts → IsSoundPart (with_source parts owner source)
source-sound parts owner source fair sound =
    let n = slots_at source.place in
    let setup = setup_of (length parts.stores) source in
    let plans = inlets_of (length parts.sources) owner source in
    let len : length (parts.inlets ++ plans) ≡ length parts.inlets + n = length-append parts.inlets plans ∙ ap (λ k. length parts.inlets + k) (inlets-length (length parts.sources) owner source) in
    let setups : length (parts.inlet_setups ++ replicate n setup) ≡ length parts.inlet_setups + n = length-append parts.inlet_setups (replicate n setup) ∙ ap (λ k. length parts.inlet_setups + k) (length-replicate n setup) in
    let owners : length (parts.inlet_owners ++ replicate n owner) ≡ length parts.inlet_owners + n = length-append parts.inlet_owners (replicate n owner) ∙ ap (λ k. length parts.inlet_owners + k) (length-replicate n owner) in
    let more : length (parts.stores ++ stores_by (store_at source.place)) ≡ length parts.stores + length (stores_by (store_at source.place)) = length-append parts.stores (stores_by (store_at source.place)) in
    let few = few-stores source.place in
    let s = sound.stores in
    record {
      inlet_setups = setups ∙ ap (λ k. k + n) sound.inlet_setups ∙ sym len;
      outlet_setups = sound.outlet_setups;
      inlet_owners = owners ∙ ap (λ k. k + n) sound.inlet_owners ∙ sym len;
      outlet_owners = sound.outlet_owners;
      stores = omega arith;
      numbers = source-numbers source.place parts.inlet_setups parts.outlet_setups parts.stores source.window sound.numbers;
      windows = each-append HasWindow parts.inlet_setups (replicate n setup) sound.windows (each-replicate HasWindow n setup fair.window);
      rooms = sound.rooms;
      each = subst (λ k. EachElement (IsInlet k) (parts.inlets ++ plans)) (sym (length_push parts.sources source))
          (each-append (IsInlet (length parts.sources + 1)) parts.inlets plans
          (λ i inlet e. inlet-later (length parts.sources) inlet (sound.each i inlet e))
          (each-map (IsInlet (length parts.sources + 1)) (λ slot. plan_of source slot (length parts.sources) (name_in owner)) (range_with_len 0 n) (λ slot. own-inlet (length parts.sources) owner source slot fair)));
      held = sound.held;
    }

-- ---- a destination

destination-numbers : (buffer : Option DiskBuffer) (inlets : List SourceSetup) (outlets : List DestSetup) (stores : List StoreSpec) (fifo : ℕ) → NumbersStores inlets outlets (length stores)
    → NumbersStores inlets (outlets ++ record { fifo = fifo; buffer = buffer_by (length stores) buffer } ∷ []) (length (stores ++ buffer_stores buffer))
destination-numbers None inlets outlets stores fifo h =
    subst (λ (ss : List StoreSpec). NumbersStores inlets (outlets ++ record { fifo = fifo; buffer = None } ∷ []) (length ss)) (sym (append-nil stores))
    (queue-more inlets outlets (length stores) (record { fifo = fifo; buffer = None }) refl h)
destination-numbers (Some buffer) inlets outlets stores fifo h =
    subst (λ n. NumbersStores inlets (outlets ++ record { fifo = fifo; buffer = Some (record { store = length stores; capacity = buffer.capacity }) } ∷ []) n) (sym (length_push stores _))
    (buffer-more inlets outlets (length stores) (record { fifo = fifo; buffer = Some (record { store = length stores; capacity = buffer.capacity }) }) refl h)

one-store : (buffer : Option DiskBuffer) → length (buffer_stores buffer) ≤ 1
one-store None = omega arith
one-store (Some buffer) = omega arith

buffer-room : (count : ℕ) (buffer : Option DiskBuffer) (setup : BufferSetup) → ((b : DiskBuffer) → buffer ≡ Some b → (1048576 ≤ b.capacity) × (b.capacity ≤ 1073741824)) → buffer_by count buffer ≡ Some setup
    → (2 ^ 20 ≤ setup.capacity) × (setup.capacity ≤ 2 ^ 30)
buffer-room count None setup fair e = absurd (none-some setup e)
buffer-room count (Some buffer) setup fair e =
    subst (λ (s : BufferSetup). (2 ^ 20 ≤ s.capacity) × (s.capacity ≤ 2 ^ 30)) (some-same (record { store = count; capacity = buffer.capacity }) setup e) (fair buffer refl)

destination-room : (count : ℕ) (dest : DestinationDriver) → IsFairDestination dest → HasPlannedRoom (dest_setup_of count dest)
destination-room count dest fair = record {
  some = fair.fifo.0;
  most = fair.fifo.1;
  least_capacity = λ buffer e. (buffer-room count dest.buffer buffer fair.capacity e).0;
  most_capacity = λ buffer e. (buffer-room count dest.buffer buffer fair.capacity e).1;
}

pub destination-sound : (parts : PlanParts) (owner : Owner) (dest : DestinationDriver) → IsFairDestination dest → IsSoundPart parts → IsSoundPart (with_destination parts owner dest)
destination-sound parts owner dest fair sound =
    let setup = dest_setup_of (length parts.stores) dest in
    let len = length_push parts.outlets dest.plan in
    let setups = length_push parts.outlet_setups setup in
    let owners = length_push parts.outlet_owners owner in
    let extra = buffer_stores dest.buffer in
    let more : length (parts.stores ++ extra) ≡ length parts.stores + length extra = length-append parts.stores extra in
    let few = one-store dest.buffer in
    let s = sound.stores in
    record {
      inlet_setups = sound.inlet_setups;
      outlet_setups = setups ∙ ap (λ k. k + 1) sound.outlet_setups ∙ sym len;
      inlet_owners = sound.inlet_owners;
      outlet_owners = owners ∙ ap (λ k. k + 1) sound.outlet_owners ∙ sym len;
      stores = omega arith;
      numbers = destination-numbers dest.buffer parts.inlet_setups parts.outlet_setups parts.stores dest.fifo sound.numbers;
      windows = sound.windows;
      rooms = each-append HasPlannedRoom parts.outlet_setups (setup ∷ []) sound.rooms (each-push HasPlannedRoom setup [] (destination-room (length parts.stores) dest fair) (each-none HasPlannedRoom));
      each = sound.each;
      held = each-append IsOutletWithin parts.outlets (dest.plan ∷ []) sound.held (each-push IsOutletWithin dest.plan [] fair.overflow (each-none IsOutletWithin));
    }

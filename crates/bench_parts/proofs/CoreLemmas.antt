-- The core that is measured, and what is brought to it.
use Rattle.std.proofs.Common.{◌≡◌, ℕ, ◌+◌, ◌<◌, ◌≤◌, ◌^◌, List, [], ◌∷◌, length, Some, None, Option, refl, sym, ap, ◌∙◌, arith, suc, zero, subst, map}
use Rattle.std.proofs.lemmas.List.{length-map}
use Rattle.sg_machine.specs.declared.event.Admission.{Admission}
use Rattle.sg_machine.specs.declared.setup.BufferSetup.{BufferSetup}
use Rattle.sg_machine.specs.declared.setup.DestSetup.{DestSetup}
use Rattle.sg_machine.specs.declared.setup.Setup.{Setup}
use Rattle.sg_machine.specs.declared.setup.SourceSetup.{SourceSetup}
use Rattle.sg_counter.specs.Bringing.{AllMayEnter, IsBatch, store_in}
use Rattle.sg_core.specs.Opening.{NumberStores, HaveCapacities, buffer_store_in}
use Rattle.sg_sinks.specs.States.{SinkState}
use Rattle.sg_standing.specs.States.{CoreState}
use Rattle.sg_standing.specs.declared.source.Source.{Source}
use Rattle.bench_parts.specs.Cores.{measured, spooled, IsMeasured}

no-source-store : (b : Option BufferSetup) (i s : ℕ) → store_in (measured b).sources i ≡ Some s → ⊥
no-source-store b zero s p = let wrong : None ≡ Some s = p in cc
no-source-store b (suc i) s p = let wrong : None ≡ Some s = p in cc

no-dest-store : (d s : ℕ) → buffer_store_in (measured None).dests d ≡ Some s → ⊥
no-dest-store zero s p = let wrong : None ≡ Some s = p in cc
no-dest-store (suc d) s p = let wrong : None ≡ Some s = p in cc

dest-store : (d s : ℕ) → buffer_store_in (measured spooled).dests d ≡ Some s → (d ≡ 0) × (s ≡ 0)
dest-store zero s p = let e : Some 0 ≡ Some s = p in let g : 0 ≡ s = cc in (refl, sym g)
dest-store (suc d) s p = let wrong : None ≡ Some s = p in cc

pub queued-numbers : NumberStores (measured None) 0
queued-numbers = record {
  positions = λ i s p. absurd (no-source-store None i s p);
  buffers = λ d s p. absurd (no-dest-store d s p);
  inlets_apart = λ i j s p q. absurd (no-source-store None i s p);
  dests_apart = λ d e s p q. absurd (no-dest-store d s p);
  apart = λ i d s p q. no-source-store None i s p;
}

pub spooled-numbers : NumberStores (measured spooled) 1
spooled-numbers = record {
  positions = λ i s p. absurd (no-source-store spooled i s p);
  buffers = λ d s p. (let h = dest-store d s p in omega (arith, h.1));
  inlets_apart = λ i j s p q. absurd (no-source-store spooled i s p);
  dests_apart = λ d e s p q. (let h = dest-store d s p in let k = dest-store e s q in omega (arith, h.0, k.0));
  apart = λ i d s p q. no-source-store spooled i s p;
}

pub queued-capacities : HaveCapacities (measured None).dests
queued-capacities zero setup buffer get has =
    let e : Some (record { fifo = 1000; buffer = None }) ≡ Some setup = get in
    let is : record { fifo = 1000; buffer = None } ≡ setup = cc in
    absurd (let wrong : None ≡ Some buffer = ap (λ (x : DestSetup). x.buffer) is ∙ has in cc)
queued-capacities (suc d) setup buffer get has = absurd (let wrong : None ≡ Some setup = get in cc)

pub spooled-capacities : HaveCapacities (measured spooled).dests
spooled-capacities zero setup buffer get has =
    let e : Some (record { fifo = 1000; buffer = spooled }) ≡ Some setup = get in
    let is : record { fifo = 1000; buffer = spooled } ≡ setup = cc in
    let of : Some (record { store = 0; capacity = 1048576 }) ≡ Some buffer = ap (λ (x : DestSetup). x.buffer) is ∙ has in
    let same : record { store = 0; capacity = 1048576 } ≡ buffer = cc in
    let within : 1048576 ≤ 2 ^ 30 = omega arith in
    subst (λ (x : BufferSetup). x.capacity ≤ 2 ^ 30) same within
spooled-capacities (suc d) setup buffer get has = absurd (let wrong : None ≡ Some setup = get in cc)

-- a core of such a setup has one source and one destination

length-setups : (xs : List Source) (s : SourceSetup) → map (λ (x : Source). x.setup) xs ≡ s ∷ [] → length xs ≡ 1
length-setups xs s h = sym (length-map xs (λ (x : Source). x.setup)) ∙ ap length h

length-sinks : (xs : List SinkState) (s : DestSetup) → map (λ (x : SinkState). x.setup) xs ≡ s ∷ [] → length xs ≡ 1
length-sinks xs s h = sym (length-map xs (λ (x : SinkState). x.setup)) ∙ ap length h

pub one-inlet : (core : CoreState) → IsMeasured core → length core.sources ≡ 1
one-inlet core h = length-setups core.sources _ (ap (λ (s : Setup). s.sources) h.1)

pub one-sink : (core : CoreState) → IsMeasured core → length core.sinks ≡ 1
one-sink core h = length-sinks core.sinks _ (ap (λ (s : Setup). s.dests) h.1)

pub batch_of : (setup : Setup) (records : List Admission) → length setup.dests ≡ 1 → 0 < length records → length records ≤ 1000 → AllMayEnter 1 records → IsBatch setup records
batch_of setup records count some few each = record { some = some; few = few; each = subst (λ n. AllMayEnter n records) (sym count) each }

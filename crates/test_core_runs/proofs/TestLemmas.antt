-- The core that is tried, and what is brought to it.
use Rattle.std.proofs.Common.{◌≡◌, ◌⊎◌, ℕ, ◌+◌, ◌<◌, ◌≤◌, ◌^◌, List, [], ◌∷◌, length, Some, None, Option, IsSome, refl, sym, ap, ◌∙◌, arith, suc, zero, inl, inr, slice_get, subst, map}
use Rattle.sg_machine.specs.declared.event.Act.{Act}
use Rattle.sg_machine.specs.declared.state.Dest.{Dest}
use Rattle.sg_machine.specs.declared.state.InletRecords.{InletRecords}
use Rattle.sg_machine.specs.declared.state.State.{State}
use Rattle.sg_machine.specs.declared.tally.SourceTally.{SourceTally}
use Rattle.sg_machine.specs.declared.tally.Tally.{Tally}
use Rattle.sg_machine.specs.Effects.{after_act}
use Rattle.sg_machine.specs.Runs.{opened}
use Rattle.sg_machine.specs.Tallies.{source_tally, source_tallies, tally_of}
use Rattle.sg_machine.specs.declared.event.Admission.{Admission}
use Rattle.sg_machine.specs.declared.setup.DestSetup.{DestSetup}
use Rattle.sg_machine.specs.declared.setup.Setup.{Setup}
use Rattle.sg_counter.specs.Bringing.{MayEnter, AllMayEnter, IsBatch, store_in}
use Rattle.sg_core.specs.Answers.{Tallies}
use Rattle.sg_core.specs.Opening.{NumberStores, HaveWindows, HaveCapacities, buffer_store_in, IsOpen}
use Rattle.std.proofs.lemmas.List.{length-map}
use Rattle.sg_sinks.specs.States.{SinkState}
use Rattle.sg_standing.specs.States.{CoreState}
use Rattle.sg_device.specs.Disk.{DiskState}
use Rattle.sg_standing.specs.Sources.{store_at, begun_in}
use Rattle.sg_standing.specs.Standing.{DoesAct, IsAt, source_of, sources_from}
use Rattle.sg_standing.specs.declared.source.Source.{Source}
use Rattle.sg_machine.specs.declared.setup.SourceSetup.{SourceSetup}
use Rattle.test_core_runs.specs.Cores.{three_sources, three_dests, tried, IsTried, IsSomewhere}
use Rattle.sg_machine.proofs.BufferLemmas.{within-some}

source-store : (w i s : ℕ) → store_in (three_sources w) i ≡ Some s → (s ≡ i) × (i < 3)
source-store w zero s p = let e : Some 0 ≡ Some s = p in let f : 0 ≡ s = cc in (sym f, omega arith)
source-store w (suc zero) s p = let e : Some 1 ≡ Some s = p in let f : 1 ≡ s = cc in (sym f, omega arith)
source-store w (suc (suc zero)) s p = let e : Some 2 ≡ Some s = p in let f : 2 ≡ s = cc in (sym f, omega arith)
source-store w (suc (suc (suc i))) s p = let wrong : None ≡ Some s = p in cc

dest-store : (f a b d s : ℕ) → buffer_store_in (three_dests f a b) d ≡ Some s → ((d ≡ 0) × (s ≡ 3)) ⊎ ((d ≡ 2) × (s ≡ 4))
dest-store f a b zero s p = let e : Some 3 ≡ Some s = p in let g : 3 ≡ s = cc in inl (refl, sym g)
dest-store f a b (suc zero) s p = let wrong : None ≡ Some s = p in cc
dest-store f a b (suc (suc zero)) s p = let e : Some 4 ≡ Some s = p in let g : 4 ≡ s = cc in inr (refl, sym g)
dest-store f a b (suc (suc (suc d))) s p = let wrong : None ≡ Some s = p in cc

below-five : (d s : ℕ) → ((d ≡ 0) × (s ≡ 3)) ⊎ ((d ≡ 2) × (s ≡ 4)) → s < 5
below-five d s (inl h) = omega (arith, h.1)
below-five d s (inr h) = omega (arith, h.1)

one-dest : (d e s : ℕ) → ((d ≡ 0) × (s ≡ 3)) ⊎ ((d ≡ 2) × (s ≡ 4)) → ((e ≡ 0) × (s ≡ 3)) ⊎ ((e ≡ 2) × (s ≡ 4)) → d ≡ e
one-dest d e s (inl h) (inl k) = omega (arith, h.0, k.0)
one-dest d e s (inl h) (inr k) = absurd (omega (arith, h.1, k.1))
one-dest d e s (inr h) (inl k) = absurd (omega (arith, h.1, k.1))
one-dest d e s (inr h) (inr k) = omega (arith, h.0, k.0)

not-both : (i d s : ℕ) → (s ≡ i) × (i < 3) → ((d ≡ 0) × (s ≡ 3)) ⊎ ((d ≡ 2) × (s ≡ 4)) → ⊥
not-both i d s h (inl k) = omega (arith, h.0, h.1, k.1)
not-both i d s h (inr k) = omega (arith, h.0, h.1, k.1)

pub tried-numbers : (w f a b : ℕ) → NumberStores (tried w f a b) 5
tried-numbers w f a b = record {
  positions = λ i s p. (let h = source-store w i s p in omega (arith, h.0, h.1));
  buffers = λ d s p. below-five d s (dest-store f a b d s p);
  inlets_apart = λ i j s p q. (let h = source-store w i s p in let k = source-store w j s q in omega (arith, h.0, k.0));
  dests_apart = λ d e s p q. one-dest d e s (dest-store f a b d s p) (dest-store f a b e s q);
  apart = λ i d s p q. not-both i d s (source-store w i s p) (dest-store f a b d s q);
}

pub tried-windows : (w : ℕ) → 0 < w → HaveWindows (three_sources w)
tried-windows w h = (h, (h, (h, tt)))

pub tried-capacities : (f a b : ℕ) → a ≤ 2 ^ 30 → b ≤ 2 ^ 30 → HaveCapacities (three_dests f a b)
tried-capacities f a b h k zero setup buffer get has =
    let e : Some (record { fifo = f; buffer = Some (record { store = 3; capacity = a }) }) ≡ Some setup = get in
    let is : record { fifo = f; buffer = Some (record { store = 3; capacity = a }) } ≡ setup = cc in
    within-some a (2 ^ 30) 3 buffer (ap (λ (x : DestSetup). x.buffer) is ∙ has) h
tried-capacities f a b h k (suc zero) setup buffer get has =
    let e : Some (record { fifo = f; buffer = None }) ≡ Some setup = get in
    let is : record { fifo = f; buffer = None } ≡ setup = cc in
    absurd (let wrong : None ≡ Some buffer = ap (λ (x : DestSetup). x.buffer) is ∙ has in cc)
tried-capacities f a b h k (suc (suc zero)) setup buffer get has =
    let e : Some (record { fifo = f; buffer = Some (record { store = 4; capacity = b }) }) ≡ Some setup = get in
    let is : record { fifo = f; buffer = Some (record { store = 4; capacity = b }) } ≡ setup = cc in
    within-some b (2 ^ 30) 4 buffer (ap (λ (x : DestSetup). x.buffer) is ∙ has) k
tried-capacities f a b h k (suc (suc (suc d))) setup buffer get has = absurd (let wrong : None ≡ Some setup = get in cc)

pub tried-stores : (w i : ℕ) → i < 3 → IsSome (store_in (three_sources w) i)
tried-stores w zero l = refl
tried-stores w (suc zero) l = refl
tried-stores w (suc (suc zero)) l = refl
tried-stores w (suc (suc (suc i))) l = absurd (omega (arith, l))

-- a core of such a setup has three sources and destinations, and the stores of the sources

length-setups : (xs : List Source) (s t u : SourceSetup) → map (λ (x : Source). x.setup) xs ≡ s ∷ t ∷ u ∷ [] → length xs ≡ 3
length-setups xs s t u h = sym (length-map xs (λ (x : Source). x.setup)) ∙ ap length h

length-sinks : (xs : List SinkState) (s t u : DestSetup) → map (λ (x : SinkState). x.setup) xs ≡ s ∷ t ∷ u ∷ [] → length xs ≡ 3
length-sinks xs s t u h = sym (length-map xs (λ (x : SinkState). x.setup)) ∙ ap length h

pub three-inlets : (core : CoreState) → IsTried core → length core.sources ≡ 3
three-inlets core h = length-setups core.sources _ _ _ (ap (λ (s : Setup). s.sources) h.1.1.1.1.0)

pub three-sinks : (core : CoreState) → IsTried core → length core.sinks ≡ 3
three-sinks core h = length-sinks core.sinks _ _ _ (ap (λ (s : Setup). s.dests) h.1.1.1.1.0)

store-of : (xs : List Source) (i : ℕ) → store_at xs i ≡ store_in (map (λ (x : Source). x.setup) xs) i
store-of [] i = refl
store-of (x ∷ xs) zero = refl
store-of (x ∷ xs) (suc i) = store-of xs i

pub some-store : (core : CoreState) (i : ℕ) → IsTried core → i < 3 → IsSome (store_at core.sources i)
some-store core i h below =
    let P : Option ℕ → Type 0 = λ o. IsSome o in
    let is : store_at core.sources i ≡ store_in (three_sources h.0) i = store-of core.sources i ∙ ap (λ (s : Setup). store_in s.sources i) h.1.1.1.1.0 in
    subst P (sym is) (tried-stores h.0 i below)

pub batch_of : (setup : Setup) (records : List Admission) → length setup.dests ≡ 3 → 0 < length records → length records ≤ 1000 → AllMayEnter 3 records → IsBatch setup records
batch_of setup records count some few each = record { some = some; few = few; each = subst (λ n. AllMayEnter n records) (sym count) each }

-- a core is at some state of the machine once it is opened, and behind each call

pub opened_somewhere : (setup : Setup) (disks : List DiskState) (core : CoreState) → IsOpen setup disks core → IsSomewhere core
opened_somewhere setup disks core h = (opened setup h.opening, h.stands.at)

pub goes_somewhere : (old new : CoreState) (act : Act) → DoesAct old new act → IsSomewhere old → IsSomewhere new
goes_somewhere old new act does h = (after_act h.0 act does.failed, (does.step h.0 h.1).1)

-- a source whose tally has no record has none

unbegun-from : (dests : List Dest) (k i : ℕ) (inlets : List InletRecords) (t : SourceTally) → slice_get (source_tallies dests k inlets) i ≡ Some t → t.records ≡ 0 → begun_in (sources_from dests k inlets) i ≡ 0
unbegun-from dests k zero [] t get none = refl
unbegun-from dests k (suc i) [] t get none = refl
unbegun-from dests k zero (inlet ∷ inlets) t get none =
    let e : Some (source_tally dests k inlet) ≡ Some t = get in
    let is : source_tally dests k inlet ≡ t = cc in
    ap (λ (x : SourceTally). x.records) is ∙ none
unbegun-from dests k (suc i) (inlet ∷ inlets) t get none = unbegun-from dests (k + 1) i inlets t get none

pub unbegun : (core : CoreState) (tally : Tally) (i : ℕ) (t : SourceTally) → IsSomewhere core → Tallies core tally → slice_get tally.sources i ≡ Some t → t.records ≡ 0 → begun_in core.sources i ≡ 0
unbegun core tally i t h tallies get none =
    let is : tally ≡ tally_of h.0 = tallies h.0 h.1 in
    let get' : slice_get (source_tallies h.0.dests 0 h.0.inlets) i ≡ Some t = ap (λ (x : Tally). slice_get x.sources i) (sym is) ∙ get in
    ap (λ (xs : List Source). begun_in xs i) h.1.sources ∙ unbegun-from h.0.dests 0 i h.0.inlets t get' none

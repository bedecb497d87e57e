use Rattle.std.proofs.Common.{arith, ◌≡◌, List, [], ◌∷◌, length, slice_get, ◌≤◌, ◌^◌, ℕ, refl, ap, zero, suc, sym, ◌∙◌, subst, Some, None}
use Rattle.sg_device.specs.Inlet.{InletState}
use Rattle.sg_counter.specs.Bringing.{store_in}
use Rattle.sg_actor.specs.declared.source.SourceActor.{SourceActor}
use Rattle.sg_turns.specs.Actors.{IsSource, AreSources}
use Rattle.sg_machine.specs.declared.setup.Setup.{Setup}
use Rattle.sg_list.proofs.ListLemmas.{some-same}
use Rattle.sg_machine.specs.declared.setup.BufferSetup.{BufferSetup}
use Rattle.sg_machine.specs.declared.setup.DestSetup.{DestSetup}
use Rattle.sg_core.specs.Opening.{NumberStores, HaveCapacities, buffer_store_in}
use Rattle.test_runs.specs.Runs.{meeting}

-- The stores of a source and a destination that meet.

one-store : (i s : ℕ) → store_in meeting.sources i ≡ Some s → (i ≡ 0) × (s ≡ 0)
one-store zero s e = let is = some-same 0 s e in (refl, sym is)
one-store (suc i) s e = absurd (let wrong : None ≡ Some s = e in cc)

one-buffer : (d s : ℕ) → buffer_store_in meeting.dests d ≡ Some s → (d ≡ 1) × (s ≡ 1)
one-buffer zero s e = absurd (let wrong : None ≡ Some s = e in cc)
one-buffer (suc zero) s e = let is = some-same 1 s e in (refl, sym is)
one-buffer (suc (suc d)) s e = absurd (let wrong : None ≡ Some s = e in cc)

numbers-meeting : NumberStores meeting 2
numbers-meeting = record {
  positions = λ i s e. (let h = one-store i s e in omega (arith, h.1));
  buffers = λ d s e. (let h = one-buffer d s e in omega (arith, h.1));
  inlets_apart = λ i j s e q. (one-store i s e).0 ∙ sym (one-store j s q).0;
  dests_apart = λ d e s h k. (one-buffer d s h).0 ∙ sym (one-buffer e s k).0;
  apart = λ i d s e q. (let h = one-store i s e in let k = one-buffer d s q in omega (arith, h.1, k.1));
}

pub meeting-numbers : (setup : Setup) (count : ℕ) → setup ≡ meeting → count ≡ 2 → NumberStores setup count
meeting-numbers setup count is two = subst (λ s. NumberStores s count) (sym is) (subst (λ n. NumberStores meeting n) (sym two) numbers-meeting)

small : (buffer : BufferSetup) → Some (record { store = 1; capacity = 1000 }) ≡ Some buffer → buffer.capacity ≤ 2 ^ 30
small buffer h =
    let is : record { store = 1; capacity = 1000 } ≡ buffer = cc in
    let e : 1000 ≡ buffer.capacity = ap (λ (x : BufferSetup). x.capacity) is in
    omega (arith, e)

capacities-meeting : HaveCapacities meeting.dests
capacities-meeting (suc zero) setup buffer get has =
    let e : Some (record { fifo = 100; buffer = Some (record { store = 1; capacity = 1000 }) }) ≡ Some setup = get in
    let is : record { fifo = 100; buffer = Some (record { store = 1; capacity = 1000 }) } ≡ setup = cc in
    small buffer (ap (λ (x : DestSetup). x.buffer) is ∙ has)
capacities-meeting zero setup buffer get has =
    let e : Some (record { fifo = 100; buffer = None }) ≡ Some setup = get in
    let is : record { fifo = 100; buffer = None } ≡ setup = cc in
    absurd (let wrong : None ≡ Some buffer = ap (λ (x : DestSetup). x.buffer) is ∙ has in cc)
capacities-meeting (suc (suc d)) setup buffer get has = absurd (let wrong : None ≡ Some setup = get in cc)

pub meeting-capacities : (setup : Setup) → setup ≡ meeting → HaveCapacities setup.dests
meeting-capacities setup is = subst (λ (s : Setup). HaveCapacities s.dests) (sym is) capacities-meeting

-- The list of one source.

pub one-source : {R I : Type 0} (state : I → InletState) (inlets dests : R → ℕ) (setup : Setup) (held : List (SourceActor R I)) (a : SourceActor R I)
    → length setup.sources ≡ 1 → IsSource state inlets dests setup 0 a → held ≡ a ∷ [] → AreSources state inlets dests setup held
one-source {R} {I} state inlets dests setup held a count is e =
    subst (AreSources state inlets dests setup) (sym e) (record { all = sym count; each = each })
  where
    each : (i : ℕ) (x : SourceActor R I) → slice_get (a ∷ []) i ≡ Some x → IsSource state inlets dests setup i x
    each zero x there = subst (IsSource state inlets dests setup 0) (some-same a x there) is
    each (suc i) x there = absurd (let wrong : None ≡ Some x = there in cc)

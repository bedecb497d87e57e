-- The core that is tried, and what it is asked.
use Rattle.std.proofs.Common.{◌≡◌, ℕ, ◌+◌, ◌<◌, ◌≤◌, ◌^◌, List, [], length, Some, None, IsSome, refl, sym, ap, ◌∙◌, arith, suc, zero, slice_get, subst}
use Rattle.sg_machine.specs.declared.event.Admission.{Admission}
use Rattle.sg_machine.specs.declared.setup.DestSetup.{DestSetup}
use Rattle.sg_machine.specs.declared.setup.Setup.{Setup}
use Rattle.sg_counter.specs.Bringing.{MayEnter, AllMayEnter, IsBatch, store_in}
use Rattle.sg_core.specs.Opening.{NumberStores, HaveWindows, HaveCapacities, buffer_store_in}
use Rattle.test_hub.specs.Cores.{tried, IsTriedSetup}
use Rattle.sg_machine.proofs.BufferLemmas.{within-some}

source-store : (w f c i s : ℕ) → store_in (tried w f c).sources i ≡ Some s → (s ≡ i) × (i < 2)
source-store w f c zero s p = let e : Some 0 ≡ Some s = p in let g : 0 ≡ s = cc in (sym g, omega arith)
source-store w f c (suc zero) s p = let e : Some 1 ≡ Some s = p in let g : 1 ≡ s = cc in (sym g, omega arith)
source-store w f c (suc (suc i)) s p = let wrong : None ≡ Some s = p in cc

dest-store : (w f c d s : ℕ) → buffer_store_in (tried w f c).dests d ≡ Some s → (d ≡ 1) × (s ≡ 2)
dest-store w f c zero s p = let wrong : None ≡ Some s = p in cc
dest-store w f c (suc zero) s p = let e : Some 2 ≡ Some s = p in let g : 2 ≡ s = cc in (refl, sym g)
dest-store w f c (suc (suc d)) s p = let wrong : None ≡ Some s = p in cc

pub tried-numbers : (w f c : ℕ) → NumberStores (tried w f c) 3
tried-numbers w f c = record {
  positions = λ i s p. (let h = source-store w f c i s p in omega (arith, h.0, h.1));
  buffers = λ d s p. (let h = dest-store w f c d s p in omega (arith, h.1));
  inlets_apart = λ i j s p q. (let h = source-store w f c i s p in let k = source-store w f c j s q in omega (arith, h.0, k.0));
  dests_apart = λ d e s p q. (let h = dest-store w f c d s p in let k = dest-store w f c e s q in omega (arith, h.0, k.0));
  apart = λ i d s p q. (let h = source-store w f c i s p in let k = dest-store w f c d s q in omega (arith, h.0, h.1, k.1));
}

pub tried-windows : (w f c : ℕ) → 0 < w → HaveWindows (tried w f c).sources
tried-windows w f c h = (h, (h, tt))

pub tried-capacities : (w f c : ℕ) → c ≤ 2 ^ 30 → HaveCapacities (tried w f c).dests
tried-capacities w f c h zero setup buffer get has =
    let e : Some (record { fifo = f; buffer = None }) ≡ Some setup = get in
    let is : record { fifo = f; buffer = None } ≡ setup = cc in
    absurd (let wrong : None ≡ Some buffer = ap (λ (x : DestSetup). x.buffer) is ∙ has in cc)
tried-capacities w f c h (suc zero) setup buffer get has =
    let e : Some (record { fifo = f; buffer = Some (record { store = 2; capacity = c }) }) ≡ Some setup = get in
    let is : record { fifo = f; buffer = Some (record { store = 2; capacity = c }) } ≡ setup = cc in
    within-some c (2 ^ 30) 2 buffer (ap (λ (x : DestSetup). x.buffer) is ∙ has) h
tried-capacities w f c h (suc (suc d)) setup buffer get has = absurd (let wrong : None ≡ Some setup = get in cc)

tried-stores : (w f c i : ℕ) → i < 2 → IsSome (store_in (tried w f c).sources i)
tried-stores w f c zero l = refl
tried-stores w f c (suc zero) l = refl
tried-stores w f c (suc (suc i)) l = absurd (omega (arith, l))

pub is-tried : (w f c : ℕ) → IsTriedSetup (tried w f c)
is-tried w f c = record { sources = refl; dests = refl; stores = tried-stores w f c }

pub tried-as : (setup : Setup) (w f c : ℕ) → setup ≡ tried w f c → IsTriedSetup setup
tried-as setup w f c e = subst IsTriedSetup (sym e) (is-tried w f c)

pub batch_of : (setup : Setup) (records : List Admission) → IsTriedSetup setup → 0 < length records → length records ≤ 1000 → AllMayEnter 2 records → IsBatch setup records
batch_of setup records h some few each = record { some = some; few = few; each = subst (λ n. AllMayEnter n records) (sym h.dests) each }

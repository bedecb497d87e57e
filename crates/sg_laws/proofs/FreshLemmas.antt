-- New stores are covered by nothing.
use Rattle.std.proofs.Common.{◌≡◌, ℕ, suc, zero, ◌+◌, ◌<◌, List, [], length, map, replicate, Some, None, Option, refl, sym, ap, ◌∙◌, arith, slice_get}
use Rattle.std.specs.Prelude.{option_and_then}
use Rattle.std.specs.Option.{option_map_or}
use Rattle.sg_device.proofs.Parts.{zeros_at}
use Rattle.sg_msg.specs.declared.offer.Offer.{Offer}
use Rattle.sg_frame.specs.Records.{Record}
use Rattle.sg_stable.specs.Cell.{word, cell_value}
use Rattle.sg_buffer.specs.Entries.{IsListOf}
use Rattle.sg_machine.specs.declared.setup.BufferSetup.{BufferSetup}
use Rattle.sg_machine.specs.declared.setup.DestSetup.{DestSetup}
use Rattle.sg_machine.specs.declared.setup.Setup.{Setup}
use Rattle.sg_machine.specs.declared.setup.SourceSetup.{SourceSetup}
use Rattle.sg_machine.specs.Runs.{BufferedEntry}
use Rattle.sg_stores.specs.Stores.{coded}
use Rattle.sg_standing.specs.Images.{position_in}
use Rattle.sg_core.specs.Opening.{NumberStores, buffer_store_in}
use Rattle.sg_laws.proofs.PreludeLemmas.{get-back}
use Rattle.sg_laws.specs.Adding.{offers_in, AreFresh}
use Rattle.sg_laws.proofs.RangeLemmas.{AreInRange}
use Rattle.sg_laws.proofs.StopLemmas.{fresh-covered}
use Rattle.sg_laws.specs.Happened.{AreListsBy, held_by, files_of}
use Rattle.sg_laws.specs.Fresh.{new_stores, NewAreCovered}
use Rattle.sg_laws.proofs.CleanLemmas.{ListsAreOne, listed-none, no-coded, some-of}
use Rattle.sg_laws.proofs.RunLemmas.{files-rise}

new_value : cell_value (replicate 128 0) ≡ 0
unfolding word
new_value = refl

from-none : (v : ℕ) → v ≡ 0 → 64 + v ≡ 64
from-none v h = omega (arith, h)

-- a new disk-buffer has no entry
new-list : IsListOf [] (replicate 128 0)
new-list = record {
  payloads = [];
  list = record {
    jump = None;
    head = 64;
    end = 64;
    laid = record {
      buffer = record { size = omega arith; zeros = λ k low out. zeros_at 128 k; at_head = from-none (cell_value (replicate 128 0)) new_value; inside = omega arith };
      row = refl;
      ends = record { inside = omega arith; shut = zeros_at 128 64 };
      below = tt;
    };
  };
  stored = tt;
}

get-same : (n k : ℕ) (x : List ℕ) → k < n → slice_get (replicate n x) k ≡ Some x
get-same zero k x l = absurd (omega (arith, l))
get-same (suc n) zero x l = refl
get-same (suc n) (suc k) x l = get-same n k x (omega (arith, l))

value-new : (n s : ℕ) → option_map_or cell_value (slice_get (replicate n (replicate 128 0)) s) 0 ≡ 0
value-new zero s = refl
value-new (suc n) zero = new_value
value-new (suc n) (suc s) = value-new n s

position-new : (n : ℕ) (o : Option ℕ) → position_in (replicate n (replicate 128 0)) o ≡ 0
position-new n None = refl
position-new n (Some s) = value-new n s

position-here : (setup : Setup) (n : ℕ) (lists : List (List BufferedEntry)) (i position : ℕ) → slice_get (held_by setup (replicate n (replicate 128 0)) lists).positions i ≡ Some position → position ≡ 0
position-here setup n lists i position at =
    let x = get-back (λ (source : SourceSetup). position_in (replicate n (replicate 128 0)) source.store) setup.sources i position at in
    sym x.1.1 ∙ position-new n (x.0).store

pub new-range : (setup : Setup) (n : ℕ) (lists : List (List BufferedEntry)) → AreInRange setup (held_by setup (replicate n (replicate 128 0)) lists)
new-range setup n lists i position file at = let none = position-here setup n lists i position at in omega (arith, none)

pub new-fresh : ListsAreOne → (setup : Setup) (n : ℕ) (lists : List (List BufferedEntry)) → NumberStores setup n → AreListsBy setup.dests (replicate n (replicate 128 0)) lists → AreFresh setup (held_by setup (replicate n (replicate 128 0)) lists)
new-fresh one setup n lists numbers are =
    record {
      positions = λ i position at. position-here setup n lists i position at;
      lists = λ d. listed-none (slice_get setup.dests d) (slice_get lists d)
          (λ s list here there buffer.
          let b = some-of s.buffer buffer in
          let F : Option BufferSetup → Option ℕ = λ o. option_map_or (λ (y : BufferSetup). Some y.store) o None in
          let place : buffer_store_in setup.dests d ≡ Some (b.0).store = ap (λ (x : Option DestSetup). option_and_then (λ (y : DestSetup). F y.buffer) x) here ∙ ap F b.1 in
          let low = numbers.buffers d (b.0).store place in
          let stands = are.each d s b.0 list (replicate 128 0) here b.1 there (get-same n (b.0).store (replicate 128 0) low) in
          no-coded list (one (map coded list) [] (replicate 128 0) stands new-list));
    }

pub new-covered : {R : Type 0} (offers : R → ℕ → Record → List Offer → Type 0) → ListsAreOne → NewAreCovered offers
new-covered offers one plan by bytes places lists can are =
    let n = length plan.stores.items in
    fresh-covered plan.setup (offers_in offers by) (files_of plan.inlets.items bytes) places (held_by plan.setup (new_stores plan) lists)
    (λ i. files-rise plan.inlets.items bytes i (slice_get plan.inlets.items i) refl can.fetches) (new-fresh one plan.setup n lists can.numbers are)

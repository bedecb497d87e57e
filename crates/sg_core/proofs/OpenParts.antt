-- The parts of a core at its opening.
use Rattle.std.proofs.Common.{◌≡◌, ℕ, zero, suc, ◌+◌, ◌<◌, List, [], ◌∷◌, length, drop, replicate, slice_get, slice_index_or, Some, None, Option, refl, sym, ap, ◌∙◌, arith}
use Rattle.std.specs.Option.{option_map}
use Rattle.std.proofs.lemmas.List.{drop_all}
use Rattle.sg_list.proofs.ListLemmas.{drop-get, some-same}
use Rattle.sg_buffer.specs.declared.found.BufferEntries.{BufferEntries}
use Rattle.sg_buffer.specs.declared.found.EntryHead.{EntryHead}
use Rattle.sg_machine.specs.declared.setup.BufferSetup.{BufferSetup}
use Rattle.sg_machine.specs.declared.setup.SourceSetup.{SourceSetup}
use Rattle.sg_machine.specs.declared.setup.DestSetup.{DestSetup}
use Rattle.sg_sinks.specs.Fitting.{space}
use Rattle.sg_sinks.specs.States.{SinkState, recovered}
use Rattle.sg_stores.specs.Stores.{StoreState}
use Rattle.sg_stores.specs.Positions.{IsStoreThere}
use Rattle.sg_stores.specs.declared.kind.StoreKind.{StoreKind}
use Rattle.sg_stores.specs.declared.kind.StoreKind.TheVariants.{Position}
use Rattle.sg_core.specs.Opening.{HaveWindows, AreThere, HaveStores, kind_by, kind_of, recovers, lengths_in, CanRecover, AreRecoverable}
use Rattle.sg_sinks.proofs.SpaceLemmas.{space_push}

pub get-at : {A : Type 0} (xs : List A) (k : ℕ) (d : A) → k < length xs → slice_get xs k ≡ Some (slice_index_or xs k d)
get-at [] k d l = absurd (omega (arith, l))
get-at (x ∷ xs) zero d l = refl
get-at (x ∷ xs) (suc k) d l = get-at xs k d (omega (arith, l))

pub drop-at : {A : Type 0} (xs : List A) (k : ℕ) (d : A) → k < length xs → drop k xs ≡ slice_index_or xs k d ∷ drop (k + 1) xs
drop-at xs k d l = drop-get xs k (slice_index_or xs k d) (get-at xs k d l)

pub window-at : (ss : List SourceSetup) (k : ℕ) (d : SourceSetup) → HaveWindows ss → k < length ss → 0 < (slice_index_or ss k d).window
window-at [] k d h l = absurd (omega (arith, l))
window-at (s ∷ ss) zero d h l = h.0
window-at (s ∷ ss) (suc k) d h l = window-at ss k d h.1 (omega (arith, l))

pub store-at : (stores : List StoreState) (ss : List SourceSetup) (k : ℕ) (d : SourceSetup) → AreThere stores ss → k < length ss → IsStoreThere stores (slice_index_or ss k d).store
store-at stores [] k d h l = absurd (omega (arith, l))
store-at stores (s ∷ ss) zero d h l = h.0
store-at stores (s ∷ ss) (suc k) d h l = store-at stores ss k d h.1 (omega (arith, l))

pub recoverable-at : (founds : List BufferEntries) (ss : List DestSetup) (k : ℕ) (d : DestSetup) → AreRecoverable founds ss → k < length ss → CanRecover founds (slice_index_or ss k d).buffer
recoverable-at founds [] k d h l = absurd (omega (arith, l))
recoverable-at founds (s ∷ ss) zero d h l = h.0
recoverable-at founds (s ∷ ss) (suc k) d h l = recoverable-at founds ss k d h.1 (omega (arith, l))

-- one more entry
pub recovers-more : (heads : List EntryHead) (k : ℕ) (d : EntryHead) (sink : SinkState) → k < length heads
    → recovers (recovered (slice_index_or heads k d).length sink) (drop (k + 1) heads) ≡ recovers sink (drop k heads)
recovers-more heads k d sink l = ap (recovers sink) (sym (drop-at heads k d l))

pub space-more : (heads : List EntryHead) (k : ℕ) (d : EntryHead) (sink : SinkState) → k < length heads
    → space (recovered (slice_index_or heads k d).length sink).lengths + space (lengths_in (drop (k + 1) heads)) ≡ space sink.lengths + space (lengths_in (drop k heads))
space-more heads k d sink l =
    let parts : space (lengths_in (drop k heads)) ≡ 5 + (slice_index_or heads k d).length + space (lengths_in (drop (k + 1) heads)) = ap (λ hs. space (lengths_in hs)) (drop-at heads k d l) in
    let more = space_push sink.lengths (slice_index_or heads k d).length in
    omega (arith, parts, more)

-- Kinds.

pub kinds-none : (kinds : List StoreKind) (dests : List DestSetup) (d : ℕ) (x : DestSetup) → d < length dests → (slice_index_or dests d x).buffer ≡ None
    → ((s : ℕ) (kind : StoreKind) → slice_get kinds s ≡ Some kind → kind ≡ kind_of (drop (d + 1) dests) s) → (s : ℕ) (kind : StoreKind) → slice_get kinds s ≡ Some kind → kind ≡ kind_of (drop d dests) s
kinds-none kinds dests d x l none each s kind h =
    each s kind h ∙ ap (λ b. kind_by b s (kind_of (drop (d + 1) dests) s)) (sym none) ∙ ap (λ ds. kind_of ds s) (sym (drop-at dests d x l))

mapped : (f : StoreKind → StoreKind) (o : Option StoreKind) (kind : StoreKind) → option_map f o ≡ Some kind → (old : StoreKind) × (o ≡ Some old) × (kind ≡ f old)
mapped f None kind h = absurd (let no : None ≡ Some kind = h in cc)
mapped f (Some old) kind h = (old, refl, (let same : Some (f old) ≡ Some kind = h in cc))

pub kinds-some : (olds news : List StoreKind) (dests : List DestSetup) (d : ℕ) (x : DestSetup) (buffer : BufferSetup) → d < length dests → (slice_index_or dests d x).buffer ≡ Some buffer
    → ((s : ℕ) → slice_get news s ≡ option_map (kind_by (Some buffer) s) (slice_get olds s))
    → ((s : ℕ) (kind : StoreKind) → slice_get olds s ≡ Some kind → kind ≡ kind_of (drop (d + 1) dests) s) → (s : ℕ) (kind : StoreKind) → slice_get news s ≡ Some kind → kind ≡ kind_of (drop d dests) s
kinds-some olds news dests d x buffer l some sets each s kind h =
    let old = mapped (kind_by (Some buffer) s) (slice_get olds s) kind (sym (sets s) ∙ h) in
    old.2 ∙ ap (kind_by (Some buffer) s) (each s old.0 old.1) ∙ ap (λ b. kind_by b s (kind_of (drop (d + 1) dests) s)) (sym some) ∙ ap (λ ds. kind_of ds s) (sym (drop-at dests d x l))

-- the store of a destination is among so many
pub store-below : (dests : List DestSetup) (count d : ℕ) (x : DestSetup) (buffer : BufferSetup) → HaveStores dests count → d < length dests → (slice_index_or dests d x).buffer ≡ Some buffer → buffer.store < count
store-below dests count d x buffer have l some = have d buffer.store (rw (get-at dests d x l, some) refl)

none-kinds : (n s : ℕ) (kind : StoreKind) → slice_get (replicate n Position) s ≡ Some kind → kind ≡ Position
none-kinds zero s kind h = absurd (let no : None ≡ Some kind = h in cc)
none-kinds (suc n) zero kind h = sym (some-same Position kind h)
none-kinds (suc n) (suc s) kind h = none-kinds n s kind h

-- before the first disk-buffer
pub kinds-begin : (kinds : List StoreKind) (count : ℕ) (dests : List DestSetup) → kinds ≡ replicate count Position → (s : ℕ) (kind : StoreKind) → slice_get kinds s ≡ Some kind → kind ≡ kind_of (drop (length dests) dests) s
kinds-begin kinds count dests is s kind h =
    none-kinds count s kind (ap (λ ks. slice_get ks s) (sym is) ∙ h) ∙ ap (λ ds. kind_of ds s) (sym (drop_all (length dests) dests (omega arith)))

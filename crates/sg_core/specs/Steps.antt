-- What calls make of the stores of disk-buffers.
use Rattle.std.specs.Prelude.{◌≡◌, ◌<◌, ◌⊎◌, ℕ, Bool, true, false, not, Option, Some, None, List, [], ◌∷◌, ◌++◌, length, slice_get}
use Rattle.sg_list.specs.Lists.{change}
use Rattle.sg_machine.specs.declared.setup.BufferSetup.{BufferSetup}
use Rattle.sg_machine.specs.Runs.{BufferedEntry}
use Rattle.sg_stores.specs.Advancing.{CanAdvance, AdvancesAt}
use Rattle.sg_stores.specs.Appending.{IsNextPayload, IsAppended}
use Rattle.sg_stores.specs.Stores.{StoreState, StoreGoesOn}

-- Settles.

-- where there is a disk-buffer whose store works, the first n entries on it can be taken off
abbrev pub CanTakeOff : List StoreState → Option BufferSetup → Bool → ℕ → ℕ → Type 0
CanTakeOff stores None broken n size = Unit {0}
CanTakeOff stores (Some buffer) broken n size = broken ≡ false → 0 < n
    → CanAdvance (slice_get stores buffer.store) n size

-- none to take off, or they are taken off where no call fails
abbrev pub Advancing : List StoreState → List StoreState → ℕ → ℕ → ℕ → Bool → Type 0
Advancing olds news s n size works = ((n ≡ 0) × (news ≡ olds) × (works ≡ true))
    ⊎ ((0 < n) × AdvancesAt olds news s n size works)

-- without a disk-buffer there is nothing to do, and nothing where its store has failed
abbrev pub TakesOff : List StoreState → List StoreState → Option BufferSetup → Bool → ℕ → ℕ → Bool
    → Type 0
TakesOff olds news None broken n size works = (news ≡ olds) × (works ≡ true)
TakesOff olds news (Some buffer) true n size works = (news ≡ olds) × (works ≡ false)
TakesOff olds news (Some buffer) false n size works = Advancing olds news buffer.store n size works

-- Appends.

-- these blocks spell these entries, each of which fits behind those before
abbrev pub AreNext : StoreState → List BufferedEntry → List (Option (List ℕ)) → List BufferedEntry
    → Type 0
AreNext start tried blocks [] = Unit {0}
AreNext start tried [] (k ∷ ks) = ⊥
AreNext start tried (None ∷ blocks) (k ∷ ks) = ⊥
AreNext start tried (Some payload ∷ blocks) (k ∷ ks) = IsNextPayload start tried payload k
    × AreNext start (tried ++ k ∷ []) blocks ks

-- the first n blocks are appended in one commit; the other stores stay as they are
pub record AppendsAt (olds news : List StoreState) (s : ℕ) (blocks : List (Option (List ℕ))) (n : ℕ)
    (answer : Bool) : Type 0 where
  pub old : StoreState
  pub new : StoreState
  pub was : slice_get olds s ≡ Some old
  pub others : news ≡ change olds s (λ _. new)
  pub works : answer ≡ not new.failed
  pub goes : StoreGoesOn old new
  pub appends : (ks : List BufferedEntry) → length ks ≡ n → old.failed ≡ false
      → AreNext old [] blocks ks
      → IsAppended old new ks

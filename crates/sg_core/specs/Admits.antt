-- What an admit makes of the stores of disk-buffers.
use Rattle.std.specs.Prelude.{◌≡◌, ◌≢◌, ◌<◌, ℕ, ◌==◌, Bool, true, false, ◌&&◌, not, if◌then◌else◌, Option, Some, None, List, [], ◌∷◌, length, slice_get}
use Rattle.std.specs.Option.{option_map_or}
use Rattle.std.specs.List.{list_any}
use Rattle.sg_machine.specs.declared.setup.BufferSetup.{BufferSetup}
use Rattle.sg_machine.specs.Runs.{BufferedEntry}
use Rattle.sg_stores.specs.Appending.{IsAppending, IsAppended, StagesAt, CommitsStore, CommitsAt}
use Rattle.sg_stores.specs.Stores.{StoreState, StoreGoesOn, AllGo}
use Rattle.sg_offers.specs.declared.batch.Payload.{Payload}
use Rattle.sg_offers.specs.Payloads.{buffer_at}
use Rattle.sg_offers.specs.Answering.{fails_at}
use Rattle.sg_core.specs.Steps.{AreNext}

-- the store of each disk-buffer is there
abbrev pub HaveStores : List (Option BufferSetup) → ℕ → Type 0
HaveStores buffers count = (d : ℕ) (buffer : BufferSetup) → buffer_at buffers d ≡ Some buffer
    → buffer.store < count

-- no store is that of two
abbrev pub AreApartBuffers : List (Option BufferSetup) → Type 0
AreApartBuffers buffers = (d e : ℕ) (a b : BufferSetup) → buffer_at buffers d ≡ Some a
    → buffer_at buffers e ≡ Some b → a.store ≡ b.store → d ≡ e

-- a payload that the disk-buffer with that store takes
abbrev pub is_for : List (Option BufferSetup) → ℕ → Payload → Bool
is_for buffers s p = p.taken
    && option_map_or (λ (buffer : BufferSetup). buffer.store == s) (buffer_at buffers p.dest) false

-- their blocks, in order
abbrev pub blocks_for : List (Option BufferSetup) → ℕ → List Payload → List (Option (List ℕ))
blocks_for buffers s [] = []
blocks_for buffers s (p ∷ ps) =
    if is_for buffers s p then p.block ∷ blocks_for buffers s ps else blocks_for buffers s ps

-- one is taken at d
abbrev pub is_staged : ℕ → List Payload → Bool
is_staged d payloads = list_any (λ (p : Payload). p.taken && (p.dest == d)) payloads

-- one payload is staged at the store of its destination's disk-buffer, where there is one
abbrev pub StagesBy : List StoreState → List StoreState → Option BufferSetup → Option (List ℕ)
    → Type 0
StagesBy olds news None block = news ≡ olds
StagesBy olds news (Some buffer) None = news ≡ olds
StagesBy olds news (Some buffer) (Some payload) = (works : Bool)
    × StagesAt olds news buffer.store payload works

abbrev pub StagesFor : List StoreState → List StoreState → List (Option BufferSetup) → Payload
    → Type 0
StagesFor olds news buffers p = StagesBy olds news (buffer_at buffers p.dest) p.block

-- the store of a disk-buffer commits, where there is one, and fails or not
abbrev pub CommitsBy : List StoreState → List StoreState → Option BufferSetup → Bool → Type 0
CommitsBy olds news None fails = (news ≡ olds) × (fails ≡ false)
CommitsBy olds news (Some buffer) fails = CommitsAt olds news buffer.store (not fails)

abbrev pub CommitsFor : List StoreState → List StoreState → List (Option BufferSetup) → ℕ → Bool
    → Type 0
CommitsFor olds news buffers d fails = CommitsBy olds news (buffer_at buffers d) fails

-- these blocks are staged; a store for which there is none stays, and one that has failed before
pub record Staged (old new : StoreState) (blocks : List (Option (List ℕ))) : Type 0 where
  pub goes : StoreGoesOn old new
  pub none : blocks ≡ [] → new ≡ old
  pub before : old.failed ≡ true → new ≡ old
  pub appends : (ks : List BufferedEntry) → length ks ≡ length blocks → old.failed ≡ false
      → AreNext old [] blocks ks → IsAppending old new ks

pub record StagedAll (olds news : List StoreState) (buffers : List (Option BufferSetup))
    (payloads : List Payload) : Type 0 where
  pub count : length news ≡ length olds
  pub each : (s : ℕ) (old new : StoreState) → slice_get olds s ≡ Some old
      → slice_get news s ≡ Some new → Staged old new (blocks_for buffers s payloads)

-- where something is staged it is committed, and else the store stays; whether it fails then
pub record Committed (old new : StoreState) (staged fails : Bool) : Type 0 where
  pub commits : staged ≡ true → CommitsStore old new
  pub stays : staged ≡ false → new ≡ old
  pub failed : fails ≡ (staged && new.failed)

-- of all disk-buffers; other stores stay, and a destination without one doesn't fail
pub record CommittedAll (olds news : List StoreState) (buffers : List (Option BufferSetup))
    (staged fails : List Bool) : Type 0 where
  pub count : length news ≡ length olds
  pub goes : (s : ℕ) (old new : StoreState) → slice_get olds s ≡ Some old
      → slice_get news s ≡ Some new → StoreGoesOn old new
  pub each : (d : ℕ) (buffer : BufferSetup) (old new : StoreState)
      → buffer_at buffers d ≡ Some buffer → slice_get olds buffer.store ≡ Some old
      → slice_get news buffer.store ≡ Some new
      → Committed old new (fails_at staged d) (fails_at fails d)
  pub others : (s : ℕ)
      → ((d : ℕ) (buffer : BufferSetup) → buffer_at buffers d ≡ Some buffer → buffer.store ≢ s)
      → slice_get news s ≡ slice_get olds s
  pub unbacked : (d : ℕ) → buffer_at buffers d ≡ None → fails_at fails d ≡ false

-- the blocks are appended in one commit; where there are any, whether the store fails
pub record AppendedBlocks (old new : StoreState) (blocks : List (Option (List ℕ)))
    (fails : Bool) : Type 0 where
  pub goes : StoreGoesOn old new
  pub none : blocks ≡ [] → new ≡ old
  pub before : old.failed ≡ true → new ≡ old
  pub some : blocks ≢ [] → fails ≡ new.failed
  pub quiet : blocks ≡ [] → fails ≡ false
  pub appends : (ks : List BufferedEntry) → length ks ≡ length blocks → blocks ≢ []
      → old.failed ≡ false
      → AreNext old [] blocks ks → IsAppended old new ks

pub record AppendedAll (olds news : List StoreState) (buffers : List (Option BufferSetup))
    (payloads : List Payload) (fails : List Bool) : Type 0 where
  pub all_go : AllGo olds news
  pub each : (d : ℕ) (buffer : BufferSetup) (old new : StoreState)
      → buffer_at buffers d ≡ Some buffer → slice_get olds buffer.store ≡ Some old
      → slice_get news buffer.store ≡ Some new
      → AppendedBlocks old new (blocks_for buffers buffer.store payloads) (fails_at fails d)
  pub others : (s : ℕ)
      → ((d : ℕ) (buffer : BufferSetup) → buffer_at buffers d ≡ Some buffer → buffer.store ≢ s)
      → slice_get news s ≡ slice_get olds s
  pub unbacked : (d : ℕ) → buffer_at buffers d ≡ None → fails_at fails d ≡ false

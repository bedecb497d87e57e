-- The sources that begin anew before the rounds: those whose inlets give from place 0 though another position is stored.
use Rattle.std.specs.Prelude.{◌≡◌, ◌≤◌, ℕ, ◌+◌, zero, suc, Bool, true, false, Some, List, [], ◌∷◌, ◌++◌, length, map, slice_get}
use Rattle.sg_device.specs.Faults.{Rose}
use Rattle.sg_device.specs.Inlet.{InletState}
use Rattle.sg_machine.specs.declared.event.Act.TheVariants.{Rewind, Look}
use Rattle.sg_machine.specs.declared.event.Event.{Event}
use Rattle.sg_machine.specs.declared.setup.Setup.{Setup}
use Rattle.sg_machine.specs.declared.setup.SourceSetup.{SourceSetup}
use Rattle.sg_machine.specs.Runs.{Opening, opened}
use Rattle.sg_counter.specs.Bringing.{store_in}
use Rattle.sg_counter.specs.declared.answers.Stored.TheVariants.{Wrote, Broken}
use Rattle.sg_stores.specs.Stores.{StoreState, AllGo}
use Rattle.sg_stores.specs.Positions.{stored_in, WritesAt}
use Rattle.sg_standing.specs.Sources.{store_at, begun_in}
use Rattle.sg_standing.specs.States.{CoreState, setup_of}
use Rattle.sg_standing.specs.Standing.{StandsFor, DoesAct, KeepsRows}

-- the stored position of a source, 0 where it has no store
abbrev pub position_at : CoreState → ℕ → ℕ
position_at core i = stored_in core.stores (store_at core.sources i)

-- a source begins anew where its inlet gives from place 0 and another position is stored
abbrev pub rewinds_at : (i position place : ℕ) → List Event
rewinds_at i zero place = []
rewinds_at i (suc position) (suc place) = []
rewinds_at i (suc position) zero = (record { act = Rewind i; failed = [] }) ∷ []

-- the same of inlets that give from these places, one after another from this number on
abbrev pub rewinds_from : (ℕ → ℕ) → ℕ → List ℕ → List Event
rewinds_from positions i [] = []
rewinds_from positions i (place ∷ places) = rewinds_at i (positions i) place
    ++ rewinds_from positions (i + 1) places

-- the places of inlets
abbrev pub places_of : List InletState → List ℕ
places_of feeds = map (λ (feed : InletState). feed.place) feeds

-- no two sources have one store
abbrev pub AreApartIn : List SourceSetup → Type 0
AreApartIn setups = (i j s : ℕ) → store_in setups i ≡ Some s → store_in setups j ≡ Some s → i ≡ j

-- One source.

pub record BeginsAnew (old new : CoreState) (i : ℕ) : Type 0 where
  pub does : DoesAct old new (Rewind i)
  pub store : ℕ
  pub has : store_at old.sources i ≡ Some store
  pub written : ℕ
  pub writes : WritesAt old.stores new.stores store 0 (Wrote written)

-- its store fails, and it begins where it was
pub record FailsAnew (old new : CoreState) (i : ℕ) : Type 0 where
  pub does : DoesAct old new Look
  pub store : ℕ
  pub has : store_at old.sources i ≡ Some store
  pub writes : WritesAt old.stores new.stores store 0 Broken

abbrev pub BeginsSource : CoreState → CoreState → (i position place : ℕ) → Bool → Type 0
BeginsSource old new i zero place begun = (new ≡ old) × (begun ≡ true)
BeginsSource old new i (suc position) (suc place) begun = (new ≡ old) × (begun ≡ true)
BeginsSource old new i (suc position) zero true = BeginsAnew old new i
BeginsSource old new i (suc position) zero false = FailsAnew old new i

-- All of them.

-- What the events before the rounds leave of a core that was opened.
pub record HasBegun (first now : CoreState) (events : List Event) : Type 0 where
  pub stands : (setup : Setup) (opening : Opening) → StandsFor first (opened setup opening) []
      → StandsFor now (opened setup opening) events
  -- the first row of its timetable stays
  pub rows : (setup : Setup) (opening : Opening) (stood : StandsFor first (opened setup opening) [])
      → KeepsRows 0 stood.moments.rows (stands setup opening stood).moments.rows
  pub goes : AllGo first.stores now.stores
  pub setup : setup_of now ≡ setup_of first
  pub calls : now.calls ≡ first.calls + length events
  pub still : events ≡ [] → now ≡ first

-- Behind these rewinds the store of that number failed, as the next source was to begin anew.
pub record FailsBehind (first now : CoreState) (places : List ℕ) (s : ℕ) : Type 0 where
  pub failed : List ℕ
  pub begun : HasBegun first now
      (rewinds_from (position_at first) 0 places ++ (record { act = Look; failed = failed }) ∷ [])
  pub rose : (old new : StoreState) → slice_get first.stores s ≡ Some old
      → slice_get now.stores s ≡ Some new → Rose old.disk.faults new.disk.faults

abbrev pub AllWork : List StoreState → Type 0
AllWork stores = (s : ℕ) (store : StoreState) → slice_get stores s ≡ Some store
    → store.failed ≡ false

-- The sources from this number on are as they were, none has records, and no store has failed.
pub record AwaitsFrom (first now : CoreState) (n : ℕ) : Type 0 where
  pub positions : (i : ℕ) → n ≤ i → position_at now i ≡ position_at first i
  pub unbegun : (i : ℕ) → begun_in now.sources i ≡ 0
  pub works : AllWork now.stores

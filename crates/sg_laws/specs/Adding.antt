-- What runs one after another come to, each of which was stopped at any moment.
use Rattle.std.specs.Prelude.{◌≡◌, ◌⊎◌, ◌≤◌, ℕ, Some, List, [], ◌∷◌, ◌++◌, slice_get, slice_index_or, Contains}
use Rattle.sg_msg.specs.declared.offer.Offer.{Offer}
use Rattle.sg_machine.specs.declared.setup.Setup.{Setup}
use Rattle.sg_machine.specs.Runs.{BufferedEntry}
use Rattle.sg_machine.specs.Safe.{Images}
use Rattle.sg_frame.specs.Records.{Record}
use Rattle.sg_route.specs.Offers.{record_at}
use Rattle.sg_laws.specs.Pieces.{Piece, Rise}
use Rattle.sg_laws.specs.Covered.{Pass, Delivery, Offers, IsFile, IsPassed, taking_of, as_given, as_stored, list_at, Covered}
use Rattle.sg_laws.specs.Passes.{Stopped, taken_in, IsStoppedRun}

-- what the log statements may give for a pass: the offers of the router of its inlet
abbrev pub offers_in : {R : Type 0} → (R → ℕ → Record → List Offer → Type 0) → List R → Offers
offers_in {R} offers routers pass given = (router : R) × (
    (slice_get routers pass.inlet ≡ Some router)
    × offers router pass.inlet (record_at pass.peer pass.text pass.at) given)

-- files only grow
abbrev pub Grow : (ℕ → List Piece) → (ℕ → List Piece) → Type 0
Grow old new = (i : ℕ) → (more : List Piece) × (new i ≡ old i ++ more)

-- One run.

-- Where what stood in the stores was covered, what is left in them is, with what the run took and the passes of what came in.
abbrev pub OneRunCovers : Offers → Type 0
OneRunCovers offers =
    (setup : Setup) (files : ℕ → List Piece) (taken : List Delivery) (passes : List Pass)
    (old : ℕ → ℕ) (before : Images) (run : Stopped)
    → Covered setup offers files taken passes old before → Grow files run.files
    → IsStoppedRun setup offers before run → Covered setup offers run.files
    (taken ++ taken_in setup run) (passes ++ run.passes) old run.images

-- All runs.

-- each run begins with what the one before it left, over files that have only grown
abbrev pub Follow : Setup → Offers → (ℕ → List Piece) → Images → List Stopped → Type 0
Follow setup offers files images [] = Unit {0}
Follow setup offers files images (run ∷ runs) = Grow files run.files
    × IsStoppedRun setup offers images run × Follow setup offers run.files run.images runs

abbrev pub all_taken : Setup → List Stopped → List Delivery
all_taken setup [] = []
all_taken setup (run ∷ runs) = taken_in setup run ++ all_taken setup runs

abbrev pub all_passes : List Stopped → List Pass
all_passes [] = []
all_passes (run ∷ runs) = run.passes ++ all_passes runs

-- the positions in images
abbrev pub position_in : Images → ℕ → ℕ
position_in images i = slice_index_or images.positions i 0

-- A run ends clean: no entry is left in a disk-buffer, and each position is behind the last item of its file.
pub record EndsClean (setup : Setup) (files : ℕ → List Piece) (images : Images) : Type 0 where
  pub lists : (d : ℕ) → list_at setup images d ≡ []
  pub positions : (i position : ℕ) (piece : Piece) → IsFile setup i
      → slice_get images.positions i ≡ Some position → Contains (files i) piece
      → piece.end ≤ position

-- the offer was taken, or, of a record that ends at or below this place, its stored form
abbrev pub IsTaken : List Delivery → (old : ℕ) → Pass → Offer → Type 0
IsTaken taken old pass offer = Contains taken (taking_of offer)
    ⊎ ((pass.end ≤ old) × Contains taken (taking_of (as_stored offer)))

-- what was taken is an offer of a pass, in this form
pub record IsTakingOf (form : Offer → Offer) (offers : Offers) (passes : List Pass)
    (taken : Delivery) : Type 0 where
  pub pass : Pass
  pub had : Contains passes pass
  pub given : List Offer
  pub gives : offers pass given
  pub offer : Offer
  pub among : Contains given offer
  pub taking : taken ≡ taking_of (form offer)

-- it is the message of an entry in these images
abbrev pub IsEntryIn : Setup → Images → Delivery → Type 0
IsEntryIn setup images taken =
    (kept : BufferedEntry) × (Contains (list_at setup images taken.dest) kept
    × (taken ≡ record { dest = taken.dest; message = kept.message }))

-- What each run took is an offer of a record that came in then or before, or, of an entry that stood in the stores at the start, an offer
-- of a pass that there was, in stored form.
abbrev pub TakeOffers : Setup → Offers → (started : Images) → (first passes : List Pass)
    → List Stopped → Type 0
TakeOffers setup offers started first passes [] = Unit {0}
TakeOffers setup offers started first passes (run ∷ runs) =
    ((taken : Delivery) → Contains (taken_in setup run) taken
    → IsTakingOf as_given offers (passes ++ run.passes) taken
    ⊎ (IsTakingOf as_stored offers first taken × IsEntryIn setup started taken))
    × TakeOffers setup offers started first (passes ++ run.passes) runs

-- What the stores held was covered, and the last run ends clean: each record of each file has a pass of which each offer with flow-control was
-- taken at least once, and nothing else was taken than offers.
pub record AddUp (setup : Setup) (offers : Offers) (taken : List Delivery) (passes : List Pass)
    (before : Images) (runs : List Stopped) (last : Stopped) : Type 0 where
  pub every : (i : ℕ) (piece : Piece) → IsFile setup i → Contains (last.files i) piece
      → IsPassed offers
      (IsTaken (taken ++ all_taken setup (runs ++ last ∷ [])) (position_in before i))
      (passes ++ all_passes (runs ++ last ∷ [])) i piece
  pub no_other : TakeOffers setup offers before passes passes (runs ++ last ∷ [])

abbrev pub AllRunsAddUp : Offers → Type 0
AllRunsAddUp offers =
    (setup : Setup) (files : ℕ → List Piece) (taken : List Delivery) (passes : List Pass)
    (before : Images) (runs : List Stopped) (last : Stopped)
    → Covered setup offers files taken passes (position_in before) before
    → Follow setup offers files before (runs ++ last ∷ []) → EndsClean setup last.files last.images
    → AddUp setup offers taken passes before runs last

-- Fresh stores, of whose files nothing was read, are covered by nothing.
pub record AreFresh (setup : Setup) (images : Images) : Type 0 where
  pub positions : (i position : ℕ) → slice_get images.positions i ≡ Some position → position ≡ 0
  pub lists : (d : ℕ) → list_at setup images d ≡ []

abbrev pub FreshAreCovered : Offers → Type 0
FreshAreCovered offers =
    (setup : Setup) (files : ℕ → List Piece) (old : ℕ → ℕ) (images : Images)
    → ((i : ℕ) → Rise 0 (files i)) → AreFresh setup images
    → Covered setup offers files [] [] old images

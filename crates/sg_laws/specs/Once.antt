-- What runs come to that each ended clean, from fresh stores on: each record came in once, and each of its offers was taken once.
use Rattle.std.specs.Prelude.{◌≡◌, ℕ, ◌==◌, Bool, true, false, if◌then◌else◌, Some, List, [], ◌∷◌, ◌++◌, length, map, filter, slice_get, Contains}
use Rattle.std.specs.Option.{option_map_or}
use Rattle.sg_msg.specs.declared.offer.Offer.{Offer}
use Rattle.sg_machine.specs.declared.event.Act.{Act}
use Rattle.sg_machine.specs.declared.event.Act.TheVariants.{Admit}
use Rattle.sg_machine.specs.declared.event.Event.{Event}
use Rattle.sg_machine.specs.declared.event.Verdict.{Verdict}
use Rattle.sg_machine.specs.declared.setup.Setup.{Setup}
use Rattle.sg_machine.specs.declared.state.Dest.{Dest}
use Rattle.sg_machine.specs.declared.state.InletRecords.{InletRecords}
use Rattle.sg_machine.specs.Counts.{is_dropped, as_kept}
use Rattle.sg_machine.specs.Runs.{BufferedEntry}
use Rattle.sg_machine.specs.Safe.{Images, settled_by, nothing}
use Rattle.sg_machine.specs.Verdicts.{Claim, claims_of}
use Rattle.sg_laws.specs.Pieces.{Piece}
use Rattle.sg_laws.specs.Covered.{Pass, Offers, IsFile, entry_of, Covered}
use Rattle.sg_laws.specs.Passes.{pieces_of, Stopped, state_at}
use Rattle.sg_laws.specs.Adding.{Follow, all_taken, all_passes, EndsClean, AreFresh}

-- One run.

-- The run ended clean: no event was under way, its stores are left clean, all that a destination kept is settled, and no file was begun anew.
pub record EndsWhole (setup : Setup) (run : Stopped) : Type 0 where
  pub none : run.event ≡ nothing
  pub clean : EndsClean setup run.files run.images
  pub settled : (d : ℕ) (dest : Dest) → slice_get (state_at setup run).dests d ≡ Some dest
      → dest.left ≡ []
  pub resumed : (i : ℕ) (inlet : InletRecords) → IsFile setup i
      → slice_get (state_at setup run).inlets i ≡ Some inlet
      → slice_get run.opening.places i ≡ Some inlet.opening

abbrev pub AllEndWhole : Setup → List Stopped → Type 0
AllEndWhole setup [] = Unit {0}
AllEndWhole setup (run ∷ runs) = EndsWhole setup run × AllEndWhole setup runs

-- the entries of inlet i that d settled in the run, in order
abbrev pub settled_in : Setup → (i d : ℕ) → Stopped → List BufferedEntry
settled_in setup i d run = option_map_or
    (λ dest. filter (λ k. k.inlet == i) (map as_kept (settled_by run.event.act d dest)))
    (slice_get (state_at setup run).dests d) []

abbrev pub all_settled : Setup → (i d : ℕ) → List Stopped → List BufferedEntry
all_settled setup i d [] = []
all_settled setup i d (run ∷ runs) = settled_in setup i d run ++ all_settled setup i d runs

-- Offers.

-- a pass with the offers that were given for it
pub record Given : Type 0 where
  pub pass : Pass
  pub offers : List Offer

-- each of these passes, with offers that may be given for it
abbrev pub AreGiven : Offers → List Pass → List Given → Type 0
AreGiven offers [] [] = Unit {0}
AreGiven offers [] (g ∷ gs) = ⊥
AreGiven offers (p ∷ ps) [] = ⊥
AreGiven offers (p ∷ ps) (g ∷ gs) = (g.pass ≡ p) × offers p g.offers × AreGiven offers ps gs

-- the offers to d of these passes of inlet i, as entries, in order
abbrev pub owed_by : (i d : ℕ) → Given → List BufferedEntry
owed_by i d g = if g.pass.inlet == i then map (entry_of g.pass) (filter (λ o. o.dest == d) g.offers)
    else []

abbrev pub owed_to : (i d : ℕ) → List Given → List BufferedEntry
owed_to i d [] = []
owed_to i d (g ∷ gs) = owed_by i d g ++ owed_to i d gs

-- Drops.

-- which of the offers of inlet i to d were dropped by their verdicts, in order
abbrev pub dropped_of : ℕ → List Claim → List Verdict → List Bool
dropped_of d [] vs = []
dropped_of d (c ∷ cs) [] = []
dropped_of d (c ∷ cs) (v ∷ vs) =
    if c.offer.dest == d then is_dropped v ∷ dropped_of d cs vs else dropped_of d cs vs

abbrev pub dropped_by : (i d : ℕ) → Act → List Bool
dropped_by i d (Admit j records verdicts) =
    if j == i then dropped_of d (claims_of records) verdicts else []
dropped_by i d _ = []

abbrev pub dropped_in : (i d : ℕ) → List Event → List Bool
dropped_in i d [] = []
dropped_in i d (e ∷ es) = dropped_by i d e.act ++ dropped_in i d es

abbrev pub all_dropped : (i d : ℕ) → List Stopped → List Bool
all_dropped i d [] = []
all_dropped i d (run ∷ runs) = dropped_in i d run.events ++ all_dropped i d runs

-- the entries without those that are marked
abbrev pub less : List Bool → List BufferedEntry → List BufferedEntry
less [] entries = entries
less (m ∷ ms) [] = []
less (m ∷ ms) (k ∷ ks) = if m then less ms ks else k ∷ less ms ks

-- none with flow-control is marked
abbrev pub AreEntriesUnflowed : List Bool → List BufferedEntry → Type 0
AreEntriesUnflowed [] entries = Unit {0}
AreEntriesUnflowed (m ∷ ms) [] = Unit {0}
AreEntriesUnflowed (m ∷ ms) (k ∷ ks) = (m ≡ true → k.flow ≡ false) × AreEntriesUnflowed ms ks

-- All runs.

-- What was taken is in order just what was owed, less what was dropped, none of which has flow-control.
pub record TakesOnce (dropped : List Bool) (owed taken : List BufferedEntry) : Type 0 where
  pub each : length dropped ≡ length owed
  pub unflowed : AreEntriesUnflowed dropped owed
  pub all : taken ≡ less dropped owed

-- So each offer with flow-control was taken once; and each other offer too, where none was dropped.
pub record TakesEach (dropped : List Bool) (owed taken : List BufferedEntry) : Type 0 where
  pub flowed : filter (λ k. k.flow) taken ≡ filter (λ k. k.flow) owed
  pub whole : (Contains dropped true → ⊥) → taken ≡ owed

-- The items of each file are its passes, each once, in order; and of these, each with its own offers, each destination took each once.
pub record ExactlyOnce (setup : Setup) (offers : Offers) (runs : List Stopped)
    (files : ℕ → List Piece) : Type 0 where
  pub records : (i : ℕ) → IsFile setup i → pieces_of i (all_passes runs) ≡ files i
  pub given : List Given
  pub gives : AreGiven offers (all_passes runs) given
  pub takes : (i d : ℕ)
      → TakesOnce (all_dropped i d runs) (owed_to i d given) (all_settled setup i d runs)
  pub each : (i d : ℕ)
      → TakesEach (all_dropped i d runs) (owed_to i d given) (all_settled setup i d runs)

-- so it is where each run ended whole, from fresh stores on
abbrev pub WholeRunsTakeOnce : Offers → Type 0
WholeRunsTakeOnce offers =
    (setup : Setup) (files : ℕ → List Piece) (before : Images) (runs : List Stopped)
    (last : Stopped) → AreFresh setup before
    → Follow setup offers files before (runs ++ last ∷ [])
    → AllEndWhole setup (runs ++ last ∷ [])
    → ExactlyOnce setup offers (runs ++ last ∷ []) last.files

-- Any number of runs from fresh stores on, each stopped at any moment, also the last: what is left in the stores is covered by what all of them took and
-- the records that came in.
abbrev pub FreshRunsCover : Offers → Type 0
FreshRunsCover offers =
    (setup : Setup) (files : ℕ → List Piece) (before : Images) (runs : List Stopped)
    (last : Stopped) → AreFresh setup before
    → Follow setup offers files before (runs ++ last ∷ [])
    → Covered setup offers last.files (all_taken setup (runs ++ last ∷ []))
    (all_passes (runs ++ last ∷ [])) (λ _. 0) last.images

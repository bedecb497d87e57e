-- Runs that were stopped: what came in and what was taken in each, and what it took up of the stores and left in them.
use Rattle.std.specs.Prelude.{◌≡◌, ℕ, ◌+◌, ◌==◌, true, Some, None, is_some, List, [], ◌∷◌, ◌++◌, length, map, filter, slice_get}
use Rattle.sg_machine.specs.declared.event.Act.{Act}
use Rattle.sg_machine.specs.declared.event.Act.TheVariants.{Admit}
use Rattle.sg_machine.specs.declared.event.Admission.{Admission}
use Rattle.sg_machine.specs.declared.event.Event.{Event}
use Rattle.sg_machine.specs.declared.setup.DestSetup.{DestSetup}
use Rattle.sg_machine.specs.declared.setup.Setup.{Setup}
use Rattle.sg_machine.specs.declared.state.Dest.{Dest}
use Rattle.sg_machine.specs.declared.state.InletRecords.{InletRecords}
use Rattle.sg_machine.specs.declared.state.State.{State}
use Rattle.sg_machine.specs.Runs.{BufferedEntry, Opening, opened, after_all, are_legal}
use Rattle.sg_machine.specs.Safe.{Images, Safe, settled_by}
use Rattle.sg_laws.specs.Pieces.{Piece, Rise, behind}
use Rattle.sg_laws.specs.Covered.{Pass, Delivery, Offers, IsFile}

-- What came in.

-- these records of inlet i, in order, were read in these passes: each with its end and its offers
abbrev pub AreRecordsRead : Offers → ℕ → List Admission → List Pass → Type 0
AreRecordsRead offers i [] [] = Unit {0}
AreRecordsRead offers i [] (p ∷ ps) = ⊥
AreRecordsRead offers i (r ∷ rs) [] = ⊥
AreRecordsRead offers i (r ∷ rs) (p ∷ ps) = (p.inlet ≡ i) × (p.end ≡ r.end) × offers p r.offers
    × AreRecordsRead offers i rs ps

abbrev pub ReadsByAct : Offers → Act → List Pass → Type 0
ReadsByAct offers (Admit i records verdicts) passes = AreRecordsRead offers i records passes
ReadsByAct offers _ passes = passes ≡ []

-- the passes of all records that came in, in order
abbrev pub AreAdmitted : Offers → List Event → List Pass → Type 0
AreAdmitted offers [] passes = passes ≡ []
AreAdmitted offers (e ∷ es) passes = (now : List Pass) × ((later : List Pass)
    × ((passes ≡ now ++ later) × ReadsByAct offers e.act now × AreAdmitted offers es later))

-- those of inlet i, as items of its file
abbrev pub pass_piece : Pass → Piece
pass_piece pass = record { text = pass.text; end = pass.end }

abbrev pub pieces_of : ℕ → List Pass → List Piece
pieces_of i passes = map pass_piece (filter (λ (p : Pass). p.inlet == i) passes)

-- What was taken: the entries that are settled, those of the act that is on included.
abbrev pub taken_at : Act → ℕ → List Dest → List Delivery
taken_at act d [] = []
taken_at act d (dest ∷ dests) =
    map (λ e. record { dest = d; message = e.message }) (settled_by act d dest)
    ++ taken_at act (d + 1) dests

-- Runs.

-- A run that was stopped: what its stores had at first, what happened, the event that was on, which is `nothing` where none was, the
-- passes of the records that came in, that of the event included, what its files held, and what the stop left in its stores.
pub record Stopped : Type 0 where
  pub opening : Opening
  pub events : List Event
  pub event : Event
  pub passes : List Pass
  pub files : ℕ → List Piece
  pub images : Images

-- the state at the stop
abbrev pub state_at : Setup → Stopped → State
state_at setup run = after_all (opened setup run.opening) run.events

abbrev pub taken_in : Setup → Stopped → List Delivery
taken_in setup run = taken_at run.event.act 0 (state_at setup run).dests

-- The opening is that of these images: each file begins at its position, each disk-buffer with its list, and nothing else has entries.
pub record BeginsWithImages (setup : Setup) (images : Images) (opening : Opening) : Type 0 where
  pub every_position : length images.positions ≡ length setup.sources
  pub every_list : length images.lists ≡ length setup.dests
  pub places : (i position : ℕ) → IsFile setup i → slice_get images.positions i ≡ Some position
      → slice_get opening.places i ≡ Some position
  pub lists : (d : ℕ) (dest : DestSetup) (list : List BufferedEntry)
      → slice_get setup.dests d ≡ Some dest
      → is_some dest.buffer ≡ true → slice_get images.lists d ≡ Some list
      → slice_get opening.entries d ≡ Some list
  pub bare : (d : ℕ) (dest : DestSetup) (list : List BufferedEntry)
      → slice_get setup.dests d ≡ Some dest
      → dest.buffer ≡ None → slice_get opening.entries d ≡ Some list → list ≡ []

-- The run began with what these images hold, and was stopped at what is safe. Of each file it read the first of the items behind the
-- inlet's opening place, which is 0 where that began anew.
pub record IsStoppedRun (setup : Setup) (offers : Offers) (before : Images)
    (run : Stopped) : Type 0 where
  pub begins : BeginsWithImages setup before run.opening
  pub legal : are_legal (opened setup run.opening) (run.events ++ run.event ∷ []) ≡ true
  pub safe : Safe (opened setup run.opening) run.events run.event run.images
  pub admits : AreAdmitted offers (run.events ++ run.event ∷ []) run.passes
  pub rising : (i : ℕ) → Rise 0 (run.files i)
  pub reads : (i : ℕ) (inlet : InletRecords) → IsFile setup i
      → slice_get (state_at setup run).inlets i ≡ Some inlet
      → (later : List Piece)
      × (behind inlet.opening (run.files i) ≡ pieces_of i run.passes ++ later)

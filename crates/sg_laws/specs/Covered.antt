-- What the stores have to hold between runs, so that no record of a file is lost: each record up to the stored position of
-- its file was passed, and what is owed of it was taken, or stands in a disk-buffer.
use Rattle.std.specs.Prelude.{◌≡◌, ◌⊎◌, ◌≤◌, ℕ, ℤ, true, if◌then◌else◌, Option, Some, None, is_some, List, [], slice_get, Contains}
use Rattle.sg_msg.specs.Message.{Content}
use Rattle.sg_msg.specs.declared.offer.Offer.{Offer}
use Rattle.sg_laws.specs.Pieces.{Piece}
use Rattle.sg_machine.specs.declared.setup.DestSetup.{DestSetup}
use Rattle.sg_machine.specs.declared.setup.Setup.{Setup}
use Rattle.sg_machine.specs.declared.setup.SourceSetup.{SourceSetup}
use Rattle.sg_machine.specs.Runs.{BufferedEntry}
use Rattle.sg_machine.specs.Safe.{Images}

-- Passes.

-- a record that came in: its inlet, its end, which is 0 at an inlet without a position store, its text, the moment at which it
-- was read, and the peer that gave it
pub record Pass : Type 0 where
  pub inlet : ℕ
  pub end : ℕ
  pub text : List ℕ
  pub at : ℤ
  pub peer : List ℕ

-- what the log statements may give for a record alone, whichever pass of it that is
abbrev pub Offers : Type 1
Offers = Pass → List Offer → Type 0

-- an inlet of a file has a position store
pub record IsFile (setup : Setup) (i : ℕ) : Type 0 where
  pub source : SourceSetup
  pub at : slice_get setup.sources i ≡ Some source
  pub stored : is_some source.store ≡ true

-- the pass is one of this item of the file of inlet i
pub record IsPassOf (i : ℕ) (piece : Piece) (pass : Pass) : Type 0 where
  pub inlet : pass.inlet ≡ i
  pub end : pass.end ≡ piece.end
  pub text : pass.text ≡ piece.text

-- Messages and entries.

-- a message that a destination took
pub record Delivery : Type 0 where
  pub dest : ℕ
  pub message : Content

-- the stored form of a message, which is all that a disk-buffer of an earlier format keeps: without tags, and received at its own stamp
abbrev pub stored_form : Content → Content
stored_form message = record message { received = message.sent; tags = [] }

-- an offer as it is, and in stored form
abbrev pub as_given : Offer → Offer
as_given offer = offer

abbrev pub as_stored : Offer → Offer
as_stored offer = record offer { message = stored_form offer.message }

-- the entry of a disk-buffer that an offer of a pass is, and what its destination takes of it
abbrev pub entry_of : Pass → Offer → BufferedEntry
entry_of pass offer = record {
  inlet = pass.inlet;
  end = pass.end;
  flow = offer.flow;
  message = offer.message;
}

abbrev pub taking_of : Offer → Delivery
taking_of offer = record { dest = offer.dest; message = offer.message }

-- the list in the image of a destination's disk-buffer; none where it has none
abbrev pub listed : Option DestSetup → Option (List BufferedEntry) → List BufferedEntry
listed None list = []
listed (Some dest) None = []
listed (Some dest) (Some list) = if is_some dest.buffer then list else []

abbrev pub list_at : Setup → Images → ℕ → List BufferedEntry
list_at setup images d = listed (slice_get setup.dests d) (slice_get images.lists d)

-- What is owed.

-- the offer was taken, or stands in its destination's image
abbrev pub IsOfferHeld : Setup → List Delivery → Images → Pass → Offer → Type 0
IsOfferHeld setup taken images pass offer = Contains taken (taking_of offer)
    ⊎ Contains (list_at setup images offer.dest) (entry_of pass offer)

-- the same, or, of a record that ends at or below this place, of its stored form
abbrev pub IsKeptSafe : Setup → List Delivery → Images → (old : ℕ) → Pass → Offer → Type 0
IsKeptSafe setup taken images old pass offer = IsOfferHeld setup taken images pass offer
    ⊎ ((pass.end ≤ old) × IsOfferHeld setup taken images pass (as_stored offer))

-- the item has a pass for which so much holds of each offer with flow-control
pub record IsPassed (offers : Offers) (Owed : Pass → Offer → Type 0) (passes : List Pass) (i : ℕ)
    (piece : Piece) : Type 0 where
  pub pass : Pass
  pub had : Contains passes pass
  pub is : IsPassOf i piece pass
  pub given : List Offer
  pub gives : offers pass given
  pub each : (offer : Offer) → Contains given offer → offer.flow ≡ true → Owed pass offer

-- an entry at d is that of an offer of a pass, in this form
pub record IsOfferOf (form : Offer → Offer) (offers : Offers) (passes : List Pass) (d : ℕ)
    (kept : BufferedEntry) : Type 0 where
  pub pass : Pass
  pub had : Contains passes pass
  pub given : List Offer
  pub gives : offers pass given
  pub offer : Offer
  pub among : Contains given offer
  pub dest : offer.dest ≡ d
  pub entry : kept ≡ entry_of pass (form offer)

-- it is that of an offer, or of its stored form
abbrev pub IsOffered : Offers → List Pass → ℕ → BufferedEntry → Type 0
IsOffered offers passes d kept = IsOfferOf as_given offers passes d kept
    ⊎ IsOfferOf as_stored offers passes d kept

-- What was taken, the passes that there were and what the stores hold cover the files, whose items these are: `old` are places up to
-- which stored forms count.
pub record Covered (setup : Setup) (offers : Offers) (files : ℕ → List Piece)
    (taken : List Delivery) (passes : List Pass) (old : ℕ → ℕ) (images : Images) : Type 0 where
  -- the position of a file is 0, or the end of an item of it
  pub positions : (i position : ℕ) → IsFile setup i → slice_get images.positions i ≡ Some position
      → (position ≡ 0) ⊎ ((piece : Piece) × (Contains (files i) piece × (piece.end ≡ position)))
  -- each item up to it has a pass whose offers with flow-control were taken, or stand in their destinations' images
  pub items : (i position : ℕ) (piece : Piece) → IsFile setup i
      → slice_get images.positions i ≡ Some position → Contains (files i) piece
      → piece.end ≤ position
      → IsPassed offers (IsKeptSafe setup taken images (old i)) passes i piece
  -- each entry of an image is an offer of a pass, or its stored form
  pub entries : (d : ℕ) (kept : BufferedEntry) → Contains (list_at setup images d) kept
      → IsOffered offers passes d kept

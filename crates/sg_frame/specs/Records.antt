-- The records of an inlet: the items of its parts.
use Rattle.std.specs.Prelude.{ℕ, ◌+◌, List, [], ◌∷◌, ◌++◌, map}
use Rattle.sg_device.specs.Inlet.{Part}
use Rattle.sg_frame.specs.declared.kind.FrameKind.{FrameKind}
use Rattle.sg_frame.specs.Items.{Item, Form, beginning, items_of, open_of}

-- an item, and the peer that gave it
pub record Record : Type 0 where
  pub peer : List ℕ
  pub item : Item

-- an item of a part that begins at this place
abbrev pub moved : ℕ → Item → Item
moved from item = record item { end = from + item.end }

abbrev pub record_of : (from : ℕ) → (peer : List ℕ) → Item → Record
record_of from peer item = record { peer = peer; item = moved from item }

abbrev pub records_of : FrameKind → (limit from : ℕ) → Part → List Record
records_of kind limit from part = map (record_of from part.peer) (items_of kind limit part.given)

-- the records of parts, part after part, where reading each part began at the place `from`
abbrev pub records : FrameKind → (limit from : ℕ) → List Part → List Record
records kind limit from [] = []
records kind limit from (part ∷ parts) = records_of kind limit from part
    ++ records kind limit from parts

-- what stands open at the end of the last part
abbrev pub open_at_end : FrameKind → (limit : ℕ) → List Part → Form
open_at_end kind limit [] = beginning kind
open_at_end kind limit (part ∷ []) = open_of kind limit part.given
open_at_end kind limit (part ∷ next ∷ parts) = open_at_end kind limit (next ∷ parts)

-- The items of a file, whenever it is read.
use Rattle.std.specs.Prelude.{◌<◌, ℕ, pos, nat_le, if◌then◌else◌, List, [], ◌∷◌, map}
use Rattle.sg_device.specs.Inlet.{stamped}
use Rattle.sg_frame.specs.declared.kind.FrameKind.{FrameKind}
use Rattle.sg_frame.specs.Items.{Item, items_of}

-- an item, but for the moment at which it was read: its text, and the place behind its last byte
pub record Piece : Type 0 where
  pub text : List ℕ
  pub end : ℕ

abbrev pub piece_of : Item → Piece
piece_of item = record { text = item.text; end = item.end }

-- those of a file with these bytes
abbrev pub pieces : FrameKind → (limit : ℕ) → List ℕ → List Piece
pieces kind limit bytes = map piece_of (items_of kind limit (stamped bytes (pos 0)))

-- each ends behind the one before, and the first behind this place
abbrev pub Rise : ℕ → List Piece → Type 0
Rise from [] = Unit {0}
Rise from (x ∷ xs) = (from < x.end) × Rise x.end xs

-- those behind the ones that end at or below this place
abbrev pub behind : ℕ → List Piece → List Piece
behind place [] = []
behind place (x ∷ xs) = if nat_le x.end place then behind place xs else x ∷ xs

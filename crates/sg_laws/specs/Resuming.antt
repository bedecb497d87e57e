-- Reading a file on from where a record of it ended.
use Rattle.std.specs.Prelude.{◌≡◌, ◌⊎◌, ◌<◌, ℕ, List, ◌∷◌, ◌++◌, map, drop, Contains}
use Rattle.sg_device.specs.Inlet.{Stamped}
use Rattle.sg_frame.specs.declared.kind.FrameKind.{FrameKind}
use Rattle.sg_frame.specs.Items.{Item, items_of}
use Rattle.sg_frame.specs.Records.{moved}
use Rattle.sg_frame.specs.Scans.{plain}
use Rattle.sg_laws.specs.Pieces.{Piece, piece_of, pieces, Rise, behind}

-- the items from an item's end on are the rest of the items
abbrev pub RestFollows : Type 0
RestFollows =
    (kind : FrameKind) (limit : ℕ) (bytes : List Stamped) (before : List Item) (item : Item)
    (after : List Item) → 0 < limit → items_of kind limit bytes ≡ before ++ item ∷ after
    → map (moved item.end) (items_of kind limit (drop item.end bytes)) ≡ after

-- ends rise strictly, from above 0 on
abbrev pub EndsRise : Type 0
EndsRise = (kind : FrameKind) (limit : ℕ) (bytes : List Stamped) → 0 < limit
    → Rise 0 (map piece_of (items_of kind limit bytes))

-- when its bytes came changes no text and no end
abbrev pub MomentsAreFree : Type 0
MomentsAreFree = (kind : FrameKind) (limit : ℕ) (bytes others : List Stamped)
    → plain bytes ≡ plain others
    → map piece_of (items_of kind limit bytes) ≡ map piece_of (items_of kind limit others)

-- a longer file begins with the items of the shorter one
abbrev pub PiecesGrow : Type 0
PiecesGrow = (kind : FrameKind) (limit : ℕ) (bytes more : List ℕ)
    → (later : List Piece) × (pieces kind limit (bytes ++ more) ≡ pieces kind limit bytes ++ later)

-- a place where a file's reading may begin: its start, or the end of an item
abbrev pub IsReadingBegun : FrameKind → (limit : ℕ) → List ℕ → ℕ → Type 0
IsReadingBegun kind limit bytes place = (place ≡ 0)
    ⊎ ((piece : Piece) × (Contains (pieces kind limit bytes) piece × (piece.end ≡ place)))

-- what was read of a file from such a place on, of which these bytes are left, are the first of its items behind that place
abbrev pub ReadingResumes : Type 0
ReadingResumes =
    (kind : FrameKind) (limit place : ℕ) (bytes left : List ℕ) (given : List Stamped) → 0 < limit
    → IsReadingBegun kind limit bytes place → plain given ++ left ≡ drop place bytes
    → (later : List Piece) × (behind place (pieces kind limit bytes)
    ≡ map piece_of (map (moved place) (items_of kind limit given)) ++ later)

-- and what was read of it to its end are all of these
abbrev pub ReadingEnds : Type 0
ReadingEnds =
    (kind : FrameKind) (limit place : ℕ) (bytes : List ℕ) (given : List Stamped) → 0 < limit
    → IsReadingBegun kind limit bytes place → plain given ≡ drop place bytes
    → behind place (pieces kind limit bytes)
    ≡ map piece_of (map (moved place) (items_of kind limit given))

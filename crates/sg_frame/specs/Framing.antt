-- What a framer keeps, and what its calls do to that.
use Rattle.std.specs.Prelude.{◌≡◌, ℕ, ◌+◌, ◌-◌, ◌<◌, List, [], ◌∷◌, ◌++◌, length, drop, Result, Ok, Err}
use Rattle.std.specs.declared.alloc.AllocError.{AllocError}
use Rattle.sg_device.specs.Inlet.{Stamped}
use Rattle.sg_frame.specs.declared.kind.FrameKind.{FrameKind}
use Rattle.sg_frame.specs.declared.framer.Framed.{Framed}
use Rattle.sg_frame.specs.declared.framer.Framed.TheVariants.{Item as Given, More, BadFrame}
use Rattle.sg_frame.specs.Items.{Item, Form, Bad, IsSoundForm, beginning, items, open_after, items_of, open_of}

pub record Framing : Type 0 where
  pub kind : FrameKind
  pub limit : ℕ
  -- the place of the first byte kept, counted from where the framer was new
  pub place : ℕ
  -- the bytes behind the last item given
  pub held : List Stamped

-- the items that are whole and not yet given
abbrev pub items_left : Framing → List Item
items_left f = items f.limit f.place (beginning f.kind) f.held

-- what stands open behind them
abbrev pub open_left : Framing → Form
open_left f = open_after f.limit f.place (beginning f.kind) f.held

-- how many bytes were fed since the framer was new
abbrev pub fed : Framing → ℕ
fed f = f.place + length f.held

abbrev pub fresh : FrameKind → ℕ → Framing
fresh kind limit = record { kind = kind; limit = limit; place = 0; held = [] }

abbrev pub with_bytes : Framing → List Stamped → Framing
with_bytes f bytes = record f { held = f.held ++ bytes }

-- the framer behind what ends at this place
abbrev pub behind : Framing → ℕ → Framing
behind f end = record f { place = end; held = drop (end - f.place) f.held }

-- A framer that was fed these bytes since it was new, and gave these items: they and those left are
-- the items of the bytes, however these were cut.
pub record HasFramed (bytes : List Stamped) (given : List Item) (f : Framing) : Type 0 where
  pub items : items_of f.kind f.limit bytes ≡ given ++ items_left f
  pub still_open : open_of f.kind f.limit bytes ≡ open_left f
  pub fed : length bytes ≡ fed f

-- a call that took these bytes and gave these items
abbrev pub GoesOnFraming : Framing → Framing → List Stamped → List Item → Type 0
GoesOnFraming old new more taken =
    (bytes : List Stamped) (given : List Item) → HasFramed bytes given old
    → HasFramed (bytes ++ more) (given ++ taken) new

-- the first item left is given, and the rest is left
pub record GivesItem (old new : Framing) (item : Item) : Type 0 where
  pub rest : new ≡ behind old item.end
  pub first : items_left old ≡ item ∷ items_left new
  pub still_open : open_left old ≡ open_left new
  -- ends rise, and each item takes bytes with it
  pub later : old.place < item.end
  pub shorter : length new.held < length old.held
  pub all_fed : fed new ≡ fed old
  pub history : GoesOnFraming old new [] (item ∷ [])

abbrev pub NextTells : Framing → Framing → Result Framed AllocError → Type 0
NextTells old new (Ok (Given bytes end at)) = GivesItem old new
    (record { text = bytes; at = at; end = end })
NextTells old new (Ok More) = (new ≡ old) × (items_left old ≡ []) × IsSoundForm (open_left old)
NextTells old new (Ok (BadFrame place)) = (new ≡ old) × (items_left old ≡ [])
    × (open_left old ≡ Bad place)
NextTells old new (Err e) = new ≡ old

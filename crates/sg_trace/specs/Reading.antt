-- What was read of a file.
use Rattle.std.specs.Prelude.{◌≡◌, ◌≤◌, ◌<◌, ℕ, ◌^◌, List, [], ◌∷◌, length, true, IfSome}
use Rattle.sg_device.specs.Inlet.{Stamped, InletState}
use Rattle.sg_frame.specs.declared.kind.FrameKind.{FrameKind}
use Rattle.sg_frame.specs.Items.{Item}
use Rattle.sg_frame.specs.Framing.{Framing, HasFramed, fed}
use Rattle.sg_frame.specs.Timely.{AreTimely}

-- the only part of an inlet gave these bytes
abbrev pub HasGiven : InletState → List ℕ → List Stamped → Type 0
HasGiven feed peer bytes = IfSome feed.told
    (λ parts. parts ≡ (record { peer = peer; given = bytes }) ∷ [])

-- Of these bytes, which are all that the file gave, these items were taken.
pub record ReadsSo (kind : FrameKind) (limit : ℕ) (first feed : InletState) (f : Framing)
    (items : List Item) (bytes : List Stamped) : Type 0 where
  pub framed : HasFramed bytes items f
  pub same_kind : f.kind ≡ kind
  pub same_limit : f.limit ≡ limit
  pub given : HasGiven feed first.peer bytes
  pub peer : feed.peer ≡ first.peer
  pub place : feed.place ≡ fed f
  pub range : feed.place < 2 ^ 63
  pub single : feed.single ≡ true
  pub timely : AreTimely f.held
  pub later : first.faults ≤ feed.faults
  -- each item took a byte with it at least
  pub fewer : length items ≤ f.place

abbrev pub ReadsTraced : FrameKind → ℕ → InletState → InletState → Framing → List Item → Type 0
ReadsTraced kind limit first feed f items = (bytes : List Stamped)
    × ReadsSo kind limit first feed f items bytes

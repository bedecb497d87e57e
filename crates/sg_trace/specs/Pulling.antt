-- What a pull does to what was read.
use Rattle.std.specs.Prelude.{◌≡◌, ◌≤◌, ℕ, ◌+◌, List, Bool, true, false, Result, Ok, Err}
use Rattle.sg_device.specs.Faults.{Rose}
use Rattle.sg_device.specs.Inlet.{InletState}
use Rattle.sg_frame.specs.declared.kind.FrameKind.{FrameKind}
use Rattle.sg_frame.specs.Items.{Item}
use Rattle.sg_frame.specs.Framing.{Framing}
use Rattle.sg_trace.specs.declared.untraced.Untraced.{Untraced}
use Rattle.sg_trace.specs.declared.untraced.Untraced.TheVariants.{NotOpened, InletFault, RoundsSpent, SayFault, NoMemory}
use Rattle.sg_trace.specs.Reading.{ReadsTraced}

-- it brought a byte, a part, or the word that there is nothing at present
abbrev pub BringsSome : InletState → InletState → Type 0
BringsSome old new = (new.pulls ≡ old.pulls + 1)
    × (old.bytes + old.parts + old.idles + 1 ≤ new.bytes + new.parts + new.idles)

-- What was read stays so, with the bytes that the pull brought. A pull that ended the file or failed leaves the framer.
abbrev pub PullsTo : FrameKind → ℕ → InletState → InletState → InletState → Framing → Framing
    → List Item → Result Bool Untraced → Type 0
PullsTo kind limit first old new f f' items (Ok true) = ReadsTraced kind limit first new f' items
    × (new.ended ≡ true) × (f' ≡ f)
PullsTo kind limit first old new f f' items (Ok false) = ReadsTraced kind limit first new f' items
    × (new.ended ≡ false) × BringsSome old new
PullsTo kind limit first old new f f' items (Err InletFault) =
    ReadsTraced kind limit first new f' items
    × (f' ≡ f) × Rose old.faults new.faults
PullsTo kind limit first old new f f' items (Err NoMemory) = Unit {0}
PullsTo kind limit first old new f f' items (Err NotOpened) = ⊥
PullsTo kind limit first old new f f' items (Err RoundsSpent) = ⊥
PullsTo kind limit first old new f f' items (Err SayFault) = ⊥

abbrev pub PullsTraced : InletState → InletState → Framing → Framing → Result Bool Untraced → Type 0
PullsTraced old new f f' result =
    (kind : FrameKind) (limit : ℕ) (first : InletState) (items : List Item)
    → ReadsTraced kind limit first old f items → PullsTo kind limit first old new f f' items result

-- What an inlet has given, and what its calls do to that.
use Rattle.std.specs.Prelude.{◌≡◌, ◌<◌, ◌≤◌, ℕ, ℤ, pos, ◌≤ℤ◌, ◌+◌, ◌^◌, max, List, [], ◌∷◌, ◌++◌, length, map, take, replicate, Option, Some, None, Result, Ok, Err, Bool, true, false, IfSome}
use Rattle.std.specs.Option.{option_map}
use Rattle.sg_device.specs.Faults.{Rose}
use Rattle.sg_device.specs.declared.inlet.Pull.{Pull}
use Rattle.sg_device.specs.declared.inlet.Pull.TheVariants.{Bytes, Next, Idle, End}
use Rattle.sg_device.specs.declared.fault.InletFault.{InletFault}

-- a byte, and the moment at which it came
abbrev pub Stamped : Type 0
Stamped = ℕ × ℤ

-- what one peer gave without a break
pub record Part : Type 0 where
  pub peer : List ℕ
  pub given : List Stamped

pub record InletState : Type 0 where
  -- the parts given, the present one last, where the inlet tells them
  pub told : Option (List Part)
  -- the bytes that a file has left, where the inlet tells them
  pub left : Option (List ℕ)
  -- the peer of the present part
  pub peer : List ℕ
  -- the place where reading began, and that plus the bytes given of the present part
  pub from : ℕ
  pub place : ℕ
  -- the pulls that didn't fail, and those of them that were idle
  pub pulls : ℕ
  pub idles : ℕ
  -- the bytes given, and the parts begun
  pub bytes : ℕ
  pub parts : ℕ
  pub faults : ℕ
  -- it answered End; the present part was closed
  pub ended : Bool
  pub hung : Bool
  -- all its bytes are one part, as those of a file are
  pub single : Bool

abbrev pub stamped : List ℕ → ℤ → List Stamped
stamped bytes at = map (λ b. (b, at)) bytes

-- the parts with these bytes behind the last one, which begins with them where there is none
abbrev pub with_bytes : List Part → List ℕ → List Stamped → List Part
with_bytes [] peer given = (record { peer = peer; given = given }) ∷ []
with_bytes (part ∷ []) peer given = (record part { given = part.given ++ given }) ∷ []
with_bytes (part ∷ next ∷ parts) peer given = part ∷ with_bytes (next ∷ parts) peer given

-- the parts with a new one behind them
abbrev pub with_part : List Part → List ℕ → List Part
with_part parts peer = parts ++ (record { peer = peer; given = [] }) ∷ []

-- one byte at least, and no more than there is room for, at a moment within bounds
abbrev pub PullIsWhole : ℕ → Result Pull InletFault → Type 0
PullIsWhole room (Ok (Bytes len at)) = (0 < len) × (len ≤ room) × (pos 0 ≤ℤ at)
    × (at ≤ℤ pos 250000000000000000)
PullIsWhole room (Ok Next) = Unit {0}
PullIsWhole room (Ok Idle) = Unit {0}
PullIsWhole room (Ok End) = Unit {0}
PullIsWhole room (Err e) = Unit {0}

-- the buffer stays as long, and what a pull brings is at its front and at most all of it
pub record PullFills (old new : List ℕ) (result : Result Pull InletFault) : Type 0 where
  pub size : length new ≡ length old
  pub whole : PullIsWhole (length old) result

-- Bytes go behind the last part, Next begins one, and nothing else changes the parts.
abbrev pub PullTells : InletState → InletState → List ℕ → Result Pull InletFault → Type 0
PullTells old new into (Ok (Bytes len at)) = (new.told
    ≡ option_map (λ parts. with_bytes parts new.peer (stamped (take len into) at)) old.told)
    × (new.peer ≡ old.peer)
PullTells old new into (Ok Next) = new.told
    ≡ option_map (λ parts. with_part parts new.peer) old.told
PullTells old new into (Ok Idle) = (new.told ≡ old.told) × (new.peer ≡ old.peer)
PullTells old new into (Ok End) = (new.told ≡ old.told) × (new.peer ≡ old.peer)
PullTells old new into (Err e) = (new.told ≡ old.told) × (new.peer ≡ old.peer)

-- the place goes on by the bytes, stays below 2 ^ 63, and is again where reading began with a new part
abbrev pub PullMoves : InletState → InletState → Result Pull InletFault → Type 0
PullMoves old new (Ok (Bytes len at)) = (new.from ≡ old.from) × (new.place ≡ old.place + len)
    × (new.place < 2 ^ 63)
PullMoves old new (Ok Next) = (new.from ≡ old.from) × (new.place ≡ old.from)
PullMoves old new (Ok Idle) = (new.from ≡ old.from) × (new.place ≡ old.place)
PullMoves old new (Ok End) = (new.from ≡ old.from) × (new.place ≡ old.place)
PullMoves old new (Err e) = (new.from ≡ old.from) × (new.place ≡ old.place)

-- the bytes left of a file lose those given, and End comes only where none is left or it was hung up
abbrev pub PullLeaves : InletState → InletState → List ℕ → Result Pull InletFault → Type 0
PullLeaves old new into (Ok (Bytes len at)) = old.left
    ≡ option_map (λ left. take len into ++ left) new.left
PullLeaves old new into (Ok Next) = new.left ≡ old.left
PullLeaves old new into (Ok Idle) = new.left ≡ old.left
PullLeaves old new into (Ok End) = (new.left ≡ old.left)
    × (old.hung ≡ false → new.left ≡ option_map (λ _. []) old.left)
PullLeaves old new into (Err e) = new.left ≡ old.left

-- an end is for good, a part that was hung up gives no more bytes, and a file has no second part
abbrev pub PullCounts : InletState → InletState → Result Pull InletFault → Type 0
PullCounts old new (Ok (Bytes len at)) = (new.pulls ≡ old.pulls + 1) × (new.idles ≡ old.idles)
    × (new.bytes ≡ old.bytes + len) × (new.parts ≡ max old.parts 1) × (old.ended ≡ false)
    × (new.ended ≡ false) × (old.hung ≡ false) × (new.hung ≡ false) × (new.single ≡ old.single)
PullCounts old new (Ok Next) = (new.pulls ≡ old.pulls + 1) × (new.idles ≡ old.idles)
    × (new.bytes ≡ old.bytes) × (new.parts ≡ old.parts + 1) × (old.ended ≡ false)
    × (new.ended ≡ false) × (new.hung ≡ false) × (old.single ≡ false) × (new.single ≡ false)
PullCounts old new (Ok Idle) = (new.pulls ≡ old.pulls + 1) × (new.idles ≡ old.idles + 1)
    × (new.bytes ≡ old.bytes) × (new.parts ≡ old.parts) × (old.ended ≡ false) × (new.ended ≡ false)
    × (new.hung ≡ old.hung) × (new.single ≡ old.single)
PullCounts old new (Ok End) = (new.pulls ≡ old.pulls + 1) × (new.idles ≡ old.idles)
    × (new.bytes ≡ old.bytes) × (new.parts ≡ old.parts) × (new.ended ≡ true) × (new.hung ≡ old.hung)
    × (new.single ≡ old.single)
PullCounts old new (Err e) = (new.pulls ≡ old.pulls) × (new.idles ≡ old.idles)
    × (new.bytes ≡ old.bytes) × (new.parts ≡ old.parts) × (new.ended ≡ old.ended)
    × (new.hung ≡ old.hung) × (new.single ≡ old.single)

abbrev pub PullFaults : InletState → InletState → Result Pull InletFault → Type 0
PullFaults old new (Ok pull) = old.faults ≤ new.faults
PullFaults old new (Err e) = (old.faults ≤ new.faults) × Rose old.faults new.faults

-- what a pull adds to the counts, and to that of faults
pub record PullAdds (old new : InletState) (result : Result Pull InletFault) : Type 0 where
  pub counts : PullCounts old new result
  pub faults : PullFaults old new result

-- so many parts of this peer, with nothing given
abbrev pub empty_parts : ℕ → List ℕ → List Part
empty_parts count peer = replicate count (record { peer = peer; given = [] })

-- nothing was given yet
pub record IsFresh (inlet : InletState) : Type 0 where
  pub told : IfSome inlet.told (λ parts. parts ≡ empty_parts inlet.parts inlet.peer)
  pub one_part : inlet.parts ≤ 1
  pub at_from : inlet.place ≡ inlet.from
  pub in_range : inlet.from < 2 ^ 63
  pub pulls : inlet.pulls ≡ 0
  pub idles : inlet.idles ≡ 0
  pub bytes : inlet.bytes ≡ 0
  pub ended : inlet.ended ≡ false
  pub hung : inlet.hung ≡ false

-- the present part is closed, and nothing else changed
abbrev pub HangsUp : InletState → InletState → Type 0
HangsUp old new = new ≡ record old { hung = true }

-- the parts go on: the earlier ones stay, the last one has more bytes or as many, and others may follow
abbrev pub PartsGoOn : List Part → List Part → Type 0
PartsGoOn [] later = Unit {0}
PartsGoOn (part ∷ []) later = (more : List Stamped)
    × ((rest : List Part) × (later ≡ (record part { given = part.given ++ more }) ∷ rest))
PartsGoOn (part ∷ next ∷ parts) later = (rest : List Part)
    × ((later ≡ part ∷ rest) × PartsGoOn (next ∷ parts) rest)

-- the bytes of all the parts, one behind another
abbrev pub bytes_of : List Part → List ℕ
bytes_of [] = []
bytes_of (part ∷ parts) = map (λ b. b.0) part.given ++ bytes_of parts

-- as many parts are told as were begun
abbrev pub ArePartsCounted : InletState → Type 0
ArePartsCounted inlet = IfSome inlet.told (λ parts. length parts ≡ inlet.parts)

-- the same, where the parts are told; and an inlet that tells them goes on to
abbrev pub TellsOn : Option (List Part) → Option (List Part) → Type 0
TellsOn None later = later ≡ None
TellsOn (Some parts) None = ⊥
TellsOn (Some parts) (Some later) = PartsGoOn parts later

-- What any calls leave of an inlet's past: what was given only grows, and came off the front of what a file had left.
pub record Advances (old new : InletState) : Type 0 where
  pub told : TellsOn old.told new.told
  -- the bytes that a file gave meanwhile
  pub given : List ℕ
  pub left : old.left ≡ option_map (λ left. given ++ left) new.left
  pub bytes : new.bytes ≡ old.bytes + length given
  -- the parts that are told have those bytes behind what they had
  pub bytes_told : option_map bytes_of new.told
      ≡ option_map (λ parts. bytes_of parts ++ given) old.told
  pub parts_told : ArePartsCounted old → ArePartsCounted new
  pub from : new.from ≡ old.from
  pub parts : old.parts ≤ new.parts
  pub pulls : old.pulls ≤ new.pulls
  pub idles : old.idles ≤ new.idles
  pub faults : old.faults ≤ new.faults
  pub ended : old.ended ≡ true → new.ended ≡ true
  pub single : new.single ≡ old.single
  -- a file's place goes on by what it gave, and it has no second part
  pub place : old.single ≡ true → new.place ≡ old.place + length given
  pub one : old.single ≡ true → new.parts ≤ max old.parts 1

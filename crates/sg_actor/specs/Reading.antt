-- What was read of what an inlet gave: the records that were taken, and the bytes behind them.
use Rattle.std.specs.Prelude.{◌≡◌, ◌≤◌, ℕ, ◌+◌, Bool, true, false, List, [], ◌∷◌, ◌++◌, map, take, Option, Some, None}
use Rattle.sg_device.specs.Inlet.{Stamped, Part, stamped}
use Rattle.sg_device.specs.declared.inlet.Pull.{Pull}
use Rattle.sg_device.specs.declared.inlet.Pull.TheVariants.{Bytes, Next, Idle, End}
use Rattle.sg_frame.specs.declared.kind.FrameKind.{FrameKind}
use Rattle.sg_frame.specs.declared.framer.Framed.{Framed}
use Rattle.sg_frame.specs.declared.framer.Framed.TheVariants.{Item as Given, More, BadFrame}
use Rattle.sg_frame.specs.Items.{Item, Form, Text, Count, Body, Bad, open_of}
use Rattle.sg_frame.specs.Records.{Record, record_of, records}
use Rattle.sg_frame.specs.Timely.{IsTimely}

-- the parts before the last one
abbrev pub earlier : List Part → List Part
earlier [] = []
earlier (part ∷ []) = []
earlier (part ∷ next ∷ parts) = part ∷ earlier (next ∷ parts)

-- what was given of the last one
abbrev pub last_given : List Part → List Stamped
last_given [] = []
last_given (part ∷ []) = part.given
last_given (part ∷ next ∷ parts) = last_given (next ∷ parts)

-- the last one, where there is one, has this peer
abbrev pub HasPeer : List ℕ → List Part → Type 0
HasPeer peer [] = Unit {0}
HasPeer peer (part ∷ []) = part.peer ≡ peer
HasPeer peer (part ∷ next ∷ parts) = HasPeer peer (next ∷ parts)

abbrev pub one_if : Bool → ℕ
one_if true = 1
one_if false = 0

abbrev pub bad_forms : Form → ℕ
bad_forms (Text line) = 0
bad_forms (Count value) = 0
bad_forms (Body missing text) = 0
bad_forms (Bad place) = 1

-- the number of the parts whose items a bad count follows
abbrev pub bad_parts : FrameKind → ℕ → List Part → ℕ
bad_parts kind limit [] = 0
bad_parts kind limit (part ∷ parts) = bad_forms (open_of kind limit part.given)
    + bad_parts kind limit parts

-- Of the last part these bytes were given, and of them these items taken; so many parts were given up for a bad count, the last one
-- among them or not.
pub record IsPartRead (kind : FrameKind) (limit from : ℕ) (peer : List ℕ) (parts : List Part)
    (last_too : Bool) (done : List Record) (ups : ℕ) (bytes : List Stamped)
    (items : List Item) : Type 0 where
  pub given : bytes ≡ last_given parts
  pub has_peer : HasPeer peer parts
  pub taken : done ≡ records kind limit from (earlier parts) ++ map (record_of from peer) items
  pub given_up : ups ≡ bad_parts kind limit (earlier parts) + one_if last_too

-- It claims nothing where the inlet doesn't tell.
abbrev pub AreItemsRead : FrameKind → ℕ → ℕ → List ℕ → Option (List Part) → Bool → List Record → ℕ
    → List Stamped → List Item → Type 0
AreItemsRead kind limit from peer None last_too done ups bytes items = Unit {0}
AreItemsRead kind limit from peer (Some parts) last_too done ups bytes items =
    IsPartRead kind limit from
    peer parts last_too done ups bytes items

-- the item that the framer gave last, where its record isn't held yet
abbrev pub items_ahead : Framed → List Item
items_ahead (Given bytes end at) = (record { text = bytes; at = at; end = end }) ∷ []
items_ahead More = []
items_ahead (BadFrame place) = []

-- the bytes that were pulled and aren't fed yet
abbrev pub bytes_pulled : Pull → List ℕ → List Stamped
bytes_pulled (Bytes len at) buffer = stamped (take len buffer) at
bytes_pulled Next buffer = []
bytes_pulled Idle buffer = []
bytes_pulled End buffer = []

-- they are in the buffer
abbrev pub IsUnfed : ℕ → Pull → Type 0
IsUnfed room (Bytes len at) = (len ≤ room) × IsTimely at
IsUnfed room Next = Unit {0}
IsUnfed room Idle = Unit {0}
IsUnfed room End = Unit {0}

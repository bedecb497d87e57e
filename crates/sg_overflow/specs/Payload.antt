-- A frame as a payload of the store: the byte 3, and the frame. Entries of a flow core begin with another byte.
use Rattle.std.specs.Prelude.{◌≡◌, ℕ, ◌==◌, Bool, false, List, [], ◌∷◌, map}
use Rattle.sg_spool.specs.Ring.{Entries}

abbrev pub tagged : List ℕ → List ℕ
tagged frame = 3 ∷ frame

-- the frame of a payload
abbrev pub untagged : List ℕ → List ℕ
untagged [] = []
untagged (tag ∷ frame) = frame

abbrev pub is_tagged : List ℕ → Bool
is_tagged [] = false
is_tagged (tag ∷ frame) = tag == 3

-- the frames of entries
abbrev pub frames_in : Entries → List (List ℕ)
frames_in entries = map untagged entries

-- each payload is that of a frame
abbrev pub AreTagged : Entries → Type 0
AreTagged entries = map tagged (frames_in entries) ≡ entries

-- The frames of a send.
use Rattle.std.specs.Prelude.{ℕ, ◌-◌, nat_le, if◌then◌else◌, List, [], ◌∷◌, length, map, take}
use Rattle.sg_msg.specs.Message.{Content}
use Rattle.sg_outfmt.specs.Frame.{frame_of}
use Rattle.sg_actor.specs.declared.rendering.DestSpec.{DestSpec}

-- what the destination sends for a message
abbrev pub frame_by : DestSpec → Content → List ℕ
frame_by spec message = frame_of spec.shape message spec.env

abbrev pub frames_by : DestSpec → List Content → List (List ℕ)
frames_by spec messages = map (frame_by spec) messages

-- the first frames, until they are so many bytes together or more
abbrev pub until : ℕ → List (List ℕ) → List (List ℕ)
until left [] = []
until left (f ∷ fs) = f ∷ (if nat_le left (length f) then [] else until (left - length f) fs)

-- how many entries a turn asks for at most
abbrev pub most_entries : ℕ
most_entries = 1000

-- the frames of a turn are together fewer bytes, but for the last one
abbrev pub most_bytes : ℕ
most_bytes = 262144

-- the frames that are sent: of so many messages at most, until they are so many bytes or more
abbrev pub sent_of : DestSpec → List Content → List (List ℕ)
sent_of spec messages = until most_bytes (frames_by spec (take most_entries messages))

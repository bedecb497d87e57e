-- What a peer of an inlet in memory sends.
use Rattle.std.specs.Prelude.{ℕ, ℤ, ◌+◌, List, [], ◌∷◌, length, take, drop, Option, Some, None}
use Rattle.sg_device.specs.Inlet.{Part, stamped}
use Rattle.sg_memory.specs.declared.part.MemoryPart.{MemoryPart}

-- what was given of a part, all of it at this moment
abbrev pub part_of : ℤ → MemoryPart → Part
part_of at part = record { peer = part.peer; given = stamped (take part.given part.bytes.items) at }

-- of the present part, where one has begun: its place in the list, its peer, its length, and what was given and is left
abbrev pub listed : Option MemoryPart → List MemoryPart
listed None = []
listed (Some part) = part ∷ []

abbrev pub peer_of : Option MemoryPart → List ℕ
peer_of None = []
peer_of (Some part) = part.peer

abbrev pub size_of : Option MemoryPart → ℕ
size_of None = 0
size_of (Some part) = length part.bytes.items

abbrev pub given_of : Option MemoryPart → ℕ
given_of None = 0
given_of (Some part) = part.given

abbrev pub left_of : Option MemoryPart → List ℕ
left_of None = []
left_of (Some part) = drop part.given part.bytes.items

-- so many bytes more were given
abbrev pub more : ℕ → MemoryPart → MemoryPart
more len part = record part { given = part.given + len }

-- the number of the bytes given
abbrev pub total_given : List MemoryPart → ℕ
total_given [] = 0
total_given (part ∷ parts) = part.given + total_given parts

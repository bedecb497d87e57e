-- What the peers of an inlet in memory send, in parts.
use Rattle.std.specs.Prelude.{◌≡◌, ◌+◌, List, [], ◌++◌, length, Bool, true, false, is_some}
use Rattle.sg_memory.specs.Part.{given_of, listed}
use Rattle.sg_memory.specs.declared.part.MemoryPart.{MemoryPart}
use Rattle.sg_memory.specs.declared.parts.MemoryParts.{MemoryParts}

-- the parts that have begun
abbrev pub begun : MemoryParts → List MemoryPart
begun parts = parts.past.items ++ listed parts.present

-- a part begins with nothing given, behind the present one; or none is to come
abbrev pub BeginsPart : MemoryParts → MemoryParts → Bool → Type 0
BeginsPart old new true = (new.past.items ≡ begun old) × (is_some new.present ≡ true)
    × (given_of new.present ≡ 0) × (length old.waiting.items ≡ length new.waiting.items + 1)
BeginsPart old new false = (old.waiting.items ≡ []) × (new.waiting.items ≡ [])
    × (new.past ≡ old.past)
    × (new.present ≡ old.present)

-- Connections that peers make to a machine in memory.
use Rattle.std.specs.Prelude.{ℕ, List, [], ◌∷◌, ◌==◌, ◌&&◌, if◌then◌else◌}
use Rattle.std.specs.Str.{bytes_eq}
use Rattle.sg_memory.specs.declared.connection.MemoryConnection.{MemoryConnection}
use Rattle.sg_memory.specs.declared.part.MemoryPart.{MemoryPart}

-- a peer, and the bytes that it sends
abbrev pub sent : MemoryPart → List ℕ × List ℕ
sent part = (part.peer, part.bytes.items)

-- what is sent over the connections to this slot
abbrev pub made_to : List ℕ → ℕ → ℕ → List MemoryConnection → List (List ℕ × List ℕ)
made_to ip port slot [] = []
made_to ip port slot (connection ∷ connections) =
    if (connection.port == port && connection.slot == slot) && bytes_eq connection.ip ip
    then (connection.peer, connection.bytes.items) ∷ made_to ip port slot connections
    else made_to ip port slot connections

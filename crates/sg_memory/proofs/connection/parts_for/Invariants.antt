use Rattle.std.proofs.Common.{◌≡◌, ◌++◌, drop}
use Rattle.std.specs.Prelude.{map}
use Rattle.sg_memory.specs.Connections.{made_to, sent}
use Rattle.sg_memory.proofs.connection.parts_for.Given as goal

abbrev pub invariant-loop-connection : goal.invariant-loop-connection
invariant-loop-connection l = map sent l.parts.items ++ made_to l.ip l.port l.slot (drop l.connection-index l.connections) ≡ made_to l.ip l.port l.slot l.connections

use Rattle.std.proofs.Common.{◌≡◌, drop}
use Rattle.sg_memory_disk.specs.Stores.{is_named}
use Rattle.sg_memory_disk.proofs.stores.is_there.Given as goal

abbrev pub invariant-loop-listed : goal.invariant-loop-listed
invariant-loop-listed l = is_named l.names l.name ≡ is_named (drop l.listed-index l.names) l.name

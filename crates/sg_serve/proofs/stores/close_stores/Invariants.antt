use Rattle.std.proofs.Common.{map, deque_len}
use Rattle.sg_outside.specs.World.{WorldState}
use Rattle.sg_serve.specs.Devices.{ClosesStores}
use Rattle.sg_serve.proofs.stores.close_stores.Given as goal

abbrev pub invariant-loop-store : goal.invariant-loop-store
invariant-loop-store g l = (new : WorldState) → ClosesStores (g.W.Machine.state l.world) new (map g.W.Store.Disk.state l.rest.items) → ClosesStores (g.W.Machine.state l.fn.world) new (map g.W.Store.Disk.state l.fn.stores.items)

abbrev pub decreases-loop-store : goal.decreases-loop-store
decreases-loop-store g l = deque_len l.rest

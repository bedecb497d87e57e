use Rattle.std.proofs.Common.{◌≡◌, ◌≤◌, length, map, vec_capacity}
use Rattle.sg_serve.specs.Devices.{OpensStores}
use Rattle.sg_serve.proofs.stores.open_stores.Given as goal

abbrev pub invariant-loop-spec : goal.invariant-loop-spec
invariant-loop-spec g l = record {
  opens : OpensStores (g.W.Machine.state l.fn.world) (g.W.Machine.state l.world) l.specs (map g.W.Store.Disk.state l.stores.items);
  count : length l.stores.items ≡ l.spec-index;
  room : length l.specs ≤ vec_capacity l.stores;
}

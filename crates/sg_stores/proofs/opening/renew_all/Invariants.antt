use Rattle.std.proofs.Common.{◌≡◌, ◌≤◌, ℕ, List, length, slice_get, Some}
use Rattle.sg_device.specs.Disk.{DiskState}
use Rattle.sg_stores.specs.Stores.{StoreState}
use Rattle.sg_stores.specs.Looking.{CanRenew, AreOpening}
use Rattle.sg_stores.specs.declared.kind.StoreKind.{StoreKind}
use Rattle.sg_stores.proofs.opening.renew_all.Given as goal

abbrev pub invariant-loop-s : goal.invariant-loop-s
invariant-loop-s g l = record {
  count : length l.stores ≡ length l.fn.stores;
  ready : (k : ℕ) (store : StoreState) → l.s ≤ k → slice_get l.stores k ≡ Some store → CanRenew (Some store);
  so_far : (kinds : List StoreKind) (disks : List DiskState) → AreOpening 0 kinds disks l.found l.fn.stores → AreOpening l.s kinds disks l.found l.stores;
}

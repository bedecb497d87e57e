use Rattle.std.proofs.Common.{◌≡◌, ◌≤◌, ℕ, length, slice_get, Some, drop}
use Rattle.sg_stores.specs.declared.kind.StoreKind.{StoreKind}
use Rattle.sg_core.specs.Opening.{kind_of}
use Rattle.sg_core.proofs.opening.kinds_of.Given as goal

abbrev pub invariant-loop-d : goal.invariant-loop-d
invariant-loop-d l = record {
  below : l.d ≤ length l.dests;
  many : length l.kinds.items ≡ l.count;
  each : (s : ℕ) (kind : StoreKind) → slice_get l.kinds.items s ≡ Some kind → kind ≡ kind_of (drop l.d l.dests) s;
}

abbrev pub decreases-loop-d : goal.decreases-loop-d
decreases-loop-d l = l.d

use Rattle.sg_core.proofs.RefillParts.{IsStaging}
use Rattle.std.proofs.Common.{◌≡◌, length}
use Rattle.sg_core.proofs.refills.spool_waiting.Given as goal

abbrev pub invariant-loop-k : goal.invariant-loop-k
invariant-loop-k g l = record {
  count : length l.stores ≡ length l.fn.stores;
  staging : IsStaging l.fn.stores l.stores l.store l.sink.seen.blocks l.k;
}

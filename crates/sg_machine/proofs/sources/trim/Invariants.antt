use Rattle.std.proofs.Common.{◌≡◌, length}
use Rattle.sg_machine.specs.Turns.{trimmed}
use Rattle.sg_machine.proofs.sources.trim.Given as goal

abbrev pub invariant-loop-k : goal.invariant-loop-k
invariant-loop-k l = record {
  rest : trimmed l.source ≡ trimmed l.fn.source;
  at : l.source.acked ≡ l.k;
  end : l.k-end ≡ length l.source.records;
}

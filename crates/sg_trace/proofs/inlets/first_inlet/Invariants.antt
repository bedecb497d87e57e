use Rattle.std.proofs.Common.{◌≡◌, drop}
use Rattle.sg_trace.specs.Tracing.{first_of}
use Rattle.sg_trace.proofs.inlets.first_inlet.Given as goal

abbrev pub invariant-loop-inlet : goal.invariant-loop-inlet
invariant-loop-inlet l = record {
  so_far : first_of 0 l.source l.inlets ≡ first_of l.number l.source (drop l.inlet-index l.inlets);
  number : l.number ≡ l.inlet-index;
}

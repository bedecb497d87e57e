use Rattle.std.proofs.Common.{◌∙◌, sym, rules, arith}
use Rattle.sg_trace.proofs.Finding.{found-here, found-behind}
use Rattle.sg_trace.proofs.inlets.first_inlet.Goals as goal

pub returns-then-is_named : goal.returns-then-is_named
returns-then-is_named c =
    sym (c.loop-inlet.invariant.so_far
    ∙ found-here c.loop-inlet.number c.loop-inlet.inlet-index c.args.source.now c.args.inlets.now c.inlet-item.result (search rules) c.inlet-item.is (sym c.is_named.ensures ∙ c.if-is_named.true))

pub loop-inlet-preserved : goal.loop-inlet-preserved
loop-inlet-preserved c = record {
  so_far = c.loop-inlet.invariant.so_far
      ∙ found-behind c.loop-inlet.number c.loop-inlet.inlet-index c.args.source.now c.args.inlets.now c.inlet-item.result (search rules) c.inlet-item.is (sym c.is_named.ensures ∙ c.if-is_named.false);
  number = omega arith;
}

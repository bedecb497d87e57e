use Rattle.std.proofs.Common.{length, drop, ap, ◌∙◌, sym, arith}
use Rattle.sg_block.specs.Arguments.{last_named}
use Rattle.sg_block.proofs.Arguing.{all-taken, all-dropped, names-start, names-step, popped, last_named-step}
use Rattle.sg_block.proofs.argument.Arguments.last_named.Goals as goal

pub loop-argument-init : goal.loop-argument-init
loop-argument-init c = record {
  within = omega arith;
  left = all-taken c.args.self;
  names = names-start c.args.self c.new-names.result c.new-names.ensures;
  kept = c.new-kept.ensures ∙ ap last_named (sym (all-dropped c.args.self));
}

pub loop-argument-preserved : goal.loop-argument-preserved
loop-argument-preserved c =
    let all = c.args.self in
    let step = popped all c.loop-argument.self c.pop_back.new.self c.in-Some.argument c.loop-argument.invariant.left c.loop-argument.invariant.within c.in-Some.ensures in
    let others = drop (length c.loop-argument.self) all in
    record {
      within = step.1;
      left = step.0;
      names = names-step c.loop-argument.names c.add_name.new.names c.in-Some.argument all (length c.pop_back.new.self) (length c.loop-argument.self) c.in_ok-add_name.ensures c.loop-argument.invariant.names step.3;
      kept = last_named-step c.in-Some.argument others c.is_among-known.result c.loop-argument.kept c.keep.new.kept c.in_ok-keep.ensures c.loop-argument.invariant.kept (c.is_among-known.ensures others c.loop-argument.invariant.names) ∙ ap last_named (sym step.3);
    }
